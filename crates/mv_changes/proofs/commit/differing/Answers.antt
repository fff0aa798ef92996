use Rattle.std.proofs.Common.{◌≡◌, List, sym, ap, subst, ◌∙◌}
use Rattle.std.specs.Prelude.{IfOk}
use Rattle.std.specs.List.{list_any}
use Rattle.mv_history.specs.declared.change.Change.{Change}
use Rattle.mv_changes.proofs.Placing.{all_differ, same_rows}
use Rattle.mv_changes.proofs.commit.differing.Goals as goal

pub returns : goal.returns
returns c = subst (λ (l : List Change). IfOk c.of.result (λ changes. changes ≡ l)) (sym (all_differ c.args.changes (ap (list_any same_rows) (sym c.as_slice.ensures) ∙ (sym c.has_same.ensures ∙ c.if-has_same.false)))) c.of.ensures

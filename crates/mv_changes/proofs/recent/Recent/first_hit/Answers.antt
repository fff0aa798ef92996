use Rattle.std.proofs.Common.{◌+◌, [], ap, sym, subst, ◌∙◌}
use Rattle.std.specs.Prelude.{List}
use Rattle.mv_history.specs.declared.change.Change.{Change}
use Rattle.mv_history.specs.Hits.{first_hit}
use Rattle.mv_changes.specs.Admitting.{AllAdmitted}
use Rattle.mv_changes.proofs.recent.Recent.first_hit.Goals as goal

pub returns : goal.returns
returns c admitted =
    c.validate.ensures (c.args.start + 1) c.since.ensures.numbers (subst (λ (commits : List (List Change)). AllAdmitted commits c.args.records.now) (sym c.since.ensures.changes) admitted)
    ∙ ap (λ l. first_hit (c.args.start + 1) l [] c.args.records.now) c.since.ensures.changes

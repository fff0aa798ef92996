use Rattle.std.proofs.Common.{◌≡◌, ◌∙◌, false, List, ap, rules, sym, subst}
use Rattle.std.specs.Prelude.{slice_get}
use Rattle.std.specs.List.{list_any}
use Rattle.mv_values.specs.declared.pred.Pred.{Pred}
use Rattle.mv_history.specs.Hits.{touches}
use Rattle.mv_repair.specs.Walking.{any_touch, writes_at, writes_of}
use Rattle.mv_repair.proofs.Lists.{any_of_all}
use Rattle.mv_repair.proofs.touch.is_touched.Goals as goal

pub returns-then-not-branch : goal.returns-then-not-branch
returns-then-not-branch c =
    let none : c.in_ok-admits_some.field-0 ≡ false = search rules in
    sym (sym (any_of_all (touches c.args.record.now) c.args.records.now c.args.numbers.now)
    ∙ subst (λ (ps : List Pred). any_touch ps (writes_at c.args.records.now c.args.numbers.now) ≡ false) c.preds-preds.ensures
    (c.in_ok-admits_some.ensures none (writes_at c.args.records.now c.args.numbers.now) (c.requires c.if-numbers-gt-FEW.true)))

pub returns : goal.returns
returns c = c.is_touched_at.ensures ∙ ap (λ (ps : List Pred). list_any (λ n. any_touch ps (writes_of (slice_get c.args.records.now n))) c.args.numbers.now) c.preds-preds.ensures

use Rattle.std.proofs.Common.{◌≡◌, false, List, sym, subst, take, rules}
use Rattle.mv_values.specs.declared.pred.Pred.{Pred}
use Rattle.mv_repair.specs.Walking.{any_touch}
use Rattle.mv_repair.proofs.Knowing.{none_touches, no_touch_more}
use Rattle.mv_repair.proofs.Lists.{got_there}
use Rattle.mv_repair.proofs.touch.admits_some.Goals as goal

pub loop-at-init : goal.loop-at-init
loop-at-init c ws known = none_touches ws

pub loop-at-preserved : goal.loop-at-preserved
loop-at-preserved c ws known =
    let p : Pred = c.get.result in
    let i = c.loop-at.at in
    let ps : List Pred = c.args.preds.now in
    let none : c.in_ok-admits_one.field-0 ≡ false = search rules in
    subst (λ (l : List Pred). any_touch l ws ≡ false) (sym (got_there ps i p c.get.ensures)) (no_touch_more c.args.keys.now (take i ps) p ws (c.in_ok-admits_one.ensures none) known (c.loop-at.invariant ws known))

use Rattle.std.proofs.Common.{◌≡◌, [], length, ap, arith}
use Rattle.mv_record.specs.declared.effect.Effect.{Effect}
use Rattle.mv_effect.specs.Asking.{asked}
use Rattle.mv_effect.proofs.asking.asked_pred.Goals as goal

pub last_pred-requires : goal.last_pred-requires
last_pred-requires c = let one : length c.args.log.now.effect.preds ≡ 1 = ap (λ (e : Effect). length e.preds) c.requires.effect in omega (arith, one)

pub returns : goal.returns
returns c = c.last_pred.ensures [] (asked c.args.log.now) (ap (λ (e : Effect). e.preds) c.requires.effect)

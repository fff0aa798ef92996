use Rattle.std.proofs.Common.{◌≡◌, ◌<◌, ◌-◌, List, length, sym, subst, ◌∙◌, arith}
use Rattle.mv_values.specs.declared.pred.Pred.{Pred}
use Rattle.mv_log.proofs.Lending.{get_last}
use Rattle.mv_log.proofs.log.Log.last_pred.Goals as goal

pub returns : goal.returns
returns c = λ front pred is.
    let long : c.len.result ≡ length c.preds-preds.result = c.len.ensures in
    let some : 0 < length c.preds-preds.result = subst (λ (ps : List Pred). 0 < length ps) (sym c.preds-preds.ensures) c.requires in
    get_last c.preds-preds.result front (c.len.result - 1) c.get.result pred (omega (arith, long, some)) c.get.ensures (c.preds-preds.ensures ∙ is)

use Rattle.std.proofs.lemmas.Result.{IfOk-weaker}
use Rattle.mv_tpccgen.proofs.Drawing.{follows, one_way, other_way, le_holds, le_fails}
use Rattle.mv_tpccgen.specs.Calls.{request, new_order}
use Rattle.mv_tpccgen.specs.Draws.{IsDrawn}
use Rattle.mv_tpccgen.proofs.requests.draw_request.Goals as goal

pub returns-then-t-le45 : goal.returns-then-t-le45
unfolding request
returns-then-t-le45 c =
    IfOk-weaker c.draw_new_order.result (λ it. IsDrawn (new_order c.args.warehouses c.draw-w.result) it c.draw-t.new.words c.draw_new_order.new.words) _ (λ it drawn. follows _ _ _ _ _ _ _ c.draw-w.ensures.drawn (follows _ _ _ _ _ _ _ c.draw-t.ensures.drawn (one_way _ _ _ _ _ (le_holds _ _ c.if-t-le45.true) drawn))) c.draw_new_order.ensures

pub returns-then-t-le88 : goal.returns-then-t-le88
unfolding request
returns-then-t-le88 c = follows _ _ _ _ _ _ _ c.draw-w.ensures.drawn (follows _ _ _ _ _ _ _ c.draw-t.ensures.drawn (other_way _ _ _ _ _ (le_fails _ _ c.if-t-le45.false) (one_way _ _ _ _ _ (le_holds _ _ c.if-t-le88.true) c.draw_payment.ensures)))

pub returns-then-t-le92 : goal.returns-then-t-le92
unfolding request
returns-then-t-le92 c = follows _ _ _ _ _ _ _ c.draw-w.ensures.drawn (follows _ _ _ _ _ _ _ c.draw-t.ensures.drawn (other_way _ _ _ _ _ (le_fails _ _ c.if-t-le45.false) (other_way _ _ _ _ _ (le_fails _ _ c.if-t-le88.false) (one_way _ _ _ _ _ (le_holds _ _ c.if-t-le92.true) c.draw_order_status.ensures))))

pub returns-then-t-le96 : goal.returns-then-t-le96
unfolding request
returns-then-t-le96 c = follows _ _ _ _ _ _ _ c.draw-w.ensures.drawn (follows _ _ _ _ _ _ _ c.draw-t.ensures.drawn (other_way _ _ _ _ _ (le_fails _ _ c.if-t-le45.false) (other_way _ _ _ _ _ (le_fails _ _ c.if-t-le88.false) (other_way _ _ _ _ _ (le_fails _ _ c.if-t-le92.false) (one_way _ _ _ _ _ (le_holds _ _ c.if-t-le96.true) c.draw_delivery.ensures)))))

pub returns-else-t-le96 : goal.returns-else-t-le96
unfolding request
returns-else-t-le96 c = follows _ _ _ _ _ _ _ c.draw-w.ensures.drawn (follows _ _ _ _ _ _ _ c.draw-t.ensures.drawn (other_way _ _ _ _ _ (le_fails _ _ c.if-t-le45.false) (other_way _ _ _ _ _ (le_fails _ _ c.if-t-le88.false) (other_way _ _ _ _ _ (le_fails _ _ c.if-t-le92.false) (other_way _ _ _ _ _ (le_fails _ _ c.if-t-le96.false) c.draw_stock_level.ensures)))))

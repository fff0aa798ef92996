use Rattle.std.proofs.Common.{refl}
use Rattle.mv_tpccgen.proofs.Drawing.{follows}
use Rattle.mv_tpccgen.specs.Calls.{order_status}
use Rattle.mv_tpccgen.proofs.requests.draw_order_status.Goals as goal

pub returns : goal.returns
unfolding order_status
returns c = follows _ _ _ _ _ _ _ c.draw-number.ensures.drawn (follows _ _ _ _ _ _ _ c.draw_customer-customer.ensures refl)

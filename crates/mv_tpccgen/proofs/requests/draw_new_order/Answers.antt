use Rattle.std.proofs.Common.{refl}
use Rattle.mv_tpccgen.proofs.Drawing.{follows}
use Rattle.mv_tpccgen.specs.Calls.{new_order}
use Rattle.mv_tpccgen.proofs.requests.draw_new_order.Goals as goal

pub returns : goal.returns
unfolding new_order
returns c =
    follows _ _ _ _ _ _ _ c.draw-number.ensures.drawn
    (follows _ _ _ _ _ _ _ c.draw_nurand-customer.ensures.drawn
    (follows _ _ _ _ _ _ _ c.draw-count.ensures.drawn
    (follows _ _ _ _ _ _ _ c.draw-z.ensures.drawn
    (follows _ _ _ _ _ _ _ c.in_ok-lines.ensures refl))))

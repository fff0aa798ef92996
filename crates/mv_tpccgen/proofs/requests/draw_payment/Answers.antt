use Rattle.std.proofs.Common.{refl}
use Rattle.mv_tpccgen.proofs.Drawing.{follows}
use Rattle.mv_tpccgen.specs.Calls.{payment}
use Rattle.mv_tpccgen.proofs.requests.draw_payment.Goals as goal

pub returns : goal.returns
unfolding payment
returns c =
    follows _ _ _ _ _ _ _ c.draw-number.ensures.drawn
    (follows _ _ _ _ _ _ _ c.draw_home-home.ensures
    (follows _ _ _ _ _ _ _ c.draw_customer-customer.ensures
    (follows _ _ _ _ _ _ _ c.draw-amount.ensures.drawn refl)))

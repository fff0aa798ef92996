use Rattle.std.proofs.Common.{refl}
use Rattle.mv_tpccgen.proofs.Drawing.{follows, one_way, other_way, le_holds, le_fails}
use Rattle.mv_tpccgen.specs.Calls.{customer}
use Rattle.mv_tpccgen.proofs.requests.draw_customer.Goals as goal

pub returns-then-y-le60 : goal.returns-then-y-le60
unfolding customer
returns-then-y-le60 c =
    follows _ _ _ _ _ _ _ c.draw-y.ensures.drawn (one_way _ _ _ _ _ (le_holds _ _ c.if-y-le60.true) (follows _ _ _ _ _ _ _ c.draw_nurand.ensures.drawn refl))

pub returns-else-y-le60 : goal.returns-else-y-le60
unfolding customer
returns-else-y-le60 c =
    follows _ _ _ _ _ _ _ c.draw-y.ensures.drawn (other_way _ _ _ _ _ (le_fails _ _ c.if-y-le60.false) (follows _ _ _ _ _ _ _ c.draw_nurand-else-y-le60.ensures.drawn refl))

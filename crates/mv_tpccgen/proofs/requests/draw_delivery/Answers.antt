use Rattle.std.proofs.Common.{refl}
use Rattle.mv_tpccgen.proofs.Drawing.{follows}
use Rattle.mv_tpccgen.specs.Calls.{delivery}
use Rattle.mv_tpccgen.proofs.requests.draw_delivery.Goals as goal

pub returns : goal.returns
unfolding delivery
returns c = follows _ _ _ _ _ _ _ c.draw.ensures.drawn refl

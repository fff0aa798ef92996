use Rattle.std.proofs.Common.{refl}
use Rattle.mv_tpccgen.proofs.Drawing.{follows}
use Rattle.mv_tpccgen.specs.Draws.{nurand}
use Rattle.mv_tpccgen.proofs.draws.draw_nurand.Goals as goal

pub returns-clause-drawn : goal.returns-clause-drawn
unfolding nurand
returns-clause-drawn c = follows _ _ _ _ _ _ _ c.draw-mask.ensures.drawn (follows _ _ _ _ _ _ _ c.draw-number.ensures.drawn refl)

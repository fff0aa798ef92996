use Rattle.std.proofs.Common.{refl}
use Rattle.mv_tpccgen.proofs.Drawing.{follows}
use Rattle.mv_tpccgen.specs.Draws.{other}
use Rattle.mv_tpccgen.proofs.draws.draw_other.Goals as goal

pub returns-clause-drawn : goal.returns-clause-drawn
unfolding other
returns-clause-drawn c = follows _ _ _ _ _ _ _ c.draw-step.ensures.drawn refl

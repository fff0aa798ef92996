use Rattle.std.proofs.Common.{refl}
use Rattle.mv_tpccgen.proofs.Drawing.{follows}
use Rattle.mv_tpccgen.specs.Calls.{stock_level}
use Rattle.mv_tpccgen.proofs.requests.draw_stock_level.Goals as goal

pub returns : goal.returns
unfolding stock_level
returns c = follows _ _ _ _ _ _ _ c.draw-number.ensures.drawn (follows _ _ _ _ _ _ _ c.draw-threshold.ensures.drawn refl)

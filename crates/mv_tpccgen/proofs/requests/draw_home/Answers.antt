use Rattle.std.proofs.Common.{refl}
use Rattle.std.proofs.lemmas.Bool.{lt-ltb, and_from}
use Rattle.mv_tpccgen.proofs.Drawing.{follows, one_way, other_way, lt_or_lt_fails}
use Rattle.mv_tpccgen.specs.Calls.{home}
use Rattle.mv_tpccgen.proofs.requests.draw_home.Goals as goal

pub returns-then-warehouses-gt1 : goal.returns-then-warehouses-gt1
unfolding home
returns-then-warehouses-gt1 c =
    follows _ _ _ _ _ _ _ c.draw-x.ensures.drawn (one_way _ _ _ _ _ (and_from _ _ (lt-ltb _ _ c.if-x-gt85.true) (lt-ltb _ _ c.if-warehouses-gt1.true)) (follows _ _ _ _ _ _ _ c.draw_other-warehouse.ensures.drawn (follows _ _ _ _ _ _ _ c.draw-number.ensures.drawn refl)))

pub returns-else-x-gt85 : goal.returns-else-x-gt85
unfolding home
returns-else-x-gt85 c = follows _ _ _ _ _ _ _ c.draw-x.ensures.drawn (other_way _ _ _ _ _ (lt_or_lt_fails _ _ _ _ c.else-x-gt85.either) refl)

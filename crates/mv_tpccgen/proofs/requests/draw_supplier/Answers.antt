use Rattle.std.proofs.Common.{refl}
use Rattle.std.proofs.lemmas.Bool.{lt-ltb, and_from}
use Rattle.mv_tpccgen.proofs.Drawing.{follows, one_way, other_way, eq_holds, eq_or_lt_fails}
use Rattle.mv_tpccgen.specs.Calls.{supplier}
use Rattle.mv_tpccgen.proofs.requests.draw_supplier.Goals as goal

pub returns-then-warehouses-gt1 : goal.returns-then-warehouses-gt1
unfolding supplier
returns-then-warehouses-gt1 c =
    follows _ _ _ _ _ _ _ c.draw-y.ensures.drawn (one_way _ _ _ _ _ (and_from _ _ (eq_holds _ _ c.if-y-eq1.true) (lt-ltb _ _ c.if-warehouses-gt1.true)) c.draw_other.ensures.drawn)

pub returns-else-y-eq1 : goal.returns-else-y-eq1
unfolding supplier
returns-else-y-eq1 c = follows _ _ _ _ _ _ _ c.draw-y.ensures.drawn (other_way _ _ _ _ _ (eq_or_lt_fails _ _ _ _ c.else-y-eq1.either) refl)

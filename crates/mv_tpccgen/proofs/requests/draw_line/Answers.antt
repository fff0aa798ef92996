use Rattle.std.proofs.Common.{refl}
use Rattle.mv_tpccgen.proofs.Drawing.{follows}
use Rattle.mv_tpccgen.specs.Calls.{order_line}
use Rattle.mv_tpccgen.proofs.requests.draw_line.Goals as goal

pub returns-then-invalid : goal.returns-then-invalid
unfolding order_line
returns-then-invalid c =
    follows _ _ _ _ _ _ _ c.draw_nurand-item.ensures.drawn (follows _ _ _ _ _ _ _ c.draw_supplier-supplier.ensures (follows _ _ _ _ _ _ _ c.draw-quantity.ensures.drawn (rw c.if-invalid.true refl)))

pub returns-else-invalid : goal.returns-else-invalid
unfolding order_line
returns-else-invalid c =
    follows _ _ _ _ _ _ _ c.draw_nurand-item.ensures.drawn (follows _ _ _ _ _ _ _ c.draw_supplier-supplier.ensures (follows _ _ _ _ _ _ _ c.draw-quantity.ensures.drawn (rw c.if-invalid.false refl)))

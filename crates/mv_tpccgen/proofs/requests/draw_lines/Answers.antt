use Rattle.std.proofs.Common.{◌+◌, ℕ, Bool, refl, subst}
use Rattle.std.specs.Prelude.{◌==◌, ◌&&◌}
use Rattle.mv_tpccgen.proofs.Drawing.{each_more}
use Rattle.mv_tpccgen.specs.Draws.{IsDrawn, each}
use Rattle.mv_tpccgen.specs.Calls.{order_line}
use Rattle.mv_tpccgen.proofs.requests.draw_lines.Goals as goal

pub loop-j-init : goal.loop-j-init
unfolding each
loop-j-init c = rw c.new-lines.ensures refl

pub loop-j-preserved : goal.loop-j-preserved
loop-j-preserved c =
    let line = λ (j : ℕ). order_line c.args.warehouses c.args.w ((c.args.z == 1) && (j + 1 == c.args.count)) in
    let drawn = subst (λ (invalid : Bool). IsDrawn (order_line c.args.warehouses c.args.w invalid) c.draw_line.result c.loop-j.words c.draw_line.new.words) c.is_invalid-invalid.ensures c.draw_line.ensures in
    rw c.in_ok-push.ensures.ok (each_more line c.loop-j.j _ _ _ _ _ c.loop-j.invariant drawn)

use Rattle.std.proofs.Common.{◌≡◌, ◌+◌, ◌++◌, [], codes, length, sym, subst, arith}
use Rattle.mv_svg.specs.Shapes.{element}
use Rattle.mv_draw.specs.Rows.{AreRows, no_row, one_more}
use Rattle.mv_draw.proofs.rows.rows_of.Goals as goal

pub loop-number-init : goal.loop-number-init
loop-number-init c = subst (AreRows 0) (sym c.new-rows.ensures) no_row

pub returns : goal.returns
returns c =
    let whole : c.loop-number.number ≡ length c.args.calls.now = omega (arith, c.loop-number-test.false, c.loop-number.auto) in
    subst (λ calls. AreRows calls c.loop-number.rows.text) whole c.loop-number.invariant

pub loop-number-preserved : goal.loop-number-preserved
loop-number-preserved c = subst (AreRows (c.loop-number.number + 1)) (sym c.in_ok-add_group.ensures.ok) (one_more c.in_ok-row.row.text c.loop-number.invariant c.in_ok-row.ensures)

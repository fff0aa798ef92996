use Rattle.mv_tpccgen.specs.Rows.{order_line_row}
use Rattle.mv_tpccgen.proofs.Growing.{up_to_none, grew_up_to}
use Rattle.mv_tpccgen.proofs.tables.write_lines.Goals as goal

pub loop-j-init : goal.loop-j-init
loop-j-init c = up_to_none (order_line_row c.args.w c.args.d c.args.o) c.args.text.now

pub loop-j-preserved : goal.loop-j-preserved
loop-j-preserved c =
    grew_up_to (order_line_row c.args.w c.args.d c.args.o) c.loop-j.j c.args.text.now c.loop-j.text c.write_order_line.new.text c.loop-j.invariant c.in_ok-write_order_line.ensures

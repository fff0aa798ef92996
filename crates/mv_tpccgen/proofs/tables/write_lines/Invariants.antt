use Rattle.std.proofs.Common.{◌≡◌, ◌++◌}
use Rattle.mv_tpccgen.specs.Rows.{order_line_row}
use Rattle.mv_tpccgen.specs.Writing.{up_to}
use Rattle.mv_tpccgen.proofs.tables.write_lines.Given as goal

abbrev pub invariant-loop-j : goal.invariant-loop-j
invariant-loop-j l = l.text ≡ l.fn.text ++ up_to l.j (order_line_row l.w l.d l.o)

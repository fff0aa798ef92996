use Rattle.std.proofs.Common.{◌≡◌, ◌++◌}
use Rattle.mv_tpccgen.specs.Rows.{item_row}
use Rattle.mv_tpccgen.specs.Writing.{up_to}
use Rattle.mv_tpccgen.proofs.tables.write_items.Given as goal

abbrev pub invariant-loop-i : goal.invariant-loop-i
invariant-loop-i l = l.text ≡ l.fn.text ++ up_to l.i item_row

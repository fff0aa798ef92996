use Rattle.std.proofs.Common.{◌≡◌, ◌++◌}
use Rattle.mv_tpccgen.specs.Tables.{numbered_rows}
use Rattle.mv_tpccgen.specs.Writing.{up_to}
use Rattle.mv_tpccgen.proofs.tables.write_in_district.Given as goal

abbrev pub invariant-loop-n : goal.invariant-loop-n
invariant-loop-n l = l.text ≡ l.fn.text ++ up_to l.n (numbered_rows l.table l.w l.d)

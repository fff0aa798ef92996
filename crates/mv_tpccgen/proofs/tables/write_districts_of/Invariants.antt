use Rattle.std.proofs.Common.{◌≡◌, ◌++◌}
use Rattle.mv_tpccgen.specs.Rows.{district_row}
use Rattle.mv_tpccgen.specs.Writing.{up_to}
use Rattle.mv_tpccgen.proofs.tables.write_districts_of.Given as goal

abbrev pub invariant-loop-d : goal.invariant-loop-d
invariant-loop-d l = l.text ≡ l.fn.text ++ up_to l.d (district_row l.w)

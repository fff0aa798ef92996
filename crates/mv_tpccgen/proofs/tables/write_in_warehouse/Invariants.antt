use Rattle.std.proofs.Common.{◌≡◌, ◌++◌}
use Rattle.mv_tpccgen.specs.Tables.{numbered_rows}
use Rattle.mv_tpccgen.specs.Writing.{up_to}
use Rattle.mv_tpccgen.proofs.tables.write_in_warehouse.Given as goal

abbrev pub invariant-loop-d : goal.invariant-loop-d
invariant-loop-d l = l.text ≡ l.fn.text ++ up_to l.d (λ d. up_to 30 (numbered_rows l.table l.w d))

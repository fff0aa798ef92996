use Rattle.std.proofs.Common.{◌≡◌, ◌++◌, take}
use Rattle.std.specs.List.{flat_map}
use Rattle.mv_tpccgen.specs.Tables.{copy}
use Rattle.mv_tpccgen.proofs.tables.write_blocks.Given as goal

abbrev pub invariant-loop-table : goal.invariant-loop-table
invariant-loop-table l = l.text ≡ l.fn.text ++ flat_map (copy l.warehouses) (take l.table-index l.tables)

use Rattle.std.proofs.Common.{take, map}
use Rattle.mv_tpccsum.specs.Tables.{entry_of}
use Rattle.mv_tpccsum.specs.Grouping.{IsGroups}
use Rattle.mv_tpccsum.proofs.totals.totals_of.Given as goal

abbrev pub invariant-loop-item : goal.invariant-loop-item
invariant-loop-item l = IsGroups l.item-index (map (entry_of l.numbers.key l.numbers.place) (take l.item-index l.numbers.rows.now)) l.groups

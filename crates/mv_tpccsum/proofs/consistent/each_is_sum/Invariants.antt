use Rattle.std.proofs.Common.{◌≡◌, drop, map}
use Rattle.std.specs.List.{list_all}
use Rattle.mv_tpccsum.specs.Tables.{entry_of}
use Rattle.mv_tpccsum.specs.Grouping.{entries_of, is_sum}
use Rattle.mv_tpccsum.proofs.consistent.each_is_sum.Given as goal

abbrev pub invariant-loop-item : goal.invariant-loop-item
invariant-loop-item l =
    list_all (is_sum l.groups) (map (entry_of l.numbers.key l.numbers.place) (drop l.item-index l.numbers.rows.now)) ≡ list_all (is_sum l.groups) (entries_of l.numbers)

use Rattle.std.proofs.Common.{◌≡◌, drop, map}
use Rattle.std.specs.List.{list_all}
use Rattle.mv_tpccsum.specs.Tables.{entry_of}
use Rattle.mv_tpccsum.specs.Grouping.{entries_of, orders_agree}
use Rattle.mv_tpccsum.proofs.consistent.each_agrees.Given as goal

abbrev pub invariant-loop-item : goal.invariant-loop-item
invariant-loop-item l =
    list_all (orders_agree l.orders) (map (entry_of l.districts.key l.districts.place) (drop l.item-index l.districts.rows.now)) ≡ list_all (orders_agree l.orders) (entries_of l.districts)

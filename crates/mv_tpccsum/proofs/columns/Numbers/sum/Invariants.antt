use Rattle.std.proofs.Common.{◌≡◌, ◌+ℤ◌, ◌≤ℤ◌, ◌*◌, ◌^◌, drop, map, pos, neg_ℤ}
use Rattle.mv_tpccsum.specs.Tables.{Entry, entry_of, sum_of}
use Rattle.mv_tpccsum.specs.Grouping.{entries_of}
use Rattle.mv_tpccsum.proofs.columns.Numbers.sum.Given as goal

abbrev pub invariant-loop-item : goal.invariant-loop-item
invariant-loop-item l = record {
  so_far : l.sum +ℤ sum_of (map (λ (e : Entry). e.1) (map (entry_of l.self.key l.self.place) (drop l.item-index l.self.rows.now))) ≡ sum_of (map (λ (e : Entry). e.1) (entries_of l.self));
  low : neg_ℤ (pos (l.item-index * 2 ^ 63)) ≤ℤ l.sum;
  high : l.sum ≤ℤ pos (l.item-index * 2 ^ 63);
}

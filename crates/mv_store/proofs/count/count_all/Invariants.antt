use Rattle.std.proofs.Common.{◌≡◌, ◌+◌, ◌-◌, ◌^◌, ◌≤◌, min, drop, length}
use Rattle.mv_store.specs.Stored.{old_versions}
use Rattle.mv_store.proofs.count.count_all.Given as goal

abbrev pub invariant-loop-table : goal.invariant-loop-table
invariant-loop-table l = record {
  fits : l.count ≤ 2 ^ 64 - 1;
  within : l.table-index ≤ length l.fn.tables;
  sum : min (l.count + old_versions (drop l.table-index l.fn.tables)) (2 ^ 64 - 1) ≡ min (old_versions l.fn.tables) (2 ^ 64 - 1);
}

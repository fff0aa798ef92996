use Rattle.std.proofs.Common.{ℕ, length}
use Rattle.mv_store.specs.Indexed.{IsIndexOf}
use Rattle.mv_store.specs.Kept.{AreKeptVersions}
use Rattle.mv_store.proofs.Collecting.{IsUnderway}
use Rattle.mv_store.proofs.collect.collect_all.Given as goal

abbrev pub invariant-loop-written : goal.invariant-loop-written
invariant-loop-written l = record {
  index : IsIndexOf l.fn.tables.items l.fn.index → IsIndexOf l.tables.items l.index;
  versions : (last : ℕ) → AreKeptVersions l.fn.tables.items l.fn.table_keys last → IsUnderway l.low l.fn.tables.items l.tables.items × AreKeptVersions l.tables.items l.table_keys last;
}

abbrev pub decreases-loop-written : goal.decreases-loop-written
decreases-loop-written l = length l.table_keys.commits

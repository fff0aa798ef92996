use Rattle.std.specs.List.{AllWithin, AllZip}
use Rattle.mv_index.specs.Indexing.{Grows, HasKey}
use Rattle.mv_index.proofs.index.put_in_all.Given as goal

abbrev pub invariant-loop-at : goal.invariant-loop-at
invariant-loop-at l = record {
  grow : AllZip (Grows l.table l.key l.row) l.fn.columns.items l.columns.items;
  have : AllWithin (HasKey l.table l.key l.row) l.columns.items 0 l.at;
}

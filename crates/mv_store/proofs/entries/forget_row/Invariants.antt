use Rattle.std.proofs.Common.{take}
use Rattle.std.specs.List.{list_any}
use Rattle.mv_store.specs.Indexed.{Forgets}
use Rattle.mv_store.proofs.Indexing.{row_in}
use Rattle.mv_store.proofs.entries.forget_row.Given as goal

abbrev pub invariant-loop-column : goal.invariant-loop-column
invariant-loop-column g l =
    Forgets l.table l.key (λ c v. list_any (λ x. row_in l.table l.key (g.K.Valued.versions l.kept) l.row x c v) (take l.column-index l.columns)) (g.K.Valued.versions l.kept) l.fn.index l.index

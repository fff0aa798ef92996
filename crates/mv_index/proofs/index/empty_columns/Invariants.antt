use Rattle.std.proofs.Common.{take}
use Rattle.mv_index.specs.Indexing.{AreEmptyFor}
use Rattle.mv_index.proofs.index.empty_columns.Given as goal

abbrev pub invariant-loop-tested : goal.invariant-loop-tested
invariant-loop-tested l = AreEmptyFor (take l.tested-index l.columns) l.parts.items

use Rattle.std.proofs.Common.{◌≡◌, ◌+◌, drop}
use Rattle.mv_values.specs.References.{references_from, orphans_of}
use Rattle.mv_opening.proofs.parents.check_rows.Given as goal

abbrev pub invariant-loop-place : goal.invariant-loop-place
invariant-loop-place l = orphans_of l.opening (references_from l.table 0 l.columns) (l.place + 1) (drop l.place l.rows) ≡ orphans_of l.opening (references_from l.table 0 l.columns) 1 l.rows

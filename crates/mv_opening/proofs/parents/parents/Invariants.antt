use Rattle.std.proofs.Common.{◌≡◌, drop}
use Rattle.mv_values.specs.References.{orphans_from, orphans}
use Rattle.mv_opening.proofs.parents.parents.Given as goal

abbrev pub invariant-loop-table : goal.invariant-loop-table
invariant-loop-table l = orphans_from l.tables l.opening l.table (drop l.table l.opening) ≡ orphans l.tables l.opening

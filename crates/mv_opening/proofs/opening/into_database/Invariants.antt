use Rattle.std.proofs.Common.{◌≡◌, ◌++◌, drop, length}
use Rattle.mv_opening.proofs.opening.into_database.Given as goal

abbrev pub invariant-loop-place : goal.invariant-loop-place
invariant-loop-place l = (length l.tables ≡ length l.fn.tables) × (l.database ++ drop l.place l.tables ≡ l.fn.tables)

use Rattle.std.proofs.Common.{◌≡◌, [], take}
use Rattle.mv_csvio.specs.Joining.{HasJoined}
use Rattle.mv_csvio.proofs.gather.join_values.Given as goal

abbrev pub invariant-loop-row : goal.invariant-loop-row
invariant-loop-row l = (l.number ≡ l.row-index) × HasJoined l.table [] (take l.row-index l.rows) l.joining

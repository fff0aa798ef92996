use Rattle.std.proofs.Common.{◌≡◌, ◌++◌, map, drop}
use Rattle.mv_core.specs.Calls.{line_of}
use Rattle.mv_core.proofs.history.history_of.Given as goal

abbrev pub invariant-loop-place : goal.invariant-loop-place
invariant-loop-place l = l.history ++ map (line_of l.calls) (drop l.place-index l.place-items) ≡ map (line_of l.calls) l.place-items

use Rattle.std.proofs.Common.{◌≡◌, ◌++◌, map, drop}
use Rattle.mv_audit.specs.Schedules.{line_of}
use Rattle.mv_audit.proofs.judge.history_of.Given as goal

abbrev pub invariant-loop-place : goal.invariant-loop-place
invariant-loop-place l = l.history ++ map (line_of l.calls) (drop l.place-index l.places) ≡ map (line_of l.calls) l.places

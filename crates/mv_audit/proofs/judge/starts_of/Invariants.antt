use Rattle.std.proofs.Common.{◌≡◌, ◌++◌, map, drop}
use Rattle.mv_audit.specs.declared.schedule.Live.{Live}
use Rattle.mv_audit.proofs.judge.starts_of.Given as goal

abbrev pub invariant-loop-call : goal.invariant-loop-call
invariant-loop-call l = l.starts ++ map (λ (x : Live). x.start) (drop l.call-index l.calls) ≡ map (λ (x : Live). x.start) l.calls

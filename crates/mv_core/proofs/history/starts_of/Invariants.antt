use Rattle.std.proofs.Common.{◌≡◌, ◌++◌, map, drop}
use Rattle.mv_core.specs.declared.progress.Progress.{Progress}
use Rattle.mv_core.proofs.history.starts_of.Given as goal

abbrev pub invariant-loop-call : goal.invariant-loop-call
invariant-loop-call l = l.starts ++ map (λ (p : Progress). p.start) (drop l.call-index l.calls) ≡ map (λ (p : Progress). p.start) l.calls

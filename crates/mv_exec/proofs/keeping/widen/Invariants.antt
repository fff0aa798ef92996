use Rattle.std.proofs.Common.{◌≡◌, ◌-◌, ℕ, length}
use Rattle.mv_exec.specs.Keeping.{with_room}
use Rattle.mv_exec.specs.Tasks.{definer_in}
use Rattle.mv_exec.proofs.keeping.widen.Given as goal

abbrev pub invariant-loop-definers : goal.invariant-loop-definers
invariant-loop-definers l = record { wide : with_room l.len l.definers ≡ with_room l.len l.fn.definers; same : (x : ℕ) → definer_in l.definers x ≡ definer_in l.fn.definers x }

abbrev pub decreases-loop-definers : goal.decreases-loop-definers
decreases-loop-definers l = l.len - length l.definers

use Rattle.std.proofs.Common.{◌≡◌, drop}
use Rattle.mv_exec.specs.Keeping.{define}
use Rattle.mv_exec.proofs.keeping.set_definers.Given as goal

abbrev pub invariant-loop-set : goal.invariant-loop-set
invariant-loop-set l = define l.definers (drop l.set-index l.sets) l.number ≡ define l.fn.definers l.sets l.number

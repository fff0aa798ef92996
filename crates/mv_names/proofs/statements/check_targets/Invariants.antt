use Rattle.std.proofs.Common.{◌≡◌, ◌++◌, drop}
use Rattle.mv_names.specs.Statements.{targets}
use Rattle.mv_names.proofs.statements.check_targets.Given as goal

abbrev pub invariant-loop-i : goal.invariant-loop-i
invariant-loop-i l = l.faults ++ targets l.scope (drop l.i l.values) (drop l.i l.to) ≡ l.fn.faults ++ targets l.scope l.values l.to

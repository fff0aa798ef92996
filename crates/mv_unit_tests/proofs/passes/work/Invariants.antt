use Rattle.std.proofs.Common.{◌≡◌}
use Rattle.mv_unit_tests.proofs.passes.work.Given as goal

abbrev pub invariant-loop : goal.invariant-loop
invariant-loop g l = l.held ≡ l.initial.held

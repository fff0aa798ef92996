use Rattle.std.proofs.Common.{◌≡◌, length}
use Rattle.mv_unit_tests.proofs.passes.bare_calls.Given as goal

abbrev pub invariant-loop : goal.invariant-loop
invariant-loop l = length l.calls ≡ l.counter

use Rattle.std.proofs.Common.{◌≡◌, ◌++◌, length, drop}
use Rattle.mv_effect.proofs.asking.push_tests.Given as goal

abbrev pub invariant-loop-at : goal.invariant-loop-at
invariant-loop-at l = record {
  rest : l.log ≡ record l.fn.log { tests = l.log.tests };
  tests : l.log.tests ++ drop l.at l.tests ≡ l.fn.log.tests ++ l.fn.tests;
  len : length l.tests ≡ l.at-end;
}

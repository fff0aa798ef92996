use Rattle.std.proofs.Common.{◌≡◌, drop}
use Rattle.mv_table.specs.Spans.{is_bounded}
use Rattle.mv_table.proofs.span.test_at.Given as goal

abbrev pub invariant-loop-test : goal.invariant-loop-test
invariant-loop-test l = is_bounded l.side (drop l.test-index l.tests) l.place ≡ is_bounded l.side l.tests l.place

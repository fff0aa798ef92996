use Rattle.std.proofs.Common.{◌≡◌, true}
use Rattle.mv_table.specs.Spans.{are_fixed_before}
use Rattle.mv_table.proofs.Scanning.{AgreeBefore}
use Rattle.mv_table.proofs.span.is_fixed_before.Given as goal

abbrev pub invariant-loop-before : goal.invariant-loop-before
invariant-loop-before l = record { agree : AgreeBefore l.tests l.before; fixed : are_fixed_before l.tests l.before ≡ true }

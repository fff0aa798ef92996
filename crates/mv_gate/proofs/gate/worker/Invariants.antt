use Rattle.std.proofs.Common.{◌≡◌}
use mathlib.Core.List.{IsPrefix}
use Rattle.mv_gate.proofs.gate.worker.Given as goal

abbrev pub invariant-loop : goal.invariant-loop
invariant-loop g l = record {
  next : (goal.iterator-loop g).can_next l.iterator';
  ends : (goal.iterator-loop g).is_finite l.iterator';
  role : l.pass.role ≡ l.initial.pass.role;
  seen : IsPrefix l.initial.pass.seen l.pass.seen;
}

use Rattle.std.proofs.Common.{◌≡◌, ◌++◌}
use Rattle.mv_changes.specs.Drafting.{differing}
use Rattle.mv_audit.proofs.changes.differing.Given as goal

abbrev pub invariant-loop-place : goal.invariant-loop-place
invariant-loop-place l = record {
  can : (goal.iterator-loop-place).can_next l._place-iterator;
  ends : (goal.iterator-loop-place).is_finite l._place-iterator;
  whole : l.listed ++ differing l._place-iterator ≡ differing l.fn.changes;
}

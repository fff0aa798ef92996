use Rattle.std.proofs.Common.{◌≡◌, ◌++◌, drop, length}
use Rattle.mv_names.specs.Faults as meant
use Rattle.mv_names.proofs.items.check_literals.Given as goal

abbrev pub invariant-loop-i : goal.invariant-loop-i
invariant-loop-i l = record {
  same_length : length l.literals ≡ length l.columns;
  so_far : l.faults ++ meant.literals (drop l.i l.columns) (drop l.i l.literals) ≡ l.fn.faults ++ meant.literals l.columns l.literals;
}

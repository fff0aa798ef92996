use Rattle.std.proofs.Common.{◌≡◌, ◌++◌, drop, length}
use Rattle.mv_names.specs.Faults as meant
use Rattle.mv_names.proofs.items.check_arguments.Given as goal

abbrev pub invariant-loop-i : goal.invariant-loop-i
invariant-loop-i l = record {
  same_length : length l.args ≡ length l.params;
  so_far : l.faults ++ meant.arguments (drop l.i l.params) (drop l.i l.args) ≡ l.fn.faults ++ meant.arguments l.params l.args;
}

use Rattle.std.proofs.Common.{◌≡◌, drop}
use Rattle.mv_recorded.specs.Asking.{with_sorts}
use Rattle.mv_recorder.proofs.predicates.sorted_columns.Given as goal

abbrev pub invariant-loop-sort : goal.invariant-loop-sort
invariant-loop-sort l = with_sorts l.all (drop l.sort-index l.sorts) ≡ with_sorts l.columns l.sorts

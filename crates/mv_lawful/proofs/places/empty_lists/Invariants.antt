use Rattle.std.proofs.Common.{◌≡◌, ◌≤◌, map}
use Rattle.mv_values.specs.Counts.{first_numbers}
use Rattle.mv_lawful.proofs.Starting.{no_calls}
use Rattle.mv_lawful.proofs.places.empty_lists.Given as goal

abbrev pub invariant-loop-n : goal.invariant-loop-n
invariant-loop-n l = record {
  within : l._n ≤ l.fn.count;
  are : l.lists ≡ map (λ k. no_calls) (first_numbers l._n);
}

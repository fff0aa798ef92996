use Rattle.std.proofs.Common.{◌≡◌, drop, map}
use Rattle.mv_effect.specs.Asking.{all_once, with_columns}
use Rattle.mv_effect.proofs.predicates.push_sorts.Given as goal

abbrev pub invariant-loop-sort : goal.invariant-loop-sort
invariant-loop-sort l = record {
  rest : l.log ≡ with_columns l.fn.log l.log.columns;
  all : all_once l.log.columns (map (λ s. s.column) (drop l.sort-index l.sorts)) ≡ all_once l.fn.log.columns (map (λ s. s.column) l.sorts);
}

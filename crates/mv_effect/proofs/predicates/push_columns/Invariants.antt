use Rattle.std.proofs.Common.{◌≡◌, drop}
use Rattle.mv_effect.specs.Asking.{all_once, with_columns}
use Rattle.mv_effect.proofs.predicates.push_columns.Given as goal

abbrev pub invariant-loop-column : goal.invariant-loop-column
invariant-loop-column l = record {
  rest : l.log ≡ with_columns l.fn.log l.log.columns;
  all : all_once l.log.columns (drop l.column-index l.columns) ≡ all_once l.fn.log.columns l.columns;
}

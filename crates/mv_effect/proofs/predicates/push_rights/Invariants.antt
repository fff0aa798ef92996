use Rattle.std.proofs.Common.{◌≡◌, ◌<◌, All, drop}
use Rattle.std.specs.List.{flat_map}
use Rattle.mv_recorded.specs.Asking.{columns_in}
use Rattle.mv_effect.specs.Asking.{all_once, with_columns}
use Rattle.mv_effect.proofs.predicates.push_rights.Given as goal

abbrev pub invariant-loop-item : goal.invariant-loop-item
invariant-loop-item l = record {
  rest : l.log ≡ with_columns l.fn.log l.log.columns;
  few : All (λ c. c < 256) (flat_map (λ i. columns_in i.right) (drop l.item-index l.items));
  all : all_once l.log.columns (flat_map (λ i. columns_in i.right) (drop l.item-index l.items)) ≡ all_once l.fn.log.columns (flat_map (λ i. columns_in i.right) l.items);
}

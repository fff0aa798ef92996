use Rattle.std.proofs.Common.{◌≡◌, ◌++◌, drop}
use Rattle.std.specs.Prelude.{option_to_list}
use Rattle.std.specs.List.{flat_map}
use Rattle.mv_values.specs.declared.schema.Column.{Column}
use Rattle.mv_compile.proofs.reads.add_parents.Given as goal

abbrev pub invariant-loop-column : goal.invariant-loop-column
invariant-loop-column l = l.found ++ flat_map (λ (column : Column). option_to_list column.refers) (drop l.column-index l.columns) ≡ l.fn.found ++ flat_map (λ (column : Column). option_to_list column.refers) l.columns

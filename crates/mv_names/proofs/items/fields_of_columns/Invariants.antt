use Rattle.std.proofs.Common.{◌≡◌, ◌++◌, drop, map}
use Rattle.mv_names.specs.Scope.{declared_field}
use Rattle.mv_names.proofs.items.fields_of_columns.Given as goal

abbrev pub invariant-loop-column : goal.invariant-loop-column
invariant-loop-column l = l.fields ++ map declared_field (drop l.column-index l.columns) ≡ map declared_field l.columns

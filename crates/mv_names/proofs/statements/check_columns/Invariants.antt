use Rattle.std.proofs.Common.{◌≡◌, ◌++◌, drop}
use Rattle.std.specs.Option.{option_copied}
use Rattle.std.specs.List.{flat_map}
use Rattle.mv_names.specs.Scope.{types_of}
use Rattle.mv_names.specs.Typing.{column_faults}
use Rattle.mv_names.proofs.statements.check_columns.Given as goal

abbrev pub invariant-loop-name : goal.invariant-loop-name
invariant-loop-name l = record {
  kinds : l.kinds ++ types_of (option_copied l.columns) (drop l.name-index l.names) ≡ types_of (option_copied l.columns) l.names;
  faults : l.faults ++ flat_map (column_faults (option_copied l.columns)) (drop l.name-index l.names) ≡ l.fn.faults ++ flat_map (column_faults (option_copied l.columns)) l.names;
}

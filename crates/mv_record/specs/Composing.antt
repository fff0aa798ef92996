-- Items that set columns, one list after another.
use Rattle.std.specs.Prelude.{not, List}
use Rattle.std.specs.List.{filter}
use Rattle.mv_values.specs.declared.patch.Assign.{Assign}
use Rattle.mv_values.specs.Patching.{is_set}

-- the items whose columns the next ones don't set
abbrev pub left_by : List Assign → List Assign → List Assign
left_by next items = filter (λ a. not (is_set a.column next)) items

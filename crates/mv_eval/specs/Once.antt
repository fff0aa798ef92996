-- Sorted rows without repetitions. This project's own.
use Rattle.std.specs.Prelude.{Bool, false, List, [], ◌∷◌, Option, Some, None, if◌then◌else◌}
use Rattle.std.specs.Ordering.{is_eq}
use Rattle.mv_values.specs.declared.value.Value.{Value}
use Rattle.mv_values.specs.Order.{key_order}

-- the row equals the one before it
abbrev pub is_same : Option (List Value) → List Value → Bool
is_same None row = false
is_same (Some before) row = is_eq (key_order before row)

-- rows without those that equal the one before them
abbrev pub once_each : Option (List Value) → List (List Value) → List (List Value)
once_each before [] = []
once_each before (row ∷ rows) = if is_same before row then once_each (Some row) rows else row ∷ once_each (Some row) rows

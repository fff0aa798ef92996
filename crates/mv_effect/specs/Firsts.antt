-- The first row that own writes leave, and what a scan meets before it.
use Rattle.std.specs.Prelude.{◌≡◌, Bool, true, List, Option, Some, None}
use Rattle.mv_values.specs.declared.value.Value.{Value}
use Rattle.mv_values.specs.declared.rows.Keyed.{Keyed}
use Rattle.mv_values.specs.Patching.{row_of}
use Rattle.mv_table.specs.declared.scan.Direction.{Direction}
use Rattle.mv_undo.specs.Taking.{meets_first}

-- a scan meets the key before a row, or there is no such row
abbrev pub is_met_before : Direction → List Value → Option Keyed → Bool
is_met_before direction key None = true
is_met_before direction key (Some item) = meets_first direction key item.key

-- of the keys that pass a test this is the first with a row, before the row of another key; or none before that has one
abbrev pub IsFirstOf : Direction → (List Value → Bool) → List Keyed → Option Keyed → Option Keyed → Type 0
IsFirstOf direction sought rows other None = (key : List Value) → sought key ≡ true → is_met_before direction key other ≡ true → row_of rows key ≡ None
IsFirstOf direction sought rows other (Some item) =
    (row_of rows item.key ≡ Some item.row) × (is_met_before direction item.key other ≡ true) × ((key : List Value) → sought key ≡ true → meets_first direction key item.key ≡ true → row_of rows key ≡ None)

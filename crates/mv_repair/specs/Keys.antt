-- Defines which keys of tables are known. This project's own.
use Rattle.std.specs.Prelude.{◌≡◌, ℕ, Bool, true, false, List, Option, Some, None, slice_get}
use Rattle.std.specs.Option.{is_some}
use Rattle.mv_values.specs.declared.value.Value.{Value}
use Rattle.mv_table.specs.Entries.{item_of}

-- keys of one table
abbrev pub TableKeys : Type 0
TableKeys = List (List Value × Unit {0})

abbrev pub is_among : Option TableKeys → List Value → Bool
is_among None key = false
is_among (Some keys) key = is_some (item_of keys key)

-- the key of this table is among the keys of tables
abbrev pub has_key : List TableKeys → ℕ → List Value → Bool
has_key keys table key = is_among (slice_get keys table) key

-- no key is lost
abbrev pub KeepsKeys : List TableKeys → List TableKeys → Type 0
KeepsKeys old new = (table : ℕ) (key : List Value) → has_key old table key ≡ true → has_key new table key ≡ true

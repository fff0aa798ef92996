-- Defines the changes of a commit by its writes. Each written key, with its table in front, has its row before and
-- after the writes.
use Rattle.std.specs.Prelude.{◌≡◌, ◌≤◌, ◌+◌, ℕ, Bool, false, ◌&&◌, nat_lt, pos, List, [], ◌∷◌, Option, Some, None, Result, All, length, if◌then◌else◌}
use Rattle.std.specs.List.{flat_map}
use Rattle.std.specs.Ordering.{is_eq, is_lt}
use Rattle.mv_values.specs.declared.value.Value.{Value}
use Rattle.mv_values.specs.declared.value.Value.TheVariants.{Int}
use Rattle.mv_values.specs.declared.rows.Keyed.{Keyed}
use Rattle.mv_values.specs.declared.patch.Write.{Write}
use Rattle.mv_values.specs.Order.{key_order}
use Rattle.mv_values.specs.Patching.{row_of, patched, applied}
use Rattle.mv_values.specs.Tables.{rows_at}
use Rattle.mv_table.specs.Entries.{item_of}
use Rattle.mv_undo.specs.Owning.{touches}
use Rattle.mv_view.specs.declared.view.Refused.{Refused}
use Rattle.mv_view.specs.Viewing.{Sight, answered, MayAnswer}
use Rattle.mv_history.specs.declared.change.Change.{Change}
use Rattle.mv_history.specs.Changes.{changed_more, is_same, place}

-- the change of a key by one write of its row
abbrev pub change_of_write : Write → Option (List Value) → Change
change_of_write w before = record { table = w.table; key = w.key; before = before; after = patched w.patch before }

-- the same, given the key's change by the writes before, if any
abbrev pub changed_by : Write → Option Change → Option (List Value) → Change
changed_by w None before = change_of_write w before
changed_by w (Some c) before = changed_more w c

-- a key from one database to another, if it was written
abbrev pub drafted : Bool → ℕ → List Value → List (List Keyed) → List (List Keyed) → Option Change
drafted written t key old new = if written then Some (record { table = t; key = key; before = row_of (rows_at old t) key; after = row_of (rows_at new t) key }) else None

-- the entries are those of the keys that the writes have in the tables of a database
pub record IsDraft (es : List (List Value × Change)) (ws : List Write) (db : List (List Keyed)) : Type 0 where
  pub places : All (λ e. e.0 ≡ place e.1) es
  pub each : (t : ℕ) (key : List Value) → item_of es (Int (pos t) ∷ key) ≡ drafted (nat_lt t (length db) && touches t key ws) t key db (applied ws db)

-- changes by their places
abbrev pub by_place : List Change → List (List Value × Change)
by_place [] = []
by_place (c ∷ cs) = (place c, c) ∷ by_place cs

-- the place that a write is to
abbrev pub written : Write → List Value
written w = Int (pos w.table) ∷ w.key

-- whether a change is before the place of a write, and whether it is there
abbrev pub is_before : Write → Change → Bool
is_before w c = is_lt (key_order (place c) (written w))

abbrev pub is_there : Write → Option Change → Bool
is_there w None = false
is_there w (Some c) = is_eq (key_order (place c) (written w))

-- the changes whose rows differ after the writes
abbrev pub differing : List (List Value × Change) → List Change
differing es = flat_map (λ e. if is_same e.1.before e.1.after then [] else e.1 ∷ []) es

-- the view was asked for at most this many rows by their keys, and a `Stale` comes from the view
pub record HasAsked {A : Type 0} (count : ℕ) (before after : Sight) (result : Result A Refused) : Type 0 where
  pub sight : after ≡ answered result (record before { row_calls = after.row_calls })
  pub few : after.row_calls ≤ before.row_calls + count
  pub stale : MayAnswer before after result

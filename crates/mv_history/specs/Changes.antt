-- The changes between two databases: the keys whose rows differ, with both rows. That a call is validated against the
-- changes of the commits after its start is the paper's (Dashti, Basil John, Shaikhha and Koch, SIGMOD 2017). That a
-- change is computed from two tables alone, whatever was written between them, is this project's own.
use Rattle.std.specs.Prelude.{◌≡◌, ℕ, ◌+◌, ◌==◌, Bool, true, false, ◌&&◌, List, [], ◌∷◌, ◌++◌, Option, Some, None, pos, AllPairs, if◌then◌else◌}
use Rattle.std.specs.List.{filter, flat_map}
use Rattle.std.specs.Ordering.{is_eq}
use Rattle.std.specs.declared.cmp.Ordering.TheVariants.{Less}
use Rattle.mv_values.specs.declared.value.Value.{Value}
use Rattle.mv_values.specs.declared.value.Value.TheVariants.{Int}
use Rattle.mv_values.specs.declared.rows.Keyed.{Keyed}
use Rattle.mv_values.specs.declared.patch.Write.{Write}
use Rattle.mv_values.specs.Order.{key_order}
use Rattle.mv_values.specs.Patching.{row_of, placed, patched}
use Rattle.mv_values.specs.Tables.{rows_at}
use Rattle.mv_history.specs.declared.change.Change.{Change}

-- Between two databases

-- both rows are absent, or they have the same values
abbrev pub is_same : Option (List Value) → Option (List Value) → Bool
is_same None None = true
is_same (Some a) (Some b) = is_eq (key_order a b)
is_same None (Some b) = false
is_same (Some a) None = false

-- the change of one key: none if its row stays the same
abbrev pub change_of : ℕ → List Value → Option (List Value) → Option (List Value) → List Change
change_of t key before after = if is_same before after then [] else record { table = t; key = key; before = before; after = after } ∷ []

-- the rows of two tables, one under each key, in key order
abbrev pub united : List Keyed → List Keyed → List Keyed
united [] new = new
united (item ∷ items) new = placed item.key (Some item.row) (united items new)

-- the changes of a table: of each key that it has before or after, in key order
abbrev pub changes_of : ℕ → List Keyed → List Keyed → List Change
changes_of t old new = flat_map (λ item. change_of t item.key (row_of old item.key) (row_of new item.key)) (united old new)

-- the changes of tables, the first of which has this number
abbrev pub changes_upwards : ℕ → List (List Keyed) → List (List Keyed) → List Change
changes_upwards t [] new = []
changes_upwards t (o ∷ os) [] = []
changes_upwards t (o ∷ os) (n ∷ ns) = changes_of t o n ++ changes_upwards (t + 1) os ns

-- Change: the changes between two databases
abbrev pub changes_between : List (List Keyed) → List (List Keyed) → List Change
changes_between old new = changes_upwards 0 old new

-- Writes

-- the change of a key with one more write of its row
abbrev pub changed_more : Write → Change → Change
changed_more w c = record c { after = patched w.patch c.after }

-- Lists of changes

-- whether the change is of this key of this table
abbrev pub is_of : ℕ → List Value → Change → Bool
is_of t key c = (c.table == t) && is_eq (key_order c.key key)

-- the changes of one key lead from one row to another, each from the row after the one before it
abbrev pub Leads : List Change → Option (List Value) → Option (List Value) → Type 0
Leads [] before after = before ≡ after
Leads (c ∷ cs) before after = (c.before ≡ before) × Leads cs c.after after

-- the changes cover the step from one database to another: those of each key lead from its old row to its new one
abbrev pub Covers : List Change → List (List Keyed) → List (List Keyed) → Type 0
Covers changes old new = (t : ℕ) (key : List Value) → Leads (filter (is_of t key) changes) (row_of (rows_at old t) key) (row_of (rows_at new t) key)

-- the table and the key of a change in one
abbrev pub place : Change → List Value
place c = Int (pos c.table) ∷ c.key

-- the changes are in the order of their tables and keys, each key once
abbrev pub InOrder : List Change → Type 0
InOrder changes = AllPairs (λ a b. key_order (place a) (place b) ≡ Less) changes

-- the changes list what lies between two databases: in order, and of each key its own change, if there is one
pub record ListsChanges (changes : List Change) (old new : List (List Keyed)) : Type 0 where
  pub order : InOrder changes
  pub each : (t : ℕ) (key : List Value) → filter (is_of t key) changes ≡ change_of t key (row_of (rows_at old t) key) (row_of (rows_at new t) key)

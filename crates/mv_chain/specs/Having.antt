-- Defines which values the versions of a row have in a column. This project's own.
use Rattle.std.specs.Prelude.{◌==◌, ◌&&◌, ◌||◌, ℕ, Bool, false, List, [], ◌∷◌, Option, Some, None, length, nat_lt, if◌then◌else◌}
use Rattle.std.specs.List.{list_any}
use Rattle.std.specs.Ordering.{is_eq}
use Rattle.mv_values.specs.declared.value.Value.{Value}
use Rattle.mv_values.specs.declared.patch.Assign.{Assign}
use Rattle.mv_values.specs.declared.patch.Patch.{Patch}
use Rattle.mv_values.specs.declared.patch.Patch.TheVariants.{Insert, Set, Delete}
use Rattle.mv_values.specs.Columns.{column_of}
use Rattle.mv_values.specs.Order.{value_order}
use Rattle.mv_chain.specs.declared.pending.Pending.{Pending}
use Rattle.mv_chain.specs.declared.undo.Undo.{Undo}
use Rattle.mv_chain.specs.Undoing.{before, commits_of, item_on}
use Rattle.mv_chain.specs.Versions.{Versions, Commit}

-- whether two values are the same
abbrev pub is_value : Value → Value → Bool
is_value v w = is_eq (value_order w v)

-- whether a row has a value in a column; a missing column counts as 0
abbrev pub row_has : ℕ → Value → Option (List Value) → Bool
row_has c v None = false
row_has c v (Some row) = is_value v (column_of row c)

-- whether an item sets a column to a value
abbrev pub item_has : ℕ → Value → Assign → Bool
item_has c v a = (a.column == c) && is_value v a.value

-- whether a patch gives a column a value
abbrev pub patch_has : ℕ → Value → Patch → Bool
patch_has c v (Insert row) = row_has c v (Some row)
patch_has c v (Set items) = list_any (item_has c v) items
patch_has c v Delete = false

-- whether the row before some commits has a value in a column, or the row after one of them
abbrev pub rows_have : ℕ → Value → Option (List Value) → List Commit → Bool
rows_have c v base commits = row_has c v base || list_any (λ k. row_has c v k.row) commits

-- whether a patch that isn't committed gives a column a value
abbrev pub own_has : ℕ → Value → List Pending → Bool
own_has c v own = list_any (λ p. patch_has c v p.patch) own

-- whether one of the versions has a value in a column: a row, or a patch that isn't committed
abbrev pub has_value : ℕ → Value → Versions → Bool
has_value c v w = rows_have c v w.base w.commits || own_has c v w.own

-- whether a patch of a call that isn't committed gives a column a value
abbrev pub call_has : ℕ → Value → ℕ → List Pending → Bool
call_has c v call own = list_any (λ p. (p.call == call) && patch_has c v p.patch) own

-- whether a patch, if there is one, gives a column a value
abbrev pub earlier_has : ℕ → Value → Option Patch → Bool
earlier_has c v None = false
earlier_has c v (Some patch) = patch_has c v patch

-- How it is found

-- whether a row before these commits has it, or the row after them
abbrev pub undone_have : ℕ → Value → List Undo → Option (List Value) → Bool
undone_have c v us now = rows_have c v (before us now) (commits_of us now)

-- whether what undoes these commits gives a column a value
abbrev pub undos_have : ℕ → Value → List Undo → Bool
undos_have c v us = list_any (λ u. patch_has c v u.patch) us

-- whether there is a row that has the column
abbrev pub has_column : ℕ → Option (List Value) → Bool
has_column c None = false
has_column c (Some row) = nat_lt c (length row)

-- whether a row has the value, or has the column and an earlier row has the value if this one has the column
abbrev pub ends : ℕ → Value → Bool → Option (List Value) → Bool
ends c v set row = row_has c v row || (set && has_column c row)

-- whether this is known at what undoes a commit
abbrev pub ends_at : ℕ → Value → Bool → Patch → Bool
ends_at c v set (Insert row) = ends c v set (Some row)
ends_at c v set (Set items) = false
ends_at c v set Delete = false

-- whether it is this value, if there is one
abbrev pub is_in : Value → Option Value → Bool
is_in v None = false
is_in v (Some w) = is_value v w

-- whether a row before has the value if the one after the commit has the column
abbrev pub is_set_past : ℕ → Value → Bool → Patch → Bool
is_set_past c v set (Insert row) = false
is_set_past c v set (Set items) = set || is_in v (item_on c items)
is_set_past c v set Delete = false

-- whether a column has a value after these items, in order, where it had it before or not
abbrev pub has_after : ℕ → Value → List Assign → Bool → Bool
has_after c v [] had = had
has_after c v (a ∷ as') had = has_after c v as' (if a.column == c then is_value v a.value else had)

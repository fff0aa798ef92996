-- Which changes hit a record, and which writes touch it. Both rules look only at the columns that a predicate tests and
-- selects. They are this project's own.
use Rattle.std.specs.Prelude.{ℕ, ◌+◌, ◌==◌, Bool, true, false, not, ◌&&◌, List, [], ◌∷◌, ◌++◌, Option, Some, None, map, length, if◌then◌else◌}
use Rattle.std.specs.List.{list_any}
use Rattle.std.specs.Ordering.{is_eq}
use Rattle.mv_values.specs.declared.value.Value.{Value}
use Rattle.mv_values.specs.declared.pred.Pred.{Pred}
use Rattle.mv_values.specs.declared.patch.Patch.{Patch}
use Rattle.mv_values.specs.declared.patch.Patch.TheVariants.{Insert, Set, Delete}
use Rattle.mv_values.specs.declared.patch.Write.{Write}
use Rattle.mv_values.specs.Columns.{columns_of}
use Rattle.mv_values.specs.Order.{key_order}
use Rattle.mv_values.specs.Preds.{admits, names, sees}
use Rattle.mv_record.specs.declared.record.Record.{Record}
use Rattle.mv_record.specs.Runs.{writes_in}
use Rattle.mv_record.specs.Writes.{is_on}
use Rattle.mv_history.specs.declared.change.Change.{Change}
use Rattle.mv_history.specs.declared.change.Hit.{Hit}
use Rattle.mv_history.specs.Changes.{is_same}

-- Hit

-- the columns that a predicate selects or tests
abbrev pub named_columns : Pred → List ℕ
named_columns p = p.columns ++ map (λ t. t.column) p.tests

-- both rows are absent, or they have the same values in the columns that the predicate selects or tests
abbrev pub is_alike : Pred → Option (List Value) → Option (List Value) → Bool
is_alike p None None = true
is_alike p (Some a) (Some b) = is_eq (key_order (columns_of a (named_columns p)) (columns_of b (named_columns p)))
is_alike p None (Some b) = false
is_alike p (Some a) None = false

-- one of these records wrote the key of the change
abbrev pub has_written : List Record → Change → Bool
has_written rs c = list_any (is_on c.table c.key) (writes_in rs)

-- The change hits a predicate. If records before this one wrote the key, it hits if the predicate admits the key and
-- the rows differ in a column that the predicate names, or only one is absent. Else it hits if the predicate sees the
-- two rows differently.
abbrev pub hits_predicate : List Record → Change → Pred → Bool
hits_predicate before c p =
    (c.table == p.table) && (if has_written before c then admits p c.key && not (is_alike p c.before c.after) else not (is_same (sees p c.before) (sees p c.after)))

-- Hit: the change hits a record; `before` are the records of its call before it
abbrev pub hits : List Record → Record → Change → Bool
hits before r c = list_any (hits_predicate before c) r.preds

-- a change of the list hits a record
abbrev pub any_hits : List Change → List Record → Record → Bool
any_hits changes before r = list_any (hits before r) changes

-- no change of the list hits any of these records; `before` are the records of their call before them
abbrev pub is_unhit : List Change → List Record → List Record → Bool
is_unhit changes before [] = true
is_unhit changes before (r ∷ rs) = not (any_hits changes before r) && is_unhit changes (before ++ r ∷ []) rs

-- the first commit that hits a record. Each commit is given by its changes, and the first has this number
abbrev pub first_commit : ℕ → List (List Change) → List Record → Record → Option ℕ
first_commit number [] before r = None
first_commit number (changes ∷ later) before r = if any_hits changes before r then Some number else first_commit (number + 1) later before r

abbrev pub or_later : ℕ → Option ℕ → Option Hit → Option Hit
or_later number None later = later
or_later number (Some commit) later = Some (record { number = number; commit = commit })

-- the first record of the rest of a call's that is hit, with the first commit that hits it
abbrev pub first_hit : ℕ → List (List Change) → List Record → List Record → Option Hit
first_hit number commits before [] = None
first_hit number commits before (r ∷ rs) = or_later (length before) (first_commit number commits before r) (first_hit number commits (before ++ r ∷ []) rs)

-- Touch

-- the patch inserts or deletes a row, or sets a column that the predicate selects or tests
abbrev pub reaches : Pred → Patch → Bool
reaches p (Insert row) = true
reaches p (Set items) = list_any (λ a. names p a.column) items
reaches p Delete = true

-- the write is to a key that the predicate admits, and its patch reaches the predicate
abbrev pub touches_predicate : Write → Pred → Bool
touches_predicate w p = (w.table == p.table) && (admits p w.key && reaches p w.patch)

-- Touch: the write touches a predicate of the record
abbrev pub touches : Record → Write → Bool
touches r w = list_any (touches_predicate w) r.preds

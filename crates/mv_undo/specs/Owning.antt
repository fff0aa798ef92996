-- The writes of a running call, each with the number of its record.
use Rattle.std.specs.Prelude.{◌≡◌, ◌≤◌, ◌+◌, ℕ, Bool, true, false, ◌&&◌, nat_lt, List, [], ◌∷◌, ◌++◌, map, AllPairs, length, take}
use Rattle.std.specs.List.{filter, list_any}
use Rattle.std.specs.Ordering.{is_eq}
use Rattle.std.specs.declared.cmp.Ordering.TheVariants.{Less}
use Rattle.mv_values.specs.declared.value.Value.{Value}
use Rattle.mv_values.specs.declared.patch.Patch.{Patch}
use Rattle.mv_values.specs.declared.patch.Patch.TheVariants.{Insert, Set, Delete}
use Rattle.mv_values.specs.declared.patch.Write.{Write}
use Rattle.mv_values.specs.declared.pred.Pred.{Pred}
use Rattle.mv_values.specs.Order.{key_order}
use Rattle.mv_values.specs.Preds.{admits}
use Rattle.mv_record.specs.declared.record.Record.{Record}
use Rattle.mv_record.specs.Runs.{writes_in}
pub use Rattle.mv_record.specs.Writes.{touches}
use Rattle.mv_undo.specs.Owned.{Owned}

-- the writes of a record with this number
abbrev pub undo_of : ℕ → List Write → List Owned
undo_of number ws = map (λ w. record { number = number; write = w }) ws

-- the writes of records, of which the first has this number
abbrev pub undo_of_all : ℕ → List Record → List Owned
undo_of_all n [] = []
undo_of_all n (r ∷ rs) = undo_of n r.writes ++ undo_of_all (n + 1) rs

-- the numbers never decrease
abbrev pub IsInOrder : List Owned → Type 0
IsInOrder all = AllPairs (λ a b. a.number ≤ b.number) all

-- the writes of records with smaller numbers, with those numbers
abbrev pub before : ℕ → List Owned → List Owned
before number all = filter (λ o. nat_lt o.number number) all

-- the writes of records with smaller numbers
abbrev pub earlier : ℕ → List Owned → List Write
earlier number all = map (λ o. o.write) (before number all)

-- these are the writes of a call with these records: before each record they are those of the records before it
abbrev pub HasWritesOf : List Owned → List Record → Type 0
HasWritesOf undo records = (number : ℕ) → number ≤ length records → earlier number undo ≡ writes_in (take number records)

-- the patch leaves the same row, whatever row was there
abbrev pub is_whole : Patch → Bool
is_whole (Insert row) = true
is_whole (Set items) = false
is_whole Delete = true

-- one of the writes does, so that they leave the same row, whatever row was there before them
abbrev pub is_fixed : List Write → Bool
is_fixed ws = list_any (λ w. is_whole w.patch) ws

-- some write is to this key of the predicate's table, and the predicate admits the key
abbrev pub is_sought : Pred → List Write → List Value → Bool
is_sought pred ws key = touches pred.table key ws && admits pred key

abbrev pub is_among : List (List Value) → List Value → Bool
is_among keys key = list_any (λ k. is_eq (key_order k key)) keys

-- the keys that writes have and the predicate admits, each once, in order
pub record AreSought (pred : Pred) (ws : List Write) (keys : List (List Value)) : Type 0 where
  pub rising : AllPairs (λ a b. key_order a b ≡ Less) keys
  pub are : (key : List Value) → is_among keys key ≡ is_sought pred ws key

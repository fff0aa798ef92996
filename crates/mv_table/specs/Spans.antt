-- Defines spans of keys, and which span covers tests. The rule is this project's own.
use Rattle.std.specs.Prelude.{◌≡◌, ◌<◌, ℕ, zero, suc, Bool, true, false, not, ◌&&◌, ◌==◌, List, Option, Some, None, length, pos, slice_index_or}
use Rattle.std.specs.List.{list_all, list_any, filter, All}
use Rattle.std.specs.Ordering.{is_le, is_gt}
use Rattle.mv_values.specs.declared.value.Value.{Value}
use Rattle.mv_values.specs.declared.value.Value.TheVariants.{Int}
use Rattle.mv_values.specs.declared.op.Op.{Op}
use Rattle.mv_values.specs.declared.op.Op.TheVariants.{Eq, Lt, Le, Gt, Ge}
use Rattle.mv_values.specs.declared.pred.Test.{Test}
use Rattle.mv_values.specs.declared.rows.Keyed.{Keyed}
use Rattle.mv_values.specs.Columns.{column_of}
use Rattle.mv_values.specs.Order.{key_order}
use Rattle.mv_values.specs.Preds.{allows, agrees}
use Rattle.mv_table.specs.declared.span.Span.{Span}
use Rattle.mv_table.specs.declared.span.Side.{Side}
use Rattle.mv_table.specs.declared.span.Side.TheVariants.{Both, Low, High}

-- the key is at the end of a span or past it
abbrev pub is_past : Option (List Value) → List Value → Bool
is_past None key = false
is_past (Some end') key = is_le (key_order end' key)

-- the key is in the span: not below its low end, and below its high one
abbrev pub is_within : Span → List Value → Bool
is_within span key = is_le (key_order span.low key) && not (is_past span.high key)

-- the low end isn't above the high one
abbrev pub RunsTo : List Value → Option (List Value) → Type 0
RunsTo low None = Unit {0}
RunsTo low (Some high) = is_gt (key_order low high) ≡ false

abbrev pub IsForward : Span → Type 0
IsForward span = RunsTo span.low span.high

-- every test on a key column holds of the key
abbrev pub Admits : List Test → List Value → Type 0
Admits tests key = list_all (agrees key) tests ≡ true

-- each key that the tests admit is in the span
abbrev pub CoversAdmitted : List Test → Span → Type 0
CoversAdmitted tests span = (key : List Value) → Admits tests key → is_within span key ≡ true

-- a predicate that holds only of rows whose keys the tests admit selects the same rows from the part as from all rows
abbrev pub FindsAll : List Test → List Keyed → List Keyed → Type 0
FindsAll tests rows part = (p : Keyed → Bool) → All (λ item. p item ≡ true → Admits tests item.key) rows → filter p part ≡ filter p rows

-- a key has these values in its first columns; a missing column counts as 0
abbrev pub Agrees : List Value → List Value → Type 0
Agrees key front = (i : ℕ) → i < length front → column_of key i ≡ slice_index_or front i (Int (pos 0))

-- a test by the comparison bounds a value from this side
abbrev pub bounds : Side → Op → Bool
bounds Both Eq = true
bounds Low Gt = true
bounds Low Ge = true
bounds High Lt = true
bounds High Le = true
bounds side op = false

-- the test holds of the value at the place of each key that the tests admit
abbrev pub HoldsAt : List Test → ℕ → Test → Type 0
HoldsAt tests place test = (key : List Value) → Admits tests key → allows test (column_of key place) ≡ true

abbrev pub is_place : Option ℕ → ℕ → Bool
is_place None place = false
is_place (Some p) place = p == place

-- a test bounds the value at a place of the key from this side
abbrev pub is_bounded : Side → List Test → ℕ → Bool
is_bounded side tests place = list_any (λ test. is_place test.key_place place && bounds side test.op) tests

-- `=` fixes each value of the key before a place
abbrev pub are_fixed_before : List Test → ℕ → Bool
are_fixed_before tests zero = true
are_fixed_before tests (suc place) = are_fixed_before tests place && is_bounded Both tests place

-- of the keys with so many values the tests admit this one alone
abbrev pub AdmitsOnly : List Test → ℕ → List Value → Type 0
AdmitsOnly tests len only = (key : List Value) → length key ≡ len → Admits tests key → key ≡ only

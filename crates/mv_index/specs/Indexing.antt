-- Defines secondary indexes: the keys of a table's rows by their values in other columns. This project's own.
use Rattle.std.specs.Prelude.{◌≡◌, ◌^◌, ◌&&◌, ◌==◌, ◌⊎◌, ◌<◌, ◌≤◌, ℕ, Bool, true, false, List, [], ◌∷◌, Option, Some, None, All, Contains, IfSome, length, not, ◌||◌, nat_lt, nat_le, if◌then◌else◌}
use Rattle.std.specs.BTreeMap.{is_at}
use Rattle.std.specs.Map.{lookup}
use Rattle.std.specs.List.{HoldsAt, AllWithin, list_any}
use Rattle.std.specs.Option.{is_some}
use Rattle.std.specs.Ordering.{is_eq, nat_cmp}
use Rattle.mv_values.specs.declared.value.Value.{Value}
use Rattle.mv_values.specs.declared.rows.Keyed.{Keyed}
use Rattle.mv_values.specs.declared.pred.Test.{Test}
use Rattle.mv_values.specs.declared.pred.Pred.{Pred}
use Rattle.mv_values.specs.Columns.{column_of}
use Rattle.mv_values.specs.Order.{value_order, key_order}
use Rattle.mv_values.specs.Preds.{matches}
use Rattle.mv_values.specs.Tables.{rows_at}
use Rattle.mv_values.specs.Testing.{is_equality, are_tested}
use Rattle.mv_table.specs.Entries.{item_of}
use Rattle.mv_table.specs.Spans.{are_fixed_before, AdmitsOnly}
use Rattle.mv_index.specs.declared.lens.KeyLens.{KeyLens}
use Rattle.mv_index.specs.declared.lens.KeyLens.TheVariants.{One, Several}
use Rattle.mv_values.specs.declared.tested.Tested.{Tested}
use Rattle.mv_index.specs.Forms.{KeyList}

-- The keys under values

abbrev pub keys_in : Option KeyList → KeyList
keys_in None = []
keys_in (Some keys) = keys

-- the keys under a value
abbrev pub keys_at : List (Value × KeyList) → Value → KeyList
keys_at values v = keys_in (lookup (is_at (value_order v)) values)

-- whether a key is under a value
abbrev pub has_key : List (Value × KeyList) → Value → List Value → Bool
has_key values v key = is_some (item_of (keys_at values v) key)

-- whether these are the same value and key
abbrev pub is_pair : Value → List Value → Value → List Value → Bool
is_pair value key v k = is_eq (value_order value v) && is_eq (key_order key k)

-- The lengths of keys

-- whether a key has one of the lengths that a table's keys have had
abbrev pub is_known : Option KeyLens → ℕ → Bool
is_known None len = false
is_known (Some (One n)) len = n == len
is_known (Some Several) len = true

-- the lengths with that of one more key
abbrev pub with_len : Option KeyLens → ℕ → KeyLens
with_len None len = One len
with_len (Some (One n)) len = if n == len then One n else Several
with_len (Some Several) len = Several

-- no key had another length
abbrev pub AreOf : ℕ → Option KeyLens → Type 0
AreOf len None = Unit {0}
AreOf len (Some (One n)) = n ≡ len
AreOf len (Some Several) = ⊥

-- An index

-- the index of a column: the keys under each value
pub record Column : Type 0 where
  pub table : ℕ
  pub column : ℕ
  pub entries : List (Value × KeyList)

-- the indexes of columns, and the lengths of the keys of each table that has had a row
pub record Contents : Type 0 where
  pub columns : List Column
  pub key_lens : List (ℕ × KeyLens)

-- whether it is the index of a column
abbrev pub is_of : ℕ → ℕ → Column → Bool
is_of t c part = (part.table == t) && (part.column == c)

-- the index of a column, if it has one
abbrev pub part_of : List Column → ℕ → ℕ → Option Column
part_of [] t c = None
part_of (part ∷ parts) t c = if is_of t c part then Some part else part_of parts t c

-- the index at this place is the first of a column
abbrev pub IsFirst : List Column → ℕ → ℕ → ℕ → Type 0
IsFirst parts t c at = (at < length parts) × HoldsAt (λ part. is_of t c part ≡ true) parts at × AllWithin (λ part. is_of t c part ≡ false) parts 0 at

abbrev pub keys_of_part : Option Column → Value → KeyList
keys_of_part None v = []
keys_of_part (Some part) v = keys_at part.entries v

-- whether a column of a table is indexed
abbrev pub is_indexed : Contents → ℕ → ℕ → Bool
is_indexed index t c = is_some (part_of index.columns t c)

-- the keys under a value of a column, in ascending order
abbrev pub keys_under : Contents → ℕ → ℕ → Value → KeyList
keys_under index t c v = keys_of_part (part_of index.columns t c) v

-- whether a key stands under a value of a column
abbrev pub stands : Contents → ℕ → ℕ → Value → List Value → Bool
stands index t c v key = is_some (item_of (keys_under index t c v) key)

-- the lengths of a table's keys, if the table has had a row
abbrev pub lens_of : Contents → ℕ → Option KeyLens
lens_of index t = lookup (is_at (nat_cmp t)) index.key_lens

-- the index covers the rows of a table: each row's key stands under the row's value in each indexed column, and its length
-- is known
pub record CoversRows (index : Contents) (t : ℕ) (rows : List Keyed) : Type 0 where
  pub keys : (c : ℕ) → is_indexed index t c ≡ true → All (λ item. stands index t c (column_of item.row c) item.key ≡ true) rows
  pub lens : All (λ item. is_known (lens_of index t) (length item.key) ≡ true) rows

-- it covers a database: the rows of each table whose number has one byte
abbrev pub Covers : Contents → List (List Keyed) → Type 0
Covers index db = (t : ℕ) → t < 2 ^ 8 → CoversRows index t (rows_at db t)

-- whether one of these rows has this key, and this value in a column
abbrev pub has_row : List Keyed → ℕ → Value → List Value → Bool
has_row rows c v key = list_any (λ item. is_eq (key_order item.key key) && is_eq (value_order (column_of item.row c) v)) rows

-- the keys of these rows have this length
abbrev pub HaveLen : ℕ → List Keyed → Type 0
HaveLen len rows = All (λ item. length item.key ≡ len) rows

-- Changes

-- the same columns are indexed, and no entry and no length is lost
pub record Keeps (old new : Contents) : Type 0 where
  pub indexed : (t c : ℕ) → is_indexed new t c ≡ is_indexed old t c
  pub entries : (t c : ℕ) (v : Value) (k : List Value) → stands old t c v k ≡ true → stands new t c v k ≡ true
  pub lens : (t len : ℕ) → is_known (lens_of old t) len ≡ true → is_known (lens_of new t) len ≡ true

-- nothing was added but entries of this key and row, each under the row's value, and the length of the key
pub record AddsOnly (table : ℕ) (key row : List Value) (old new : Contents) : Type 0 where
  pub entries : (t c : ℕ) (v : Value) (k : List Value) → stands new t c v k ≡ true → (stands old t c v k ≡ true) ⊎ ((t ≡ table) × (v ≡ column_of row c) × (k ≡ key))
  pub lens : (t : ℕ) → (lens_of new t ≡ lens_of old t) ⊎ ((t ≡ table) × (lens_of new t ≡ Some (with_len (lens_of old t) (length key))))

-- the key stands under the row's value in each indexed column of its table, and its length is known
pub record Has (table : ℕ) (key row : List Value) (index : Contents) : Type 0 where
  pub entries : (c : ℕ) → is_indexed index table c ≡ true → stands index table c (column_of row c) key ≡ true
  pub len : is_known (lens_of index table) (length key) ≡ true

-- one entry was taken out, if it was there
pub record Loses (table column : ℕ) (value : Value) (key : List Value) (old new : Contents) : Type 0 where
  pub indexed : (t c : ℕ) → is_indexed new t c ≡ is_indexed old t c
  pub entries : (t c : ℕ) (v : Value) (k : List Value) → stands new t c v k ≡ (stands old t c v k && not ((table == t) && ((column == c) && is_pair value key v k)))
  pub lens : (t : ℕ) → lens_of new t ≡ lens_of old t

-- these entries were added to one column, if it is indexed
pub record Adds (table column : ℕ) (pair : Value → List Value → Bool) (old new : Contents) : Type 0 where
  pub indexed : (t c : ℕ) → is_indexed new t c ≡ is_indexed old t c
  pub entries : (t c : ℕ) (v : Value) (k : List Value) → is_indexed old t c ≡ true → stands new t c v k ≡ (stands old t c v k || ((table == t) && ((column == c) && pair v k)))
  pub lens : (t : ℕ) → lens_of new t ≡ lens_of old t

-- no value and key
abbrev pub no_pair : Value → List Value → Bool
no_pair v k = false

-- the length of a key of a table may have been noted
pub record MayNoteLen (table : ℕ) (old new : Contents) : Type 0 where
  pub columns : new.columns ≡ old.columns
  pub known : (t len : ℕ) → is_known (lens_of old t) len ≡ true → is_known (lens_of new t) len ≡ true
  pub lens : (t : ℕ) → (table == t) ≡ false → lens_of new t ≡ lens_of old t

-- The index of one column

-- it may have got the key of a row under the row's value
pub record Grows (table : ℕ) (key row : List Value) (old new : Column) : Type 0 where
  pub same_table : new.table ≡ old.table
  pub same_column : new.column ≡ old.column
  pub kept : (v : Value) (k : List Value) → has_key old.entries v k ≡ true → has_key new.entries v k ≡ true
  pub only : (v : Value) (k : List Value) → has_key new.entries v k ≡ true → (has_key old.entries v k ≡ true) ⊎ ((old.table ≡ table) × (v ≡ column_of row old.column) × (k ≡ key))

-- it has the key, if it is of the table
abbrev pub HasKey : ℕ → List Value → List Value → Column → Type 0
HasKey table key row part = part.table ≡ table → has_key part.entries (column_of row part.column) key ≡ true

-- these were added
pub record Gains (pair : Value → List Value → Bool) (old new : Column) : Type 0 where
  pub same_table : new.table ≡ old.table
  pub same_column : new.column ≡ old.column
  pub entries : (v : Value) (k : List Value) → has_key new.entries v k ≡ (has_key old.entries v k || pair v k)

-- the key isn't under the value
pub record Shrinks (value : Value) (key : List Value) (old new : Column) : Type 0 where
  pub same_table : new.table ≡ old.table
  pub same_column : new.column ≡ old.column
  pub entries : (v : Value) (k : List Value) → has_key new.entries v k ≡ (has_key old.entries v k && not (is_pair value key v k))

-- empty indexes of these columns
pub record AreEmptyFor (columns : List Tested) (parts : List Column) : Type 0 where
  pub indexed : (t c : ℕ) → is_some (part_of parts t c) ≡ are_tested columns t c
  pub none : (t c : ℕ) (v : Value) → keys_of_part (part_of parts t c) v ≡ []

-- they have the length of one more key of a table
abbrev pub NotesLen : ℕ → ℕ → List (ℕ × KeyLens) → List (ℕ × KeyLens) → Type 0
NotesLen table len old new =
    (t : ℕ) → lookup (is_at (nat_cmp t)) new ≡ (if is_eq (nat_cmp table t) then Some (with_len (lookup (is_at (nat_cmp table)) old) len) else lookup (is_at (nat_cmp t)) old)

-- Rows

-- each row that the predicate matches stands under this key
abbrev pub IsOnlyKey : Pred → List Value → List Keyed → Type 0
IsOnlyKey pred key rows = All (λ item. matches pred item.row ≡ true → item.key ≡ key) rows

-- each stands under one of these keys
abbrev pub HaveKeys : Pred → KeyList → List Keyed → Type 0
HaveKeys pred keys rows = All (λ item. matches pred item.row ≡ true → is_some (item_of keys item.key) ≡ true) rows

-- Tests

-- whether `=` gives the whole key, where the keys of a table have one length
abbrev pub is_given : Option KeyLens → List Test → Bool
is_given None tests = false
is_given (Some (One len)) tests = are_fixed_before tests len
is_given (Some Several) tests = false

-- whether the predicate's `=` tests give every key column of its table
abbrev pub gives_key : Contents → Pred → Bool
gives_key index pred = is_given (lens_of index pred.table) pred.tests

-- no other key of a known length is admitted
abbrev pub IsOnlyOf : Option KeyLens → List Test → List Value → Type 0
IsOnlyOf lens tests key = (len : ℕ) → is_known lens len ≡ true → AdmitsOnly tests len key

abbrev pub IsOnly : Contents → Pred → List Value → Type 0
IsOnly index pred key = IsOnlyOf (lens_of index pred.table) pred.tests key

-- the keys under the value of a test, where it is an `=` test on an indexed column
abbrev pub keys_for : Contents → ℕ → Test → Option KeyList
keys_for index t test = if is_equality test.op && is_indexed index t test.column then Some (keys_under index t test.column test.value) else None

-- the first has fewer keys, or as many in a column that isn't greater
abbrev pub IsNoWorse : ℕ → ℕ → ℕ → ℕ → Type 0
IsNoWorse count column other_count other_column = (count < other_count) ⊎ ((count ≡ other_count) × (column ≤ other_column))

-- whether it is so
abbrev pub is_no_worse : ℕ → ℕ → ℕ → ℕ → Bool
is_no_worse count column other_count other_column = nat_lt count other_count || ((count == other_count) && nat_le column other_column)

-- the keys are those of one of the tests, which no other one of these betters
pub record AreFewest (index : Contents) (pred : Pred) (keys : KeyList) : Type 0 where
  pub test : Test
  pub there : Contains pred.tests test
  pub are : keys_for index pred.table test ≡ Some keys
  pub fewest : All (λ other. IfSome (keys_for index pred.table other) (λ others. IsNoWorse (length keys) test.column (length others) other.column)) pred.tests

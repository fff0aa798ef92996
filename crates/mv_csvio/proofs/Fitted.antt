-- Rows that join stand under their keys, and rows that are loaded fit their table.
use Rattle.std.proofs.Common.{w64, inl, inr, ◌≡◌, ◌++◌, ◌∷◌, ◌≤◌, ◌^◌, ◌==◌, ◌&&◌, if◌then◌else◌, rules, ℕ, zero, suc, Bool, true, false, List, [], map, length, Option, Some, None, ℤ, pos, neg_ℤ, refl, subst, arith}
use Rattle.std.specs.Prelude.{All, nat_le, nat_lt, option_map}
use Rattle.std.specs.Int.RustNames.{FitsSigned}
use Rattle.std.specs.List.{AllZip, list_all}
use Rattle.std.specs.Str.Parse.{digits_value}
use Rattle.std.proofs.lemmas.Bool.{cases_Bool, and_parts}
use Rattle.std.proofs.lemmas.List.Elements.{All-append, All-cons, All-map, All-nil}
use Rattle.std.proofs.lemmas.List.Sorted.{All-permutation}
use Rattle.mv_values.specs.declared.value.Value.{Value}
use Rattle.mv_values.specs.declared.value.Value.TheVariants as value
use Rattle.mv_values.specs.declared.rows.Keyed.{Keyed}
use Rattle.mv_values.specs.declared.schema.ColType.{ColType}
use Rattle.mv_values.specs.declared.schema.ColType.TheVariants as column
use Rattle.mv_values.specs.declared.schema.Column.{Column}
use Rattle.mv_values.specs.declared.schema.TableInfo.{TableInfo}
use Rattle.mv_values.specs.Printable.{is_printable}
use Rattle.mv_values.specs.Tables.{StandsUnder}
use Rattle.mv_csvio.specs.Fields.{IsRow, are_digits, is_text, natural, negative, number_in, value_in, values_in}
use Rattle.mv_csvio.specs.Fitting.{FitsTable, FitsType, HasTypes}
use Rattle.mv_csvio.specs.Joining.{HasJoined, under_key}
use Rattle.mv_csvio.specs.Loading.{HasLoaded, Record}
use Rattle.mv_csvio.proofs.Values.{all_printable}

-- what holds of the rows that were there and of those that join holds of all
joined_all : (P : Keyed → Type 0) (table : TableInfo) (before : List Keyed) (rows : List (List Value)) (after : List Keyed) → All P before → All (λ row. P (under_key table row)) rows → HasJoined table before rows after → All P after
joined_all P table before rows after old new h =
    All-permutation P (before ++ map (under_key table) rows) after h.1 (All-append P before (map (under_key table) rows) old (All-map P (under_key table) rows new))

pub joined_keys : (table : TableInfo) (before : List Keyed) (rows : List (List Value)) (after : List Keyed) → All (StandsUnder table.key) before → HasJoined table before rows after → All (StandsUnder table.key) after
joined_keys table before rows after old h = joined_all (StandsUnder table.key) table before rows after old (λ k d within. refl) h

pub loaded_keys : (table : TableInfo) (before : List Keyed) (block : List Record) (after : List Keyed) → All (StandsUnder table.key) before → HasLoaded table before block after → All (StandsUnder table.key) after
loaded_keys table before block after old h = joined_keys table before h.0 after old h.2

pub joined_fit : (table : TableInfo) (before : List Keyed) (rows : List (List Value)) (after : List Keyed) → All (FitsTable table) before → All (HasTypes table) rows → HasJoined table before rows after → All (FitsTable table) after
joined_fit table before rows after old new h = joined_all (FitsTable table) table before rows after old (λ k d within. (new k d within, refl)) h

-- a number that was read has 64 bits
when_some : {A : Type 0} (b : Bool) (y z : A) → (if b then Some y else None) ≡ Some z → (b ≡ true) × (y ≡ z)
when_some true y z h = (refl, cc h)
when_some false y z h = cc h

fits_natural : (ds : List ℕ) (z : ℤ) → natural ds ≡ Some z → FitsSigned w64 z
fits_natural ds z h =
    let n = digits_value 10 ds in
    let k = when_some (are_digits ds && nat_lt n (2 ^ 63)) (pos n) z h in
    let small = and_parts (are_digits ds) (nat_lt n (2 ^ 63)) k.0 in
    subst (FitsSigned w64) k.1 (record { sfits = search (rules, small.1) })

fits_opposite : (n : ℕ) → n ≤ 2 ^ 63 → FitsSigned w64 (neg_ℤ (pos n))
fits_opposite zero h = record { sfits = omega arith }
fits_opposite (suc n) h = record { sfits = omega (arith, h) }

fits_negative : (ds : List ℕ) (z : ℤ) → negative ds ≡ Some z → FitsSigned w64 z
fits_negative ds z h =
    let n = digits_value 10 ds in
    let k = when_some (are_digits ds && nat_le n (2 ^ 63)) (neg_ℤ (pos n)) z h in
    let small = and_parts (are_digits ds) (nat_le n (2 ^ 63)) k.0 in
    subst (FitsSigned w64) k.1 (fits_opposite n (search (rules, small.1)))

fits_number : (field : List ℕ) (z : ℤ) → number_in field ≡ Some z → FitsSigned w64 z
fits_number [] z h = cc h
fits_number (b ∷ bs) z h = elim (cases_Bool (b == 45)) [
  | inl minus ↦ fits_negative bs z (rw minus at h)
  | inr other ↦ fits_natural (b ∷ bs) z (rw other at h)
]

-- a value that was read is one of its column's type
number_of : (o : Option ℤ) (v : Value) → option_map value.Int o ≡ Some v → (z : ℤ) × (o ≡ Some z) × (value.Int z ≡ v)
number_of None v h = cc h
number_of (Some z) v h = (z, refl, cc h)

fits_type : (k : ColType) (field : List ℕ) (v : Value) → value_in k field ≡ Some v → FitsType k v
fits_type column.Int field v h =
    let n = number_of (number_in field) v h in
    subst (FitsType column.Int) n.2 (fits_number field n.0 n.1)
fits_type (column.Text n) field v h =
    let k = when_some (is_text n field) (value.Text field) v h in
    let b = and_parts (nat_le (length field) n) (list_all is_printable field) k.0 in
    subst (FitsType (column.Text n)) k.1 (all_printable field b.1, search (rules, b.0))

fits_columns : (columns : List Column) (fields : Record) (row : List Value) → length fields ≡ length columns → values_in columns fields ≡ map Some row → AllZip (λ c v. FitsType c.kind v) columns row
unfolding values_in
fits_columns [] fields [] n h = tt
fits_columns [] fields (v ∷ row) n h = cc h
fits_columns (c ∷ cs) [] row n h = absurd (omega (arith, n))
fits_columns (c ∷ cs) (f ∷ fs) [] n h = cc h
fits_columns (c ∷ cs) (f ∷ fs) (v ∷ row) n h =
    let head : value_in c.kind f ≡ Some v = cc h in
    let tail : values_in cs fs ≡ map Some row = cc h in
    (fits_type c.kind f v head, fits_columns cs fs row (omega (arith, n)) tail)

rows_fit : (table : TableInfo) (block : List Record) (rows : List (List Value)) → AllZip (IsRow table.columns) block rows → All (HasTypes table) rows
rows_fit table [] [] h = All-nil (HasTypes table)
rows_fit table [] (row ∷ rows) h = absurd h
rows_fit table (r ∷ rs) [] h = absurd h
rows_fit table (r ∷ rs) (row ∷ rows) h = All-cons (HasTypes table) row rows (fits_columns table.columns r row h.0.0 h.0.1) (rows_fit table rs rows h.1)

pub loaded_fit : (table : TableInfo) (before : List Keyed) (block : List Record) (after : List Keyed) → All (FitsTable table) before → HasLoaded table before block after → All (FitsTable table) after
loaded_fit table before block after old h = joined_fit table before h.0 after old (rows_fit table block h.0 h.1) h.2

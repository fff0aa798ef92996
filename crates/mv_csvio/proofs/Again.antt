-- What was dumped loads again.
use Rattle.std.proofs.Common.{w64, inl, inr, ◌≡◌, ◌++◌, ◌∷◌, ◌<◌, ◌≤◌, ◌^◌, ◌==◌, ◌&&◌, ℕ, suc, true, false, List, [], map, length, Some, None, ℤ, pos, negsuc, neg_ℤ, refl, sym, ap, subst, ◌∙◌, arith}
use Rattle.std.specs.Prelude.{All, slice_index, nat_lt, nat_le, IsPermutation}
use Rattle.std.specs.Fmt.{decimal, signed_decimal}
use Rattle.std.specs.Int.RustNames.{FitsSigned}
use Rattle.std.specs.List.{AllZip, list_all}
use Rattle.std.specs.Str.{all_ascii_digits}
use Rattle.std.specs.Str.Parse.{IsNumeral, digits_value}
use Rattle.std.proofs.lemmas.Bool.{cases_Bool, ne_eqb, lt-ltb, le-leb, and_from}
use Rattle.std.proofs.lemmas.Fmt.{decimal_is_IsNumeral}
use Rattle.std.proofs.lemmas.Str.Parse.{digit_from_value, numerals_by_value, tells_all_ascii_digits, IsNumeralModel}
use Rattle.std.proofs.lemmas.List.Elements.{All-head, All-tail}
use Rattle.std.proofs.lemmas.List.Sorted.{IsPermutation-refl}
use Rattle.csv.specs.Machine.{next_record}
use Rattle.csv.specs.Reading.{Reached, default_config, records, strip_bom}
use Rattle.csv.specs.Writing.{default_writer, fields_text, is_blank, needs_quotes, row_text}
use Rattle.csv.specs.declared.parser.State.TheVariants as st
use Rattle.csv.proofs.RoundTrip.{read-write-many, read-write-one}
use Rattle.itoa.proofs.Decimal.{IsAscii-signed_decimal}
use Rattle.mv_values.specs.declared.value.Value.{Value}
use Rattle.mv_values.specs.declared.value.Value.TheVariants as value
use Rattle.mv_values.specs.declared.rows.Keyed.{Keyed}
use Rattle.mv_values.specs.declared.schema.ColType.{ColType}
use Rattle.mv_values.specs.declared.schema.ColType.TheVariants as column
use Rattle.mv_values.specs.declared.schema.Column.{Column}
use Rattle.mv_values.specs.declared.schema.TableInfo.{TableInfo}
use Rattle.mv_values.specs.Columns.{columns_of}
use Rattle.mv_values.specs.Keys.{IsRising}
use Rattle.mv_values.specs.Printable.{IsPrintable, is_printable}
use Rattle.mv_values.proofs.Printing.{passes_printable}
use Rattle.mv_csvio.specs.Csv.{field_of, row_csv, rows_csv}
use Rattle.mv_csvio.specs.Fields.{IsRow, are_digits, is_text, natural, negative, number_in, value_in, values_in}
use Rattle.mv_csvio.specs.Fitting.{AllFit, FitsTable, FitsType}
use Rattle.mv_csvio.specs.Joining.{under_key}
use Rattle.mv_csvio.specs.Loading.{HasLoaded, Record, records_of}
use Rattle.mv_csvio.proofs.Blocks.{all_records}

-- A number's decimal is that number

model : IsNumeralModel (λ ds. all_ascii_digits ds ≡ true) (digits_value 10)
model = numerals_by_value (λ ds. all_ascii_digits ds ≡ true) tells_all_ascii_digits

digits_are : (ds : List ℕ) → IsNumeral 10 ds → are_digits ds ≡ true
digits_are ds h = and_from _ _ (model.from ds h.1) (lt-ltb 0 (length ds) h.0)

natural_of : (ds : List ℕ) (n : ℕ) → IsNumeral 10 ds → digits_value 10 ds ≡ n → n < 2 ^ 63 → natural ds ≡ Some (pos n)
natural_of ds n h v small =
    let fits : (are_digits ds && nat_lt (digits_value 10 ds) (2 ^ 63)) ≡ true = and_from _ _ (digits_are ds h) (rw v (lt-ltb n (2 ^ 63) small)) in
    rw fits (ap (λ m. Some (pos m)) v)

negative_of : (ds : List ℕ) (n : ℕ) → IsNumeral 10 ds → digits_value 10 ds ≡ n → n ≤ 2 ^ 63 → negative ds ≡ Some (neg_ℤ (pos n))
negative_of ds n h v small =
    let fits : (are_digits ds && nat_le (digits_value 10 ds) (2 ^ 63)) ≡ true = and_from _ _ (digits_are ds h) (rw v (le-leb n (2 ^ 63) small)) in
    rw fits (ap (λ m. Some (neg_ℤ (pos m))) v)

unsigned_in : (ds : List ℕ) → IsNumeral 10 ds → number_in ds ≡ natural ds
unsigned_in [] h = absurd (omega (arith, h.0))
unsigned_in (b ∷ bs) h =
    let other : (b == 45) ≡ false = ne_eqb b 45 (λ e. omega (arith, e, digit_from_value b h.1.0)) in
    rw other refl

decimal_in : (z : ℤ) → FitsSigned w64 z → number_in (signed_decimal z) ≡ Some z
decimal_in (pos n) h =
    let k = decimal_is_IsNumeral n (omega (arith, h.sfits)) in
    unsigned_in (decimal n) k.0 ∙ natural_of (decimal n) n k.0 k.1 h.sfits
decimal_in (negsuc n) h =
    let k = decimal_is_IsNumeral (suc n) (omega (arith, h.sfits)) in
    negative_of (decimal (suc n)) (suc n) k.0 k.1 (omega (arith, h.sfits))

-- A value's field is that value

all_printable : (t : List ℕ) → All IsPrintable t → list_all is_printable t ≡ true
all_printable [] h = refl
all_printable (b ∷ bs) h = and_from _ _ (passes_printable b (All-head IsPrintable b bs h)) (all_printable bs (All-tail IsPrintable b bs h))

field_back : (k : ColType) (v : Value) → FitsType k v → value_in k (field_of v) ≡ Some v
field_back column.Int (value.Int z) h = rw (decimal_in z h) refl
field_back column.Int (value.Text t) h = absurd h
field_back (column.Text n) (value.Int z) h = absurd h
field_back (column.Text n) (value.Text t) h =
    let fits : is_text n t ≡ true = and_from _ _ (le-leb (length t) n h.1) (all_printable t h.0) in
    rw fits refl

fields_back : (columns : List Column) (row : List Value) → AllZip (λ c v. FitsType c.kind v) columns row → IsRow columns (map field_of row) row
unfolding values_in
fields_back [] [] h = (refl, refl)
fields_back [] (v ∷ row) h = absurd h
fields_back (c ∷ columns) [] h = absurd h
fields_back (c ∷ columns) (v ∷ row) h =
    let rest = fields_back columns row h.1 in
    (ap suc rest.0, rw (field_back c.kind v h.0, rest.1) refl)

-- The records of a dump are the rows' fields

one_back : (fields : Record) (tail : List ℕ) → 0 < length fields → next_record default_config st.StartRecord [] [] (row_text default_writer fields ++ tail) ≡ Some (fields, st.StartRecord, tail)
one_back [] tail h = absurd (omega (arith, h))
one_back (x ∷ []) tail h = read-write-one x tail
one_back (x ∷ y ∷ ys) tail h = read-write-many x y ys tail

same_length : {A B : Type 0} (R : A → B → Type 0) (xs : List A) (ys : List B) → AllZip R xs ys → length xs ≡ length ys
same_length R [] [] h = refl
same_length R [] (y ∷ ys) h = absurd h
same_length R (x ∷ xs) [] h = absurd h
same_length R (x ∷ xs) (y ∷ ys) h = ap suc (same_length R xs ys h.1)

has_fields : (table : TableInfo) (item : Keyed) → 0 < length table.columns → FitsTable table item → 0 < length (map field_of item.row)
has_fields table item some h = omega (arith, some, same_length (λ (c : Column) v. FitsType c.kind v) table.columns item.row h.0, (fields_back table.columns item.row h.0).0)

all_back : (table : TableInfo) (rows : List Keyed) → AllFit table rows → Reached default_config st.StartRecord (rows_csv rows) (map (λ item. map field_of item.row) rows) st.StartRecord []
unfolding Reached
all_back table [] h = (refl, refl)
all_back table (item ∷ rows) h =
    let fits = All-head (FitsTable table) item rows h.1 in (
      (map field_of item.row, st.StartRecord, rows_csv rows),
      one_back (map field_of item.row) (rows_csv rows) (has_fields table item h.0 fits),
      refl,
      all_back table rows (h.0, All-tail (FitsTable table) item rows h.1),
    )

no_more : next_record default_config st.StartRecord [] [] [] ≡ None
unfolding next_record
no_more = refl

-- No byte order mark begins a dump

keeps_all : (xs : List ℕ) → (slice_index xs 0 == 239) ≡ false → strip_bom xs ≡ xs
unfolding strip_bom
keeps_all [] h = refl
keeps_all (a ∷ []) h = refl
keeps_all (a ∷ b ∷ []) h = refl
keeps_all (a ∷ b ∷ c ∷ rest) h = rw h refl

first_plain : (f : List ℕ) (fs : Record) (tail : List ℕ) → needs_quotes default_writer f ≡ false → slice_index f 0 < 128 → (slice_index (row_text default_writer (f ∷ fs) ++ tail) 0 == 239) ≡ false
unfolding is_blank fields_text
first_plain [] [] tail plain low = refl
first_plain [] (g ∷ gs) tail plain low = refl
first_plain (b ∷ bs) [] tail plain low = rw plain (ne_eqb b 239 (λ e. omega (arith, e, low)))
first_plain (b ∷ bs) (g ∷ gs) tail plain low = rw plain (ne_eqb b 239 (λ e. omega (arith, e, low)))

first_quoted : (f : List ℕ) (fs : Record) (tail : List ℕ) → needs_quotes default_writer f ≡ true → (slice_index (row_text default_writer (f ∷ fs) ++ tail) 0 == 239) ≡ false
unfolding is_blank fields_text
first_quoted f [] tail quotes = rw quotes refl
first_quoted f (g ∷ gs) tail quotes = rw quotes refl

first_byte : (f : List ℕ) (fs : Record) (tail : List ℕ) → slice_index f 0 < 128 → (slice_index (row_text default_writer (f ∷ fs) ++ tail) 0 == 239) ≡ false
first_byte f fs tail low = elim (cases_Bool (needs_quotes default_writer f)) [
  | inl quotes ↦ first_quoted f fs tail quotes
  | inr plain ↦ first_plain f fs tail plain low
]

low_text : (t : List ℕ) → All IsPrintable t → slice_index t 0 < 128
low_text [] h = omega arith
low_text (b ∷ bs) h = omega (arith, (All-head IsPrintable b bs h).1)

low_field : (k : ColType) (v : Value) → FitsType k v → slice_index (field_of v) 0 < 128
low_field column.Int (value.Int z) h = IsAscii-signed_decimal z h 0
low_field column.Int (value.Text t) h = absurd h
low_field (column.Text n) (value.Int z) h = absurd h
low_field (column.Text n) (value.Text t) h = low_text t h.0

low_row : (columns : List Column) (row : List Value) (tail : List ℕ) → 0 < length columns → AllZip (λ c v. FitsType c.kind v) columns row → (slice_index (row_csv row ++ tail) 0 == 239) ≡ false
low_row [] row tail some h = absurd (omega (arith, some))
low_row (c ∷ columns) [] tail some h = absurd h
low_row (c ∷ columns) (v ∷ row) tail some h = first_byte (field_of v) (map field_of row) tail (low_field c.kind v h.0)

low_dump : (table : TableInfo) (rows : List Keyed) → AllFit table rows → (slice_index (rows_csv rows) 0 == 239) ≡ false
low_dump table [] h = refl
low_dump table (item ∷ rows) h = low_row table.columns item.row (rows_csv rows) h.0 (All-head (FitsTable table) item rows h.1).0

records_back : (table : TableInfo) (rows : List Keyed) → AllFit table rows → records_of (rows_csv rows) ≡ map (λ item. map field_of item.row) rows
records_back table rows h =
    ap (records default_config) (keeps_all (rows_csv rows) (low_dump table rows h))
    ∙ all_records default_config st.StartRecord (rows_csv rows) [] (map (λ item. map field_of item.row) rows) (all_back table rows h) no_more

-- The rows are those that were dumped

rows_back : (table : TableInfo) (rows : List Keyed) → AllFit table rows → AllZip (IsRow table.columns) (map (λ item. map field_of item.row) rows) (map (λ item. item.row) rows)
rows_back table [] h = tt
rows_back table (item ∷ rows) h =
    (fields_back table.columns item.row (All-head (FitsTable table) item rows h.1).0, rows_back table rows (h.0, All-tail (FitsTable table) item rows h.1))

keys_back : (table : TableInfo) (rows : List Keyed) → AllFit table rows → map (under_key table) (map (λ item. item.row) rows) ≡ rows
keys_back table [] h = refl
keys_back table (item ∷ rows) h =
    let stands : columns_of item.row table.key ≡ item.key = sym (All-head (FitsTable table) item rows h.1).1 in
    ap (λ (k : List Value). record { key = k; row = item.row } ∷ map (under_key table) (map (λ i. i.row) rows)) stands
    ∙ ap (λ l. item ∷ l) (keys_back table rows (h.0, All-tail (FitsTable table) item rows h.1))

pub loads_again : (table : TableInfo) (rows : List Keyed) → IsRising rows → AllFit table rows → HasLoaded table [] (records_of (rows_csv rows)) rows
loads_again table rows rising h = (
  map (λ item. item.row) rows,
  subst (λ (rs : List Record). AllZip (IsRow table.columns) rs (map (λ item. item.row) rows)) (sym (records_back table rows h)) (rows_back table rows h),
  (rising, subst (λ (l : List Keyed). IsPermutation l rows) (sym (keys_back table rows h)) (IsPermutation-refl rows)),
)

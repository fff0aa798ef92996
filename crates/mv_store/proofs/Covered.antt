-- What an index of versions covers, and the first index of a database.
use Rattle.std.proofs.Common.{◌≡◌, ◌<◌, ◌^◌, ◌==◌, ◌&&◌, ℕ, zero, suc, Bool, true, false, cond, inl, inr, List, [], ◌∷◌, Option, Some, None, Contains, length, map, slice_index_or, refl, sym, ap, subst, ◌∙◌, arith}
use Rattle.std.specs.Prelude.{◌||◌, not, Result, Ok, Err, IfErr}
use Rattle.std.specs.List.{list_any}
use Rattle.std.specs.Option.{is_some}
use Rattle.std.specs.Ordering.{is_eq}
use Rattle.std.proofs.lemmas.Bool.{cases_Bool, both_ways, false≢true, and_parts}
use Rattle.std.proofs.lemmas.Cmp.{tied_itself}
use Rattle.mv_values.specs.declared.value.Value.{Value}
use Rattle.mv_values.specs.declared.rows.Keyed.{Keyed}
use Rattle.mv_values.specs.Columns.{column_of}
use Rattle.mv_values.specs.Keys.{IsRising}
use Rattle.mv_values.specs.Order.{key_order, value_order}
use Rattle.mv_values.specs.Patching.{row_of}
use Rattle.mv_values.specs.Tables.{rows_at}
use Rattle.mv_values.proofs.KeyOrder.{tied, value_order_total}
use Rattle.mv_record.specs.Writes.{AreRising}
use Rattle.mv_record.proofs.Patching.{stands_exactly}
use Rattle.mv_table.specs.Entries.{item_of}
use Rattle.mv_chain.specs.Versions.{Versions, Commit, row_after, row_at, is_blank}
use Rattle.mv_chain.specs.Having.{row_has, has_value}
use Rattle.mv_chain.proofs.Blank.{nonzero}
use Rattle.mv_chain.proofs.Going.{at_from}
use Rattle.mv_view.specs.declared.view.Refused.{Refused}
use Rattle.mv_view.specs.declared.view.Refused.TheVariants.{NoMemory, Stale}
use Rattle.mv_view.specs.Viewing.{Sight, MayAnswer}
use Rattle.mv_index.specs.Indexing.{Contents, is_indexed, stands, is_known, lens_of, has_row, Covers}
use Rattle.mv_store.specs.Stored.{Entries, table_at}
use Rattle.mv_store.specs.Opened.{opened}
use Rattle.mv_store.specs.Kept.{versions_in, versions_of, versions_at, AllRise}
use Rattle.mv_index.proofs.Values.{same_value}
use Rattle.mv_store.specs.Indexed.{IsIndexOf}
use Rattle.mv_store.proofs.Keys.{row_in, rows_rise}
use Rattle.mv_store.proofs.Opening.{opened_all}

-- A row that is read

-- versions with a row aren't blank
full_by : (w : Versions) (n : ℕ) (row : List Value) → row_at w n ≡ Some row → is_blank w ≡ false
full_by w n row h = by w.base w.commits h
  where
    by : (base : Option (List Value)) (cs : List Commit) → row_after n base cs ≡ Some row → ((length cs == 0) && (length w.own == 0) && not (is_some base)) ≡ false
    by None [] e = cc
    by (Some r) [] e = none (length w.own == 0)
      where
        none : (a : Bool) → (true && a && false) ≡ false
        none false = refl
        none true = refl
    by base (c ∷ cs) e = rw (nonzero {A = Commit} c cs) refl

row_there : (n : ℕ) (tables : List Entries) (t k : ℕ) (d : Keyed) → AllRise tables → k < length (rows_at (map (table_at n) tables) t)
    → row_at (versions_at tables t (slice_index_or (rows_at (map (table_at n) tables) t) k d).key) n ≡ Some (slice_index_or (rows_at (map (table_at n) tables) t) k d).row
row_there n tables t k d rise lt =
    let rows = rows_at (map (table_at n) tables) t in
    let item = slice_index_or rows k d in
    sym (row_in n tables t item.key rise) ∙ (stands_exactly rows item (rows_rise n tables rise t)).0 (k, lt, same rows k d item lt)
  where
    same : (rows : List Keyed) (k : ℕ) (a b : Keyed) → k < length rows → slice_index_or rows k b ≡ slice_index_or rows k a
    same [] k a b lt = absurd (omega (arith, lt))
    same (x ∷ xs) zero a b lt = refl
    same (x ∷ xs) (suc k) a b lt = same xs k a b (omega (arith, lt))

value_itself : (c : ℕ) (row : List Value) → row_has c (column_of row c) (Some row) ≡ true
value_itself c row = ap is_eq (tied_itself value_order_total (column_of row c))

-- an index of versions covers the rows after each commit
pub covers_from : (n : ℕ) (tables : List Entries) (index : Contents) → AllRise tables → IsIndexOf tables index → Covers index (map (table_at n) tables)
covers_from n tables index rise is t small = record {
  keys = λ c on k d lt.
      let item = slice_index_or (rows_at (map (table_at n) tables) t) k d in
      (is t small).entries c on (column_of item.row c) item.key
      ∙ at_from c (column_of item.row c) n (versions_at tables t item.key) (ap (row_has c (column_of item.row c)) (row_there n tables t k d rise lt) ∙ value_itself c item.row);
  lens = λ k d lt.
      let item = slice_index_or (rows_at (map (table_at n) tables) t) k d in
      (is t small).lens item.key (full_by (versions_at tables t item.key) n item.row (row_there n tables t k d rise lt));
}

-- The first index

opened_versions : (rows : List Keyed) (key : List Value) → versions_of (opened rows) key ≡ record { base = row_of rows key; commits = []; own = [] }
opened_versions [] key = refl
opened_versions (item ∷ rows) key = by (is_eq (key_order item.key key)) (opened_versions rows key)
  where
    by : (b : Bool) → versions_of (opened rows) key ≡ record { base = row_of rows key; commits = []; own = [] }
        → versions_in (cond b (Some (record { base = Some item.row; commits = []; own = [] })) (item_of (opened rows) key)) ≡ record { base = cond b (Some item.row) (row_of rows key); commits = []; own = [] }
    by true h = refl
    by false h = h

opened_at : (db : List (List Keyed)) (t : ℕ) (key : List Value) → versions_at (map opened db) t key ≡ record { base = row_of (rows_at db t) key; commits = []; own = [] }
opened_at [] t key = refl
opened_at (rows ∷ db) zero key = opened_versions rows key
opened_at (rows ∷ db) (suc t) key = opened_at db t key

found_in : {A : Type 0} (p : A → Bool) (xs : List A) → list_any p xs ≡ true → (x : A) × Contains xs x × (p x ≡ true)
found_in p [] h = absurd (false≢true h)
found_in p (x ∷ xs) h = elim (cases_Bool (p x)) [
  | inl t ↦ (x, (zero, omega arith, refl), t)
  | inr f ↦ let more = found_in p xs (rw f at h) in (more.0, (suc more.1.0, omega (arith, more.1.1), more.1.2), more.2)
]

row_found : (rows : List Keyed) (c : ℕ) (v : Value) (key : List Value) → IsRising rows → has_row rows c v key ≡ true → row_has c v (row_of rows key) ≡ true
row_found rows c v key rising h =
    let found = found_in (λ (item : Keyed). is_eq (key_order item.key key) && is_eq (value_order (column_of item.row c) v)) rows h in
    let both = and_parts (is_eq (key_order found.0.key key)) (is_eq (value_order (column_of found.0.row c) v)) found.2 in
    ap (row_has c v) (ap (row_of rows) (sym (tied found.0.key key both.0)) ∙ (stands_exactly rows found.0 rising).0 found.1) ∙ both.1

-- the row with a key has its value, so the key stands
there : (index : Contents) (db : List (List Keyed)) (t c : ℕ) (v : Value) (key row : List Value) → AreRising db → t < 2 ^ 8 → Covers index db → is_indexed index t c ≡ true → row_of (rows_at db t) key ≡ Some row → row_has c v (Some row) ≡ true
    → stands index t c v key ≡ true
there index db t c v key row rising small covers on found has =
    let rows = rows_at db t in
    let item : Keyed = record { key = key; row = row } in
    let at = (stands_exactly rows item (rising t)).1 found in
    let same : column_of row c ≡ v = same_value (column_of row c) v has in
    subst (λ w. stands index t c w key ≡ true) same
    (subst (λ (x : Keyed). stands index t c (column_of x.row c) x.key ≡ true) at.2 ((covers t small).keys c on at.0 item at.1))

both_same : (a b : Bool) → (a ≡ true → b ≡ true) → (b ≡ true → a ≡ true) → a ≡ b
both_same false false f g = refl
both_same false true f g = g refl
both_same true b f g = sym (f refl)

or_none : (b : Bool) → ((b || false) || false) ≡ b
or_none false = refl
or_none true = refl

pub opened_index : (db : List (List Keyed)) (index : Contents) → AllRise (map opened db) → Covers index db → ((t c : ℕ) (v : Value) (k : List Value) → stands index t c v k ≡ true → has_row (rows_at db t) c v k ≡ true) → IsIndexOf (map opened db) index
opened_index db index rise covers only t small = record {
  entries = λ c on v key.
      both_same (stands index t c v key) (row_has c v (row_of (rows_at db t) key)) (λ h. row_found (rows_at db t) c v key (rising t) (only t c v key h)) (λ h. at c on v key (row_of (rows_at db t) key) refl h)
      ∙ (sym (or_none (row_has c v (row_of (rows_at db t) key))) ∙ sym (ap (has_value c v) (opened_at db t key)));
  lens = λ key full. known key (row_of (rows_at db t) key) refl (sym (ap is_blank (opened_at db t key)) ∙ full);
}
  where
    rising : AreRising db
    rising = subst AreRising (opened_all 0 db) (rows_rise 0 (map opened db) rise)

    at : (c : ℕ) → is_indexed index t c ≡ true → (v : Value) (key : List Value) (o : Option (List Value)) → row_of (rows_at db t) key ≡ o → row_has c v o ≡ true → stands index t c v key ≡ true
    at c on v key None is h = absurd (false≢true h)
    at c on v key (Some row) is h = there index db t c v key row rising small covers on is h

    known : (key : List Value) (o : Option (List Value)) → row_of (rows_at db t) key ≡ o → is_blank (record { base = row_of (rows_at db t) key; commits = []; own = [] }) ≡ false → is_known (lens_of index t) (length key) ≡ true
    known key None is full = let blank_is : is_blank (record { base = row_of (rows_at db t) key; commits = []; own = [] }) ≡ true = ap (λ o. is_blank (record { base = o; commits = []; own = [] })) is in absurd (both_ways _ full blank_is)
    known key (Some row) is full =
        let item : Keyed = record { key = key; row = row } in
        let place = (stands_exactly (rows_at db t) item (rising t)).1 is in
        subst (λ (x : Keyed). is_known (lens_of index t) (length x.key) ≡ true) place.2 ((covers t small).lens place.0 item place.1)

-- A view that isn't stale answers only that there is no memory

pub never_stale : {A : Type 0} (before after : Sight) (r : Result A Refused) → before.may_be_stale ≡ false → MayAnswer before after r → IfErr r (λ e. e ≡ NoMemory)
never_stale before after (Ok x) fresh h = tt
never_stale before after (Err NoMemory) fresh h = refl
never_stale before after (Err (Stale start low)) fresh h = let no : false ≡ true = sym fresh ∙ h.may_be in absurd (false≢true no)

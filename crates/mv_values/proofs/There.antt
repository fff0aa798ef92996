-- A row is there where look-up by its key finds it.
use Rattle.std.proofs.Common.{◌≡◌, ℕ, zero, suc, ◌+◌, ◌<◌, Bool, true, false, cond, List, [], ◌∷◌, ◌++◌, Option, Some, None, All, drop, length, slice_get, slice_index_or, refl, sym, ap, ◌∙◌, arith}
use Rattle.std.specs.Prelude.{◌&&◌, ◌||◌}
use Rattle.std.specs.List.{AllByRecursion, list_all}
use Rattle.std.specs.Option.{is_some}
use Rattle.std.specs.Ordering.{is_eq, ordering_then}
use Rattle.std.specs.declared.cmp.Ordering.{Ordering}
use Rattle.std.specs.declared.cmp.Ordering.TheVariants.{Less, Equal, Greater}
use Rattle.std.proofs.lemmas.List.{drop_more, length-map}
use Rattle.std.proofs.lemmas.List.Elements.{All-head, All-tail}
use Rattle.mv_values.specs.declared.value.Value.{Value}
use Rattle.mv_values.specs.declared.rows.Keyed.{Keyed}
use Rattle.mv_values.specs.declared.schema.Column.{Column}
use Rattle.mv_values.specs.declared.schema.TableInfo.{TableInfo}
use Rattle.mv_values.specs.Columns.{column_of}
use Rattle.mv_values.specs.Order.{value_order, key_order}
use Rattle.mv_values.specs.Patching.{row_of}
use Rattle.mv_values.specs.References.{Reference, parent_in, reference, references, references_from, is_there, OneKeys, HaveOneKey, ParentsHaveOneKey}
use Rattle.mv_values.specs.Tables.{columns_at, key_columns, rows_at, KeysStand, StandsUnder, Tables}

one_key : (v : Value) (key : List Value) → length key ≡ 1 → list_all (λ w. is_eq (value_order w v)) key ≡ is_eq (key_order key (v ∷ []))
one_key v [] h = cc
one_key v (w ∷ []) h = by (value_order w v)
  where
    by : (o : Ordering) → (is_eq o && true) ≡ is_eq (ordering_then o Equal)
    by Less = refl
    by Equal = refl
    by Greater = refl
one_key v (w ∷ x ∷ key) h = absurd (omega (arith, h))

-- where keys have one column, a row with a key is found by look-up
there_by_key : (v : Value) (rows : List Keyed) → HaveOneKey rows → is_there v rows ≡ is_some (row_of rows (v ∷ []))
there_by_key v [] h = refl
there_by_key v (r ∷ rs) h = ap (λ b. b || is_there v rs) (one_key v r.key h.0) ∙ by (is_eq (key_order r.key (v ∷ []))) (there_by_key v rs h.1)
  where
    by : (b : Bool) → is_there v rs ≡ is_some (row_of rs (v ∷ [])) → (b || is_there v rs) ≡ is_some (cond b (Some r.row) (row_of rs (v ∷ [])))
    by true k = refl
    by false k = k

pub found : (v : Value) (rows : List Keyed) → HaveOneKey rows → is_some (row_of rows (v ∷ [])) ≡ is_there v rows
found v rows h = sym (there_by_key v rows h)

-- rows under their own values of one column
have_one_key : (columns : List ℕ) (rows : List Keyed) → length columns ≡ 1 → All (StandsUnder columns) rows → HaveOneKey rows
have_one_key columns [] one h = tt
have_one_key columns (r ∷ rs) one h = (
  ap length (All-head (StandsUnder columns) r rs h) ∙ (length-map columns (λ c. column_of r.row c) ∙ one),
  have_one_key columns rs one (All-tail (StandsUnder columns) r rs h),
)

pub parents_have_one_key : (tables : List TableInfo) (db : Tables) → OneKeys tables → KeysStand tables db → ParentsHaveOneKey tables db
parents_have_one_key tables db one keys t c parent is = have_one_key (key_columns tables parent) (rows_at db parent) (one t c parent is) (keys parent)

-- Columns with REFERENCES one after another

-- the columns from a place on
pub refs_step : (t at : ℕ) (columns : List Column) (c : Column) → at < length columns → c ≡ slice_index_or columns at c
    → references_from t at (drop at columns) ≡ reference t at c.refers ++ references_from t (at + 1) (drop (at + 1) columns)
refs_step t at columns c lt is = ap (references_from t at) (drop_more columns at c lt ∙ ap (λ x. x ∷ drop (at + 1) columns) (sym is))

pub back_of : (P : Reference → Type 0) (xs ys : List Reference) → AllByRecursion P (xs ++ ys) → AllByRecursion P ys
back_of P [] ys h = h
back_of P (x ∷ xs) ys h = back_of P xs ys h.1

-- the keys of the parent's rows have one column
abbrev pub OneKeyed : Tables → Reference → Type 0
OneKeyed db r = HaveOneKey (rows_at db r.parent)

refs_one_keyed : (t n : ℕ) (db : Tables) (columns : List Column) → ((c parent : ℕ) → parent_in (slice_get columns c) ≡ Some parent → HaveOneKey (rows_at db parent))
    → AllByRecursion (OneKeyed db) (references_from t n columns)
refs_one_keyed t n db [] h = tt
refs_one_keyed t n db (c ∷ cs) h = by c.refers refl (refs_one_keyed t (n + 1) db cs (λ k parent is. h (suc k) parent is))
  where
    by : (o : Option ℕ) → c.refers ≡ o → AllByRecursion (OneKeyed db) (references_from t (n + 1) cs) → AllByRecursion (OneKeyed db) (reference t n o ++ references_from t (n + 1) cs)
    by None is rest = rest
    by (Some parent) is rest = (h zero parent is, rest)

pub references_one_keyed : (tables : List TableInfo) (db : Tables) (t : ℕ) → ParentsHaveOneKey tables db → AllByRecursion (OneKeyed db) (references tables t)
references_one_keyed tables db t h = refs_one_keyed t 0 db (columns_at tables t) (λ c parent is. h t c parent is)

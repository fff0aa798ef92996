-- Statements that change a table, from what becomes of its rows.
use Rattle.std.proofs.Common.{◌≡◌, ℕ, Bool, true, false, List, Result, Ok, Err, slice_set, if◌then◌else◌, refl, sym, ap, ◌∙◌}
use Rattle.mv_values.specs.declared.pred.Test.{Test}
use Rattle.mv_values.specs.declared.rows.Keyed.{Keyed}
use Rattle.mv_values.specs.declared.schema.TableInfo.{TableInfo}
use Rattle.mv_values.specs.declared.calls.End.{End}
use Rattle.mv_values.specs.declared.calls.End.TheVariants.{MissingParent, HasChildren}
use Rattle.mv_values.specs.declared.value.Value.{Value}
use Rattle.mv_values.specs.References.{references, references_to}
use Rattle.mv_values.specs.Tables.{key_columns, columns_at, rows_at, Tables}
use Rattle.mv_catalog.specs.declared.resolved.RCond.{RCond}
use Rattle.mv_catalog.specs.declared.resolved.RExpr.{RExpr}
use Rattle.mv_catalog.specs.declared.resolved.RSetItem.{RSetItem}
use Rattle.mv_eval.specs.declared.state.State.{State}
use Rattle.mv_eval.specs.declared.state.Stop.{Stop}
use Rattle.mv_eval.specs.declared.state.Stop.TheVariants.{Memory, Ended}
use Rattle.mv_eval.specs.Results.{then_do, Fails}
use Rattle.mv_eval.specs.Env.{with_found}
use Rattle.mv_eval.specs.Rows.{tests_of, is_some_row}
use Rattle.mv_eval.specs.Changes.{set_row_by, updated, without, new_row, put_row, keyed}
use Rattle.mv_eval.specs.References.{fit_in, has_parents, has_children}
use Rattle.mv_eval.specs.Alone.{insert, update, delete, matching_in, with_rows}

-- the database with the rows that a table gets
abbrev pub table_with : Tables → ℕ → Result (List Keyed) End → Result Tables End
table_with db t r = then_do r (λ rows. Ok (slice_set db t rows))

tables_ok : {new : Tables} (db : Tables) (t : ℕ) (rows : List Keyed) → ◌≡◌ {A = Result Tables End} (Ok (slice_set db t rows)) (Ok new) → slice_set db t rows ≡ new
tables_ok db t rows h = cc

state_made : (r : Result (List Keyed) End) (t : ℕ) (found : Bool) (st : State) (new : Tables) → table_with st.tables t r ≡ Ok new
    → then_do r (λ rows. Ok (with_rows t rows found st)) ≡ Ok (record st { env = with_found st.env found; tables = new })
state_made (Ok rows) t found st new h = ap (λ (d : Tables). Ok (record st { env = with_found st.env found; tables = d })) (tables_ok st.tables t rows h)
state_made (Err e) t found st new h = cc

state_failed : {B : Type 0} (r : Result (List Keyed) End) (db : Tables) (t : ℕ) (go : List Keyed → Result B End) (e : End) → table_with db t r ≡ Err e → then_do r go ≡ Err e
state_failed (Ok rows) db t go e h = cc
state_failed (Err f) db t go e h = let same : f ≡ e = cc in ap Err same

-- the rows that UPDATE gives a table
abbrev pub updated_at : List TableInfo → ℕ → List RSetItem → List Test → State → Result (List Keyed) End
updated_at tables t items tests st = updated (λ row. set_row_by (fit_in tables t st.tables) (key_columns tables t) st.env row items row) tests (rows_at st.tables t)

update_on : (tables : List TableInfo) (t : ℕ) (items : List RSetItem) (conds : List RCond) (st : State) (tests : List Test) → tests_of (key_columns tables t) conds st.env ≡ Ok tests
    → update tables t items conds st ≡ then_do (updated_at tables t items tests st) (λ rows. Ok (with_rows t rows (is_some_row (matching_in t tests st)) st))
update_on tables t items conds st tests h = rw h refl

pub update_ok : (tables : List TableInfo) (t : ℕ) (items : List RSetItem) (conds : List RCond) (st : State) (tests : List Test) (new : Tables) → tests_of (key_columns tables t) conds st.env ≡ Ok tests
    → table_with st.tables t (updated_at tables t items tests st) ≡ Ok new
    → update tables t items conds st ≡ Ok (record st { env = with_found st.env (is_some_row (matching_in t tests st)); tables = new })
update_ok tables t items conds st tests new h k = update_on tables t items conds st tests h ∙ state_made (updated_at tables t items tests st) t (is_some_row (matching_in t tests st)) st new k

pub update_fails : (tables : List TableInfo) (t : ℕ) (items : List RSetItem) (conds : List RCond) (st : State) (tests : List Test) (s : Stop) → tests_of (key_columns tables t) conds st.env ≡ Ok tests
    → Fails s (table_with st.tables t (updated_at tables t items tests st)) → Fails s (update tables t items conds st)
update_fails tables t items conds st tests Memory h k = tt
update_fails tables t items conds st tests (Ended e) h k =
    update_on tables t items conds st tests h ∙ state_failed (updated_at tables t items tests st) st.tables t (λ rows. Ok (with_rows t rows (is_some_row (matching_in t tests st)) st)) e k

delete_on : (tables : List TableInfo) (t : ℕ) (conds : List RCond) (st : State) (tests : List Test) → tests_of (key_columns tables t) conds st.env ≡ Ok tests
    → delete tables t conds st
    ≡ (if has_children (references_to tables t) t tests st.tables (matching_in t tests st) then Err HasChildren
    else Ok (with_rows t (without tests (rows_at st.tables t)) (is_some_row (matching_in t tests st)) st))
delete_on tables t conds st tests h = rw h refl

passes : {A : Type 0} (b : Bool) (x y : A) → b ≡ false → (if b then x else y) ≡ y
passes true x y h = cc
passes false x y h = refl

stops : {A : Type 0} (b : Bool) (x y : A) → b ≡ true → (if b then x else y) ≡ x
stops true x y h = refl
stops false x y h = cc

pub delete_ok : (tables : List TableInfo) (t : ℕ) (conds : List RCond) (st : State) (tests : List Test) (new : Tables) → tests_of (key_columns tables t) conds st.env ≡ Ok tests
    → has_children (references_to tables t) t tests st.tables (matching_in t tests st) ≡ false → new ≡ slice_set st.tables t (without tests (rows_at st.tables t))
    → delete tables t conds st ≡ Ok (record st { env = with_found st.env (is_some_row (matching_in t tests st)); tables = new })
delete_ok tables t conds st tests new h none is =
    delete_on tables t conds st tests h
    ∙ (passes (has_children (references_to tables t) t tests st.tables (matching_in t tests st)) (Err HasChildren) (Ok (with_rows t (without tests (rows_at st.tables t)) (is_some_row (matching_in t tests st)) st)) none
    ∙ ap (λ (d : Tables). Ok (record st { env = with_found st.env (is_some_row (matching_in t tests st)); tables = d })) (sym is))

pub delete_stops : (tables : List TableInfo) (t : ℕ) (conds : List RCond) (st : State) (tests : List Test) → tests_of (key_columns tables t) conds st.env ≡ Ok tests
    → has_children (references_to tables t) t tests st.tables (matching_in t tests st) ≡ true → delete tables t conds st ≡ Err HasChildren
delete_stops tables t conds st tests h some =
    delete_on tables t conds st tests h
    ∙ stops (has_children (references_to tables t) t tests st.tables (matching_in t tests st)) (Err HasChildren) (Ok (with_rows t (without tests (rows_at st.tables t)) (is_some_row (matching_in t tests st)) st)) some

-- INSERT, once its row is made
abbrev put_in : List TableInfo → ℕ → State → Keyed → Result State End
put_in tables t st item =
    then_do (put_row item (rows_at st.tables t)) (λ rows. if has_parents (references tables t) item st.tables then Ok (with_rows t rows true st) else Err MissingParent)

insert_on : (tables : List TableInfo) (t : ℕ) (es : List RExpr) (st : State) (row : List Value) (item : Keyed) → new_row (columns_at tables t) es st.env ≡ Ok row → item ≡ keyed (key_columns tables t) row
    → insert tables t es st ≡ put_in tables t st item
insert_on tables t es st row item made is =
    ap (λ r. then_do r (λ row. put_in tables t st (keyed (key_columns tables t) row))) made ∙ ap (put_in tables t st) (sym is)

pub insert_ok : (tables : List TableInfo) (t : ℕ) (es : List RExpr) (st : State) (row : List Value) (item : Keyed) (new : Tables) → new_row (columns_at tables t) es st.env ≡ Ok row
    → item ≡ keyed (key_columns tables t) row → table_with st.tables t (put_row item (rows_at st.tables t)) ≡ Ok new → has_parents (references tables t) item st.tables ≡ true
    → insert tables t es st ≡ Ok (record st { env = with_found st.env true; tables = new })
insert_ok tables t es st row item new made is put has =
    insert_on tables t es st row item made is ∙ by (put_row item (rows_at st.tables t)) (has_parents (references tables t) item st.tables) put has
  where
    by : (r : Result (List Keyed) End) (b : Bool) → table_with st.tables t r ≡ Ok new → b ≡ true
        → then_do r (λ rows. if b then Ok (with_rows t rows true st) else Err MissingParent) ≡ Ok (record st { env = with_found st.env true; tables = new })
    by r true p h = state_made r t true st new p
    by r false p h = cc

pub insert_stops : (tables : List TableInfo) (t : ℕ) (es : List RExpr) (st : State) (row : List Value) (item : Keyed) (new : Tables) → new_row (columns_at tables t) es st.env ≡ Ok row
    → item ≡ keyed (key_columns tables t) row → table_with st.tables t (put_row item (rows_at st.tables t)) ≡ Ok new → has_parents (references tables t) item st.tables ≡ false
    → insert tables t es st ≡ Err MissingParent
insert_stops tables t es st row item new made is put lacks =
    insert_on tables t es st row item made is ∙ by (put_row item (rows_at st.tables t)) (has_parents (references tables t) item st.tables) put lacks
  where
    by : (r : Result (List Keyed) End) (b : Bool) → table_with st.tables t r ≡ Ok new → b ≡ false → then_do r (λ rows. if b then Ok (with_rows t rows true st) else Err MissingParent) ≡ Err MissingParent
    by (Ok rows) false p h = refl
    by (Ok rows) true p h = cc
    by (Err e) b p h = cc

pub insert_fails : (tables : List TableInfo) (t : ℕ) (es : List RExpr) (st : State) (row : List Value) (item : Keyed) (s : Stop) → new_row (columns_at tables t) es st.env ≡ Ok row
    → item ≡ keyed (key_columns tables t) row → Fails s (table_with st.tables t (put_row item (rows_at st.tables t))) → Fails s (insert tables t es st)
insert_fails tables t es st row item Memory made is k = tt
insert_fails tables t es st row item (Ended e) made is k =
    insert_on tables t es st row item made is
    ∙ state_failed (put_row item (rows_at st.tables t)) st.tables t (λ rows. if has_parents (references tables t) item st.tables then Ok (with_rows t rows true st) else Err MissingParent) e k

-- Statements leave each row under its own values of the key columns.
use Rattle.std.proofs.Common.{◌≡◌, ℕ, zero, suc, ◌==◌, Bool, true, false, cond, List, [], ◌∷◌, Result, Ok, Err, slice_set, pos, refl, sym, ap, subst, ◌∙◌}
use Rattle.std.proofs.lemmas.List.{get_or-set_other}
use Rattle.std.proofs.lemmas.List.Elements.{All-cons, All-head, All-tail, All-filter}
use Rattle.std.specs.Prelude.{not, if◌then◌else◌}
use Rattle.std.specs.List.{list_any}
use Rattle.std.specs.declared.cmp.Ordering.{Ordering}
use Rattle.std.specs.declared.cmp.Ordering.TheVariants.{Less, Equal, Greater}
use Rattle.std.proofs.lemmas.Bool.{or_parts, eqb-false}
use Rattle.mv_values.specs.Preds.{meets}
use Rattle.mv_values.specs.declared.value.Value.{Value}
use Rattle.mv_values.specs.declared.value.Value.TheVariants.{Int}
use Rattle.mv_values.specs.declared.pred.Test.{Test}
use Rattle.mv_values.specs.declared.rows.Keyed.{Keyed}
use Rattle.mv_values.specs.declared.schema.TableInfo.{TableInfo}
use Rattle.mv_values.specs.declared.calls.End.{End}
use Rattle.mv_values.specs.Columns.{column_of, columns_of}
use Rattle.mv_values.specs.Order.{key_order}
use Rattle.mv_values.specs.Tables.{key_columns, columns_at, rows_at, KeysStand, Tables, StandsUnder}
use Rattle.mv_catalog.specs.declared.resolved.RCond.{RCond}
use Rattle.mv_catalog.specs.declared.resolved.RExpr.{RExpr}
use Rattle.mv_catalog.specs.declared.resolved.RSetItem.{RSetItem}
use Rattle.mv_eval.specs.declared.state.Env.{Env}
use Rattle.mv_eval.specs.declared.state.State.{State}
use Rattle.mv_eval.specs.Results.{then_do}
use Rattle.mv_eval.specs.Value.{value_of}
use Rattle.mv_eval.specs.Rows.{tests_of, is_some_row}
use Rattle.mv_eval.specs.References.{fit_in, has_parents, has_children}
use Rattle.mv_values.specs.References.{references, references_to}
use Rattle.mv_values.specs.declared.calls.End.TheVariants.{MissingParent, HasChildren}
use Rattle.mv_eval.specs.Changes.{with_column, set_row_by, updated, without, put_row_by, put_row, new_row, keyed}
use Rattle.mv_eval.specs.Alone.{matching_in, with_rows, insert, update, delete}
use Rattle.mv_eval.specs.Own.{StandUnder}

abbrev pub New : Type 0
New = List Value → Result (List Value) End

-- what holds of each table holds where one gets rows of which it holds
set_at : (P : ℕ → List Keyed → Type 0) (db : Tables) (t : ℕ) (rows : List Keyed) → ((u : ℕ) → P u (rows_at db u)) → P t rows → (u : ℕ) → P u (rows_at (slice_set db t rows) u)
set_at P [] t rows h p u = h u
set_at P (r ∷ db) zero rows h p zero = p
set_at P (r ∷ db) zero rows h p (suc u) = h (suc u)
set_at P (r ∷ db) (suc t) rows h p zero = h zero
set_at P (r ∷ db) (suc t) rows h p (suc u) = set_at (λ n. P (suc n)) db t rows (λ n. h (suc n)) p u

pub stand_set : (infos : List TableInfo) (db : Tables) (t : ℕ) (rows : List Keyed) → KeysStand infos db → StandUnder (key_columns infos t) rows → KeysStand infos (slice_set db t rows)
stand_set infos db t rows h k = set_at (λ u rows. StandUnder (key_columns infos u) rows) db t rows h k

-- the key columns stay where another column is set
columns_set : (row : List Value) (c : ℕ) (v : Value) (keys : List ℕ) → list_any (λ k. k == c) keys ≡ false → columns_of (slice_set row c v) keys ≡ columns_of row keys
columns_set row c v [] h = refl
columns_set row c v (k ∷ ks) h =
    let two = or_parts (k == c) (list_any (λ j. j == c) ks) h in
    let here : column_of (slice_set row c v) k ≡ column_of row k = get_or-set_other row c k v (Int (pos 0)) (λ same. eqb-false k c two.0 same) in
    ap (λ x. x ∷ columns_of (slice_set row c v) ks) here ∙ ap (λ l. column_of row k ∷ l) (columns_set row c v ks two.1)

column_keeps : (keys : List ℕ) (c : ℕ) (v : Value) (row : List Value) → columns_of (with_column keys c v row) keys ≡ columns_of row keys
column_keeps keys c v row = by (list_any (λ k. k == c) keys) refl
  where
    by : (b : Bool) → list_any (λ k. k == c) keys ≡ b → columns_of (cond b row (slice_set row c v)) keys ≡ columns_of row keys
    by true e = refl
    by false e = columns_set row c v keys e

-- the items of SET leave the key columns
pub set_row_keeps : (fits : ℕ → Value → Result Value End) (keys : List ℕ) (env : Env) (was : List Value) (items : List RSetItem) (row made : List Value) → set_row_by fits keys env was items row ≡ Ok made → columns_of made keys ≡ columns_of row keys
set_row_keeps fits keys env was [] row made h = let same : row ≡ made = cc in ap (λ r. columns_of r keys) (sym same)
set_row_keeps fits keys env was (i ∷ is) row made h = by (value_of i.right env was) h (λ w. set_row_keeps fits keys env was is (with_column keys i.column w row) made)
  where
    fitting : (r : Result Value End) → then_do r (λ w. set_row_by fits keys env was is (with_column keys i.column w row)) ≡ Ok made
        → ((w : Value) → set_row_by fits keys env was is (with_column keys i.column w row) ≡ Ok made → columns_of made keys ≡ columns_of (with_column keys i.column w row) keys) → columns_of made keys ≡ columns_of row keys
    fitting (Ok w) h later = later w h ∙ column_keeps keys i.column w row
    fitting (Err e) h later = cc

    by : (r : Result Value End) → then_do r (λ v. then_do (fits i.column v) (λ w. set_row_by fits keys env was is (with_column keys i.column w row))) ≡ Ok made
        → ((w : Value) → set_row_by fits keys env was is (with_column keys i.column w row) ≡ Ok made → columns_of made keys ≡ columns_of (with_column keys i.column w row) keys) → columns_of made keys ≡ columns_of row keys
    by (Ok v) h later = fitting (fits i.column v) h later
    by (Err e) h later = cc

pub updated_stand : (new : New) (keys : List ℕ) (tests : List Test) → ((row made : List Value) → new row ≡ Ok made → columns_of made keys ≡ columns_of row keys)
    → (items made : List Keyed) → StandUnder keys items → updated new tests items ≡ Ok made → StandUnder keys made
updated_stand new keys tests keeps [] made h is = let none : [] ≡ made = cc in subst (StandUnder keys) none h
updated_stand new keys tests keeps (item ∷ items) made h is =
    by (meets tests item.row) (new item.row) refl (updated new tests items) (λ rest. updated_stand new keys tests keeps items rest (All-tail (StandsUnder keys) _ _ h)) is
  where
    first : StandsUnder keys item
    first = All-head (StandsUnder keys) _ _ h

    kept : (head : Keyed) → StandsUnder keys head → (s : Result (List Keyed) End) → ((rest : List Keyed) → s ≡ Ok rest → StandUnder keys rest) → then_do s (λ rest. Ok (head ∷ rest)) ≡ Ok made → StandUnder keys made
    kept head p (Ok rest) later is = let same : head ∷ rest ≡ made = cc in subst (StandUnder keys) same (All-cons (StandsUnder keys) head rest p (later rest refl))
    kept head p (Err e) later is = cc

    changed : (r : Result (List Value) End) → new item.row ≡ r → (s : Result (List Keyed) End) → ((rest : List Keyed) → s ≡ Ok rest → StandUnder keys rest)
        → then_do r (λ row. then_do s (λ rest. Ok (record item { row = row } ∷ rest))) ≡ Ok made → StandUnder keys made
    changed (Ok row) e s later is = kept (record item { row = row }) (first ∙ sym (keeps item.row row e)) s later is
    changed (Err f) e s later is = cc

    by : (b : Bool) (r : Result (List Value) End) → new item.row ≡ r → (s : Result (List Keyed) End) → ((rest : List Keyed) → s ≡ Ok rest → StandUnder keys rest)
        → cond b (then_do r (λ row. then_do s (λ rest. Ok (record item { row = row } ∷ rest)))) (then_do s (λ rest. Ok (item ∷ rest))) ≡ Ok made → StandUnder keys made
    by true r e s later is = changed r e s later is
    by false r e s later is = kept item first s later is

pub put_stands : (keys : List ℕ) (new : Keyed) (rows made : List Keyed) → StandsUnder keys new → StandUnder keys rows → put_row new rows ≡ Ok made → StandUnder keys made
put_stands keys new [] made p h is = let same : new ∷ [] ≡ made = cc in subst (StandUnder keys) same (All-cons (StandsUnder keys) new [] p h)
put_stands keys new (item ∷ items) made p h is =
    by (key_order new.key item.key) (put_row new items) (λ rest. put_stands keys new items rest p (All-tail (StandsUnder keys) _ _ h)) is
  where
    by : (o : Ordering) (s : Result (List Keyed) End) → ((rest : List Keyed) → s ≡ Ok rest → StandUnder keys rest) → put_row_by o new item items s ≡ Ok made → StandUnder keys made
    by Less s later is = let same : new ∷ item ∷ items ≡ made = cc in subst (StandUnder keys) same (All-cons (StandsUnder keys) new (item ∷ items) p h)
    by Equal s later is = cc
    by Greater (Ok rest) later is =
        let same : item ∷ rest ≡ made = cc in subst (StandUnder keys) same (All-cons (StandsUnder keys) item rest (All-head (StandsUnder keys) _ _ h) (later rest refl))
    by Greater (Err e) later is = cc

-- what a result goes on to where it isn't an end
pub goes_to : {A B : Type 0} (r : Result A End) (go : A → Result B End) (y : B) → then_do r go ≡ Ok y → (x : A) × (r ≡ Ok x) × (go x ≡ Ok y)
goes_to (Ok x) go y h = (x, refl, h)
goes_to (Err e) go y h = cc

-- the state behind new rows of a table that stand under their keys
rows_stand : (infos : List TableInfo) (t : ℕ) (rows : List Keyed) (found : Bool) (st next : State) → KeysStand infos st.tables → StandUnder (key_columns infos t) rows
    → ◌≡◌ {A = Result State End} (Ok (with_rows t rows found st)) (Ok next) → KeysStand infos next.tables
rows_stand infos t rows found st next h k is =
    let same : with_rows t rows found st ≡ next = cc in
    subst (λ (s : State). KeysStand infos s.tables) same (stand_set infos st.tables t rows h k)

-- a test passed where it goes on
pub unless : (b : Bool) (e : End) (st next : State) → ◌≡◌ {A = Result State End} (if b then Err e else Ok st) (Ok next) → ◌≡◌ {A = Result State End} (Ok st) (Ok next)
unless true e st next h = cc
unless false e st next h = h

pub whenever : (b : Bool) (e : End) (st next : State) → ◌≡◌ {A = Result State End} (if b then Ok st else Err e) (Ok next) → ◌≡◌ {A = Result State End} (Ok st) (Ok next)
whenever true e st next h = h
whenever false e st next h = cc

pub update_keeps : (infos : List TableInfo) (t : ℕ) (items : List RSetItem) (conds : List RCond) (st next : State) → KeysStand infos st.tables → update infos t items conds st ≡ Ok next → KeysStand infos next.tables
update_keeps infos t items conds st next h is =
    let new : New = λ row. set_row_by (fit_in infos t st.tables) (key_columns infos t) st.env row items row in
    let go : List Test → Result State End = λ tests. then_do (updated new tests (rows_at st.tables t)) (λ rows. Ok (with_rows t rows (is_some_row (matching_in t tests st)) st)) in
    let checked = goes_to (tests_of (key_columns infos t) conds st.env) go next is in
    let made = goes_to (updated new checked.0 (rows_at st.tables t)) (λ rows. Ok (with_rows t rows (is_some_row (matching_in t checked.0 st)) st)) next checked.2 in
    rows_stand infos t made.0 (is_some_row (matching_in t checked.0 st)) st next h
    (updated_stand new (key_columns infos t) checked.0 (λ row made is. set_row_keeps (fit_in infos t st.tables) (key_columns infos t) st.env row items row made is) (rows_at st.tables t) made.0 (h t) made.1) made.2

pub delete_keeps : (infos : List TableInfo) (t : ℕ) (conds : List RCond) (st next : State) → KeysStand infos st.tables → delete infos t conds st ≡ Ok next → KeysStand infos next.tables
delete_keeps infos t conds st next h is =
    let go : List Test → Result State End = λ tests.
    if has_children (references_to infos t) t tests st.tables (matching_in t tests st) then Err HasChildren else Ok (with_rows t (without tests (rows_at st.tables t)) (is_some_row (matching_in t tests st)) st) in
    let checked = goes_to (tests_of (key_columns infos t) conds st.env) go next is in
    rows_stand infos t (without checked.0 (rows_at st.tables t)) (is_some_row (matching_in t checked.0 st)) st next h
    (All-filter (λ item. not (meets checked.0 item.row)) (StandsUnder (key_columns infos t)) (rows_at st.tables t) (h t))
    (unless (has_children (references_to infos t) t checked.0 st.tables (matching_in t checked.0 st)) HasChildren (with_rows t (without checked.0 (rows_at st.tables t)) (is_some_row (matching_in t checked.0 st)) st) next checked.2)

pub insert_keeps : (infos : List TableInfo) (t : ℕ) (es : List RExpr) (st next : State) → KeysStand infos st.tables → insert infos t es st ≡ Ok next → KeysStand infos next.tables
insert_keeps infos t es st next h is =
    let keys : List ℕ = key_columns infos t in
    let put' : List Value → List Keyed → Result State End = λ row rows. if has_parents (references infos t) (keyed keys row) st.tables then Ok (with_rows t rows true st) else Err MissingParent in
    let go : List Value → Result State End = λ row. then_do (put_row (keyed keys row) (rows_at st.tables t)) (put' row) in
    let made = goes_to (new_row (columns_at infos t) es st.env) go next is in
    let put = goes_to (put_row (keyed keys made.0) (rows_at st.tables t)) (put' made.0) next made.2 in
    rows_stand infos t put.0 true st next h (put_stands keys (keyed keys made.0) (rows_at st.tables t) put.0 refl (h t) put.1)
    (whenever (has_parents (references infos t) (keyed keys made.0) st.tables) MissingParent (with_rows t put.0 true st) next put.2)

-- What INSERT, UPDATE and DELETE do, by what they check.
use Rattle.std.proofs.Common.{◌≡◌, ℕ, Bool, true, false, not, List, [], ◌∷◌, Option, Some, None, Ok, Err, map, if◌then◌else◌, refl, sym, ap, subst, ◌∙◌}
use Rattle.std.specs.List.{filter, flat_map, list_all}
use Rattle.std.specs.Option.{option_or}
use Rattle.mv_values.specs.declared.value.Value.{Value}
use Rattle.mv_values.specs.declared.pred.Test.{Test}
use Rattle.mv_values.specs.declared.pred.Pred.{Pred}
use Rattle.mv_values.specs.declared.patch.Patch.TheVariants as patch
use Rattle.mv_values.specs.declared.patch.Write.{Write}
use Rattle.mv_values.specs.declared.rows.Keyed.{Keyed}
use Rattle.mv_values.specs.declared.schema.TableInfo.{TableInfo}
use Rattle.mv_values.specs.declared.calls.End.{End}
use Rattle.mv_values.specs.declared.calls.End.TheVariants.{Duplicate, MissingParent, HasChildren}
use Rattle.mv_values.specs.Columns.{column_of}
use Rattle.mv_values.specs.Patching.{found_by}
use Rattle.mv_values.specs.Keys.{keys, IsRising}
use Rattle.mv_values.specs.References.{references, references_to}
use Rattle.mv_values.specs.Tables.{rows_at, columns_at, key_columns, KeysStand, Tables}
use Rattle.mv_catalog.specs.declared.resolved.RExpr.{RExpr}
use Rattle.mv_catalog.specs.declared.resolved.RCond.{RCond}
use Rattle.mv_catalog.specs.declared.resolved.RSetItem.{RSetItem}
use Rattle.mv_catalog.specs.declared.resolved.RStmt.{RStmt}
use Rattle.mv_catalog.specs.declared.resolved.RStmt.TheOpen.{Insert, Update, Delete}
use Rattle.mv_eval.specs.declared.state.State.{State}
use Rattle.mv_eval.specs.declared.state.Env.{Env}
use Rattle.mv_eval.specs.Rows.{matching, is_some_row, tests_of, fit}
use Rattle.mv_eval.specs.Changes.{new_row, put_row, keyed, updated, set_row_by}
use Rattle.mv_eval.specs.Alone.{matching_in}
use Rattle.mv_eval.specs.References.{is_own_parent, has_parents, has_children, fit_in}
use Rattle.mv_eval.proofs.Standing.{New}
use Rattle.mv_record.proofs.Rising.{Rises, rises_from}
use Rattle.mv_record.specs.declared.effect.Effect.{Effect}
use Rattle.mv_recorded.specs.Asking.{Check, needs, is_among, first_fault, preds_up_to, parent_pred, insert_checks, update_checks, delete_checks, pred_of, same_key, columns_in, on}
use Rattle.mv_recorded.specs.Doing.{effect_of, write}
use Rattle.mv_recorded.specs.Effects.{IsEffect, asks, changes, new_of, effect_unless, inserted}
use Rattle.mv_recorded.specs.Parents.{EndsAreFaults}
use Rattle.mv_recorded.proofs.Altered.{set_all, set_stops, writes_are, own_of, put_new, put_twice}
use Rattle.mv_recorded.proofs.Chosen.{asked_of, rows_asked}
use Rattle.mv_recorded.proofs.Checked.{flag, Follows, parents_checked, update_checked, delete_checked}

-- DELETE

pub delete_told : (tables : List TableInfo) (t : ℕ) (conds : List RCond) (st : State) (tests : List Test) → tests_of (key_columns tables t) conds st.env ≡ Ok tests → Rises (rows_at st.tables t)
    → effect_of {X = RStmt} tables (Delete t conds) st
    ≡ effect_unless (first_fault (delete_checks tables t (matching_in t tests st)) st.tables) (pred_of t tests [] ∷ preds_up_to (delete_checks tables t (matching_in t tests st)) st.tables) (is_some_row (matching_in t tests st))
    (map (λ item. write t item.key patch.Delete) (matching_in t tests st)) st.env
delete_told tables t conds st tests is rises = by (has_children (references_to tables t) t tests st.tables rows) refl (delete_checked tables t tests st.tables rises)
  where
    rows : List Keyed
    rows = matching_in t tests st

    checks : List Check
    checks = delete_checks tables t rows

    done : Option End → Effect
    done o = effect_unless o (pred_of t tests [] ∷ preds_up_to checks st.tables) (is_some_row rows) (map (λ item. write t item.key patch.Delete) rows) st.env

    by : (b : Bool) → has_children (references_to tables t) t tests st.tables rows ≡ b → first_fault checks st.tables ≡ flag HasChildren (has_children (references_to tables t) t tests st.tables rows)
        → effect_of {X = RStmt} tables (Delete t conds) st ≡ done (first_fault checks st.tables)
    by true e f = rw (is, e) refl ∙ sym (ap done (f ∙ ap (flag HasChildren) e))
    by false e f = rw (is, e) refl ∙ sym (ap done (f ∙ ap (flag HasChildren) e))

-- UPDATE

pub update_told : (tables : List TableInfo) (t : ℕ) (items : List RSetItem) (conds : List RCond) (st : State) (tests : List Test) → tests_of (key_columns tables t) conds st.env ≡ Ok tests → KeysStand tables st.tables
    → effect_of {X = RStmt} tables (Update t items conds) st
    ≡ effect_unless (first_fault (update_checks tables t items st.env (matching_in t tests st)) st.tables)
    (pred_of t tests (flat_map (λ i. columns_in i.right) items) ∷ preds_up_to (update_checks tables t items st.env (matching_in t tests st)) st.tables) (is_some_row (matching_in t tests st))
    (on (changes t items (λ row. set_row_by (fit (columns_at tables t)) (key_columns tables t) st.env row items row) (matching_in t tests st)) (λ ws. ws)) st.env
update_told tables t items conds st tests is stand = by (first_fault checks st.tables) refl (update_checked tables t st.tables st.env items rows stand)
  where
    rows : List Keyed
    rows = matching_in t tests st

    checks : List Check
    checks = update_checks tables t items st.env rows

    new : New
    new = λ row. set_row_by (fit_in tables t st.tables) (key_columns tables t) st.env row items row

    plain : New
    plain = λ row. set_row_by (fit (columns_at tables t)) (key_columns tables t) st.env row items row

    done : Option End → List Write → Effect
    done o ws = effect_unless o (pred_of t tests (flat_map (λ i. columns_in i.right) items) ∷ preds_up_to checks st.tables) (is_some_row rows) ws st.env

    by : (o : Option End) → first_fault checks st.tables ≡ o → Follows o (changes t items new rows) (changes t items plain rows)
        → effect_of {X = RStmt} tables (Update t items conds) st ≡ done (first_fault checks st.tables) (on (changes t items plain rows) (λ ws. ws))
    by (Some e) f h =
        let stops : updated new tests (rows_at st.tables t) ≡ Err e = set_stops t items new tests (rows_at st.tables t) e h in
        rw (is, stops) refl ∙ sym (ap (λ o. done o (on (changes t items plain rows) (λ ws. ws))) f)
    by None f h =
        let all = set_all t items new tests (rows_at st.tables t) h.0 h.1 in
        rw (is, all.1) (ap (λ ws. done None ws) (sym (writes_are t items new rows h.0 h.1))) ∙ (sym (ap (λ o. done o h.0) f) ∙ ap (λ r. done (first_fault checks st.tables) (on r (λ ws. ws))) (sym h.2))

-- INSERT

pub insert_told : (tables : List TableInfo) (t : ℕ) (es : List RExpr) (st : State) (row : List Value) → new_row (columns_at tables t) es st.env ≡ Ok row → KeysStand tables st.tables → IsRising (rows_at st.tables t)
    → effect_of {X = RStmt} tables (Insert t es) st
    ≡ effect_unless (first_fault (insert_checks tables t row) st.tables) (preds_up_to (insert_checks tables t row) st.tables) true (inserted tables t row) st.env
insert_told tables t es st row is stand rising = by (matching (same_key keys' row) (rows_at st.tables t)) refl
  where
    keys' : List ℕ
    keys' = key_columns tables t

    new : Keyed
    new = keyed keys' row

    checks : List Check
    checks = insert_checks tables t row

    more : List Check
    more = map (λ r. needs (parent_pred tables r.parent (column_of row r.column)) MissingParent) (filter (λ r. not (is_own_parent new r)) (references tables t))

    done : Option End → Effect
    done o = effect_unless o (preds_up_to checks st.tables) true (inserted tables t row) st.env

    fails : List Keyed → Option End
    fails found = option_or (if list_all (is_among []) (keys found) then None else Some Duplicate) (first_fault more st.tables)

    put : (b : Bool) → has_parents (references tables t) new st.tables ≡ b → first_fault checks st.tables ≡ flag MissingParent (not b) → (out : List Keyed) → put_row new (rows_at st.tables t) ≡ Ok out
        → effect_of {X = RStmt} tables (Insert t es) st ≡ done (first_fault checks st.tables)
    put true e f out p = rw (is, p, e) refl ∙ sym (ap done f)
    put false e f out p = rw (is, p, e) refl ∙ sym (ap done f)

    by : (found : List Keyed) → matching (same_key keys' row) (rows_at st.tables t) ≡ found → effect_of {X = RStmt} tables (Insert t es) st ≡ done (first_fault checks st.tables)
    by (x ∷ xs) m =
        let twice : put_row new (rows_at st.tables t) ≡ Err Duplicate = put_twice keys' row (rows_at st.tables t) x xs (own_of keys' (rows_at st.tables t) (stand t)) (rises_from (rows_at st.tables t) rising) m in
        rw (is, twice) refl ∙ sym (ap done (ap fails m))
    by [] m =
        let out = put_new keys' row (rows_at st.tables t) (own_of keys' (rows_at st.tables t) (stand t)) m in
        let all : Bool = has_parents (references tables t) new st.tables in
        put all refl (ap fails m ∙ parents_checked tables new (references tables t) st.tables stand) out.0 out.1

-- The same by what was asked and found

pub delete_done : (tables : List TableInfo) (t : ℕ) (conds : List RCond) (env : Env) (db : Tables) (pred : Pred) (rows : List Keyed) → IsRising (rows_at db t) → asks tables t conds [] env ≡ Ok pred → rows ≡ found_by pred db
    → IsEffect tables (Delete t conds) env db
    (effect_unless (first_fault (delete_checks tables t rows) db) (pred ∷ preds_up_to (delete_checks tables t rows) db) (is_some_row rows) (map (λ item. write t item.key patch.Delete) rows) env)
delete_done tables t conds env db pred rows rising h found lines =
    let a = asked_of tables t conds [] env pred h in
    let told = delete_told tables t conds (record { env = env; tables = db; lines = lines }) a.tests a.are (rises_from (rows_at db t) rising) in
    subst (λ l. effect_unless (first_fault (delete_checks tables t l) db) (pred ∷ preds_up_to (delete_checks tables t l) db) (is_some_row l) (map (λ item. write t item.key patch.Delete) l) env
    ≡ effect_of {X = RStmt} tables (Delete t conds) (record { env = env; tables = db; lines = lines })) (sym (rows_asked t a.tests [] pred db rows a.is found))
    (subst (λ p. effect_unless (first_fault (delete_checks tables t (matching a.tests (rows_at db t))) db) (p ∷ preds_up_to (delete_checks tables t (matching a.tests (rows_at db t))) db) (is_some_row (matching a.tests (rows_at db t)))
    (map (λ item. write t item.key patch.Delete) (matching a.tests (rows_at db t))) env ≡ effect_of {X = RStmt} tables (Delete t conds) (record { env = env; tables = db; lines = lines })) (sym a.is) (sym told))

pub update_done : (tables : List TableInfo) (t : ℕ) (items : List RSetItem) (conds : List RCond) (env : Env) (db : Tables) (pred : Pred) (rows : List Keyed) → KeysStand tables db
    → asks tables t conds (flat_map (λ i. columns_in i.right) items) env ≡ Ok pred → rows ≡ found_by pred db
    → IsEffect tables (Update t items conds) env db
    (effect_unless (first_fault (update_checks tables t items env rows) db) (pred ∷ preds_up_to (update_checks tables t items env rows) db) (is_some_row rows) (on (changes t items (new_of tables t env items) rows) (λ ws. ws)) env)
update_done tables t items conds env db pred rows stand h found lines =
    let cs : List ℕ = flat_map (λ i. columns_in i.right) items in
    let a = asked_of tables t conds cs env pred h in
    let told = update_told tables t items conds (record { env = env; tables = db; lines = lines }) a.tests a.are stand in
    subst (λ l. effect_unless (first_fault (update_checks tables t items env l) db) (pred ∷ preds_up_to (update_checks tables t items env l) db) (is_some_row l) (on (changes t items (new_of tables t env items) l) (λ ws. ws)) env
    ≡ effect_of {X = RStmt} tables (Update t items conds) (record { env = env; tables = db; lines = lines })) (sym (rows_asked t a.tests cs pred db rows a.is found))
    (subst (λ p. effect_unless (first_fault (update_checks tables t items env (matching a.tests (rows_at db t))) db) (p ∷ preds_up_to (update_checks tables t items env (matching a.tests (rows_at db t))) db) (is_some_row (matching a.tests (rows_at db t)))
    (on (changes t items (new_of tables t env items) (matching a.tests (rows_at db t))) (λ ws. ws)) env ≡ effect_of {X = RStmt} tables (Update t items conds) (record { env = env; tables = db; lines = lines })) (sym a.is) (sym told))

pub insert_done : (tables : List TableInfo) (t : ℕ) (es : List RExpr) (env : Env) (db : Tables) (row : List Value) → KeysStand tables db → IsRising (rows_at db t) → new_row (columns_at tables t) es env ≡ Ok row
    → IsEffect tables (Insert t es) env db (effect_unless (first_fault (insert_checks tables t row) db) (preds_up_to (insert_checks tables t row) db) true (inserted tables t row) env)
insert_done tables t es env db row stand rising made lines = sym (insert_told tables t es (record { env = env; tables = db; lines = lines }) row made stand rising)

-- The end is the first fault

unless_end : (o : Option End) (ps : List Pred) (b : Bool) (ws : List Write) (env : Env) → (effect_unless o ps b ws env).end ≡ o
unless_end None ps b ws env = refl
unless_end (Some e) ps b ws env = refl

pub ends_are_faults : EndsAreFaults
ends_are_faults tables st d = record {
  insert = λ t es row is. ap (λ (e : Effect). e.end) (insert_told tables t es st row is d.keys (d.rising t)) ∙ unless_end _ _ _ _ st.env;
  update = λ t items conds tests is. ap (λ (e : Effect). e.end) (update_told tables t items conds st tests is d.keys) ∙ unless_end _ _ _ _ st.env;
  delete = λ t conds tests is. ap (λ (e : Effect). e.end) (delete_told tables t conds st tests is (rises_from (rows_at st.tables t) (d.rising t))) ∙ unless_end _ _ _ _ st.env;
}

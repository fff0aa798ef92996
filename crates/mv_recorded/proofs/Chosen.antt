-- What statements do that look at a table and change none.
use Rattle.std.proofs.Common.{◌≡◌, ℕ, ℤ, Bool, true, false, ◌||◌, List, [], ◌∷◌, ◌++◌, Option, Some, None, Result, Ok, Err, refl, sym, ap, ◌∙◌}
use Rattle.std.specs.Option.{is_some}
use Rattle.mv_eval.proofs.Standing.{goes_to}
use Rattle.mv_values.specs.declared.pred.Test.{Test}
use Rattle.mv_values.specs.declared.value.Value.{Value}
use Rattle.mv_values.specs.declared.pred.Pred.{Pred}
use Rattle.mv_values.specs.declared.rows.Keyed.{Keyed}
use Rattle.mv_values.specs.declared.schema.TableInfo.{TableInfo}
use Rattle.mv_values.specs.declared.calls.End.{End}
use Rattle.mv_values.specs.Columns.{columns_of, number}
use Rattle.mv_values.specs.Patching.{found_by}
use Rattle.mv_values.specs.Tables.{rows_at, key_columns}
use Rattle.mv_catalog.specs.declared.resolved.RExpr.{RExpr}
use Rattle.mv_catalog.specs.declared.resolved.RCond.{RCond}
use Rattle.mv_catalog.specs.declared.resolved.RSort.{RSort}
use Rattle.mv_catalog.specs.declared.resolved.RAgg.{RAgg}
use Rattle.mv_catalog.specs.declared.resolved.RStmt.{RStmt}
use Rattle.mv_catalog.specs.declared.resolved.RStmt.TheOpen.{Select, Total, ForSelect}
use Rattle.mv_eval.specs.declared.state.Env.{Env}
use Rattle.mv_eval.specs.Results.{then_do}
use Rattle.mv_eval.specs.Env.{scalar_at, with_value, with_values, with_found}
use Rattle.mv_eval.specs.Value.{is_so}
use Rattle.mv_eval.specs.Rows.{matching, ordered, item_at, aggregate, is_some_row, tests_of}
use Rattle.mv_eval.specs.Alone.{offset_of, with_selected, totalled, fixed}
use Rattle.mv_record.specs.declared.record.Slot.{Slot}
use Rattle.mv_recorded.specs.Asking.{pred_of, with_sorts, column_in}
use Rattle.mv_recorded.specs.Doing.{when, gives_always, effect_of}
use Rattle.mv_recorded.specs.Reading.{each_once}
use Rattle.mv_record.specs.declared.effect.Effect.{Effect}
use Rattle.mv_recorded.specs.Effects.{IsEffect, asks, pred_with, effect_after, row_number, effect_of_select, effect_of_aggregate, effect_of_loop, only_end, slots_behind}
use Rattle.mv_recorded.proofs.Slots.{same_found}
use Rattle.mv_recorded.proofs.Effects.{found_is, gives}
use Rattle.mv_recorded.proofs.Matching.{matching_all}

-- What was asked

-- the tests of what was asked
pub record Asks (tables : List TableInfo) (t : ℕ) (conds : List RCond) (cs : List ℕ) (env : Env) (pred : Pred) : Type 0 where
  pub tests : List Test
  pub are : tests_of (key_columns tables t) conds env ≡ Ok tests
  pub is : pred ≡ pred_of t tests cs

-- two values are the same where the answers with them are
pub same_ok : {A : Type 0} {x y : A} → ◌≡◌ {A = Result A End} (Ok x) (Ok y) → x ≡ y
same_ok h = cc

-- what was asked has the tests of WHERE with their values
pub asked_of : (tables : List TableInfo) (t : ℕ) (conds : List RCond) (cs : List ℕ) (env : Env) (pred : Pred) → asks tables t conds cs env ≡ Ok pred → Asks tables t conds cs env pred
asked_of tables t conds cs env pred h =
    let c = goes_to (tests_of (key_columns tables t) conds env) (λ tests. Ok (pred_of t tests cs)) pred h in
    record { tests = c.0; are = c.1; is = sym (same_ok c.2) }

-- what goes on with a value ends only where there was none
pub then_err : {A B : Type 0} (r : Result A End) (f : A → B) (e : End) → then_do r (λ x. Ok (f x)) ≡ Err e → r ≡ Err e
then_err (Ok x) f e h = cc
then_err (Err d) f e h = cc

-- the rows that were found are those that pass WHERE
pub rows_asked : (t : ℕ) (tests : List Test) (cs : List ℕ) (pred : Pred) (db : List (List Keyed)) (rows : List Keyed) → pred ≡ pred_of t tests cs → rows ≡ found_by pred db
    → rows ≡ matching tests (rows_at db t)
rows_asked t tests cs pred db rows is found = found ∙ ap (λ p. found_by p db) is

-- Variables

-- the variables set behind a SELECT
abbrev taken_names : List ℕ → Env → List ℕ
taken_names xs next = when (is_so (scalar_at next next.found)) (each_once xs) ++ next.found ∷ []

-- a SELECT sets the same variables by the row that it chose and by the state behind it
taken_named : (env : Env) (cs xs : List ℕ) (item : Option Keyed) → when (is_some item) (each_once xs) ++ env.found ∷ [] ≡ taken_names xs (with_selected cs xs item env)
taken_named env cs xs None = ap (λ b. when b (each_once xs) ++ env.found ∷ []) (sym (found_is env false))
taken_named env cs xs (Some item) =
    let first : Env = with_values env xs (columns_of item.row cs) in
    ap (λ f. each_once xs ++ f ∷ []) (sym (same_found env xs (columns_of item.row cs))) ∙ ap (λ b. when b (each_once xs) ++ first.found ∷ []) (sym (found_is first true))

-- so does an aggregate, by its total
total_named : (env : Env) (x : ℕ) (o : Option Value) (always some : Bool) → is_some o ≡ (always || some)
    → when (is_some o) (x ∷ []) ++ env.found ∷ [] ≡ when (always || is_so (scalar_at (with_found (totalled x o env) some) (totalled x o env).found)) (x ∷ []) ++ (totalled x o env).found ∷ []
total_named env x None always some h =
    ap (λ b. when b (x ∷ []) ++ env.found ∷ []) (h ∙ ap (λ b. always || b) (sym (found_is env some)))
total_named env x (Some v) always some h =
    ap (λ b. when b (x ∷ []) ++ env.found ∷ []) (h ∙ ap (λ b. always || b) (sym (found_is (with_value env x v) some)))

-- SELECT

-- what was asked, with the value
pub both_asked : {A B : Type 0} (r : Result A End) (o : Result B End) (x : A × B) → ◌≡◌ {A = Result (A × B) Effect} (Ok x) (pred_with r o) → (r ≡ Ok x.0) × (o ≡ Ok x.1)
both_asked (Ok a) (Ok b) x h = (ap (λ p. Ok p.0) (sym (same_pair h)), ap (λ p. Ok p.1) (sym (same_pair h)))
  where
    same_pair : {C D : Type 0} {p q : C × D} → ◌≡◌ {A = Result (C × D) Effect} (Ok p) (Ok q) → p ≡ q
    same_pair e = cc
both_asked (Ok a) (Err e) x h = cc
both_asked (Err e) o x h = cc

same_err : {A : Type 0} {x y : Effect} → ◌≡◌ {A = Result A Effect} (Err x) (Err y) → x ≡ y
same_err h = cc

-- an effect that asks, sets variables and fixes rows
abbrev pub made : List Pred → List Slot → List (List Value) → Effect
made preds sets rows = record { preds = preds; sets = sets; rows = rows; writes = []; line = None; end = None }

-- what a SELECT does that found these rows
pub select_goes : (tables : List TableInfo) (cs xs : List ℕ) (t : ℕ) (conds : List RCond) (sorts : List RSort) (offset : Option RExpr) (env : Env) (db : List (List Keyed)) (pred : Pred) (z : ℤ) (rows : List Keyed)
    → asks tables t conds (with_sorts cs sorts) env ≡ Ok pred → row_number offset env ≡ Ok z → rows ≡ found_by pred db
    → IsEffect tables (Select cs xs t conds sorts offset) env db (effect_of_select pred cs xs (item_at (ordered sorts (matching [] rows)) z) env)
select_goes tables cs xs t conds sorts offset env db pred z rows h k found = λ lines.
    let a = asked_of tables t conds (with_sorts cs sorts) env pred h in
    let v = goes_to (offset_of offset env) (λ v. Ok (number v)) z k in
    let at : number v.0 ≡ z = same_ok v.2 in
    let rows_are = rows_asked t a.tests (with_sorts cs sorts) pred db rows a.is found in
    let chosen : Option Keyed = item_at (ordered sorts (matching [] rows)) z in
    let item : Option Keyed = item_at (ordered sorts (matching a.tests (rows_at db t))) (number v.0) in
    let same : chosen ≡ item = ap (λ l. item_at (ordered sorts l) z) (matching_all rows ∙ rows_are) ∙ ap (item_at (ordered sorts (matching a.tests (rows_at db t)))) (sym at) in
    rw (a.are, v.1)
    (ap (λ p. effect_of_select p cs xs chosen env) a.is
    ∙ (ap (λ o. effect_of_select (pred_of t a.tests (with_sorts cs sorts)) cs xs o env) same
    ∙ ap (λ ns. made (pred_of t a.tests (with_sorts cs sorts) ∷ []) (slots_behind (with_selected cs xs item env) ns) []) (taken_named env cs xs item)))

-- what a SELECT does that is stopped before it looks at rows
pub select_unasked : (tables : List TableInfo) (cs xs : List ℕ) (t : ℕ) (conds : List RCond) (sorts : List RSort) (offset : Option RExpr) (env : Env) (db : List (List Keyed)) (e : Effect)
    → Err e ≡ pred_with (asks tables t conds (with_sorts cs sorts) env) (row_number offset env) → IsEffect tables (Select cs xs t conds sorts offset) env db e
select_unasked tables cs xs t conds sorts offset env db e h = by (tests_of (key_columns tables t) conds env) refl (offset_of offset env) refl h
  where
    by : (r : Result (List Test) End) → tests_of (key_columns tables t) conds env ≡ r → (o : Result Value End) → offset_of offset env ≡ o
        → Err e ≡ pred_with (then_do r (λ tests. Ok (pred_of t tests (with_sorts cs sorts)))) (then_do o (λ v. Ok (number v)))
        → (lines : List (List ℕ)) → e ≡ effect_of {X = RStmt} tables (Select cs xs t conds sorts offset) (record { env = env; tables = db; lines = lines })
    by (Ok cs') are (Ok v) is k lines = cc
    by (Ok cs') are (Err d) is k lines = rw (are, is) (same_err k)
    by (Err d) are (Ok v) is k lines = rw (are, is) (same_err k)
    by (Err d) are (Err f) is k lines = rw (are, is) (same_err k)

-- Aggregates

-- what an aggregate does whose total doesn't fit
total_unfit : (tables : List TableInfo) (agg : RAgg) (x t : ℕ) (conds : List RCond) (env : Env) (db : List (List Keyed)) (pred : Pred) (rows : List Keyed) (e : End)
    → asks tables t conds (column_in agg) env ≡ Ok pred → rows ≡ found_by pred db → aggregate agg (matching [] rows) ≡ Err e → IsEffect tables (Total agg x t conds) env db (only_end (pred ∷ []) e)
total_unfit tables agg x t conds env db pred rows e h found k = λ lines.
    let a = asked_of tables t conds (column_in agg) env pred h in
    let rows_are = matching_all rows ∙ rows_asked t a.tests (column_in agg) pred db rows a.is found in
    let fails : aggregate agg (matching a.tests (rows_at db t)) ≡ Err e = ap (aggregate agg) (sym rows_are) ∙ k in
    rw (a.are, fails) (ap (λ p. only_end (p ∷ []) e) a.is)

-- what an aggregate does that found these rows and gives this total
total_goes : (tables : List TableInfo) (agg : RAgg) (x t : ℕ) (conds : List RCond) (env : Env) (db : List (List Keyed)) (pred : Pred) (rows : List Keyed) (o : Option Value)
    → asks tables t conds (column_in agg) env ≡ Ok pred → rows ≡ found_by pred db → aggregate agg (matching [] rows) ≡ Ok o
    → IsEffect tables (Total agg x t conds) env db (made (pred ∷ []) (slots_behind (with_found (totalled x o env) (is_some_row (matching [] rows))) (when (is_some o) (x ∷ []) ++ env.found ∷ [])) [])
total_goes tables agg x t conds env db pred rows o h found k = λ lines.
    let a = asked_of tables t conds (column_in agg) env pred h in
    let rows_are = matching_all rows ∙ rows_asked t a.tests (column_in agg) pred db rows a.is found in
    let gives_here : aggregate agg (matching a.tests (rows_at db t)) ≡ Ok o = ap (aggregate agg) (sym rows_are) ∙ k in
    let p : Pred = pred_of t a.tests (column_in agg) in
    let some : Bool = is_some_row (matching a.tests (rows_at db t)) in
    rw (a.are, gives_here)
    (ap (λ q. made (q ∷ []) (slots_behind (with_found (totalled x o env) (is_some_row (matching [] rows))) (when (is_some o) (x ∷ []) ++ env.found ∷ [])) []) a.is
    ∙ (ap (λ l. made (p ∷ []) (slots_behind (with_found (totalled x o env) (is_some_row l)) (when (is_some o) (x ∷ []) ++ env.found ∷ [])) []) rows_are
    ∙ ap (λ ns. made (p ∷ []) (slots_behind (with_found (totalled x o env) some) ns) []) (total_named env x o (gives_always agg) some (gives agg (matching a.tests (rows_at db t)) o gives_here))))

-- what an aggregate does that found these rows
pub total_done : (tables : List TableInfo) (agg : RAgg) (x t : ℕ) (conds : List RCond) (env : Env) (db : List (List Keyed)) (pred : Pred) (rows : List Keyed)
    → asks tables t conds (column_in agg) env ≡ Ok pred → rows ≡ found_by pred db
    → IsEffect tables (Total agg x t conds) env db (effect_after pred (aggregate agg (matching [] rows)) (λ total. effect_of_aggregate pred x total (is_some_row (matching [] rows)) env))
total_done tables agg x t conds env db pred rows h found = by (aggregate agg (matching [] rows)) refl
  where
    by : (r : Result (Option Value) End) → aggregate agg (matching [] rows) ≡ r
        → IsEffect tables (Total agg x t conds) env db (effect_after pred r (λ total. effect_of_aggregate pred x total (is_some_row (matching [] rows)) env))
    by (Ok o) k = total_goes tables agg x t conds env db pred rows o h found k
    by (Err e) k = total_unfit tables agg x t conds env db pred rows e h found k

-- FOR

-- what a FOR does that found these rows
pub for_goes : (tables : List TableInfo) (x : ℕ) (once : Bool) (cs : List ℕ) (t : ℕ) (conds : List RCond) (sorts : List RSort) (body : List RStmt) (env : Env) (db : List (List Keyed)) (pred : Pred) (rows : List Keyed)
    → asks tables t conds (with_sorts cs sorts) env ≡ Ok pred → rows ≡ found_by pred db
    → IsEffect tables (ForSelect x once cs t conds sorts body) env db (effect_of_loop pred (fixed once cs sorts (matching [] rows)) env)
for_goes tables x once cs t conds sorts body env db pred rows h found = λ lines.
    let a = asked_of tables t conds (with_sorts cs sorts) env pred h in
    let rows_are = matching_all rows ∙ rows_asked t a.tests (with_sorts cs sorts) pred db rows a.is found in
    rw a.are
    (ap (λ p. effect_of_loop p (fixed once cs sorts (matching [] rows)) env) a.is
    ∙ ap (λ l. effect_of_loop (pred_of t a.tests (with_sorts cs sorts)) (fixed once cs sorts l) env) rows_are)

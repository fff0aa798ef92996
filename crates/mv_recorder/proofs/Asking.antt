-- The effects of statements that ask their tables, from what they asked and what they found.
use Rattle.std.proofs.Common.{◌≡◌, ℕ, ℤ, ◌==◌, not, Bool, List, [], ◌∷◌, Option, Some, None, Result, Ok, Err, map, length, refl, sym, ap, subst, ◌∙◌, rules}
use Rattle.std.specs.List.{flat_map}
use Rattle.mv_values.specs.declared.value.Value.{Value}
use Rattle.mv_values.specs.declared.calls.End.{End}
use Rattle.mv_values.specs.declared.patch.Write.{Write}
use Rattle.mv_values.specs.declared.patch.Patch.TheVariants.{Delete as Deletes}
use Rattle.mv_values.specs.declared.pred.Pred.{Pred}
use Rattle.mv_values.specs.declared.rows.Keyed.{Keyed}
use Rattle.mv_values.specs.declared.schema.TableInfo.{TableInfo}
use Rattle.mv_values.specs.Columns.{number}
use Rattle.mv_values.specs.Keys.{IsRising}
use Rattle.mv_values.specs.Patching.{found_by}
use Rattle.mv_values.specs.Tables.{rows_at, Tables, KeysStand}
use Rattle.mv_catalog.specs.declared.resolved.RAgg.{RAgg}
use Rattle.mv_catalog.specs.declared.resolved.RCond.{RCond}
use Rattle.mv_catalog.specs.declared.resolved.RExpr.{RExpr}
use Rattle.mv_catalog.specs.declared.resolved.RSetItem.{RSetItem}
use Rattle.mv_catalog.specs.declared.resolved.RSort.{RSort}
use Rattle.mv_catalog.specs.declared.resolved.RStmt.{RStmt}
use Rattle.mv_catalog.specs.declared.resolved.RStmt.TheOpen.{Select, Total, ForSelect, Update, Delete}
use Rattle.mv_eval.specs.declared.state.Env.{Env}
use Rattle.mv_eval.specs.declared.state.Stop.{Stop}
use Rattle.mv_eval.specs.declared.state.Stop.TheVariants.{Memory, Ended}
use Rattle.mv_eval.specs.Results.{Fails, then_do}
use Rattle.mv_eval.specs.Rows.{aggregate, is_some_row, item_at, matching, ordered}
use Rattle.mv_eval.specs.Alone.{fixed, offset_of}
use Rattle.mv_record.specs.declared.effect.Effect.{Effect}
use Rattle.mv_recorded.specs.Asking.{on, column_in, columns_in, with_sorts, first_fault, preds_up_to, update_checks, delete_checks}
use Rattle.mv_recorded.specs.Doing.{write}
use Rattle.mv_recorded.specs.Effects.{IsEffect, only_end, asks, pred_with, row_number, effect_after, effect_of_select, effect_of_aggregate, effect_of_loop, effect_of_writes, effect_unless, changes, new_of}
use Rattle.mv_recorded.proofs.Told.{delete_done, update_done}
use Rattle.mv_recorded.proofs.Chosen.{for_goes, select_goes, select_unasked, total_done}
use Rattle.mv_recorded.proofs.Matching.{matching_all}
use Rattle.mv_checks.specs.Checking.{HasValue}
use Rattle.mv_recorder.specs.Scenes.{Finds, EndsBy}

-- whether rows were found
pub some_row : (rows : List Keyed) → not (length rows == 0) ≡ is_some_row rows
some_row [] = refl
some_row (x ∷ rows) = search rules

-- SELECT

pub number_is : (offset : Option RExpr) (env : Env) (v : Value) (z : ℤ) → offset_of offset env ≡ Ok v → z ≡ number v → row_number offset env ≡ Ok z
number_is offset env v z h is = ap (λ o. then_do o (λ w. Ok (number w))) h ∙ ap (λ k. Ok k) (sym is)

pub select_is : (tables : List TableInfo) (cs xs : List ℕ) (t : ℕ) (conds : List RCond) (sorts : List RSort) (offset : Option RExpr) (env : Env) (db : Tables) (pred : Pred) (z : ℤ) (rows : List Keyed) (item : Option Keyed) (effect : Effect)
    → effect ≡ effect_of_select pred cs xs item env → asks tables t conds (with_sorts cs sorts) env ≡ Ok pred → row_number offset env ≡ Ok z → rows ≡ found_by pred db → item ≡ item_at (ordered sorts rows) z
    → IsEffect tables (Select cs xs t conds sorts offset) env db effect
select_is tables cs xs t conds sorts offset env db pred z rows item effect is h k found chosen =
    let same : effect ≡ effect_of_select pred cs xs (item_at (ordered sorts (matching [] rows)) z) env =
    is ∙ ap (λ i. effect_of_select pred cs xs i env) (chosen ∙ ap (λ rs. item_at (ordered sorts rs) z) (sym (matching_all rows))) in
    subst (IsEffect tables (Select cs xs t conds sorts offset) env db) (sym same) (select_goes tables cs xs t conds sorts offset env db pred z rows h k found)

pub select_stops : (tables : List TableInfo) (cs xs : List ℕ) (t : ℕ) (conds : List RCond) (sorts : List RSort) (offset : Option RExpr) (env : Env) (db : Tables) (stop : Stop)
    → Fails stop (asks tables t conds (with_sorts cs sorts) env) → Finds (Err stop) (IsEffect tables (Select cs xs t conds sorts offset) env db)
select_stops tables cs xs t conds sorts offset env db Memory h = tt
select_stops tables cs xs t conds sorts offset env db (Ended d) h =
    select_unasked tables cs xs t conds sorts offset env db (only_end [] d) (sym (ap (λ q. pred_with q (row_number offset env)) h))

pub offset_stops : (tables : List TableInfo) (cs xs : List ℕ) (t : ℕ) (conds : List RCond) (sorts : List RSort) (offset : Option RExpr) (env : Env) (db : Tables) (pred : Pred) (stop : Stop)
    → asks tables t conds (with_sorts cs sorts) env ≡ Ok pred → Fails stop (offset_of offset env) → Finds (Err stop) (IsEffect tables (Select cs xs t conds sorts offset) env db)
offset_stops tables cs xs t conds sorts offset env db pred Memory is h = tt
offset_stops tables cs xs t conds sorts offset env db pred (Ended d) is h =
    select_unasked tables cs xs t conds sorts offset env db (only_end [] d)
    (sym (ap (λ q. pred_with q (row_number offset env)) is ∙ ap (λ (o : Result Value End). pred_with (Ok pred) (then_do o (λ v. Ok (number v)))) h))

-- Aggregates

pub total_is : (tables : List TableInfo) (agg : RAgg) (x t : ℕ) (conds : List RCond) (env : Env) (db : Tables) (pred : Pred) (rows : List Keyed) (total : Option Value) (some : Bool) (effect : Effect)
    → effect ≡ effect_of_aggregate pred x total some env → some ≡ is_some_row rows → asks tables t conds (column_in agg) env ≡ Ok pred → rows ≡ found_by pred db → aggregate agg rows ≡ Ok total
    → IsEffect tables (Total agg x t conds) env db effect
total_is tables agg x t conds env db pred rows total some effect is any h found sum =
    let go : Option Value → Effect = λ v. effect_of_aggregate pred x v (is_some_row (matching [] rows)) env in
    let same : effect ≡ effect_after pred (aggregate agg (matching [] rows)) go =
    is ∙ (ap (λ b. effect_of_aggregate pred x total b env) (any ∙ ap is_some_row (sym (matching_all rows)))
    ∙ sym (ap (λ r. effect_after pred r go) (ap (aggregate agg) (matching_all rows) ∙ sum))) in
    subst (IsEffect tables (Total agg x t conds) env db) (sym same) (total_done tables agg x t conds env db pred rows h found)

pub total_ends : (tables : List TableInfo) (agg : RAgg) (x t : ℕ) (conds : List RCond) (env : Env) (db : Tables) (pred : Pred) (rows : List Keyed) (stop : Stop) (effect : Effect)
    → EndsBy pred stop effect → asks tables t conds (column_in agg) env ≡ Ok pred → rows ≡ found_by pred db → Fails stop (aggregate agg rows)
    → IsEffect tables (Total agg x t conds) env db effect
total_ends tables agg x t conds env db pred rows Memory effect is h found sum = absurd is
total_ends tables agg x t conds env db pred rows (Ended d) effect is h found sum =
    let go : Option Value → Effect = λ v. effect_of_aggregate pred x v (is_some_row (matching [] rows)) env in
    let same : effect ≡ effect_after pred (aggregate agg (matching [] rows)) go = is ∙ sym (ap (λ r. effect_after pred r go) (ap (aggregate agg) (matching_all rows) ∙ sum)) in
    subst (IsEffect tables (Total agg x t conds) env db) (sym same) (total_done tables agg x t conds env db pred rows h found)

-- FOR

pub for_is : (tables : List TableInfo) (x : ℕ) (once : Bool) (cs : List ℕ) (t : ℕ) (conds : List RCond) (sorts : List RSort) (body : List RStmt) (env : Env) (db : Tables) (pred : Pred) (rows : List Keyed) (turns : List (List Value)) (effect : Effect)
    → effect ≡ effect_of_loop pred turns env → turns ≡ fixed once cs sorts rows → asks tables t conds (with_sorts cs sorts) env ≡ Ok pred → rows ≡ found_by pred db
    → IsEffect tables (ForSelect x once cs t conds sorts body) env db effect
for_is tables x once cs t conds sorts body env db pred rows turns effect is fix h found =
    let same : effect ≡ effect_of_loop pred (fixed once cs sorts (matching [] rows)) env = is ∙ ap (λ rs. effect_of_loop pred rs env) (fix ∙ ap (fixed once cs sorts) (sym (matching_all rows))) in
    subst (IsEffect tables (ForSelect x once cs t conds sorts body) env db) (sym same) (for_goes tables x once cs t conds sorts body env db pred rows h found)

-- UPDATE

-- a check failed
pub update_ends : (tables : List TableInfo) (t : ℕ) (items : List RSetItem) (conds : List RCond) (env : Env) (db : Tables) (pred : Pred) (rows : List Keyed) (preds : List Pred) (end : End) (effect : Effect)
    → effect ≡ only_end preds end → Some end ≡ first_fault (update_checks tables t items env rows) db → preds ≡ pred ∷ preds_up_to (update_checks tables t items env rows) db → KeysStand tables db
    → asks tables t conds (flat_map (λ i. columns_in i.right) items) env ≡ Ok pred → rows ≡ found_by pred db → IsEffect tables (Update t items conds) env db effect
update_ends tables t items conds env db pred rows preds end effect is fault asked stand h found =
    let ws : List Write = on (changes t items (new_of tables t env items) rows) (λ ws. ws) in
    let same : effect ≡ effect_unless (first_fault (update_checks tables t items env rows) db) (pred ∷ preds_up_to (update_checks tables t items env rows) db) (is_some_row rows) ws env =
    is ∙ (ap (λ ps. only_end ps end) asked ∙ ap (λ o. effect_unless o (pred ∷ preds_up_to (update_checks tables t items env rows) db) (is_some_row rows) ws env) fault) in
    subst (IsEffect tables (Update t items conds) env db) (sym same) (update_done tables t items conds env db pred rows stand h found)

-- none failed
pub update_is : (tables : List TableInfo) (t : ℕ) (items : List RSetItem) (conds : List RCond) (env : Env) (db : Tables) (pred : Pred) (rows : List Keyed) (preds : List Pred) (ws : List Write) (some : Bool) (effect : Effect)
    → effect ≡ effect_of_writes preds some ws env → some ≡ is_some_row rows → None ≡ first_fault (update_checks tables t items env rows) db → preds ≡ pred ∷ preds_up_to (update_checks tables t items env rows) db → KeysStand tables db
    → asks tables t conds (flat_map (λ i. columns_in i.right) items) env ≡ Ok pred → rows ≡ found_by pred db → changes t items (new_of tables t env items) rows ≡ Ok ws → IsEffect tables (Update t items conds) env db effect
update_is tables t items conds env db pred rows preds ws some effect is any fault asked stand h found made =
    let all : List Pred = pred ∷ preds_up_to (update_checks tables t items env rows) db in
    let same : effect ≡ effect_unless (first_fault (update_checks tables t items env rows) db) all (is_some_row rows) (on (changes t items (new_of tables t env items) rows) (λ vs. vs)) env =
    is
    ∙ (ap (λ ps. effect_of_writes ps some ws env) asked
    ∙ (ap (λ b. effect_of_writes all b ws env) any
    ∙ (ap (λ o. effect_unless o all (is_some_row rows) ws env) fault ∙ ap (λ r. effect_unless (first_fault (update_checks tables t items env rows) db) all (is_some_row rows) (on r (λ vs. vs)) env) (sym made)))) in
    subst (IsEffect tables (Update t items conds) env db) (sym same) (update_done tables t items conds env db pred rows stand h found)

-- so no new row is stopped but for want of memory
pub update_goes : {A : Type 0} (P : Effect → Type 0) (r : Result A End) (stop : Stop) → Fails stop r → HasValue r → Finds (Err stop) P
update_goes P r Memory h v = tt
update_goes P r (Ended e) h v = (let no : Ok v.0 ≡ Err e = sym v.1 ∙ h in cc)

-- DELETE

pub delete_is : (tables : List TableInfo) (t : ℕ) (conds : List RCond) (env : Env) (db : Tables) (pred : Pred) (rows : List Keyed) (fault : Option End) (preds : List Pred) (ws : List Write) (some : Bool) (effect : Effect)
    → effect ≡ effect_unless fault preds some ws env → fault ≡ first_fault (delete_checks tables t rows) db → preds ≡ pred ∷ preds_up_to (delete_checks tables t rows) db → some ≡ is_some_row rows → ws ≡ map (λ item. write t item.key Deletes) rows
    → IsRising (rows_at db t) → asks tables t conds [] env ≡ Ok pred → rows ≡ found_by pred db → IsEffect tables (Delete t conds) env db effect
delete_is tables t conds env db pred rows fault preds ws some effect is failed asked any writes rising h found =
    let all : List Pred = pred ∷ preds_up_to (delete_checks tables t rows) db in
    let first : Option End = first_fault (delete_checks tables t rows) db in
    let same : effect ≡ effect_unless first all (is_some_row rows) (map (λ item. write t item.key Deletes) rows) env =
    is
    ∙ (ap (λ o. effect_unless o preds some ws env) failed
    ∙ (ap (λ ps. effect_unless first ps some ws env) asked ∙ (ap (λ b. effect_unless first all b ws env) any ∙ ap (λ l. effect_unless first all (is_some_row rows) l env) writes))) in
    subst (IsEffect tables (Delete t conds) env db) (sym same) (delete_done tables t conds env db pred rows rising h found)

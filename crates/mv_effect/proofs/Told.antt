-- Queries that one row answers.
use Rattle.std.proofs.Common.{◌≡◌, ℕ, ℤ, pos, List, Option, Ok, refl, sym, ap, subst, ◌∙◌}
use Rattle.std.specs.Option.{option_map, is_some}
use Rattle.mv_values.specs.declared.rows.Keyed.{Keyed}
use Rattle.mv_values.specs.declared.patch.Write.{Write}
use Rattle.mv_values.specs.declared.pred.Pred.{Pred}
use Rattle.mv_values.specs.declared.schema.TableInfo.{TableInfo}
use Rattle.mv_values.specs.Columns.{column_of, columns_of}
use Rattle.mv_values.specs.Patching.{applied, found_by}
use Rattle.mv_values.specs.Preds.{matches}
use Rattle.mv_values.specs.Tables.{key_columns, rows_at}
use Rattle.mv_table.specs.declared.scan.Direction.{Direction}
use Rattle.mv_table.specs.Scans.{foremost}
use Rattle.mv_table.specs.Spans.{Admits}
use Rattle.mv_catalog.specs.declared.resolved.RAgg.{RAgg}
use Rattle.mv_catalog.specs.declared.resolved.RCond.{RCond}
use Rattle.mv_catalog.specs.declared.resolved.RExpr.{RExpr}
use Rattle.mv_catalog.specs.declared.resolved.RSort.{RSort}
use Rattle.mv_catalog.specs.declared.resolved.RStmt.TheOpen.{Select, Total}
use Rattle.mv_eval.specs.declared.state.Env.{Env}
use Rattle.mv_eval.specs.FirstRows.{AreAdmitted, IsFromEnd, Leads}
use Rattle.mv_eval.specs.Rows.{is_some_row, item_at, ordered}
use Rattle.mv_eval.proofs.FirstRows.{kept_all, some_foremost}
use Rattle.mv_record.proofs.Patching.{rising_found, rising_applied}
use Rattle.mv_recorded.specs.Asking.{column_in, with_sorts, KnowsKey}
use Rattle.mv_recorded.specs.Effects.{IsEffect, asks, effect_after, row_number, effect_of_select, effect_of_aggregate}
use Rattle.mv_recorded.proofs.Chosen.{select_goes, total_done}
use Rattle.mv_recorded.proofs.Matching.{admitted, matching_all}
use Rattle.mv_effect.specs.Looking.{AreSoundTables}
use Rattle.mv_effect.specs.Totalling.{total_asked}
use Rattle.std.proofs.lemmas.List.Elements.{All-filter}

-- the rows that a predicate finds behind these writes stand under keys that it admits
found_admitted : (tables : List TableInfo) (ws : List Write) (db : List (List Keyed)) (pred : Pred) → AreSoundTables tables ws db → KnowsKey tables pred → AreAdmitted (key_columns tables pred.table) pred.tests (found_by pred (applied ws db))
found_admitted tables ws db pred stands knows =
    let behind : List (List Keyed) = applied ws db in
    record {
      rising = rising_found pred behind (rising_applied ws db stands.database.rising);
      own = All-filter (λ item. matches pred item.row) (λ item. item.key ≡ columns_of item.row (key_columns tables pred.table)) (rows_at behind pred.table) (stands.behind pred.table);
      admitted = kept_all (λ item. matches pred item.row) (λ item. Admits pred.tests item.key) (rows_at behind pred.table) (admitted tables pred behind knows stands.behind);
    }

-- of these rows one tells the aggregate
pub total_told : (tables : List TableInfo) (ws : List Write) (db : List (List Keyed)) (agg : RAgg) (x c : ℕ) (d : Direction) (pred : Pred) (env : Env) (row : Option Keyed)
    → AreSoundTables tables ws db → KnowsKey tables pred → IsFromEnd agg (key_columns tables pred.table) pred.tests c d → row ≡ foremost d (found_by pred (applied ws db))
    → effect_of_aggregate pred x (option_map (λ (item : Keyed). column_of item.row c) row) (is_some row) env ≡ total_asked agg x pred (found_by pred (applied ws db)) env
total_told tables ws db agg x c d pred env row stands knows tells is =
    let rows : List Keyed = found_by pred (applied ws db) in
    let told = tells rows (found_admitted tables ws db pred stands knows) in
    ap (λ (o : Option Keyed). effect_of_aggregate pred x (option_map (λ (item : Keyed). column_of item.row c) o) (is_some o) env) is
    ∙ (ap (λ b. effect_of_aggregate pred x (option_map (λ (item : Keyed). column_of item.row c) (foremost d rows)) b env) (some_foremost d rows)
    ∙ sym (ap (λ r. effect_after pred r (λ total. effect_of_aggregate pred x total (is_some_row rows) env)) told))

-- of these rows the first one is the one that a SELECT takes
pub select_led : (tables : List TableInfo) (ws : List Write) (db : List (List Keyed)) (cs xs : List ℕ) (sorts : List RSort) (d : Direction) (pred : Pred) (at : ℤ) (env : Env) (row : Option Keyed)
    → AreSoundTables tables ws db → KnowsKey tables pred → Leads sorts (key_columns tables pred.table) pred.tests d → at ≡ pos 0 → row ≡ foremost d (found_by pred (applied ws db))
    → effect_of_select pred cs xs row env ≡ effect_of_select pred cs xs (item_at (ordered sorts (found_by pred (applied ws db))) at) env
select_led tables ws db cs xs sorts d pred at env row stands knows leads none is =
    let rows : List Keyed = found_by pred (applied ws db) in
    ap (λ (o : Option Keyed). effect_of_select pred cs xs o env) (is ∙ (sym (leads rows (found_admitted tables ws db pred stands knows)) ∙ ap (item_at (ordered sorts rows)) (sym none)))

-- what an aggregate does that finds these rows
pub total_found_done : (tables : List TableInfo) (agg : RAgg) (x t : ℕ) (conds : List RCond) (env : Env) (db : List (List Keyed)) (pred : Pred) → asks tables t conds (column_in agg) env ≡ Ok pred
    → IsEffect tables (Total agg x t conds) env db (total_asked agg x pred (found_by pred db) env)
total_found_done tables agg x t conds env db pred h =
    subst (λ rows. IsEffect tables (Total agg x t conds) env db (total_asked agg x pred rows env)) (matching_all (found_by pred db)) (total_done tables agg x t conds env db pred (found_by pred db) h refl)

-- what a SELECT does that finds these rows
pub select_found_done : (tables : List TableInfo) (cs xs : List ℕ) (t : ℕ) (conds : List RCond) (sorts : List RSort) (offset : Option RExpr) (env : Env) (db : List (List Keyed)) (pred : Pred) (z : ℤ)
    → asks tables t conds (with_sorts cs sorts) env ≡ Ok pred → row_number offset env ≡ Ok z → IsEffect tables (Select cs xs t conds sorts offset) env db (effect_of_select pred cs xs (item_at (ordered sorts (found_by pred db)) z) env)
select_found_done tables cs xs t conds sorts offset env db pred z h k =
    subst (λ rows. IsEffect tables (Select cs xs t conds sorts offset) env db (effect_of_select pred cs xs (item_at (ordered sorts rows) z) env)) (matching_all (found_by pred db))
    (select_goes tables cs xs t conds sorts offset env db pred z (found_by pred db) h k refl)

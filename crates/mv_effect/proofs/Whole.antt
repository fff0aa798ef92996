-- Predicates whose tests give the key whole.
use Rattle.std.proofs.Common.{◌≡◌, ◌≤◌, ◌<◌, ℕ, suc, Bool, true, false, cond, List, [], ◌∷◌, Option, Some, None, length, if◌then◌else◌, refl, sym, ap, ◌∙◌, arith}
use Rattle.std.specs.List.{filter}
use Rattle.mv_values.specs.declared.value.Value.{Value}
use Rattle.mv_values.specs.declared.rows.Keyed.{Keyed}
use Rattle.mv_values.specs.declared.patch.Write.{Write}
use Rattle.mv_values.specs.declared.pred.Pred.{Pred}
use Rattle.mv_values.specs.declared.schema.TableInfo.{TableInfo}
use Rattle.mv_values.specs.Patching.{row_of, standing, applied, found_by}
use Rattle.mv_values.specs.Preds.{matches, matched}
use Rattle.mv_values.specs.Tables.{rows_at, key_columns, KeysStand}
use Rattle.mv_table.specs.Spans.{AdmitsOnly}
use Rattle.mv_table.proofs.Whole.{only_under}
use Rattle.mv_eval.proofs.Spanning.{whole_matches}
use Rattle.mv_record.specs.Writes.{AreRising}
use Rattle.mv_record.proofs.Patching.{row_of-found}
use Rattle.mv_recorded.specs.Asking.{KnowsKey}
use Rattle.mv_undo.specs.Owning.{touches}
use Rattle.mv_undo.proofs.Laying.{untouched}
use Rattle.mv_effect.specs.Looking.{different, AskedAtMost}
use Rattle.mv_effect.proofs.Foremost.{row_after}
use Rattle.mv_view.specs.Viewing.{Sight}

-- a write on a key is one
touched_some : (t : ℕ) (key : List Value) (ws : List Write) → touches t key ws ≡ true → 1 ≤ different ws
touched_some t key [] on = cc
touched_some t key (w ∷ ws) on = by (touches w.table w.key ws) refl (touched_some w.table w.key ws)
  where
    by : (b : Bool) → touches w.table w.key ws ≡ b → (touches w.table w.key ws ≡ true → 1 ≤ different ws) → 1 ≤ (if b then different ws else suc (different ws))
    by true e more = more e
    by false e more = omega arith

-- so the view may be asked for the row under it
pub asked_touched : (t : ℕ) (key : List Value) (ws : List Write) (before after : Sight) → touches t key ws ≡ true → AskedAtMost 0 1 before after → AskedAtMost 1 (different ws) before after
asked_touched t key ws before after on h =
    let some : 1 ≤ different ws = touched_some t key ws on in
    record { for_rows = omega (arith, h.for_rows); for_row = omega (arith, h.for_row, some) }

-- under a key that no write is on the predicate matches the same row
pub match_untouched : (pred : Pred) (ws : List Write) (db : List (List Keyed)) (key : List Value) → AreRising db → pred.table < length db → touches pred.table key ws ≡ false
    → matched pred (row_of (rows_at db pred.table) key) ≡ row_of (found_by pred (applied ws db)) key
match_untouched pred ws db key rising table off =
    sym (row_after pred ws db rising table key ∙ ap (matched pred) (untouched pred.table key ws (row_of (rows_at db pred.table) key) off))

standing_matched : (pred : Pred) (key : List Value) (o : Option (List Value)) → filter (λ item. matches pred item.row) (standing key o) ≡ standing key (matched pred o)
standing_matched pred key None = refl
standing_matched pred key (Some row) = by (matches pred row)
  where
    by : (b : Bool) → cond b (record { key = key; row = row } ∷ []) [] ≡ standing key (if b then Some row else None)
    by true = refl
    by false = refl

-- the row under the whole key is all that the predicate finds
pub found_whole : (tables : List TableInfo) (pred : Pred) (db : List (List Keyed)) (key : List Value) → KnowsKey tables pred → KeysStand tables db → AreRising db → AdmitsOnly pred.tests (length (key_columns tables pred.table)) key
    → standing key (row_of (found_by pred db) key) ≡ found_by pred db
found_whole tables pred db key knows stand rising only =
    let rows = rows_at db pred.table in
    let under = whole_matches (key_columns tables pred.table) pred.tests rows key knows.places (stand pred.table) only in
    ap (standing key) (row_of-found pred db key rising) ∙ (sym (standing_matched pred key (row_of rows key)) ∙ sym (only_under (λ item. matches pred item.row) key rows (rising pred.table) under))

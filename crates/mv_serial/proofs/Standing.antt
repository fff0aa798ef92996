-- Statements leave each row under its own values of the key columns.
use Rattle.std.proofs.Common.{◌≡◌, ℕ, zero, suc, List, [], ◌∷◌, Result, Ok, Err, slice_set, refl, sym, subst}
use Rattle.std.proofs.lemmas.List.Elements.{All-nil, All-filter}
use Rattle.std.specs.Prelude.{not}
use Rattle.mv_values.specs.Preds.{meets}
use Rattle.mv_values.specs.declared.pred.Test.{Test}
use Rattle.mv_values.specs.declared.rows.Keyed.{Keyed}
use Rattle.mv_values.specs.declared.schema.TableInfo.{TableInfo}
use Rattle.mv_values.specs.declared.calls.End.{End}
use Rattle.mv_values.specs.Columns.{columns_of}
use Rattle.mv_values.specs.Tables.{key_columns, rows_at, KeysStand, Tables, StandsUnder}
use Rattle.mv_catalog.specs.declared.resolved.RSetItem.{RSetItem}
use Rattle.mv_eval.specs.declared.state.State.{State}
use Rattle.mv_eval.specs.Changes.{set_row_by, without, put_row}
use Rattle.mv_eval.specs.References.{fit_in}
use Rattle.mv_eval.specs.Own.{StandUnder}
use Rattle.mv_eval.proofs.Standing.{stand_set, set_row_keeps, updated_stand, put_stands}
use Rattle.mv_serial.proofs.Tabling.{table_with, updated_at}

-- a table with rows that stand under their keys
with_stands : (infos : List TableInfo) (db new : Tables) (t : ℕ) (r : Result (List Keyed) End) → KeysStand infos db → ((rows : List Keyed) → r ≡ Ok rows → StandUnder (key_columns infos t) rows)
    → table_with db t r ≡ Ok new → KeysStand infos new
with_stands infos db new t (Ok rows) h made is = let same : slice_set db t rows ≡ new = cc in subst (KeysStand infos) same (stand_set infos db t rows h (made rows refl))
with_stands infos db new t (Err e) h made is = cc

-- UPDATE
pub update_stands : (infos : List TableInfo) (t : ℕ) (items : List RSetItem) (tests : List Test) (st : State) (new : Tables) → KeysStand infos st.tables
    → table_with st.tables t (updated_at infos t items tests st) ≡ Ok new → KeysStand infos new
update_stands infos t items tests st new h is =
    with_stands infos st.tables new t (updated_at infos t items tests st) h
    (λ rows made. updated_stand (λ row. set_row_by (fit_in infos t st.tables) (key_columns infos t) st.env row items row) (key_columns infos t) tests
    (λ row made is. set_row_keeps (fit_in infos t st.tables) (key_columns infos t) st.env row items row made is) (rows_at st.tables t) rows (h t) made) is

-- DELETE
pub delete_stands : (infos : List TableInfo) (t : ℕ) (tests : List Test) (db new : Tables) → KeysStand infos db → new ≡ slice_set db t (without tests (rows_at db t)) → KeysStand infos new
delete_stands infos t tests db new h is =
    subst (KeysStand infos) (sym is) (stand_set infos db t (without tests (rows_at db t)) h (All-filter (λ item. not (meets tests item.row)) (StandsUnder (key_columns infos t)) (rows_at db t) (h t)))

-- INSERT
pub insert_stands : (infos : List TableInfo) (t : ℕ) (item : Keyed) (db new : Tables) → KeysStand infos db → item.key ≡ columns_of item.row (key_columns infos t) → table_with db t (put_row item (rows_at db t)) ≡ Ok new
    → KeysStand infos new
insert_stands infos t item db new h p is = with_stands infos db new t (put_row item (rows_at db t)) h (λ rows made. put_stands (key_columns infos t) item (rows_at db t) rows p (h t) made) is

-- in a database of one table with no rows each row stands under its key
pub none_stand : (infos : List TableInfo) → KeysStand infos ([] ∷ [])
none_stand infos zero = All-nil (StandsUnder (key_columns infos 0))
none_stand infos (suc t) = All-nil (StandsUnder (key_columns infos (suc t)))

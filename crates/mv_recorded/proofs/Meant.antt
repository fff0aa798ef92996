-- The records of a full run tell its reply and the database after it.
use Rattle.std.proofs.Common.{◌≡◌, ℕ, List, [], Result, Ok, Err, length, ◌++◌, refl, ap, ◌∙◌}
use Rattle.mv_record.proofs.Rising.{rises_from}
use Rattle.mv_values.specs.declared.schema.TableInfo.{TableInfo}
use Rattle.mv_values.specs.declared.calls.Call.{Call}
use Rattle.mv_values.specs.declared.calls.End.{End}
use Rattle.mv_values.specs.Keys.{IsRising}
use Rattle.mv_values.specs.Tables.{rows_at, Tables}
use Rattle.mv_catalog.specs.declared.resolved.ProcInfo.{ProcInfo}
use Rattle.mv_eval.specs.declared.state.State.{State}
use Rattle.mv_eval.specs.Alone.{alone}
use Rattle.mv_eval.specs.TableAfter.{begun, reply_in, tables_left}
use Rattle.mv_record.specs.declared.record.Record.{Record}
use Rattle.mv_record.specs.Runs.{TellsAll, writes_in, lines_in}
use Rattle.mv_recorded.specs.Recorded.{recorded, meaning, outside}
use Rattle.mv_recorded.proofs.Following.{told_follows}
use Rattle.mv_recorded.proofs.Telling.{TellsOf, recorded_tells}
use Rattle.mv_recorded.proofs.Leading.{Arrives, LeadsTo, leads_law}

meant_by : (db : Tables) (st : State) (rs : List Record) (out : Result State End) → st.lines ≡ [] → TellsOf st rs out → Arrives db (writes_in rs) out
    → TellsAll db (record { records = rs; reply = reply_in out; tables = tables_left db out })
meant_by db st rs (Ok next) none tells arrives = record { goes_on = tells.0; lines = tells.1 ∙ ap (λ l. l ++ lines_in rs) none; tables = arrives.0 }
meant_by db st rs (Err e) none tells arrives = record { stops = tells; lines = refl; tables = refl }

-- where the keys of each table rise, no record ends the call, the reply has their lines and their changes lead to the database after it;
-- or the last one ends the call, and the database is as before
pub meaning_tells : (tables : List TableInfo) (proc : ProcInfo) (call : Call) (db : Tables) → ((t : ℕ) → IsRising (rows_at db t)) → TellsAll db (meaning tables proc call db)
meaning_tells tables proc call db rise =
    meant_by db (begun proc call db) (recorded tables proc call db) (alone tables proc.body (begun proc call db)) refl (recorded_tells tables proc call db)
    (told_follows LeadsTo leads_law tables (length call.arguments) proc.body 1 outside [] (begun proc call db) (λ t. rises_from (rows_at db t) (rise t)))

-- A record of a full run leaves each row under its own key.
use Rattle.std.proofs.Common.{◌≡◌, ◌+◌, List, [], ◌∷◌, ◌++◌, None, Result, Ok, Err, length, drop, refl, sym, ap, subst, ◌∙◌}
use Rattle.mv_values.specs.declared.calls.End.{End}
use Rattle.mv_values.specs.declared.schema.TableInfo.{TableInfo}
use Rattle.mv_values.specs.Patching.{applied}
use Rattle.mv_values.specs.Tables.{KeysStand, Tables}
use Rattle.mv_catalog.specs.Statements.{size}
use Rattle.mv_catalog.specs.declared.resolved.ProcInfo.{ProcInfo}
use Rattle.mv_catalog.specs.declared.resolved.RStmt.{RStmt, out-RStmt}
use Rattle.mv_catalog.specs.declared.resolved.RStmt.TheOpen.{RStmt-F}
use Rattle.mv_eval.specs.declared.state.State.{State}
use Rattle.mv_record.specs.declared.record.Record.{Record}
use Rattle.mv_record.specs.Runs.{writes_in}
use Rattle.mv_record.specs.Writes.{AreRising}
use Rattle.mv_record.proofs.Patching.{rising_applied}
use Rattle.mv_recorded.specs.Asking.{on}
use Rattle.mv_recorded.specs.Doing.{itself}
use Rattle.mv_recorded.specs.Effect.{TellsEffect, HasColumns}
use Rattle.mv_recorded.specs.Recorded.{Site, own_record, outside}
use Rattle.mv_recorded.proofs.Effects.{effect_known}
use Rattle.mv_recorded.proofs.Standing.{itself_stands}
use Rattle.mv_exec.specs.declared.frames.Frame.{Frame}
use Rattle.mv_exec.specs.declared.task.Task.{Task}
use Rattle.mv_exec.specs.Left.{run, left, inside}
use Rattle.mv_exec.specs.Frames.{block_of, holder_of, site_in, site_of, turns_of, jobs_left, HoldsFrame}
use Rattle.mv_exec.specs.Tasks.{frames_of, state_of, left_of}
use Rattle.mv_exec.proofs.Adding.{left_next, first_same, applied_both, writes_more}

-- a record that tells the effect of its statement does
keys_told : (tables : List TableInfo) (y : RStmt-F RStmt) (r : Record) (st : State) (out : Result State End) → itself tables y st ≡ out → KeysStand tables st.tables → TellsEffect r st out
    → KeysStand tables (applied r.writes st.tables)
keys_told tables y r st (Ok next) is keys tells = subst (KeysStand tables) (ap (λ (n : State). n.tables) tells.1) (itself_stands tables y st next keys is)
keys_told tables y r st (Err e) is keys tells = subst (λ ws. KeysStand tables (applied ws st.tables)) (sym tells.writes) keys

-- so does the record that is left next
pub keys_after : (proc : ProcInfo) (tables : List TableInfo) (task : Task) (db : Tables) (r : Record) (tail : List Record) (outer : List Frame) (p : Frame) (s : RStmt)
    → HoldsFrame proc (frames_of task) outer p s → HasColumns (out-RStmt s) → AreRising db → left_of proc tables task db ≡ r ∷ tail
    → KeysStand tables (applied (writes_in task.log.records) db) → KeysStand tables (applied (writes_in (task.log.records ++ r ∷ [])) db)
keys_after proc tables task db r tail outer p s at has rise leaves keys =
    let st : State = state_of task db in
    let site : Site = site_in p.holder (site_of outside outer) in
    let own : Record = own_record tables task.parameters (out-RStmt s) p.number site task.log.records st in
    let rest : List Record = on (itself tables (out-RStmt s) st) (left tables task.parameters
    (inside tables (length task.log.records) (out-RStmt s) p.number site st ++ run site (p.number + size s) (drop (p.at + 1) (block_of proc (holder_of proc None outer) p))
    ∷ (turns_of task.log.records (site_of outside outer) (block_of proc (holder_of proc None outer) p) p.first p.holder ++ jobs_left proc task.log.records outer)) (task.log.records ++ own ∷ [])) in
    let both : (own ≡ r) × (rest ≡ tail) = first_same own r rest tail (sym (left_next proc tables task db outer p s at) ∙ leaves) in
    let known : TellsEffect own st (itself tables (out-RStmt s) st) =
    effect_known tables task.parameters (out-RStmt s) p.number site task.log.records st has (rising_applied (writes_in task.log.records) db rise) in
    let told : KeysStand tables (applied own.writes st.tables) = keys_told tables (out-RStmt s) own st (itself tables (out-RStmt s) st) refl keys known in
    subst (KeysStand tables) (sym (ap (λ ws. applied ws db) (writes_more task.log.records r) ∙ applied_both (writes_in task.log.records) r.writes db))
    (subst (λ (q : Record). KeysStand tables (applied q.writes st.tables)) both.0 told)

-- The calls of a program.
use Rattle.std.proofs.Common.{◌≡◌, ◌<◌, ℕ, Some, ap, sym, subst, ◌∙◌, length, get_or, refl}
use Rattle.std.specs.Prelude.{slice_get}
use Rattle.std.proofs.lemmas.Option.{slice_get_read, same_Some}
use Rattle.std.proofs.lemmas.Slice.Zip.{AllZip-long}
use Rattle.mv_values.specs.declared.calls.Call.{Call}
use Rattle.mv_values.specs.Tables.{Tables}
use Rattle.mv_catalog.specs.declared.resolved.Program.{Program}
use Rattle.mv_catalog.specs.declared.resolved.ProcInfo.{ProcInfo}
use Rattle.mv_catalog.specs.Text.{IsProcedure, IsCall, Suits}
use Rattle.mv_eval.specs.Alone.{alone}
use Rattle.mv_eval.specs.TableAfter.{begun, result_of, result_at, result_in}
use Rattle.mv_record.specs.Databases.{IsDatabaseOf, IsProgram}
use Rattle.mv_recorded.specs.Recorded.{recorded, records, records_at, records_in}
use Rattle.mv_recorded.proofs.RowsTyped.{all_get}
use Rattle.mv_recorder.specs.Scenes.{AreSound}

-- a call and its procedure, as they stand in a program
pub record IsCalled (p : Program) (number : ℕ) (call : Call) (proc : ProcInfo) : Type 0 where
  pub call_at : slice_get p.resolved.calls number ≡ Some call
  pub proc_at : slice_get p.resolved.procedures call.procedure ≡ Some proc

pub is_called : (p : Program) (number : ℕ) (call : Call) (proc : ProcInfo) → number < length p.resolved.calls → call ≡ get_or p.resolved.calls number call → call.procedure < length p.resolved.procedures
    → proc ≡ get_or p.resolved.procedures call.procedure proc → IsCalled p number call proc
is_called p number call proc h is i are = record {
  call_at = slice_get_read p.resolved.calls (length p.resolved.calls) number call refl h is;
  proc_at = slice_get_read p.resolved.procedures (length p.resolved.procedures) call.procedure proc refl i are;
}

pub called_records : (p : Program) (number : ℕ) (call : Call) (proc : ProcInfo) (db : Tables) → IsCalled p number call proc → recorded p.resolved.tables proc call db ≡ records p number db
called_records p number call proc db c = sym (ap (λ o. records_at p o db) c.call_at ∙ ap (λ o. records_in p o call db) c.proc_at)

pub called_outcome : (p : Program) (number : ℕ) (call : Call) (proc : ProcInfo) (db : Tables) → IsCalled p number call proc → alone p.resolved.tables proc.body (begun proc call db) ≡ result_of p number db
called_outcome p number call proc db c = sym (ap (λ o. result_at p o db) c.call_at ∙ ap (λ o. result_in p o call db) c.proc_at)

pub called_procedure : (p : Program) (number : ℕ) (call : Call) (proc : ProcInfo) → IsProgram p → IsCalled p number call proc → IsProcedure p.resolved.tables proc
called_procedure p number call proc whole c = all_get (IsProcedure p.resolved.tables) p.resolved.procedures call.procedure proc whole.text.procedures c.proc_at

pub called_arguments : (p : Program) (number : ℕ) (call : Call) (proc : ProcInfo) → IsProgram p → IsCalled p number call proc → length call.arguments ≡ length proc.params
called_arguments p number call proc whole c =
    let is : IsCall p.resolved.procedures call = all_get (IsCall p.resolved.procedures) p.resolved.calls number call whole.text.calls c.call_at in
    let one : is.0 ≡ proc = same_Some is.0 proc (sym is.1 ∙ c.proc_at) in
    AllZip-long Suits is.0.params call.arguments is.2 ∙ ap (λ (q : ProcInfo). length q.params) one

pub database_sound : (p : Program) (db : Tables) → IsProgram p → IsDatabaseOf p.resolved.tables db → AreSound p.resolved.tables db
database_sound p db whole h = record { few = whole.text.few; each = whole.text.tables; parents = whole.text.parents; keys = h.keys; rising = h.rising }

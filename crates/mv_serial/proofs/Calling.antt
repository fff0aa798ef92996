-- What a call does whose procedure is there.
use Rattle.std.proofs.Common.{◌≡◌, ◌<◌, ℕ, ap, sym, ◌∙◌, length, get_or, refl}
use Rattle.std.proofs.lemmas.Option.{slice_get_read}
use Rattle.mv_values.specs.declared.calls.Call.{Call}
use Rattle.mv_values.specs.Tables.{Tables}
use Rattle.mv_catalog.specs.declared.resolved.Program.{Program}
use Rattle.mv_catalog.specs.declared.resolved.ProcInfo.{ProcInfo}
use Rattle.mv_eval.specs.Alone.{alone}
use Rattle.mv_eval.specs.TableAfter.{begun, result_of, result_at, result_in}

pub called : (p : Program) (number : ℕ) (call : Call) (procedure : ProcInfo) (db : Tables) → number < length p.resolved.calls → call ≡ get_or p.resolved.calls number call
    → call.procedure < length p.resolved.procedures → procedure ≡ get_or p.resolved.procedures call.procedure procedure
    → alone p.resolved.tables procedure.body (begun procedure call db) ≡ result_of p number db
called p number call procedure db h is i are =
    sym (ap (λ o. result_at p o db) (slice_get_read p.resolved.calls (length p.resolved.calls) number call refl h is) ∙ ap (λ o. result_in p o call db) (slice_get_read p.resolved.procedures (length p.resolved.procedures) call.procedure procedure refl i are))

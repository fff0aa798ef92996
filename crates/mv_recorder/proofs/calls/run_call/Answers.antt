use Rattle.std.proofs.Common.{◌≡◌, List, sym, subst}
use Rattle.std.specs.Prelude.{IfOk}
use Rattle.mv_values.specs.declared.schema.TableInfo.{TableInfo}
use Rattle.mv_catalog.specs.Text.{IsProcedure}
use Rattle.mv_eval.specs.TableAfter.{reply_in}
use Rattle.mv_recorder.specs.Scenes.{AreSound}
use Rattle.mv_recorder.proofs.Calling.{is_called, called_records, called_outcome, called_procedure, called_arguments, database_sound}
use Rattle.mv_recorder.proofs.calls.run_call.Goals as goal

pub record_call-requires-clause-sound : goal.record_call-requires-clause-sound
record_call-requires-clause-sound c = subst (λ (ts : List TableInfo). AreSound ts c.args.tables) (sym c.as_slice-infos.ensures) (database_sound c.args.program.now c.args.tables c.requires.whole c.requires.database)

pub record_call-requires-clause-procedure : goal.record_call-requires-clause-procedure
record_call-requires-clause-procedure c =
    let call = rw c.as_slice.ensures at c.in-Some.ensures.lookup in
    let procedure = rw c.as_slice-procedures.ensures at c.in-Some-get.ensures.lookup in
    let is = is_called c.args.program.now c.args.number c.in-Some.call.now c.in-Some-get.procedure.now call.3.0 call.1 procedure.3.0 procedure.1 in
    subst (λ (ts : List TableInfo). IsProcedure ts c.in-Some-get.procedure.now) (sym c.as_slice-infos.ensures) (called_procedure c.args.program.now c.args.number c.in-Some.call.now c.in-Some-get.procedure.now c.requires.whole is)

pub record_call-requires-clause-arguments : goal.record_call-requires-clause-arguments
record_call-requires-clause-arguments c =
    let call = rw c.as_slice.ensures at c.in-Some.ensures.lookup in
    let procedure = rw c.as_slice-procedures.ensures at c.in-Some-get.ensures.lookup in
    called_arguments c.args.program.now c.args.number c.in-Some.call.now c.in-Some-get.procedure.now c.requires.whole
    (is_called c.args.program.now c.args.number c.in-Some.call.now c.in-Some-get.procedure.now call.3.0 call.1 procedure.3.0 procedure.1)

pub returns-in-Some-get-clause-records : goal.returns-in-Some-get-clause-records
returns-in-Some-get-clause-records c =
    let call = rw c.as_slice.ensures at c.in-Some.ensures.lookup in
    let procedure = rw c.as_slice-procedures.ensures at c.in-Some-get.ensures.lookup in
    let is = is_called c.args.program.now c.args.number c.in-Some.call.now c.in-Some-get.procedure.now call.3.0 call.1 procedure.3.0 procedure.1 in
    subst (λ rs. IfOk c.record_call.result (λ r. r.records ≡ rs)) (called_records c.args.program.now c.args.number c.in-Some.call.now c.in-Some-get.procedure.now c.args.tables is) (rw c.as_slice-infos.ensures at c.record_call.ensures.records)

pub returns-in-Some-get-clause-reply : goal.returns-in-Some-get-clause-reply
returns-in-Some-get-clause-reply c =
    let call = rw c.as_slice.ensures at c.in-Some.ensures.lookup in
    let procedure = rw c.as_slice-procedures.ensures at c.in-Some-get.ensures.lookup in
    let is = is_called c.args.program.now c.args.number c.in-Some.call.now c.in-Some-get.procedure.now call.3.0 call.1 procedure.3.0 procedure.1 in
    subst (λ o. IfOk c.record_call.result (λ r. r.reply ≡ reply_in o)) (called_outcome c.args.program.now c.args.number c.in-Some.call.now c.in-Some-get.procedure.now c.args.tables is) (rw c.as_slice-infos.ensures at c.record_call.ensures.reply)

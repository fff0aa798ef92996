use Rattle.std.proofs.Common.{◌≡◌, subst}
use Rattle.std.specs.Prelude.{IfOk}
use Rattle.mv_eval.specs.TableAfter.{tables_left, reply_in}
use Rattle.mv_serial.proofs.Calling.{called}
use Rattle.mv_serial.proofs.calls.run_call.Goals as goal

pub returns-in-Some-get-clause-tables : goal.returns-in-Some-get-clause-tables
returns-in-Some-get-clause-tables c =
    let call = rw c.as_slice.ensures at c.in-Some.ensures.lookup in
    let procedure = rw c.as_slice-procedures.ensures at c.in-Some-get.ensures.lookup in
    subst (λ o. IfOk c.run_procedure.result (λ l. l.tables ≡ tables_left c.args.tables o))
    (called c.args.program.now c.args.number c.in-Some.call.now c.in-Some-get.procedure.now c.args.tables call.3.0 call.1 procedure.3.0 procedure.1)
    c.run_procedure.ensures.tables

pub returns-in-Some-get-clause-reply : goal.returns-in-Some-get-clause-reply
returns-in-Some-get-clause-reply c =
    let call = rw c.as_slice.ensures at c.in-Some.ensures.lookup in
    let procedure = rw c.as_slice-procedures.ensures at c.in-Some-get.ensures.lookup in
    subst (λ o. IfOk c.run_procedure.result (λ l. l.reply ≡ reply_in o))
    (called c.args.program.now c.args.number c.in-Some.call.now c.in-Some-get.procedure.now c.args.tables call.3.0 call.1 procedure.3.0 procedure.1)
    c.run_procedure.ensures.reply

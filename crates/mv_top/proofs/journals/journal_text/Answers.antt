use Rattle.std.proofs.Common.{List, length, ap, subst, arith}
use Rattle.std.proofs.lemmas.Result.{err_from_is_err_and}
use Rattle.mv_journal.specs.declared.event.Event.{Event}
use Rattle.mv_top.specs.Refusing.{TellsWrong}
use Rattle.mv_script.specs.Scripts.{batch_of}
use Rattle.mv_top.proofs.Driving.{journal_told}
use Rattle.mv_top.proofs.journals.journal_text.Goals as goal

pub run_journal-requires-clause-few : goal.run_journal-requires-clause-few
run_journal-requires-clause-few c =
    let same = ap (λ (es : List Event). length es) c.as_slice.ensures in
    let few = c.in_ok-events.ensures.few in
    let size = c.requires.size in
    omega (arith, same, few, size)

pub returns-in_err-outcome-clause-refused : goal.returns-in_err-outcome-clause-refused
returns-in_err-outcome-clause-refused c =
    let p = err_from_is_err_and c.from_residual-in_err-outcome.result c.from_residual-in_err-outcome.ensures.1 in
    let error = c.in_err-outcome.field-0.0 in
    rw (p.1, p.2)
    (journal_told c.args.options c.args.bytes.now c.args.program (batch_of c.in_ok-script.field-0.script) c.in_ok-events.events error c.in_ok-script.ensures.batch c.in_ok-events.ensures.events
    (subst (λ (es : List Event). TellsWrong (batch_of c.in_ok-script.field-0.script) es error) c.as_slice.ensures c.in_err-outcome.ensures.wrong))

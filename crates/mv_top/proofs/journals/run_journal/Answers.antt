use Rattle.std.proofs.lemmas.Result.{err_from_is_err_and}
use Rattle.mv_script.specs.Scripts.{batch_of}
use Rattle.mv_top.proofs.Driving.{fault_told}
use Rattle.mv_top.proofs.journals.run_journal.Goals as goal

pub returns-in_err-replay-clause-wrong : goal.returns-in_err-replay-clause-wrong
returns-in_err-replay-clause-wrong c =
    let p = err_from_is_err_and c.from_residual.result c.from_residual.ensures.1 in
    rw (p.1, p.2) (fault_told (batch_of c.args.script) c.args.events.now c.in_err-replay.field-0.0 c.in_err-replay.ensures)

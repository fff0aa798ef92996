use Rattle.std.proofs.lemmas.Result.{err_from_is_err_and}
use Rattle.mv_core.proofs.Turning.{lawful_shut, replayed_outcome, replay_stops}
use Rattle.mv_core.proofs.runs.replay.Goals as goal

pub outcome-requires : goal.outcome-requires
outcome-requires c = lawful_shut c.args.events.now c.in_ok-core.core.book c.drive.new.history.book c.in_ok-drive.ensures.1 c.in_ok-drive.ensures.0

pub returns-in_err-drive : goal.returns-in_err-drive
returns-in_err-drive c =
    let p = err_from_is_err_and c.from_residual-in_err-drive.result c.from_residual-in_err-drive.ensures.1 in
    rw (p.1, p.2) (replay_stops c.args.script c.args.events.now c.in_ok-core.core.book c.drive.new.history.book c.in_err-drive.field-0.0 c.in_ok-core.ensures.script c.in_ok-core.ensures.schedule c.in_err-drive.ensures)

pub returns : goal.returns
returns c =
    replayed_outcome c.args.script c.args.events.now c.in_ok-core.core.book c.drive.new.history.book c.in_ok-outcome.field-0 c.in_ok-core.ensures.script c.in_ok-core.ensures.schedule c.in_ok-core.ensures.journal c.in_ok-drive.ensures c.in_ok-outcome.ensures.outcome

use Rattle.mv_audit.specs.Schedules.{audited}
use Rattle.mv_audit.proofs.Scheduling.{answered_is, answered_right, call_within}
use Rattle.mv_audit.proofs.events.answer.Goals as goal

pub with_answer-requires : goal.with_answer-requires
with_answer-requires c = call_within c.args.schedule c.args.call c.requires.live

pub returns-clause-after : goal.returns-clause-after
returns-clause-after c = answered_is (audited c.args.program.now c.args.rounds) c.args.schedule c.args.call c.with_answer.result c.requires.live c.with_answer.ensures

pub returns-clause-schedule : goal.returns-clause-schedule
returns-clause-schedule c =
    let p = c.args.program.now in
    answered_right p.resolved.tables (audited p c.args.rounds) c.args.schedule c.args.call c.with_answer.result c.requires.schedule c.requires.live c.requires.allowed c.with_answer.ensures

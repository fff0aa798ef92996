use Rattle.std.proofs.Common.{◌∙◌}
use Rattle.mv_audit.specs.Schedules.{audited}
use Rattle.mv_audit.proofs.Scheduling.{trimmed_seen, trimmed_kept}
use Rattle.mv_audit.proofs.events.commit.Goals as goal

pub returns-clause-after : goal.returns-clause-after
returns-clause-after c = trimmed_seen c.in_ok-schedule.schedule c.trimmed.result c.trimmed.ensures ∙ c.in_ok-schedule.ensures.after

pub returns-clause-schedule : goal.returns-clause-schedule
returns-clause-schedule c =
    let p = c.args.program.now in
    trimmed_kept p.resolved.tables (audited p c.args.rounds) c.in_ok-schedule.schedule c.trimmed.result c.trimmed.ensures c.in_ok-schedule.ensures.schedule

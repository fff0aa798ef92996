use Rattle.std.proofs.Common.{length, ap, ◌∙◌}
use Rattle.mv_eval.specs.TableAfter.{result_of, reply_in}
use Rattle.mv_recorded.specs.Recorded.{records}
use Rattle.mv_audit.specs.Schedules.{audited}
use Rattle.mv_audit.proofs.Scheduling.{begun_is, begun_right}
use Rattle.mv_audit.proofs.events.begin.Goals as goal

pub returns-clause-after : goal.returns-clause-after
returns-clause-after c =
    let ran = c.in_ok-ran.ran in
    begun_is (audited c.args.program.now c.args.rounds) c.args.schedule ran.schedule ran.records ran.reply c.with_call.result c.in_ok-ran.ensures.schedule c.with_call.ensures

pub returns-clause-schedule : goal.returns-clause-schedule
returns-clause-schedule c =
    let p = c.args.program.now in
    let s = c.args.schedule in
    let ran = c.in_ok-ran.ran in
    begun_right p.resolved.tables (audited p c.args.rounds) s ran.schedule ran.records ran.reply c.with_call.result c.in_ok-ran.ensures.schedule c.requires.schedule c.requires.allowed
    (c.in_ok-ran.ensures.records ∙ (ap (λ n. records p n s.tables) c.len-call.ensures ∙ ap (records p (length s.calls)) c.requires.schedule.tables))
    (c.in_ok-ran.ensures.reply ∙ (ap (λ n. reply_in (result_of p n s.tables)) c.len-call.ensures ∙ ap (λ db. reply_in (result_of p (length s.calls) db)) c.requires.schedule.tables)) c.with_call.ensures

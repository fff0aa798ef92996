use Rattle.std.proofs.Common.{◌<◌, ◌≤◌, ◌^◌, length, sym, ap, subst, ◌∙◌}
use Rattle.mv_record.specs.Paths.{PathsRise}
use Rattle.mv_eval.specs.TableAfter.{result_of, reply_in}
use Rattle.mv_recorded.specs.Recorded.{records}
use Rattle.mv_audit.specs.declared.schedule.Schedule.{Schedule}
use Rattle.mv_audit.specs.Schedules.{audited}
use Rattle.mv_audit.proofs.Scheduling.{again_is, again_right, call_within, starts_within, few_commits, live_rises, rises}
use Rattle.mv_audit.proofs.events.again.Goals as goal

pub run-requires-clause-database : goal.run-requires-clause-database
run-requires-clause-database c = c.requires.schedule.database

pub with_round-requires-clause-within : goal.with_round-requires-clause-within
with_round-requires-clause-within c = subst (λ (s : Schedule). c.args.call < length s.calls) (sym c.in_ok-ran.ensures.schedule) (call_within c.args.schedule c.args.call c.requires.live)

pub with_round-requires-clause-past : goal.with_round-requires-clause-past
with_round-requires-clause-past c l at =
    subst (λ (s : Schedule). l.start ≤ length s.commits) (sym c.in_ok-ran.ensures.schedule)
    (starts_within c.args.program.now.resolved.tables (audited c.args.program.now c.args.rounds) c.args.schedule c.args.call l c.requires.schedule (rw c.in_ok-ran.ensures.schedule at at))

pub with_round-requires-clause-few : goal.with_round-requires-clause-few
with_round-requires-clause-few c =
    subst (λ (s : Schedule). length s.commits < 2 ^ 32) (sym c.in_ok-ran.ensures.schedule) (few_commits c.args.program.now.resolved.tables (audited c.args.program.now c.args.rounds) c.args.schedule c.requires.schedule c.requires.few)

pub with_round-requires-clause-old : goal.with_round-requires-clause-old
with_round-requires-clause-old c l at = live_rises c.args.program.now c.args.rounds c.args.schedule c.args.call l c.requires.schedule c.requires.live (rw c.in_ok-ran.ensures.schedule at at)

pub with_round-requires-clause-new : goal.with_round-requires-clause-new
with_round-requires-clause-new c = subst PathsRise (sym c.in_ok-ran.ensures.records) (rises c.args.program.now c.args.call c.args.schedule.tables)

pub returns-clause-after : goal.returns-clause-after
returns-clause-after c =
    let p = c.args.program.now in
    again_is p.resolved.tables (audited p c.args.rounds) c.args.schedule c.in_ok-ran.ran.schedule c.args.call c.args.moved c.in_ok-ran.ran.records c.in_ok-ran.ran.reply c.with_round.result c.in_ok-ran.ensures.schedule c.requires.schedule c.requires.live c.with_round.ensures

pub returns-clause-schedule : goal.returns-clause-schedule
returns-clause-schedule c =
    let p = c.args.program.now in
    again_right p.resolved.tables (audited p c.args.rounds) c.args.schedule c.in_ok-ran.ran.schedule c.args.call c.args.moved c.in_ok-ran.ran.records c.in_ok-ran.ran.reply c.with_round.result c.in_ok-ran.ensures.schedule c.requires.schedule c.requires.live c.requires.allowed
    (c.in_ok-ran.ensures.records ∙ ap (records p c.args.call) c.requires.schedule.tables)
    (c.in_ok-ran.ensures.reply ∙ ap (λ db. reply_in (result_of p c.args.call db)) c.requires.schedule.tables) c.with_round.ensures

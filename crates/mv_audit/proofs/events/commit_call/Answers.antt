use Rattle.std.proofs.Common.{◌<◌, ◌≤◌, ◌^◌, length, sym, subst, ◌∙◌}
use Rattle.mv_record.specs.Paths.{PathsRise}
use Rattle.mv_record.specs.Writes.{AreRising}
use Rattle.mv_audit.specs.declared.schedule.Schedule.{Schedule}
use Rattle.mv_audit.specs.Schedules.{audited}
use Rattle.mv_audit.proofs.Scheduling.{committed_is, committed_right, call_within, starts_within, few_commits, live_rises, rises}
use Rattle.mv_audit.proofs.events.commit_call.Goals as goal

pub run-requires-clause-database : goal.run-requires-clause-database
run-requires-clause-database c = c.requires.schedule.database

pub with_commit-requires-clause-within : goal.with_commit-requires-clause-within
with_commit-requires-clause-within c = subst (λ (s : Schedule). c.args.call < length s.calls) (sym c.in_ok-ran.ensures.schedule) (call_within c.args.schedule c.args.call c.requires.live)

pub with_commit-requires-clause-past : goal.with_commit-requires-clause-past
with_commit-requires-clause-past c l at =
    subst (λ (s : Schedule). l.start ≤ length s.commits) (sym c.in_ok-ran.ensures.schedule)
    (starts_within c.args.program.now.resolved.tables (audited c.args.program.now c.args.rounds) c.args.schedule c.args.call l c.requires.schedule (rw c.in_ok-ran.ensures.schedule at at))

pub with_commit-requires-clause-few : goal.with_commit-requires-clause-few
with_commit-requires-clause-few c =
    subst (λ (s : Schedule). length s.commits < 2 ^ 32) (sym c.in_ok-ran.ensures.schedule) (few_commits c.args.program.now.resolved.tables (audited c.args.program.now c.args.rounds) c.args.schedule c.requires.schedule c.requires.few)

pub with_commit-requires-clause-old : goal.with_commit-requires-clause-old
with_commit-requires-clause-old c l at = live_rises c.args.program.now c.args.rounds c.args.schedule c.args.call l c.requires.schedule c.requires.live (rw c.in_ok-ran.ensures.schedule at at)

pub with_commit-requires-clause-new : goal.with_commit-requires-clause-new
with_commit-requires-clause-new c = subst PathsRise (sym (c.as_slice.ensures ∙ c.in_ok-ran.ensures.records)) (rises c.args.program.now c.args.call c.args.schedule.tables)

pub with_commit-requires-clause-rising : goal.with_commit-requires-clause-rising
with_commit-requires-clause-rising c = subst (λ (s : Schedule). AreRising s.tables) (sym c.in_ok-ran.ensures.schedule) c.requires.schedule.database.rising

pub returns-clause-after : goal.returns-clause-after
returns-clause-after c =
    let p = c.args.program.now in
    let ran = c.in_ok-ran.ran in
    committed_is p.resolved.tables (audited p c.args.rounds) c.args.schedule ran.schedule c.args.call c.args.own ran.records ran.reply c.with_commit.result c.in_ok-ran.ensures.schedule c.requires.schedule c.requires.live
    (rw c.as_slice.ensures at c.with_commit.ensures)

pub returns-clause-schedule : goal.returns-clause-schedule
returns-clause-schedule c =
    let p = c.args.program.now in
    let ran = c.in_ok-ran.ran in
    committed_right p c.args.rounds c.args.schedule ran.schedule c.args.call c.args.own ran.records ran.reply c.with_commit.result c.requires.whole c.in_ok-ran.ensures.schedule c.requires.schedule c.requires.live c.requires.allowed
    c.in_ok-ran.ensures.records c.in_ok-ran.ensures.reply
    (rw c.as_slice.ensures at c.with_commit.ensures)

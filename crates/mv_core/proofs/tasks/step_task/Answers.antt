use Rattle.std.proofs.Common.{rules, arith, ◌+◌, length, refl, ap, ◌∙◌}
use Rattle.mv_values.proofs.Deciding.{always_err}
use Rattle.mv_core.proofs.Stored.{database_shown}
use Rattle.mv_core.proofs.Taking.{runs_shown, runs_back, counts_same, counts_one, task_kept, task_ran, task_named, ran_one}
use Rattle.mv_core.proofs.tasks.step_task.Goals as goal

pub run_next-requires : goal.run_next-requires
run_next-requires g c = λ k. (
  (refl, tt),
  (
    search rules,
    (
      search rules,
      (
        (let live = c.requires.call.live in
            database_shown c.args.book.now c.args.call live.0.start c.script.result.now (g.V.View.sight c.args.view.now) c.requires.call.script c.script.ensures (c.requires.shows live.0 live.1)),
        (let live = c.requires.call.live in
            runs_shown c.args.book.now c.args.call live.0.start c.script.result.now (g.V.View.sight c.args.view.now) c.args.running.now.task c.script.ensures (c.requires.shows live.0 live.1) (c.requires.call.task live.0 live.1).runs),
      ),
    ),
  ),
)

pub returns-in_err-run_next-clause-task : goal.returns-in_err-run_next-clause-task
returns-in_err-run_next-clause-task g c l live =
    task_kept c.args.book.now.script c.args.book.now.schedule.order c.args.call l c.args.running.now c.run_next.new.task (c.requires.call.task l live)
    (runs_back c.args.book.now c.args.call l.start c.script.result.now (g.V.View.sight c.args.view.now) c.run_next.new.task c.script.ensures (c.requires.shows l live) c.in_err-run_next.ensures.runs)
    (counts_same c.args.running.now.task c.run_next.new.task c.in_err-run_next.ensures.err)

pub returns-in_ok-run_next-clause-ok : goal.returns-in_ok-run_next-clause-ok
returns-in_ok-run_next-clause-ok g c l live =
    let few = c.if-len-steps.true in
    let many = c.len.ensures ∙ ap length c.records.ensures in
    let steps = c.steps.ensures l live in
    task_ran c.args.book.now.script c.args.book.now.schedule.order c.args.call l c.args.running.now c.run_next.new.task (c.requires.call.task l live)
    (runs_back c.args.book.now c.args.call l.start c.script.result.now (g.V.View.sight c.args.view.now) c.run_next.new.task c.script.ensures (c.requires.shows l live) c.in_ok-run_next.ensures.runs)
    (ran_one c.args.book.now c.args.call l c.args.running.now c.run_next.new.task c.requires.call c.requires.left live (omega (arith, few, many, steps)) c.in_ok-run_next.ensures.ran)

pub returns-in_ok-run_next-clause-task : goal.returns-in_ok-run_next-clause-task
returns-in_ok-run_next-clause-task g c l live =
    let few = c.if-len-steps.true in
    let many = c.len.ensures ∙ ap length c.records.ensures in
    let steps = c.steps.ensures l live in
    task_kept c.args.book.now.script c.args.book.now.schedule.order c.args.call l c.args.running.now c.run_next.new.task (c.requires.call.task l live)
    (runs_back c.args.book.now c.args.call l.start c.script.result.now (g.V.View.sight c.args.view.now) c.run_next.new.task c.script.ensures (c.requires.shows l live) c.in_ok-run_next.ensures.runs)
    (counts_one c.args.running.now.task c.run_next.new.task
    (ran_one c.args.book.now c.args.call l c.args.running.now c.run_next.new.task c.requires.call c.requires.left live (omega (arith, few, many, steps)) c.in_ok-run_next.ensures.ran))

pub returns-else-len-steps-clause-ok : goal.returns-else-len-steps-clause-ok
returns-else-len-steps-clause-ok g c l live =
    let few = c.if-len-steps.false in
    let many = c.len.ensures ∙ ap length c.records.ensures in
    let steps = c.steps.ensures l live in
    task_named c.args.book.now.script c.args.book.now.schedule.order c.args.call l c.args.running.now (c.requires.call.task l live) (λ le. omega (arith, few, le, many, steps))

pub returns-in_err-run_next-clause-ran : goal.returns-in_err-run_next-clause-ran
returns-in_err-run_next-clause-ran g c = record { count = refl; task = counts_same c.args.running.now.task c.run_next.new.task c.in_err-run_next.ensures.err }

pub returns-in_ok-run_next-clause-ran : goal.returns-in_ok-run_next-clause-ran
returns-in_ok-run_next-clause-ran g c =
    let live = c.requires.call.live in
    let few = c.if-len-steps.true in
    let many = c.len.ensures ∙ ap length c.records.ensures in
    let steps = c.steps.ensures live.0 live.1 in
    record {
      count = refl;
      task = counts_one c.args.running.now.task c.run_next.new.task
          (ran_one c.args.book.now c.args.call live.0 c.args.running.now c.run_next.new.task c.requires.call c.requires.left live.1 (omega (arith, few, many, steps)) c.in_ok-run_next.ensures.ran);
    }

pub returns-else-len-steps-clause-ran : goal.returns-else-len-steps-clause-ran
returns-else-len-steps-clause-ran g c = record { count = refl; task = record { executed = refl; more = omega arith } }

pub returns-in_ok-run_next-clause-one : goal.returns-in_ok-run_next-clause-one
returns-in_ok-run_next-clause-one g c l live all = ran_one c.args.book.now c.args.call l c.args.running.now c.run_next.new.task c.requires.call c.requires.left live all c.in_ok-run_next.ensures.ran

pub returns-else-len-steps-clause-one : goal.returns-else-len-steps-clause-one
returns-else-len-steps-clause-one g c l live all =
    let few = c.if-len-steps.false in
    let many = c.len.ensures ∙ ap length c.records.ensures in
    let steps = c.steps.ensures l live in
    absurd (omega (arith, few, many, steps, all))

pub returns-in_err-run_next-clause-err : goal.returns-in_err-run_next-clause-err
returns-in_err-run_next-clause-err g c = always_err c.from_residual.result _ c.in_err-run_next.ensures.err

pub returns-in_ok-run_next-clause-named : goal.returns-in_ok-run_next-clause-named
returns-in_ok-run_next-clause-named g c l live more =
    let few = c.if-len-steps.true in
    let many = c.len.ensures ∙ ap length c.records.ensures in
    let steps = c.steps.ensures l live in
    absurd (omega (arith, few, many, steps, more))

pub returns-else-len-steps-clause-named : goal.returns-else-len-steps-clause-named
returns-else-len-steps-clause-named g c l live more = refl

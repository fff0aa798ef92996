use Rattle.std.proofs.Common.{rules, refl}
use Rattle.std.proofs.lemmas.Result.{on_ok_weaker}
use Rattle.mv_core.proofs.Stored.{database_shown}
use Rattle.mv_core.proofs.Taking.{runs_shown, runs_back, records_back, task_kept}
use Rattle.mv_core.proofs.tasks.finish_task.Goals as goal

pub run_all-requires : goal.run_all-requires
run_all-requires g c = λ k. (
  (refl, tt),
  (
    search rules,
    (
      search rules,
      (
        (let live = c.requires.call.live in
            database_shown c.args.book.now c.args.call live.0.start c.script.result.now (g.V.View.sight c.args.view.now) c.requires.call.script c.script.ensures (c.requires.shows live.0 live.1)),
        (let live = c.requires.call.live in
            runs_shown c.args.book.now c.args.call live.0.start c.script.result.now (g.V.View.sight c.args.view.now) c.args.running.now.task c.script.ensures (c.requires.shows live.0 live.1) (c.requires.call.task live.0 live.1).runs),
      ),
    ),
  ),
)

pub returns-clause-ok : goal.returns-clause-ok
returns-clause-ok g c = on_ok_weaker c.run_all.result
    (λ are l live. records_back c.args.book.now c.args.call l.start c.script.result.now (g.V.View.sight c.args.view.now) c.run_all.new.task.log.records c.script.ensures (c.requires.shows l live) are) c.run_all.ensures.records

pub returns-clause-task : goal.returns-clause-task
returns-clause-task g c l live =
    task_kept c.args.book.now.script c.args.book.now.schedule.order c.args.call l c.args.running.now c.run_all.new.task (c.requires.call.task l live)
    (runs_back c.args.book.now c.args.call l.start c.script.result.now (g.V.View.sight c.args.view.now) c.run_all.new.task c.script.ensures (c.requires.shows l live) c.run_all.ensures.runs) c.run_all.ensures.counts

pub returns-clause-ran : goal.returns-clause-ran
returns-clause-ran g c = record { count = refl; task = c.run_all.ensures.counts }

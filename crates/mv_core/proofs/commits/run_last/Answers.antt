use Rattle.std.proofs.Common.{refl, rules, length}
use Rattle.mv_core.proofs.Stored.{shows_last, fresh_last, database_shown, only_memory}
use Rattle.mv_core.proofs.Taking.{records_back}
use Rattle.mv_core.proofs.commits.run_last.Goals as goal

pub whole_task-requires : goal.whole_task-requires
whole_task-requires c = λ k. (
  (refl, tt),
  (
    search rules,
    (
      search rules,
      (database_shown c.args.book.now c.args.call (length c.args.book.now.schedule.order) c.script.result.now c.new-view.result c.requires.stored.script c.script.ensures
          (shows_last c.args.book.now c.args.store.now c.commits.result c.new-view.result c.requires.stored c.commits.ensures c.new-view.ensures)),
    ),
  ),
)

pub no_memory-requires : goal.no_memory-requires
no_memory-requires c = only_memory c.new-view.result c.whole_task.new.view c.in-Err.why (fresh_last c.args.book.now c.args.store.now c.commits.result c.new-view.result c.requires.stored c.commits.ensures c.new-view.ensures) c.in-Err.ensures.view.may_refuse

pub returns-in-Ok-clause-records : goal.returns-in-Ok-clause-records
returns-in-Ok-clause-records c =
    records_back c.args.book.now c.args.call (length c.args.book.now.schedule.order) c.script.result.now c.new-view.result c.in-Ok.task.log.records c.script.ensures
    (shows_last c.args.book.now c.args.store.now c.commits.result c.new-view.result c.requires.stored c.commits.ensures c.new-view.ensures) c.in-Ok.ensures.records

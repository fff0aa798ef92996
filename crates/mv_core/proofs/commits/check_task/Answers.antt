use Rattle.std.proofs.Common.{refl, rules}
use Rattle.mv_core.proofs.Stored.{shows_start, fresh_start, only_memory}
use Rattle.mv_core.proofs.commits.check_task.Goals as goal

pub validate_task-requires : goal.validate_task-requires
validate_task-requires c = λ k. (
  (refl, tt),
  (
    search rules,
    (
      search rules,
      λ fresh. shows_start c.args.book.now c.args.store.now c.args.call c.start.result c.new-view.result c.requires.stored fresh c.start.ensures.value c.start.ensures.past c.new-view.ensures,
    ),
  ),
)

pub no_memory-requires : goal.no_memory-requires
no_memory-requires c =
    only_memory c.new-view.result c.validate_task.new.view c.in-Err.why (fresh_start c.args.book.now c.args.store.now c.args.call c.start.result c.new-view.result c.requires.stored c.in-Err.ensures.fresh c.requires.call.live c.start.ensures.value c.new-view.ensures)
    c.in-Err.ensures.view.may_refuse

use Rattle.std.proofs.Common.{refl, rules}
use Rattle.mv_core.proofs.Stored.{shows_last, fresh_last, only_memory}
use Rattle.mv_core.proofs.commits.move_last.Goals as goal

pub move_task-requires : goal.move_task-requires
move_task-requires c = λ k. ((refl, tt), (search rules, ((shows_last c.args.book.now c.args.store.now c.commits.result c.new-view.result c.requires.stored c.commits.ensures c.new-view.ensures), (search rules, search rules))))

pub no_memory-requires : goal.no_memory-requires
no_memory-requires c = only_memory c.new-view.result c.move_task.new.view c.in-Err.why (fresh_last c.args.book.now c.args.store.now c.commits.result c.new-view.result c.requires.stored c.commits.ensures c.new-view.ensures) c.in-Err.ensures.view.may_refuse

use Rattle.mv_core.proofs.Taking.{task_there, running_in, core_set}
use Rattle.mv_core.proofs.Changed.{live_in, book_in}
use Rattle.std.proofs.Common.{ap, sym, subst, ◌∙◌, Some}
use Rattle.mv_core.specs.Books.{Booked, IsNoReader}
use Rattle.mv_core.proofs.engine.Core.validate.Goals as goal

pub unreachable-requires : goal.unreachable-requires
unreachable-requires c =
    task_there c.self.inside.book.script c.self.inside.book.schedule c.self.inside.tasks.items c.args.call c.index_mut.result.now c.self.invariant.0.tasks (live_in c.self.inside.book c.args.self.now.book c.args.call (ap book_in c.self.view_is) c.requires.live) c.index_mut.ensures.value c.in_default.is

pub check_task-requires-clause-kind : goal.check_task-requires-clause-kind
check_task-requires-clause-kind c = subst (λ (b : Booked). IsNoReader b c.args.call) (sym (ap book_in c.self.view_is)) c.requires.kind

pub check_task-requires-clause-call : goal.check_task-requires-clause-call
check_task-requires-clause-call c =
    running_in c.self.inside.book c.self.inside.store c.self.inside.tasks.items c.args.call c.index_mut.result.now c.get_mut-running.result.now c.self.invariant.0 (live_in c.self.inside.book c.args.self.now.book c.args.call (ap book_in c.self.view_is) c.requires.live) c.index_mut.ensures.value (c.in-Some.is ∙ ap Some (sym c.get_mut-running.ensures.value))

pub invariant_of-self : goal.invariant_of-self
invariant_of-self c = (core_set c.self.inside.book c.self.inside.store c.self.inside.tasks.items c.args.call c.check_task.new.running c.self.invariant.0 (live_in c.self.inside.book c.args.self.now.book c.args.call (ap book_in c.self.view_is) c.requires.live) c.check_task.ensures.task, c.self.invariant.1)

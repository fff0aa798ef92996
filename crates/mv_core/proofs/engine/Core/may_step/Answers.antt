use Rattle.std.proofs.Common.{Some, ap, sym, subst, ◌∙◌}
use Rattle.mv_core.specs.Books.{Booked}
use Rattle.mv_core.specs.Cores.{MayStep}
use Rattle.mv_core.proofs.Taking.{task_there, task_read, call_within}
use Rattle.mv_core.proofs.Changed.{may_by, book_in}
use Rattle.mv_core.proofs.engine.Core.may_step.Goals as goal

pub unreachable-requires : goal.unreachable-requires
unreachable-requires c =
    task_there c.self.inside.book.script c.self.inside.book.schedule c.self.inside.tasks.items c.args.call c.index.result.now c.self.invariant.0.tasks (c.in-Some.ensures.live.live, c.in-Some.ensures.live.is_live) c.index.ensures c.in_default-index.is

pub has_step-requires-clause-script : goal.has_step-requires-clause-script
has_step-requires-clause-script c = c.self.invariant.0.stored.script

pub has_step-requires-clause-live : goal.has_step-requires-clause-live
has_step-requires-clause-live c = (c.in-Some.ensures.live.live, c.in-Some.ensures.live.is_live)

pub has_step-requires-clause-number : goal.has_step-requires-clause-number
has_step-requires-clause-number c = call_within c.self.inside.book.script c.self.inside.book.schedule c.self.inside.tasks.items c.args.call c.self.invariant.0.tasks (c.in-Some.ensures.live.live, c.in-Some.ensures.live.is_live)

pub has_step-requires-clause-task : goal.has_step-requires-clause-task
has_step-requires-clause-task c = task_read c.self.inside.book.script c.self.inside.book.schedule c.self.inside.tasks.items c.args.call c.index.result.now c.get-running.result.now c.self.invariant.0.tasks c.index.ensures (c.in-Some-index.is ∙ ap Some (sym c.get-running.ensures))

pub returns : goal.returns
returns c =
    let h = c.in-Some.ensures.live in
    subst (λ (b : Booked). MayStep c.has_step.result b c.args.call) (ap book_in c.self.view_is) (may_by c.self.inside.book c.args.call c.has_step.result h.live h.is_live (sym (c.has_step.ensures h.live h.is_live)))

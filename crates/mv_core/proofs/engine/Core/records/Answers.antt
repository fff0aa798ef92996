use Rattle.std.proofs.Common.{List, Option, Some, ap, sym, subst, ◌∙◌}
use Rattle.std.specs.Prelude.{slice_get}
use Rattle.mv_record.specs.declared.record.Record.{Record}
use Rattle.mv_core.specs.declared.tasks.Running.{Running}
use Rattle.mv_core.specs.Books.{Booked}
use Rattle.mv_core.specs.Cores.{AreFirstOf, records_by}
use Rattle.mv_core.proofs.Taking.{task_there, task_read, call_within}
use Rattle.mv_core.proofs.Changed.{book_in, tasks_in, live_in}
use Rattle.mv_core.proofs.Recorded.{task_at, first_told}
use Rattle.mv_core.proofs.engine.Core.records.Goals as goal

pub unreachable-requires : goal.unreachable-requires
unreachable-requires c =
    task_there c.self.inside.book.script c.self.inside.book.schedule c.self.inside.tasks.items c.args.call c.index.result.now c.self.invariant.0.tasks (live_in c.self.inside.book c.args.self.now.book c.args.call (ap book_in c.self.view_is) c.requires) c.index.ensures c.in_default.is

pub returns-clause-told : goal.returns-clause-told
returns-clause-told c =
    let live = live_in c.self.inside.book c.args.self.now.book c.args.call (ap book_in c.self.view_is) c.requires in
    let at = task_at c.self.inside.book.script c.self.inside.book.schedule c.self.inside.tasks.items c.args.call c.index.result.now c.get.result.now c.self.invariant.0.tasks live c.index.ensures (c.in-Some.is ∙ ap Some (sym c.get.ensures)) in
    c.records.ensures ∙ ap records_by (sym at ∙ ap (λ (ts : List (Option Running)). slice_get ts c.args.call) (ap tasks_in c.self.view_is))

pub returns-clause-first : goal.returns-clause-first
returns-clause-first c =
    let b : Booked = c.self.inside.book in
    let live = live_in b c.args.self.now.book c.args.call (ap book_in c.self.view_is) c.requires in
    let task = task_read b.script b.schedule c.self.inside.tasks.items c.args.call c.index.result.now c.get.result.now c.self.invariant.0.tasks c.index.ensures (c.in-Some.is ∙ ap Some (sym c.get.ensures)) in
    subst (λ (rs : List Record). AreFirstOf c.args.self.now.book c.args.call rs) (sym c.records.ensures)
    (subst (λ (x : Booked). AreFirstOf x c.args.call c.get.result.now.task.log.records) (ap book_in c.self.view_is)
    (first_told b c.args.call c.get.result.now c.self.invariant.0.stored.script (call_within b.script b.schedule c.self.inside.tasks.items c.args.call c.self.invariant.0.tasks live) task))

use Rattle.std.proofs.Common.{◌≡◌, Some, length, ap, sym, subst, ◌∙◌}
use Rattle.mv_lawful.specs.Lawful.{Live, used}
use Rattle.mv_core.specs.Calls.{IsLive, due_number}
use Rattle.mv_core.specs.Books.{Booked, batch_in}
use Rattle.mv_core.specs.Cores.{HasEnded, count_or}
use Rattle.mv_core.proofs.Taking.{task_there, task_read, call_within, due_live, number_ran}
use Rattle.mv_core.proofs.Changed.{live_in, book_in}
use Rattle.mv_lawful.specs.Batch.{records_at}
use Rattle.mv_core.proofs.engine.Core.executed.Goals as goal

pub unreachable-requires : goal.unreachable-requires
unreachable-requires c =
    task_there c.self.inside.book.script c.self.inside.book.schedule c.self.inside.tasks.items c.args.call c.index.result.now c.self.invariant.0.tasks (live_in c.self.inside.book c.args.self.now.book c.args.call (ap book_in c.self.view_is) c.requires.live) c.index.ensures c.in_default.is

pub number-requires-clause-number : goal.number-requires-clause-number
number-requires-clause-number c none =
    let b : Booked = c.self.inside.book in
    let here = live_in b c.args.self.now.book c.args.call (ap book_in c.self.view_is) c.requires.live in
    let l : Live = here.0 in
    let live : IsLive b.schedule c.args.call l = here.1 in
    let first : used l ≡ 0 = c.self.invariant.0.numbers c.args.call none l live in
    let t = task_read b.script b.schedule c.self.inside.tasks.items c.args.call c.index.result.now c.get-running.result.now c.self.invariant.0.tasks c.index.ensures (c.in-Some.is ∙ ap Some (sym c.get-running.ensures)) l live in
    let ended : HasEnded b c.args.call = subst (λ (x : Booked). HasEnded x c.args.call) (sym (ap book_in c.self.view_is)) c.requires.ended in
    number_ran b.script b.schedule c.args.call l c.get-running.result.now c.self.invariant.0.stored.script (call_within b.script b.schedule c.self.inside.tasks.items c.args.call c.self.invariant.0.tasks (l, live)) live t first (ended l live)
    ∙ ap Some (ap (λ o. count_or o (length c.get-running.result.now.task.log.records)) c.in-None.is ∙ sym (t.executed first))

pub returns-in-None : goal.returns-in-None
returns-in-None c = subst (λ (b : Booked). due_number (batch_in b) b.schedule c.args.call ≡ Some c.number.result) (ap book_in c.self.view_is) c.number.ensures

pub returns-in-Some-count : goal.returns-in-Some-count
returns-in-Some-count c =
    let b : Booked = c.self.inside.book in
    let live = live_in b c.args.self.now.book c.args.call (ap book_in c.self.view_is) c.requires.live in
    let t = task_read b.script b.schedule c.self.inside.tasks.items c.args.call c.index.result.now c.get-running.result.now c.self.invariant.0.tasks c.index.ensures (c.in-Some.is ∙ ap Some (sym c.get-running.ensures)) live.0 live.1 in
    subst (λ (x : Booked). due_number (batch_in x) x.schedule c.args.call ≡ Some c.in-Some-count.count) (ap book_in c.self.view_is)
    (due_live (batch_in b) b.schedule c.args.call live.0 live.1 ∙ (t.counted ∙ ap (λ o. Some (count_or o (length (records_at (batch_in b) b.schedule.order live.0.start c.args.call)))) c.in-Some-count.is))

use Rattle.std.proofs.Common.{rules, ◌<◌, Ok, List, Option, None, Some, length, slice_get, refl, sym, ap, subst, ◌∙◌}
use Rattle.std.proofs.lemmas.Result.{err_from_is_err_and}
use Rattle.mv_journal.specs.declared.event.Event.TheVariants.{R}
use Rattle.mv_core.specs.Books.{Booked, Made, IsSame, IsNotStale, IsReader, HasAnswered}
use Rattle.mv_core.specs.Cores.{IsCore}
use Rattle.mv_core.specs.declared.tasks.Running.{Running}
use Rattle.mv_core.proofs.Stored.{shows_start, fresh_start, stored_made}
use Rattle.mv_core.proofs.Numbered.{numbers_other}
use Rattle.mv_core.proofs.Taking.{task_there, task_within, call_within, due_first, core_set, running_in, answered_on}
use Rattle.mv_core.proofs.Changed.{core_same, live_in, same_self, refused_same, refused_is_same, book_in, tasks_in}
use Rattle.mv_core.proofs.Recorded.{others_set, others_twice}
use Rattle.mv_core.proofs.Lasting.{last_same, last_other}
use Rattle.mv_core.proofs.engine.Core.answer_read.Goals as goal

pub unreachable-requires : goal.unreachable-requires
unreachable-requires c =
    task_there c.self.inside.book.script c.self.inside.book.schedule c.self.inside.tasks.items c.args.call c.index_mut.result.now c.self.invariant.0.tasks (live_in c.self.inside.book c.args.self.now.book c.args.call (ap book_in c.self.view_is) c.requires.live) c.index_mut.ensures.value c.in_default.is

pub finish_task-requires : goal.finish_task-requires
finish_task-requires c = λ k. (
  (refl, tt),
  (
    (running_in c.self.inside.book c.self.inside.store c.self.inside.tasks.items c.args.call c.index_mut.result.now c.get_mut-running.result.now c.self.invariant.0 (live_in c.self.inside.book c.args.self.now.book c.args.call (ap book_in c.self.view_is) c.requires.live) c.index_mut.ensures.value (c.in-Some.is ∙ ap Some (sym c.get_mut-running.ensures.value))),
    (shows_start c.self.inside.book c.self.inside.store c.args.call c.start.result c.new-view.result c.self.invariant.0.stored (subst (λ (b : Booked). IsNotStale b c.args.call) (sym (ap book_in c.self.view_is)) c.in_ok-refuse_stale.ensures.fresh)
        c.start.ensures.value c.start.ensures.past c.new-view.ensures),
  ),
)

pub invariant_of-self : goal.invariant_of-self
invariant_of-self c = (core_set c.self.inside.book c.self.inside.store c.self.inside.tasks.items c.args.call c.finish_task.new.running c.self.invariant.0 (live_in c.self.inside.book c.args.self.now.book c.args.call (ap book_in c.self.view_is) c.requires.live) c.finish_task.ensures.task, c.self.invariant.1)

pub returns-in_err-finish_task-clause-others : goal.returns-in_err-finish_task-clause-others
returns-in_err-finish_task-clause-others c = others_set c.args.call c.self.inside.tasks.items (Some c.finish_task.new.running) c.args.self.now (ap tasks_in c.self.view_is)

pub returns-in_err-finish_task-clause-answered : goal.returns-in_err-finish_task-clause-answered
returns-in_err-finish_task-clause-answered c =
    let live = live_in c.self.inside.book c.args.self.now.book c.args.call (ap book_in c.self.view_is) c.requires.live in
    let fresh = subst (λ (b : Booked). IsNotStale b c.args.call) (sym (ap book_in c.self.view_is)) c.in_ok-refuse_stale.ensures.fresh in
    let p = err_from_is_err_and c.from_residual-in_err-finish_task.result c.from_residual-in_err-finish_task.ensures.1 in
    rw (p.1, p.2) (refused_same c.args.call c.new-view.result c.finish_task.new.view _ c.args.self.now.book c.self.inside.book
    (fresh_start c.self.inside.book c.self.inside.store c.args.call c.start.result c.new-view.result c.self.invariant.0.stored fresh live c.start.ensures.value c.new-view.ensures) c.in_err-finish_task.ensures.view.may_refuse
    (subst (λ (b : Booked). IsSame b c.self.inside.book) (ap book_in c.self.view_is) (same_self c.self.inside.book)))

pub returns-in_err-refuse_stale-clause-others : goal.returns-in_err-refuse_stale-clause-others
returns-in_err-refuse_stale-clause-others c d ne = refl

pub answer_task-requires-clause-script : goal.answer_task-requires-clause-script
answer_task-requires-clause-script c = c.self.invariant.0.stored.script

pub answer_task-requires-clause-live : goal.answer_task-requires-clause-live
answer_task-requires-clause-live c = live_in c.self.inside.book c.args.self.now.book c.args.call (ap book_in c.self.view_is) c.requires.live

pub answer_task-requires-clause-number : goal.answer_task-requires-clause-number
answer_task-requires-clause-number c =
    call_within c.self.inside.book.script c.self.inside.book.schedule c.self.inside.tasks.items c.args.call c.self.invariant.0.tasks (live_in c.self.inside.book c.args.self.now.book c.args.call (ap book_in c.self.view_is) c.requires.live)

pub answer_task-requires-clause-kind : goal.answer_task-requires-clause-kind
answer_task-requires-clause-kind c = subst (λ (b : Booked). IsReader b c.args.call) (sym (ap book_in c.self.view_is)) c.requires.kind

pub answer_task-requires-clause-missing : goal.answer_task-requires-clause-missing
answer_task-requires-clause-missing c = due_first c.self.inside.book c.args.call c.finish_task.new.running (live_in c.self.inside.book c.args.self.now.book c.args.call (ap book_in c.self.view_is) c.requires.live) (c.self.invariant.0.numbers c.args.call) c.finish_task.ensures.task c.in_ok-finish_task.ensures.ok

pub answer_task-requires-clause-whole : goal.answer_task-requires-clause-whole
answer_task-requires-clause-whole c = c.in_ok-finish_task.ensures.ok

pub invariant_of-self-in_err-start : goal.invariant_of-self-in_err-start
invariant_of-self-in_err-start c =
    let live = live_in c.self.inside.book c.args.self.now.book c.args.call (ap book_in c.self.view_is) c.requires.live in
    let k = core_set c.self.inside.book c.self.inside.store c.self.inside.tasks.items c.args.call c.finish_task.new.running c.self.invariant.0 live c.finish_task.ensures.task in
    let same = refused_is_same c.args.call c.in_err-start.field-0.0 c.self.inside.book c.answer_task.new.book c.in_err-start.ensures in
    (core_same c.self.inside.book c.answer_task.new.book c.self.inside.store _ k same, last_same c.self.inside.book c.answer_task.new.book c.self.inside.last c.self.invariant.1 same)

pub drop_task-requires : goal.drop_task-requires
drop_task-requires c =
    let lt : c.args.call < length c.self.inside.tasks.items = task_within c.self.inside.book.script c.self.inside.book.schedule c.self.inside.tasks.items c.args.call c.self.invariant.0.tasks (live_in c.self.inside.book c.args.self.now.book c.args.call (ap book_in c.self.view_is) c.requires.live) in
    search (rules, lt)

pub invariant_of-self-2 : goal.invariant_of-self-2
invariant_of-self-2 c =
    let live = live_in c.self.inside.book c.args.self.now.book c.args.call (ap book_in c.self.view_is) c.requires.live in
    let k = core_set c.self.inside.book c.self.inside.store c.self.inside.tasks.items c.args.call c.finish_task.new.running c.self.invariant.0 live c.finish_task.ensures.task in
    let made = c.in_ok-start.ensures.0 in (
      subst (λ (ts : List (Option Running)). IsCore c.answer_task.new.book c.self.inside.store ts) (sym c.drop_task.ensures) (record {
        stored = stored_made (R c.args.call) c.self.inside.book c.answer_task.new.book c.self.inside.store k.stored made refl refl;
        numbers = numbers_other (R c.args.call) c.self.inside.book c.answer_task.new.book made (λ d. refl) k.numbers;
        tasks = answered_on c.self.inside.book c.answer_task.new.book _ c.args.call live.0 k.tasks live.1 made;
      }),
      last_other (R c.args.call) c.self.inside.book c.answer_task.new.book c.self.inside.last c.self.invariant.1 made refl,
    )

pub returns-clause-answered : goal.returns-clause-answered
returns-clause-answered c = subst (λ (b : Booked). HasAnswered c.args.call (Ok c.in_ok-start.start) b c.answer_task.new.book) (ap book_in c.self.view_is) c.in_ok-start.ensures

pub returns-clause-others : goal.returns-clause-others
returns-clause-others c d ne = ap (λ (ts : List (Option Running)). slice_get ts d) c.drop_task.ensures ∙ others_twice c.args.call c.self.inside.tasks.items (Some c.finish_task.new.running) None c.args.self.now (ap tasks_in c.self.view_is) d ne

pub returns-in_err-start-clause-others : goal.returns-in_err-start-clause-others
returns-in_err-start-clause-others c = others_set c.args.call c.self.inside.tasks.items (Some c.finish_task.new.running) c.args.self.now (ap tasks_in c.self.view_is)

use Rattle.std.proofs.Common.{rules, ◌<◌, ◌+◌, List, Option, length, slice_get, ap, sym, subst, ◌∙◌, Some, None, refl}
use Rattle.std.proofs.lemmas.Result.{err_from_is_err_and}
use Rattle.mv_journal.specs.declared.event.Event.TheVariants.{X}
use Rattle.std.specs.Prelude.{not}
use Rattle.mv_lawful.specs.Lawful.{has_round}
use Rattle.mv_core.specs.Books.{Booked, batch_in, Made, IsSame, IsNotStale}
use Rattle.mv_core.specs.Cores.{IsAllowedIfFresh, IsCore}
use Rattle.mv_core.specs.declared.tasks.Running.{Running}
use Rattle.mv_core.proofs.Taking.{task_there, task_within, tasks_set, tasks_same, decided_on, call_within, due_first, core_set, running_in}
use Rattle.mv_core.proofs.Stored.{shows_start, fresh_start}
use Rattle.mv_core.proofs.Refusing.{last_writes, repairs_last}
use Rattle.mv_core.proofs.Numbered.{numbers_same, numbers_other}
use Rattle.mv_core.proofs.Changed.{live_in, same_self, fresh_now_allowed, refused_same, book_in, tasks_in}
use Rattle.mv_core.proofs.Recorded.{others_set, others_twice}
use Rattle.mv_core.proofs.Lasting.{last_same, last_committed, last_ended}
use Rattle.mv_core.proofs.engine.Core.exclusive.Goals as goal

pub unreachable-requires : goal.unreachable-requires
unreachable-requires c =
    task_there c.self.inside.book.script c.self.inside.book.schedule c.self.inside.tasks.items c.args.call c.index_mut.result.now c.self.invariant.0.tasks (live_in c.self.inside.book c.args.self.now.book c.args.call (ap book_in c.self.view_is) c.requires.live) c.index_mut.ensures.value c.in_default.is

pub finish_task-requires : goal.finish_task-requires
finish_task-requires c = λ k. (
  (refl, tt),
  (
    (running_in c.self.inside.book c.self.inside.store c.self.inside.tasks.items c.args.call c.index_mut.result.now c.get_mut-running.result.now c.self.invariant.0 (live_in c.self.inside.book c.args.self.now.book c.args.call (ap book_in c.self.view_is) c.requires.live) c.index_mut.ensures.value (c.in-Some.is ∙ ap Some (sym c.get_mut-running.ensures.value))),
    (shows_start c.self.inside.book c.self.inside.store c.args.call c.start.result c.new-view.result c.self.invariant.0.stored (subst (λ (b : Booked). IsNotStale b c.args.call) (sym (ap book_in c.self.view_is)) c.in_ok-refuse_stale.ensures.fresh)
        c.start.ensures.value c.start.ensures.past c.new-view.ensures),
  ),
)

pub invariant_of-self : goal.invariant_of-self
invariant_of-self c = (core_set c.self.inside.book c.self.inside.store c.self.inside.tasks.items c.args.call c.finish_task.new.running c.self.invariant.0 (live_in c.self.inside.book c.args.self.now.book c.args.call (ap book_in c.self.view_is) c.requires.live) c.finish_task.ensures.task, c.self.invariant.1)

pub returns-in_err-finish_task-clause-others : goal.returns-in_err-finish_task-clause-others
returns-in_err-finish_task-clause-others c = others_set c.args.call c.self.inside.tasks.items (Some c.finish_task.new.running) c.args.self.now (ap tasks_in c.self.view_is)

pub decide_task-requires-clause-call : goal.decide_task-requires-clause-call
decide_task-requires-clause-call c = record {
  script = c.self.invariant.0.stored.script;
  live = live_in c.self.inside.book c.args.self.now.book c.args.call (ap book_in c.self.view_is) c.requires.live;
  number = call_within c.self.inside.book.script c.self.inside.book.schedule c.self.inside.tasks.items c.args.call c.self.invariant.0.tasks (live_in c.self.inside.book c.args.self.now.book c.args.call (ap book_in c.self.view_is) c.requires.live);
  task = c.finish_task.ensures.task;
}

pub decide_task-requires-clause-missing : goal.decide_task-requires-clause-missing
decide_task-requires-clause-missing c = due_first c.self.inside.book c.args.call c.finish_task.new.running (live_in c.self.inside.book c.args.self.now.book c.args.call (ap book_in c.self.view_is) c.requires.live) (c.self.invariant.0.numbers c.args.call) c.finish_task.ensures.task c.in_ok-finish_task.ensures.ok

pub decide_task-requires-clause-fresh : goal.decide_task-requires-clause-fresh
decide_task-requires-clause-fresh c = subst (λ (b : Booked). IsNotStale b c.args.call) (sym (ap book_in c.self.view_is)) c.in_ok-refuse_stale.ensures.fresh

pub decide_task-requires-clause-allowed : goal.decide_task-requires-clause-allowed
decide_task-requires-clause-allowed c =
    let live = live_in c.self.inside.book c.args.self.now.book c.args.call (ap book_in c.self.view_is) c.requires.live in
    fresh_now_allowed c.self.inside.book c.args.self.now.book c.args.call live.0 (X c.args.call) (not (has_round (batch_in c.self.inside.book) live.0)) (ap book_in c.self.view_is)
    (repairs_last (batch_in c.self.inside.book) c.self.inside.book.schedule c.args.call live.0 (last_writes c.self.inside.book c.args.call live.0 live.1 (subst (λ (b : Booked). IsAllowedIfFresh b (X c.args.call)) (sym (ap book_in c.self.view_is)) c.requires.allowed)) live.1) c.requires.allowed
    (subst (λ (b : Booked). IsNotStale b c.args.call) (sym (ap book_in c.self.view_is)) c.in_ok-refuse_stale.ensures.fresh live.0 live.1)

pub invariant_of-self-in_err-commit : goal.invariant_of-self-in_err-commit
invariant_of-self-in_err-commit c = (
  record {
    stored = c.decide_task.ensures.stored;
    numbers = numbers_same c.self.inside.book c.decide_task.new.book c.in_err-commit.ensures.made c.self.invariant.0.numbers;
    tasks = tasks_same c.self.inside.book.script c.decide_task.new.book.script c.self.inside.book.schedule c.decide_task.new.book.schedule _
        (tasks_set c.self.inside.book.script c.self.inside.book.schedule c.self.inside.tasks.items c.args.call c.decide_task.new.running c.self.invariant.0.tasks (live_in c.self.inside.book c.args.self.now.book c.args.call (ap book_in c.self.view_is) c.requires.live) c.in_err-commit.ensures.task) c.in_err-commit.ensures.made.script c.in_err-commit.ensures.made.schedule;
  },
  last_same c.self.inside.book c.decide_task.new.book c.self.inside.last c.self.invariant.1 c.in_err-commit.ensures.made,
)

pub end_task-requires : goal.end_task-requires
end_task-requires c =
    let lt : c.args.call < length c.self.inside.tasks.items = task_within c.self.inside.book.script c.self.inside.book.schedule c.self.inside.tasks.items c.args.call c.self.invariant.0.tasks (live_in c.self.inside.book c.args.self.now.book c.args.call (ap book_in c.self.view_is) c.requires.live) in
    search (rules, lt)

pub invariant_of-self-2 : goal.invariant_of-self-2
invariant_of-self-2 c =
    let live = live_in c.self.inside.book c.args.self.now.book c.args.call (ap book_in c.self.view_is) c.requires.live in (
      subst (λ (ts : List (Option Running)). IsCore c.decide_task.new.book c.decide_task.new.store ts) (sym c.end_task.ensures.tasks) (record {
        stored = c.decide_task.ensures.stored;
        numbers = numbers_other (X c.args.call) c.self.inside.book c.decide_task.new.book c.in_ok-commit.ensures.made.0 (λ d. refl) c.self.invariant.0.numbers;
        tasks = decided_on c.self.inside.book c.decide_task.new.book c.self.inside.tasks.items c.args.call live.0 c.decide_task.new.running c.self.invariant.0.tasks live.1 c.in_ok-commit.ensures.made.0;
      }),
      last_committed (X c.args.call) c.args.call c.self.inside.book c.decide_task.new.book c.decide_task.new.running c.end_task.new.last c.in_ok-commit.ensures.made.0 refl c.in_ok-commit.ensures.whole (last_ended c.self.inside.book.script c.self.inside.book.schedule c.self.inside.tasks.items c.args.call c.decide_task.new.running c.end_task.new.last c.self.invariant.0.tasks live c.end_task.ensures.last),
    )

pub returns-clause-made : goal.returns-clause-made
returns-clause-made c = (subst (λ (b : Booked). Made (X c.args.call) b c.decide_task.new.book) (ap book_in c.self.view_is) c.in_ok-commit.ensures.made.0, c.in_ok-commit.ensures.made.1 ∙ ap (λ (b : Booked). length b.schedule.order + 1) (ap book_in c.self.view_is))

pub returns-in_err-finish_task-clause-made : goal.returns-in_err-finish_task-clause-made
returns-in_err-finish_task-clause-made c =
    let live = live_in c.self.inside.book c.args.self.now.book c.args.call (ap book_in c.self.view_is) c.requires.live in
    let fresh = subst (λ (b : Booked). IsNotStale b c.args.call) (sym (ap book_in c.self.view_is)) c.in_ok-refuse_stale.ensures.fresh in
    let p = err_from_is_err_and c.from_residual-in_err-finish_task.result c.from_residual-in_err-finish_task.ensures.1 in
    rw (p.1, p.2) (refused_same c.args.call c.new-view.result c.finish_task.new.view _ c.args.self.now.book c.self.inside.book
    (fresh_start c.self.inside.book c.self.inside.store c.args.call c.start.result c.new-view.result c.self.invariant.0.stored fresh live c.start.ensures.value c.new-view.ensures) c.in_err-finish_task.ensures.view.may_refuse
    (subst (λ (b : Booked). IsSame b c.self.inside.book) (ap book_in c.self.view_is) (same_self c.self.inside.book)))

pub returns-in_err-refuse_stale-clause-others : goal.returns-in_err-refuse_stale-clause-others
returns-in_err-refuse_stale-clause-others c d ne = refl

pub returns-in_err-commit-clause-others : goal.returns-in_err-commit-clause-others
returns-in_err-commit-clause-others c = others_set c.args.call c.self.inside.tasks.items (Some c.decide_task.new.running) c.args.self.now (ap tasks_in c.self.view_is)

pub returns-clause-others : goal.returns-clause-others
returns-clause-others c d ne = ap (λ (ts : List (Option Running)). slice_get ts d) c.end_task.ensures.tasks ∙ others_twice c.args.call c.self.inside.tasks.items (Some c.decide_task.new.running) None c.args.self.now (ap tasks_in c.self.view_is) d ne

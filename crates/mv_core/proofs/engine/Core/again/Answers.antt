use Rattle.std.proofs.Common.{rules, length, refl, sym, subst, ap, ◌∙◌, Some}
use Rattle.std.specs.Prelude.{◌≢◌}
use Rattle.std.proofs.lemmas.Result.{err_from_is_err_and}
use Rattle.mv_journal.specs.declared.event.Event.TheVariants.{A}
use Rattle.mv_journal.specs.declared.outcome.Mark.TheVariants.{Plain, Exclusive}
use Rattle.mv_lawful.specs.Lawful.{has_round}
use Rattle.mv_core.specs.Books.{Booked, batch_in, Made, IsSame, IsNotStale}
use Rattle.mv_core.specs.Cores.{IsAllowedIfFresh, HasRoundStarts}
use Rattle.mv_core.proofs.Stored.{shows_start, fresh_start, shows_last, fresh_last, stored_same, stored_made}
use Rattle.mv_core.proofs.Numbered.{numbers_same, numbers_again}
use Rattle.mv_core.proofs.Taking.{task_there, task_again, tasks_set, tasks_same, restarted_on, call_within, due_first, core_set, running_in}
use Rattle.mv_core.proofs.Refusing.{again_writes, repairs_again}
use Rattle.mv_core.proofs.Changed.{live_in, same_self, fresh_now_allowed, refused_same, book_in, tasks_in}
use Rattle.mv_core.proofs.Recorded.{others_set, whole_set, whole_again}
use Rattle.mv_core.proofs.Lasting.{last_same, last_other}
use Rattle.mv_core.proofs.engine.Core.again.Goals as goal

apart : Plain ≢ Exclusive
apart e = search (rules, e)

pub unreachable-requires : goal.unreachable-requires
unreachable-requires c =
    task_there c.self.inside.book.script c.self.inside.book.schedule c.self.inside.tasks.items c.args.call c.index_mut.result.now c.self.invariant.0.tasks (live_in c.self.inside.book c.args.self.now.book c.args.call (ap book_in c.self.view_is) c.requires.live) c.index_mut.ensures.value c.in_default.is

pub finish_task-requires : goal.finish_task-requires
finish_task-requires c = λ k. (
  (refl, tt),
  (
    (running_in c.self.inside.book c.self.inside.store c.self.inside.tasks.items c.args.call c.index_mut.result.now c.get_mut-running.result.now c.self.invariant.0 (live_in c.self.inside.book c.args.self.now.book c.args.call (ap book_in c.self.view_is) c.requires.live) c.index_mut.ensures.value (c.in-Some.is ∙ ap Some (sym c.get_mut-running.ensures.value))),
    (shows_start c.self.inside.book c.self.inside.store c.args.call c.start.result c.new-view.result c.self.invariant.0.stored (subst (λ (b : Booked). IsNotStale b c.args.call) (sym (ap book_in c.self.view_is)) c.in_ok-refuse_stale.ensures.fresh)
        c.start.ensures.value c.start.ensures.past c.new-view.ensures),
  ),
)

pub invariant_of-self : goal.invariant_of-self
invariant_of-self c = (core_set c.self.inside.book c.self.inside.store c.self.inside.tasks.items c.args.call c.finish_task.new.running c.self.invariant.0 (live_in c.self.inside.book c.args.self.now.book c.args.call (ap book_in c.self.view_is) c.requires.live) c.finish_task.ensures.task, c.self.invariant.1)

pub returns-in_err-finish_task-clause-others : goal.returns-in_err-finish_task-clause-others
returns-in_err-finish_task-clause-others c = others_set c.args.call c.self.inside.tasks.items (Some c.finish_task.new.running) c.args.self.now (ap tasks_in c.self.view_is)

pub rerun_task-requires : goal.rerun_task-requires
rerun_task-requires c = λ k. (
  (refl, tt),
  (
    (record {
      script = c.self.invariant.0.stored.script;
      live = live_in c.self.inside.book c.args.self.now.book c.args.call (ap book_in c.self.view_is) c.requires.live;
      number = call_within c.self.inside.book.script c.self.inside.book.schedule c.self.inside.tasks.items c.args.call c.self.invariant.0.tasks (live_in c.self.inside.book c.args.self.now.book c.args.call (ap book_in c.self.view_is) c.requires.live);
      task = c.finish_task.ensures.task;
    }),
    (
      (shows_last c.self.inside.book c.self.inside.store c.commits.result c.new-last.result c.self.invariant.0.stored c.commits.ensures c.new-last.ensures),
      (
        (due_first c.self.inside.book c.args.call c.finish_task.new.running (live_in c.self.inside.book c.args.self.now.book c.args.call (ap book_in c.self.view_is) c.requires.live) (c.self.invariant.0.numbers c.args.call) c.finish_task.ensures.task c.in_ok-finish_task.ensures.ok),
        (
          (subst (λ (b : Booked). IsNotStale b c.args.call) (sym (ap book_in c.self.view_is)) c.in_ok-refuse_stale.ensures.fresh),
          (
            search rules,
            (
              search rules,
              (let live = live_in c.self.inside.book c.args.self.now.book c.args.call (ap book_in c.self.view_is) c.requires.live in
                  fresh_now_allowed c.self.inside.book c.args.self.now.book c.args.call live.0 (A c.args.call) (has_round (batch_in c.self.inside.book) live.0) (ap book_in c.self.view_is)
                  (repairs_again (batch_in c.self.inside.book) c.self.inside.book.schedule c.args.call live.0 (again_writes c.self.inside.book c.args.call live.0 live.1 (subst (λ (b : Booked). IsAllowedIfFresh b (A c.args.call)) (sym (ap book_in c.self.view_is)) c.requires.allowed)) live.1) c.requires.allowed
                  (subst (λ (b : Booked). IsNotStale b c.args.call) (sym (ap book_in c.self.view_is)) c.in_ok-refuse_stale.ensures.fresh live.0 live.1)),
            ),
          ),
        ),
      ),
    ),
  ),
)

pub invariant_of-self-in_err-executed : goal.invariant_of-self-in_err-executed
invariant_of-self-in_err-executed c = (
  record {
    stored = stored_same c.self.inside.book c.rerun_task.new.book c.self.inside.store c.self.invariant.0.stored c.in_err-executed.ensures.same;
    numbers = numbers_same c.self.inside.book c.rerun_task.new.book c.in_err-executed.ensures.same c.self.invariant.0.numbers;
    tasks = tasks_same c.self.inside.book.script c.rerun_task.new.book.script c.self.inside.book.schedule c.rerun_task.new.book.schedule _
        (tasks_set c.self.inside.book.script c.self.inside.book.schedule c.self.inside.tasks.items c.args.call c.rerun_task.new.running c.self.invariant.0.tasks (live_in c.self.inside.book c.args.self.now.book c.args.call (ap book_in c.self.view_is) c.requires.live) c.in_err-executed.ensures.task) c.in_err-executed.ensures.same.script c.in_err-executed.ensures.same.schedule;
  },
  last_same c.self.inside.book c.rerun_task.new.book c.self.inside.last c.self.invariant.1 c.in_err-executed.ensures.same,
)

pub invariant_of-self-2 : goal.invariant_of-self-2
invariant_of-self-2 c =
    let live = live_in c.self.inside.book c.args.self.now.book c.args.call (ap book_in c.self.view_is) c.requires.live in
    let made : Made (A c.args.call) c.self.inside.book c.rerun_task.new.book = c.in_ok-executed.ensures.made.0 in
    let round_starts : HasRoundStarts (length c.self.inside.book.schedule.order) live.0 = (c.self.invariant.0.tasks.running c.args.call live.0 live.1).2.round_starts in (
      record {
        stored = stored_made (A c.args.call) c.self.inside.book c.rerun_task.new.book c.self.inside.store c.self.invariant.0.stored made refl refl;
        numbers = numbers_again c.args.call c.self.inside.book c.rerun_task.new.book made c.in_ok-executed.ensures.settled c.self.invariant.0.numbers;
        tasks = restarted_on Plain c.self.inside.book c.rerun_task.new.book c.self.inside.tasks.items c.args.call live.0 c.rerun_task.new.running apart c.self.invariant.0.tasks live.1 made
            (task_again c.self.inside.book.script c.self.inside.book.schedule.order c.args.call live.0 c.rerun_task.new.running round_starts (c.in_ok-executed.ensures.repaired live.0 live.1));
      },
      last_other (A c.args.call) c.self.inside.book c.rerun_task.new.book c.self.inside.last c.self.invariant.1 made refl,
    )

pub returns-clause-made : goal.returns-clause-made
returns-clause-made c = (subst (λ (b : Booked). Made (A c.args.call) b c.rerun_task.new.book) (ap book_in c.self.view_is) c.in_ok-executed.ensures.made.0, c.in_ok-executed.ensures.made.1)

pub returns-in_err-finish_task-clause-made : goal.returns-in_err-finish_task-clause-made
returns-in_err-finish_task-clause-made c =
    let live = live_in c.self.inside.book c.args.self.now.book c.args.call (ap book_in c.self.view_is) c.requires.live in
    let fresh = subst (λ (b : Booked). IsNotStale b c.args.call) (sym (ap book_in c.self.view_is)) c.in_ok-refuse_stale.ensures.fresh in
    let p = err_from_is_err_and c.from_residual-in_err-finish_task.result c.from_residual-in_err-finish_task.ensures.1 in
    rw (p.1, p.2) (refused_same c.args.call c.new-view.result c.finish_task.new.view _ c.args.self.now.book c.self.inside.book
    (fresh_start c.self.inside.book c.self.inside.store c.args.call c.start.result c.new-view.result c.self.invariant.0.stored fresh live c.start.ensures.value c.new-view.ensures) c.in_err-finish_task.ensures.view.may_refuse
    (subst (λ (b : Booked). IsSame b c.self.inside.book) (ap book_in c.self.view_is) (same_self c.self.inside.book)))

pub returns-in_err-executed-clause-made : goal.returns-in_err-executed-clause-made
returns-in_err-executed-clause-made c =
    let p = err_from_is_err_and c.from_residual-in_err-executed.result c.from_residual-in_err-executed.ensures.1 in
    rw (p.1, p.2) (refused_same c.args.call c.new-last.result c.rerun_task.new.view _ c.args.self.now.book c.rerun_task.new.book
    (fresh_last c.self.inside.book c.self.inside.store c.commits.result c.new-last.result c.self.invariant.0.stored c.commits.ensures c.new-last.ensures) c.in_err-executed.ensures.view.may_refuse
    (subst (λ (b : Booked). IsSame b c.rerun_task.new.book) (ap book_in c.self.view_is) c.in_err-executed.ensures.same))

pub returns-in_err-refuse_stale-clause-others : goal.returns-in_err-refuse_stale-clause-others
returns-in_err-refuse_stale-clause-others c d ne = refl

pub returns-in_err-executed-clause-others : goal.returns-in_err-executed-clause-others
returns-in_err-executed-clause-others c = others_set c.args.call c.self.inside.tasks.items (Some c.rerun_task.new.running) c.args.self.now (ap tasks_in c.self.view_is)

pub returns-clause-others : goal.returns-clause-others
returns-clause-others c = others_set c.args.call c.self.inside.tasks.items (Some c.rerun_task.new.running) c.args.self.now (ap tasks_in c.self.view_is)

pub returns-clause-whole : goal.returns-clause-whole
returns-clause-whole c =
    let live = live_in c.self.inside.book c.args.self.now.book c.args.call (ap book_in c.self.view_is) c.requires.live in
    whole_set c.self.inside.book.script c.self.inside.book.schedule c.rerun_task.new.book c.self.inside.tasks.items c.args.call c.rerun_task.new.running c.self.invariant.0.tasks live
    (whole_again Plain c.self.inside.book c.rerun_task.new.book c.args.call live.0 c.rerun_task.new.running.task.log.records apart live.1 c.in_ok-executed.ensures.made.0 (c.in_ok-executed.ensures.repaired live.0 live.1).records)

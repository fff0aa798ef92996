use Rattle.std.proofs.Common.{rules, ◌<◌, ◌+◌, List, Option, None, Ok, length, slice_get, refl, sym, ap, subst, ◌∙◌, Some}
use Rattle.mv_journal.specs.declared.event.Event.TheVariants.{C}
use Rattle.mv_core.proofs.Taking.{task_there, task_within, due_first, call_within, committed_on, running_in, core_set}
use Rattle.mv_core.proofs.Stored.{last_records}
use Rattle.mv_core.proofs.Numbered.{numbers_same, numbers_other}
use Rattle.mv_core.proofs.Changed.{core_same, try_failed, live_in, free_told, hit_told, stale_told, same_self, book_in, tasks_in}
use Rattle.mv_core.specs.declared.engine.Attempt.TheVariants as attempt
use Rattle.mv_core.specs.Books.{Booked, Made, IsSame, IsNoReader}
use Rattle.mv_core.specs.Cores.{IsCore, HasTried}
use Rattle.mv_core.specs.declared.tasks.Running.{Running}
use Rattle.mv_core.proofs.Recorded.{others_set, others_twice, whole_set}
use Rattle.mv_core.proofs.Lasting.{last_same, last_committed, last_ended}
use Rattle.mv_core.proofs.engine.Core.attempt.Goals as goal

pub unreachable-requires : goal.unreachable-requires
unreachable-requires c =
    task_there c.self.inside.book.script c.self.inside.book.schedule c.self.inside.tasks.items c.args.call c.index_mut.result.now c.self.invariant.0.tasks (live_in c.self.inside.book c.args.self.now.book c.args.call (ap book_in c.self.view_is) c.requires.live) c.index_mut.ensures.value c.in_default.is

pub check_task-requires-clause-kind : goal.check_task-requires-clause-kind
check_task-requires-clause-kind c = subst (λ (b : Booked). IsNoReader b c.args.call) (sym (ap book_in c.self.view_is)) c.requires.kind

pub check_task-requires-clause-call : goal.check_task-requires-clause-call
check_task-requires-clause-call c =
    running_in c.self.inside.book c.self.inside.store c.self.inside.tasks.items c.args.call c.index_mut.result.now c.get_mut-running.result.now c.self.invariant.0 (live_in c.self.inside.book c.args.self.now.book c.args.call (ap book_in c.self.view_is) c.requires.live) c.index_mut.ensures.value (c.in-Some.is ∙ ap Some (sym c.get_mut-running.ensures.value))

pub invariant_of-self : goal.invariant_of-self
invariant_of-self c = (core_set c.self.inside.book c.self.inside.store c.self.inside.tasks.items c.args.call c.check_task.new.running c.self.invariant.0 (live_in c.self.inside.book c.args.self.now.book c.args.call (ap book_in c.self.view_is) c.requires.live) c.check_task.ensures.task, c.self.invariant.1)

pub settle_and_commit-requires-clause-missing : goal.settle_and_commit-requires-clause-missing
settle_and_commit-requires-clause-missing c = due_first c.self.inside.book c.args.call c.check_task.new.running (live_in c.self.inside.book c.args.self.now.book c.args.call (ap book_in c.self.view_is) c.requires.live) (c.self.invariant.0.numbers c.args.call) c.check_task.ensures.task (c.in_ok-check_task.ensures.records c.in-Free.is)

pub settle_and_commit-requires-clause-live : goal.settle_and_commit-requires-clause-live
settle_and_commit-requires-clause-live c = live_in c.self.inside.book c.args.self.now.book c.args.call (ap book_in c.self.view_is) c.requires.live

pub settle_and_commit-requires-clause-number : goal.settle_and_commit-requires-clause-number
settle_and_commit-requires-clause-number c =
    call_within c.self.inside.book.script c.self.inside.book.schedule c.self.inside.tasks.items c.args.call c.self.invariant.0.tasks (live_in c.self.inside.book c.args.self.now.book c.args.call (ap book_in c.self.view_is) c.requires.live)

pub settle_and_commit-requires-clause-allowed : goal.settle_and_commit-requires-clause-allowed
settle_and_commit-requires-clause-allowed c =
    let live = live_in c.self.inside.book c.args.self.now.book c.args.call (ap book_in c.self.view_is) c.requires.live in
    free_told c.self.inside.book c.args.call c.in_ok-check_task.field-0 live.0 c.in_ok-check_task.ensures.answer c.in-Free.is live.1

pub settle_and_commit-requires-clause-whole : goal.settle_and_commit-requires-clause-whole
settle_and_commit-requires-clause-whole c = c.in_ok-check_task.ensures.records c.in-Free.is

pub invariant_of-self-in_err-commit-in-Free : goal.invariant_of-self-in_err-commit-in-Free
invariant_of-self-in_err-commit-in-Free c =
    let live = live_in c.self.inside.book c.args.self.now.book c.args.call (ap book_in c.self.view_is) c.requires.live in
    let k = core_set c.self.inside.book c.self.inside.store c.self.inside.tasks.items c.args.call c.check_task.new.running c.self.invariant.0 live c.check_task.ensures.task in
    let same = c.in_err-commit-in-Free.ensures.made in
    (record { stored = c.settle_and_commit.ensures.stored; numbers = numbers_same c.self.inside.book c.settle_and_commit.new.book same c.self.invariant.0.numbers; tasks = (core_same c.self.inside.book c.settle_and_commit.new.book c.self.inside.store _ k same).tasks }, last_same c.self.inside.book c.settle_and_commit.new.book c.self.inside.last c.self.invariant.1 same)

pub end_task-requires : goal.end_task-requires
end_task-requires c =
    let lt : c.args.call < length c.self.inside.tasks.items = task_within c.self.inside.book.script c.self.inside.book.schedule c.self.inside.tasks.items c.args.call c.self.invariant.0.tasks (live_in c.self.inside.book c.args.self.now.book c.args.call (ap book_in c.self.view_is) c.requires.live) in
    search (rules, lt)

pub invariant_of-self-in-Free : goal.invariant_of-self-in-Free
invariant_of-self-in-Free c =
    let live = live_in c.self.inside.book c.args.self.now.book c.args.call (ap book_in c.self.view_is) c.requires.live in
    let k = core_set c.self.inside.book c.self.inside.store c.self.inside.tasks.items c.args.call c.check_task.new.running c.self.invariant.0 live c.check_task.ensures.task in
    let made = c.in_ok-commit-in-Free.ensures.made.0 in (
      subst (λ (ts : List (Option Running)). IsCore c.settle_and_commit.new.book c.settle_and_commit.new.store ts) (sym c.end_task.ensures.tasks) (record {
        stored = c.settle_and_commit.ensures.stored;
        numbers = numbers_other (C c.args.call) c.self.inside.book c.settle_and_commit.new.book made (λ d. refl) c.self.invariant.0.numbers;
        tasks = committed_on None c.self.inside.book c.settle_and_commit.new.book _ c.args.call live.0 k.tasks live.1 made;
      }),
      last_committed (C c.args.call) c.args.call c.self.inside.book c.settle_and_commit.new.book c.check_task.new.running c.end_task.new.last made refl (last_records c.self.inside.book c.args.call c.check_task.new.running.task.log.records c.self.invariant.0.stored.script (call_within c.self.inside.book.script c.self.inside.book.schedule c.self.inside.tasks.items c.args.call c.self.invariant.0.tasks live) live (c.in_ok-check_task.ensures.records c.in-Free.is) made.allowed) (last_ended c.self.inside.book.script c.self.inside.book.schedule c.self.inside.tasks.items c.args.call c.check_task.new.running c.end_task.new.last c.self.invariant.0.tasks live c.end_task.ensures.last),
    )

pub invariant_of-self-in-Hit : goal.invariant_of-self-in-Hit
invariant_of-self-in-Hit c = (core_set c.self.inside.book c.self.inside.store c.self.inside.tasks.items c.args.call c.check_task.new.running c.self.invariant.0 (live_in c.self.inside.book c.args.self.now.book c.args.call (ap book_in c.self.view_is) c.requires.live) c.check_task.ensures.task, c.self.invariant.1)

pub invariant_of-self-in-Stale : goal.invariant_of-self-in-Stale
invariant_of-self-in-Stale c = (core_set c.self.inside.book c.self.inside.store c.self.inside.tasks.items c.args.call c.check_task.new.running c.self.invariant.0 (live_in c.self.inside.book c.args.self.now.book c.args.call (ap book_in c.self.view_is) c.requires.live) c.check_task.ensures.task, c.self.invariant.1)

pub returns-in_err-commit-in-Free-clause-made : goal.returns-in_err-commit-in-Free-clause-made
returns-in_err-commit-in-Free-clause-made c =
    try_failed _ c.args.call c.from_residual-in_err-commit-in-Free.result c.args.self.now.book c.settle_and_commit.new.book c.from_residual-in_err-commit-in-Free.ensures.1
    (subst (λ (b : Booked). IsSame b c.settle_and_commit.new.book) (ap book_in c.self.view_is) c.in_err-commit-in-Free.ensures.made)

pub returns-in_ok-commit-in-Free-clause-made : goal.returns-in_ok-commit-in-Free-clause-made
returns-in_ok-commit-in-Free-clause-made c = (
  subst (λ (b : Booked). Made (C c.args.call) b c.settle_and_commit.new.book) (ap book_in c.self.view_is) c.in_ok-commit-in-Free.ensures.made.0,
  c.in_ok-commit-in-Free.ensures.made.1 ∙ ap (λ (b : Booked). length b.schedule.order + 1) (ap book_in c.self.view_is),
)

pub returns-in-Hit-clause-made : goal.returns-in-Hit-clause-made
returns-in-Hit-clause-made c =
    let live = live_in c.self.inside.book c.args.self.now.book c.args.call (ap book_in c.self.view_is) c.requires.live in
    subst (λ (b : Booked). HasTried c.args.call (Ok (attempt.Hit c.in-Hit.number c.in-Hit.commit)) b c.self.inside.book) (ap book_in c.self.view_is)
    (hit_told c.self.inside.book c.args.call c.in-Hit.number c.in-Hit.commit c.in_ok-check_task.field-0 live.0 c.in_ok-check_task.ensures.answer c.in-Hit.is live.1, same_self c.self.inside.book)

pub returns-in-Stale-clause-made : goal.returns-in-Stale-clause-made
returns-in-Stale-clause-made c =
    let live = live_in c.self.inside.book c.args.self.now.book c.args.call (ap book_in c.self.view_is) c.requires.live in
    subst (λ (b : Booked). HasTried c.args.call (Ok (attempt.Stale c.in-Stale.start c.in-Stale.low)) b c.self.inside.book) (ap book_in c.self.view_is)
    (stale_told c.self.inside.book c.args.call c.in-Stale.start c.in-Stale.low c.in_ok-check_task.field-0 live.0 c.in_ok-check_task.ensures.answer c.in-Stale.is (subst (λ (b : Booked). IsNoReader b c.args.call) (sym (ap book_in c.self.view_is)) c.requires.kind) live.1, same_self c.self.inside.book)

pub returns-in_err-check_task-clause-others : goal.returns-in_err-check_task-clause-others
returns-in_err-check_task-clause-others c = others_set c.args.call c.self.inside.tasks.items (Some c.check_task.new.running) c.args.self.now (ap tasks_in c.self.view_is)

pub returns-in_err-commit-in-Free-clause-others : goal.returns-in_err-commit-in-Free-clause-others
returns-in_err-commit-in-Free-clause-others c = others_set c.args.call c.self.inside.tasks.items (Some c.check_task.new.running) c.args.self.now (ap tasks_in c.self.view_is)

pub returns-in_ok-commit-in-Free-clause-others : goal.returns-in_ok-commit-in-Free-clause-others
returns-in_ok-commit-in-Free-clause-others c d ne = ap (λ (ts : List (Option Running)). slice_get ts d) c.end_task.ensures.tasks ∙ others_twice c.args.call c.self.inside.tasks.items (Some c.check_task.new.running) None c.args.self.now (ap tasks_in c.self.view_is) d ne

pub returns-in-Hit-clause-others : goal.returns-in-Hit-clause-others
returns-in-Hit-clause-others c = others_set c.args.call c.self.inside.tasks.items (Some c.check_task.new.running) c.args.self.now (ap tasks_in c.self.view_is)

pub returns-in-Stale-clause-others : goal.returns-in-Stale-clause-others
returns-in-Stale-clause-others c = others_set c.args.call c.self.inside.tasks.items (Some c.check_task.new.running) c.args.self.now (ap tasks_in c.self.view_is)

pub returns-in-Hit-clause-whole : goal.returns-in-Hit-clause-whole
returns-in-Hit-clause-whole c =
    let live = live_in c.self.inside.book c.args.self.now.book c.args.call (ap book_in c.self.view_is) c.requires.live in
    whole_set c.self.inside.book.script c.self.inside.book.schedule c.self.inside.book c.self.inside.tasks.items c.args.call c.check_task.new.running c.self.invariant.0.tasks live
    (c.in_ok-check_task.ensures.hit c.in-Hit.number c.in-Hit.commit c.in-Hit.is)

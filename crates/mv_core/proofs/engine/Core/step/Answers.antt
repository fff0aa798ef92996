use Rattle.std.proofs.Common.{arith, rules, ◌≡◌, ◌+◌, ◌<◌, length, false, sym, ap, subst, ◌∙◌, refl, Some}
use Rattle.std.specs.Prelude.{not}
use Rattle.std.proofs.lemmas.Result.{err_from_is_err_and}
use Rattle.mv_journal.specs.declared.event.Event.TheVariants.{S}
use Rattle.mv_lawful.specs.Lawful.{Live, Schedule, used, is_stale}
use Rattle.mv_exec.specs.Running.{stepped}
use Rattle.mv_core.specs.Calls.{IsLive}
use Rattle.mv_core.specs.Books.{Booked, IsSame, batch_in}
use Rattle.mv_core.proofs.Stored.{shows_start, fresh_start, stored_made}
use Rattle.mv_core.proofs.Numbered.{numbers_other}
use Rattle.mv_core.proofs.Taking.{task_there, task_within, call_within, stepped_on, running_in, core_set}
use Rattle.mv_core.proofs.Changed.{core_same, live_now, step_now, step_used, live_stepped, step_told, made_now, fresh_with, refused_same, book_in, tasks_in}
use Rattle.mv_core.proofs.Recorded.{others_kept, others_set, runs_one}
use Rattle.mv_core.proofs.Lasting.{last_same, last_other}
use Rattle.mv_core.proofs.engine.Core.step.Goals as goal

pub invariant_of-self : goal.invariant_of-self
invariant_of-self c = (core_same c.self.inside.book c.reserve.new.self c.self.inside.store c.self.inside.tasks.items c.self.invariant.0 c.reserve.ensures.same, last_same c.self.inside.book c.reserve.new.self c.self.inside.last c.self.invariant.1 c.reserve.ensures.same)

pub index_mut-requires : goal.index_mut-requires
index_mut-requires c =
    let k = core_same c.self.inside.book c.reserve.new.self c.self.inside.store c.self.inside.tasks.items c.self.invariant.0 c.reserve.ensures.same in
    let lt : c.args.call < length c.self.inside.tasks.items = task_within c.reserve.new.self.script c.reserve.new.self.schedule c.self.inside.tasks.items c.args.call k.tasks
    (live_now c.self.inside.book c.args.self.now.book c.reserve.new.self c.args.call (ap book_in c.self.view_is) c.requires.live c.reserve.ensures.same) in
    search (rules, lt)

pub unreachable-requires : goal.unreachable-requires
unreachable-requires c =
    let k = core_same c.self.inside.book c.reserve.new.self c.self.inside.store c.self.inside.tasks.items c.self.invariant.0 c.reserve.ensures.same in
    task_there c.reserve.new.self.script c.reserve.new.self.schedule c.self.inside.tasks.items c.args.call c.index_mut.result.now k.tasks
    (live_now c.self.inside.book c.args.self.now.book c.reserve.new.self c.args.call (ap book_in c.self.view_is) c.requires.live c.reserve.ensures.same) c.index_mut.ensures.value c.in_default.is

pub start-requires : goal.start-requires
start-requires c = live_now c.self.inside.book c.args.self.now.book c.reserve.new.self c.args.call (ap book_in c.self.view_is) c.requires.live c.reserve.ensures.same

pub step_task-requires : goal.step_task-requires
step_task-requires c = λ k. (
  (refl, tt),
  (
    (let k = core_same c.self.inside.book c.reserve.new.self c.self.inside.store c.self.inside.tasks.items c.self.invariant.0 c.reserve.ensures.same in
        running_in c.reserve.new.self c.self.inside.store c.self.inside.tasks.items c.args.call c.index_mut.result.now c.get_mut-running.result.now k
        (live_now c.self.inside.book c.args.self.now.book c.reserve.new.self c.args.call (ap book_in c.self.view_is) c.requires.live c.reserve.ensures.same) c.index_mut.ensures.value (c.in-Some.is ∙ ap Some (sym c.get_mut-running.ensures.value))),
    (
      (let k = core_same c.self.inside.book c.reserve.new.self c.self.inside.store c.self.inside.tasks.items c.self.invariant.0 c.reserve.ensures.same in
          shows_start c.reserve.new.self c.self.inside.store c.args.call c.start.result c.new-view.result k.stored
          (fresh_with c.self.inside.book c.args.self.now.book c.reserve.new.self c.args.call (ap book_in c.self.view_is) c.reserve.ensures.same c.in_ok-refuse_stale.ensures.fresh) c.start.ensures.value c.start.ensures.past c.new-view.ensures),
      search rules,
    ),
  ),
)

pub invariant_of-self-in_err-step_task : goal.invariant_of-self-in_err-step_task
invariant_of-self-in_err-step_task c =
    let k = core_same c.self.inside.book c.reserve.new.self c.self.inside.store c.self.inside.tasks.items c.self.invariant.0 c.reserve.ensures.same in
    (core_set c.reserve.new.self c.self.inside.store c.self.inside.tasks.items c.args.call c.step_task.new.running k (live_now c.self.inside.book c.args.self.now.book c.reserve.new.self c.args.call (ap book_in c.self.view_is) c.requires.live c.reserve.ensures.same) c.in_err-step_task.ensures.task, last_same c.self.inside.book c.reserve.new.self c.self.inside.last c.self.invariant.1 c.reserve.ensures.same)

pub steps-requires : goal.steps-requires
steps-requires c =
    let live = live_now c.self.inside.book c.args.self.now.book c.reserve.new.self c.args.call (ap book_in c.self.view_is) c.requires.live c.reserve.ensures.same in
    (record live.0 { steps = live.0.steps + 1 }, live_stepped c.args.call c.reserve.new.self c.ran.new.self live.0 live.1 c.ran.ensures.made)

pub has_more-requires : goal.has_more-requires
has_more-requires c none =
    let live = live_now c.self.inside.book c.args.self.now.book c.reserve.new.self c.args.call (ap book_in c.self.view_is) c.requires.live c.reserve.ensures.same in
    let first : used live.0 ≡ 0 = step_used (batch_in c.reserve.new.self) c.reserve.new.self.schedule c.args.call live.0 (step_now c.self.inside.book c.args.self.now.book c.reserve.new.self c.args.call (ap book_in c.self.view_is) c.requires.left c.reserve.ensures.same live.0 live.1) in
    let le = (c.in_ok-step_task.ensures.ok live.0 live.1).steps none first in
    let is = c.steps.ensures (record live.0 { steps = live.0.steps + 1 }) (live_stepped c.args.call c.reserve.new.self c.ran.new.self live.0 live.1 c.ran.ensures.made) in
    omega (arith, le, is)

pub invariant_of-self-2 : goal.invariant_of-self-2
invariant_of-self-2 c =
    let k = core_same c.self.inside.book c.reserve.new.self c.self.inside.store c.self.inside.tasks.items c.self.invariant.0 c.reserve.ensures.same in
    let live = live_now c.self.inside.book c.args.self.now.book c.reserve.new.self c.args.call (ap book_in c.self.view_is) c.requires.live c.reserve.ensures.same in (
      record {
        stored = stored_made (S c.args.call) c.reserve.new.self c.ran.new.self c.self.inside.store k.stored c.ran.ensures.made refl refl;
        numbers = numbers_other (S c.args.call) c.reserve.new.self c.ran.new.self c.ran.ensures.made (λ d. refl) k.numbers;
        tasks = stepped_on c.reserve.new.self c.ran.new.self c.self.inside.tasks.items c.args.call live.0 c.step_task.new.running k.tasks live.1 c.ran.ensures.made (c.in_ok-step_task.ensures.ok live.0 live.1);
      },
      last_other (S c.args.call) c.reserve.new.self c.ran.new.self c.self.inside.last (last_same c.self.inside.book c.reserve.new.self c.self.inside.last c.self.invariant.1 c.reserve.ensures.same) c.ran.ensures.made refl,
    )

pub returns-clause-made : goal.returns-clause-made
returns-clause-made c =
    let k = core_same c.self.inside.book c.reserve.new.self c.self.inside.store c.self.inside.tasks.items c.self.invariant.0 c.reserve.ensures.same in
    let live = live_now c.self.inside.book c.args.self.now.book c.reserve.new.self c.args.call (ap book_in c.self.view_is) c.requires.live c.reserve.ensures.same in
    let first : used live.0 ≡ 0 = step_used (batch_in c.reserve.new.self) c.reserve.new.self.schedule c.args.call live.0 (step_now c.self.inside.book c.args.self.now.book c.reserve.new.self c.args.call (ap book_in c.self.view_is) c.requires.left c.reserve.ensures.same live.0 live.1) in (
      made_now (S c.args.call) c.self.inside.book c.args.self.now.book c.reserve.new.self c.ran.new.self (ap book_in c.self.view_is) c.reserve.ensures.same c.ran.ensures.made,
      λ m at. c.stepped_of.ensures ∙ ap (λ b. stepped (not b)) (sym
          (step_told c.reserve.new.self c.ran.new.self c.self.inside.store c.args.call live.0 c.step_task.new.running c.steps.result c.has_more.result k.stored
          (call_within c.reserve.new.self.script c.reserve.new.self.schedule c.self.inside.tasks.items c.args.call k.tasks live) live.1 c.ran.ensures.made (c.in_ok-step_task.ensures.ok live.0 live.1) first c.steps.ensures c.has_more.ensures.known c.has_more.ensures.unknown m at)),
    )

pub returns-in_err-step_task-clause-made : goal.returns-in_err-step_task-clause-made
returns-in_err-step_task-clause-made c =
    let k = core_same c.self.inside.book c.reserve.new.self c.self.inside.store c.self.inside.tasks.items c.self.invariant.0 c.reserve.ensures.same in
    let live = live_now c.self.inside.book c.args.self.now.book c.reserve.new.self c.args.call (ap book_in c.self.view_is) c.requires.live c.reserve.ensures.same in
    let fresh = fresh_with c.self.inside.book c.args.self.now.book c.reserve.new.self c.args.call (ap book_in c.self.view_is) c.reserve.ensures.same c.in_ok-refuse_stale.ensures.fresh in
    let p = err_from_is_err_and c.from_residual-in_err-step_task.result c.from_residual-in_err-step_task.ensures.1 in
    rw (p.1, p.2) (refused_same c.args.call c.new-view.result c.step_task.new.view _ c.args.self.now.book c.reserve.new.self (fresh_start c.reserve.new.self c.self.inside.store c.args.call c.start.result c.new-view.result k.stored fresh live c.start.ensures.value c.new-view.ensures)
    c.in_err-step_task.ensures.view.may_refuse (subst (λ (b : Booked). IsSame b c.reserve.new.self) (ap book_in c.self.view_is) c.reserve.ensures.same))

pub returns-in_err-refuse_stale-clause-others : goal.returns-in_err-refuse_stale-clause-others
returns-in_err-refuse_stale-clause-others c d ne = refl

pub returns-in_err-reserve-clause-others : goal.returns-in_err-reserve-clause-others
returns-in_err-reserve-clause-others c = others_kept c.args.call c.self.inside.tasks.items c.args.self.now (ap tasks_in c.self.view_is)

pub returns-in_err-step_task-clause-others : goal.returns-in_err-step_task-clause-others
returns-in_err-step_task-clause-others c = others_set c.args.call c.self.inside.tasks.items (Some c.step_task.new.running) c.args.self.now (ap tasks_in c.self.view_is)

pub returns-clause-others : goal.returns-clause-others
returns-clause-others c = others_set c.args.call c.self.inside.tasks.items (Some c.step_task.new.running) c.args.self.now (ap tasks_in c.self.view_is)

pub returns-clause-one : goal.returns-clause-one
returns-clause-one c =
    let k = core_same c.self.inside.book c.reserve.new.self c.self.inside.store c.self.inside.tasks.items c.self.invariant.0 c.reserve.ensures.same in
    let live = live_now c.self.inside.book c.args.self.now.book c.reserve.new.self c.args.call (ap book_in c.self.view_is) c.requires.live c.reserve.ensures.same in
    runs_one c.reserve.new.self.script c.reserve.new.self.schedule c.self.inside.tasks.items c.args.call c.index_mut.result.now c.get_mut-running.result.now c.step_task.new.running c.args.self.now c.ran.new.self
    k.tasks live c.index_mut.ensures.value (c.in-Some.is ∙ ap Some (sym c.get_mut-running.ensures.value)) (ap tasks_in c.self.view_is) (c.reserve.ensures.same.schedule ∙ ap (λ (b : Booked). b.schedule) (ap book_in c.self.view_is))
    c.in_ok-step_task.ensures.one c.in_ok-step_task.ensures.named

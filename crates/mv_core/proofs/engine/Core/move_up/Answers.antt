use Rattle.std.proofs.Common.{rules, ◌<◌, List, Option, Some, None, length, slice_get, slice_set, refl, sym, ap, subst, ◌∙◌}
use Rattle.mv_journal.specs.declared.event.Event.TheVariants.{M}
use Rattle.mv_journal.specs.declared.outcome.Mark.TheVariants.{Moved}
use Rattle.mv_lawful.specs.Batch.{records_at}
use Rattle.mv_core.specs.Books.{Booked, batch_in, Made, AreRecordsOf}
use Rattle.mv_core.specs.Cores.{HasRoundStarts, IsCore, records_by}
use Rattle.mv_core.specs.declared.tasks.Running.{Running}
use Rattle.mv_core.proofs.Stored.{stored_made}
use Rattle.mv_core.proofs.Numbered.{numbers_moved}
use Rattle.mv_core.proofs.Taking.{task_there, task_within, task_moved, call_within, restarted_on}
use Rattle.mv_core.proofs.Changed.{core_same, live_in, book_in, tasks_in}
use Rattle.mv_core.proofs.Moving.{apart}
use Rattle.mv_core.proofs.Recorded.{others_kept, others_set, whole_set, whole_again}
use Rattle.mv_core.proofs.Lasting.{last_same, last_other}
use Rattle.mv_core.proofs.engine.Core.move_up.Goals as goal

pub move_last-requires-clause-live : goal.move_last-requires-clause-live
move_last-requires-clause-live c = live_in c.self.inside.book c.args.self.now.book c.args.call (ap book_in c.self.view_is) c.requires

pub move_last-requires-clause-number : goal.move_last-requires-clause-number
move_last-requires-clause-number c =
    call_within c.self.inside.book.script c.self.inside.book.schedule c.self.inside.tasks.items c.args.call c.self.invariant.0.tasks (live_in c.self.inside.book c.args.self.now.book c.args.call (ap book_in c.self.view_is) c.requires)

pub invariant_of-self : goal.invariant_of-self
invariant_of-self c = (core_same c.self.inside.book c.move_last.new.book c.self.inside.store c.self.inside.tasks.items c.self.invariant.0 c.in_err-task.ensures.same, last_same c.self.inside.book c.move_last.new.book c.self.inside.last c.self.invariant.1 c.in_err-task.ensures.same)

pub index_mut-requires : goal.index_mut-requires
index_mut-requires c =
    let lt : c.args.call < length c.self.inside.tasks.items =
    task_within c.self.inside.book.script c.self.inside.book.schedule c.self.inside.tasks.items c.args.call c.self.invariant.0.tasks (live_in c.self.inside.book c.args.self.now.book c.args.call (ap book_in c.self.view_is) c.requires) in
    search (rules, lt)

pub unreachable-requires : goal.unreachable-requires
unreachable-requires c =
    task_there c.self.inside.book.script c.self.inside.book.schedule c.self.inside.tasks.items c.args.call c.index_mut.result.now c.self.invariant.0.tasks (live_in c.self.inside.book c.args.self.now.book c.args.call (ap book_in c.self.view_is) c.requires) c.index_mut.ensures.value c.in_default.is

pub invariant_of-self-2 : goal.invariant_of-self-2
invariant_of-self-2 c =
    let b : Booked = c.self.inside.book in
    let live = live_in b c.args.self.now.book c.args.call (ap book_in c.self.view_is) c.requires in
    let made : Made (M c.args.call) b c.move_last.new.book = c.in_ok-task.ensures.made in
    let round_starts : HasRoundStarts (length b.schedule.order) live.0 = (c.self.invariant.0.tasks.running c.args.call live.0 live.1).2.round_starts in (
      subst (λ (ts : List (Option Running)). IsCore c.move_last.new.book c.self.inside.store ts) (sym (ap (λ (r : Running). slice_set c.self.inside.tasks.items c.args.call (Some r)) c.replace_task.ensures)) (record {
        stored = stored_made (M c.args.call) b c.move_last.new.book c.self.inside.store c.self.invariant.0.stored made refl refl;
        numbers = numbers_moved c.args.call b c.move_last.new.book made c.in_ok-task.ensures.settled c.self.invariant.0.numbers;
        tasks = restarted_on Moved b c.move_last.new.book c.self.inside.tasks.items c.args.call live.0 _ apart c.self.invariant.0.tasks live.1 made
            (task_moved b.script b.schedule.order c.args.call live.0 c.in_ok-task.task round_starts c.in_ok-task.ensures.runs);
      }),
      last_other (M c.args.call) b c.move_last.new.book c.self.inside.last c.self.invariant.1 made refl,
    )

pub returns-clause-made : goal.returns-clause-made
returns-clause-made c = (
  subst (λ (b : Booked). Made (M c.args.call) b c.move_last.new.book) (ap book_in c.self.view_is) c.in_ok-task.ensures.made,
  c.executed-executed.ensures ∙ (c.in_ok-task.ensures.executed ∙ (ap length c.in_ok-task.ensures.records
      ∙ ap (λ (b : Booked). length (records_at (batch_in b) b.schedule.order (length b.schedule.order) c.args.call)) (ap book_in c.self.view_is))),
)

pub returns-in_err-task-clause-others : goal.returns-in_err-task-clause-others
returns-in_err-task-clause-others c = others_kept c.args.call c.self.inside.tasks.items c.args.self.now (ap tasks_in c.self.view_is)

pub returns-clause-others : goal.returns-clause-others
returns-clause-others c d ne =
    others_set c.args.call c.self.inside.tasks.items (Some c.replace_task.new.running) c.args.self.now (ap tasks_in c.self.view_is) d ne

pub returns-clause-whole : goal.returns-clause-whole
returns-clause-whole c =
    let b : Booked = c.self.inside.book in
    let live = live_in b c.args.self.now.book c.args.call (ap book_in c.self.view_is) c.requires in
    subst (λ (ts : List (Option Running)). AreRecordsOf c.move_last.new.book c.args.call (records_by (slice_get ts c.args.call))) (sym (ap (λ (r : Running). slice_set c.self.inside.tasks.items c.args.call (Some r)) c.replace_task.ensures))
    (whole_set b.script b.schedule c.move_last.new.book c.self.inside.tasks.items c.args.call (record { task = c.in_ok-task.task; count = None }) c.self.invariant.0.tasks live
    (whole_again Moved b c.move_last.new.book c.args.call live.0 c.in_ok-task.task.log.records apart live.1 c.in_ok-task.ensures.made c.in_ok-task.ensures.records))

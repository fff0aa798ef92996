use Rattle.std.proofs.Common.{refl, arith, rules, ◌≡◌, length, Some, ap, sym, ◌∙◌}
use Rattle.std.specs.Prelude.{◌≢◌, false}
use Rattle.mv_values.proofs.Deciding.{always_err}
use Rattle.mv_journal.specs.declared.event.Event.TheVariants.{A}
use Rattle.mv_journal.specs.declared.outcome.Mark.TheVariants.{Plain, Exclusive}
use Rattle.mv_lawful.specs.Batch.{table_at, records_at}
use Rattle.mv_lawful.specs.Lawful.{Live, again, is_stale}
use Rattle.mv_script.specs.Scripts.{batch_of}
use Rattle.mv_core.specs.Calls.{IsLive, IsLiveCall}
use Rattle.mv_core.specs.Books.{IsSame}
use Rattle.mv_core.specs.Cores.{IsLiveTask, IsRepaired, HasRoundStarts}
use Rattle.mv_core.proofs.Changed.{same_both, on_new, on_old, running_same, allowed_same, room_less, live_restarted, due_restarted, due_made, made_after, made_before}
use Rattle.mv_core.proofs.tasks.rerun_task.Goals as goal

apart : Plain ≢ Exclusive
apart e = search (rules, e)

pub reserve-requires : goal.reserve-requires
reserve-requires g c = record { live = on_new (λ s x. IsLiveCall x c.args.call) c.args.book.now c.settle.new.self c.settle.ensures.same c.requires.call.live }

pub returns-in_err-reserve-clause-same : goal.returns-in_err-reserve-clause-same
returns-in_err-reserve-clause-same g c = always_err _ _ (same_both c.args.book.now c.settle.new.self c.reserve.new.self c.settle.ensures.same c.reserve.ensures.same)

pub returns-in_err-reserve-clause-task : goal.returns-in_err-reserve-clause-task
returns-in_err-reserve-clause-task g c = always_err _ _ c.requires.call.task

pub repair_task-requires : goal.repair_task-requires
repair_task-requires g c = λ k. ((refl, tt), ((running_same c.args.book.now c.reserve.new.self c.args.call c.args.running.now (same_both c.args.book.now c.settle.new.self c.reserve.new.self c.settle.ensures.same c.reserve.ensures.same) c.requires.call), ((on_new (λ s x. (g.V.View.sight c.args.view.now).database ≡ table_at (batch_of s) x.order (length x.order)) c.args.book.now c.reserve.new.self (same_both c.args.book.now c.settle.new.self c.reserve.new.self c.settle.ensures.same c.reserve.ensures.same) c.requires.shows), ((on_new (λ s x. (l : Live) → IsLive x c.args.call l → is_stale x l ≡ false) c.args.book.now c.reserve.new.self (same_both c.args.book.now c.settle.new.self c.reserve.new.self c.settle.ensures.same c.reserve.ensures.same) c.requires.fresh), ((on_new (λ s x. (l : Live) → IsLive x c.args.call l → c.args.running.now.task.log.records ≡ records_at (batch_of s) x.order l.start c.args.call) c.args.book.now c.reserve.new.self (same_both c.args.book.now c.settle.new.self c.reserve.new.self c.settle.ensures.same c.reserve.ensures.same) c.requires.whole), search rules)))))

pub returns-in_err-repair_task-clause-same : goal.returns-in_err-repair_task-clause-same
returns-in_err-repair_task-clause-same g c = always_err _ _ (same_both c.args.book.now c.settle.new.self c.reserve.new.self c.settle.ensures.same c.reserve.ensures.same)

pub returns-in_err-repair_task-clause-task : goal.returns-in_err-repair_task-clause-task
returns-in_err-repair_task-clause-task g c =
    always_err _ _
    (on_old (λ s x. (l : Live) → IsLive x c.args.call l → IsLiveTask s x.order c.args.call l c.repair_task.new.running) c.args.book.now c.reserve.new.self (same_both c.args.book.now c.settle.new.self c.reserve.new.self c.settle.ensures.same c.reserve.ensures.same) c.in_err-repair_task.ensures.err)

pub restart-requires-clause-allowed : goal.restart-requires-clause-allowed
restart-requires-clause-allowed g c =
    let same : IsSame c.args.book.now c.reserve.new.self = same_both c.args.book.now c.settle.new.self c.reserve.new.self c.settle.ensures.same c.reserve.ensures.same in
    allowed_same (A c.args.call) c.args.book.now c.reserve.new.self same.script same.schedule c.requires.allowed

pub restart-requires-clause-settled : goal.restart-requires-clause-settled
restart-requires-clause-settled g c plain = c.reserve.ensures.same.settled c.args.call c.settle.ensures.settled

pub restart-requires-clause-room : goal.restart-requires-clause-room
restart-requires-clause-room g c = room_less c.reserve.new.self c.args.call 2 1 (omega arith) c.in_ok-reserve.ensures.room

pub settle-requires-2-clause-live : goal.settle-requires-2-clause-live
settle-requires-2-clause-live g c =
    let same : IsSame c.args.book.now c.reserve.new.self = same_both c.args.book.now c.settle.new.self c.reserve.new.self c.settle.ensures.same c.reserve.ensures.same in
    let live = on_new (λ s x. IsLiveCall x c.args.call) c.args.book.now c.reserve.new.self same c.requires.call.live in
    (again (length c.reserve.new.self.schedule.order) Plain live.0, live_restarted Plain c.args.call c.reserve.new.self c.restart.new.self live.0 apart live.1 c.restart.ensures.made)

pub settle-requires-2-clause-number : goal.settle-requires-2-clause-number
settle-requires-2-clause-number g c none =
    let same : IsSame c.args.book.now c.reserve.new.self = same_both c.args.book.now c.settle.new.self c.reserve.new.self c.settle.ensures.same c.reserve.ensures.same in
    let live = on_new (λ s x. IsLiveCall x c.args.call) c.args.book.now c.reserve.new.self same c.requires.call.live in
    let round_starts = on_new (λ s x. (l : Live) → IsLive x c.args.call l → HasRoundStarts (length x.order) l) c.args.book.now c.reserve.new.self same (λ l at. (c.requires.call.task l at).round_starts) in
    due_made Plain c.reserve.new.self c.restart.new.self c.args.call c.repair_task.new.running.task.executed c.restart.ensures.made
    (due_restarted Plain c.reserve.new.self c.args.call live.0 apart live.1 (round_starts live.0 live.1) ∙ ap Some (sym (c.in_ok-repair_task.ensures.ok live.0 live.1).executed))

pub returns-clause-made : goal.returns-clause-made
returns-clause-made g c =
    let made = made_before (A c.args.call) c.reserve.new.self c.restart.new.self c.settle-2.new.self c.restart.ensures.made c.settle-2.ensures.same in
    let same : IsSame c.args.book.now c.reserve.new.self = same_both c.args.book.now c.settle.new.self c.reserve.new.self c.settle.ensures.same c.reserve.ensures.same in
    let live = on_new (λ s x. IsLiveCall x c.args.call) c.args.book.now c.reserve.new.self same c.requires.call.live in
    let round_starts = on_new (λ s x. (l : Live) → IsLive x c.args.call l → HasRoundStarts (length x.order) l) c.args.book.now c.reserve.new.self same (λ l at. (c.requires.call.task l at).round_starts) in (
      made_after (A c.args.call) c.args.book.now c.reserve.new.self c.settle-2.new.self same made,
      due_made Plain c.reserve.new.self c.settle-2.new.self c.args.call c.executed.result made
          (due_restarted Plain c.reserve.new.self c.args.call live.0 apart live.1 (round_starts live.0 live.1) ∙ ap Some (sym (c.executed.ensures ∙ (c.in_ok-repair_task.ensures.ok live.0 live.1).executed))),
    )

pub returns-clause-repaired : goal.returns-clause-repaired
returns-clause-repaired g c = on_old (λ s x. (m : Live) → IsLive x c.args.call m → IsRepaired s x.order c.args.call m c.repair_task.new.running) c.args.book.now c.reserve.new.self (same_both c.args.book.now c.settle.new.self c.reserve.new.self c.settle.ensures.same c.reserve.ensures.same) c.in_ok-repair_task.ensures.ok

use Rattle.std.proofs.Common.{◌≡◌, ◌<◌, length, Some, ap, sym, ◌∙◌}
use Rattle.std.specs.Prelude.{false}
use Rattle.mv_values.proofs.Deciding.{always_err}
use Rattle.mv_journal.specs.declared.event.Event.TheVariants.{X}
use Rattle.mv_lawful.specs.Batch.{records_at}
use Rattle.mv_lawful.specs.Lawful.{Live, is_stale}
use Rattle.mv_script.specs.Scripts.{batch_of}
use Rattle.mv_core.specs.Calls.{IsLive, IsLiveCall}
use Rattle.mv_core.specs.Books.{batch_in}
use Rattle.mv_core.specs.Cores.{IsLiveTask, IsRepaired, HasRoundStarts}
use Rattle.mv_core.proofs.Stored.{stored_same}
use Rattle.mv_core.proofs.Taking.{due_live, due_now, task_runs, task_back, task_given}
use Rattle.mv_core.proofs.Changed.{on_new, on_old, running_same, allowed_same, due_decided, committed_after}
use Rattle.mv_core.proofs.Lasting.{always_ok}
use Rattle.mv_core.proofs.commits.decide_task.Goals as goal

pub repair_last-requires-clause-stored : goal.repair_last-requires-clause-stored
repair_last-requires-clause-stored c = stored_same c.args.book.now c.settle.new.self c.args.store.now c.requires.stored c.settle.ensures.same

pub repair_last-requires-clause-call : goal.repair_last-requires-clause-call
repair_last-requires-clause-call c =
    running_same c.args.book.now c.settle.new.self c.args.call c.args.running.now c.settle.ensures.same c.requires.call

pub repair_last-requires-clause-fresh : goal.repair_last-requires-clause-fresh
repair_last-requires-clause-fresh c = on_new (λ s x. (l : Live) → IsLive x c.args.call l → is_stale x l ≡ false) c.args.book.now c.settle.new.self c.settle.ensures.same c.requires.fresh

pub repair_last-requires-clause-whole : goal.repair_last-requires-clause-whole
repair_last-requires-clause-whole c =
    on_new (λ s x. (l : Live) → IsLive x c.args.call l → c.args.running.now.task.log.records ≡ records_at (batch_of s) x.order l.start c.args.call) c.args.book.now c.settle.new.self c.settle.ensures.same c.requires.whole

pub returns-in_err-repair_last-clause-stored : goal.returns-in_err-repair_last-clause-stored
returns-in_err-repair_last-clause-stored c = stored_same c.args.book.now c.settle.new.self c.args.store.now c.requires.stored c.settle.ensures.same

pub returns-in_err-repair_last-clause-task : goal.returns-in_err-repair_last-clause-task
returns-in_err-repair_last-clause-task c =
    always_err _ _
    (on_old (λ s x. (l : Live) → IsLive x c.args.call l → IsLiveTask s x.order c.args.call l c.repair_last.new.running) c.args.book.now c.settle.new.self c.settle.ensures.same c.in_err-repair_last.ensures.err)

pub commit_task-committed-requires-clause-stored : goal.commit_task-committed-requires-clause-stored
commit_task-committed-requires-clause-stored c = stored_same c.args.book.now c.settle.new.self c.args.store.now c.requires.stored c.settle.ensures.same

pub commit_task-committed-requires-clause-live : goal.commit_task-committed-requires-clause-live
commit_task-committed-requires-clause-live c = on_new (λ s x. IsLiveCall x c.args.call) c.args.book.now c.settle.new.self c.settle.ensures.same c.requires.call.live

pub commit_task-committed-requires-clause-number : goal.commit_task-committed-requires-clause-number
commit_task-committed-requires-clause-number c = on_new (λ s x. c.args.call < length s.calls) c.args.book.now c.settle.new.self c.settle.ensures.same c.requires.call.number

pub commit_task-committed-requires-clause-allowed : goal.commit_task-committed-requires-clause-allowed
commit_task-committed-requires-clause-allowed c = allowed_same (X c.args.call) c.args.book.now c.settle.new.self c.settle.ensures.same.script c.settle.ensures.same.schedule c.requires.allowed

pub commit_task-committed-requires-clause-whole : goal.commit_task-committed-requires-clause-whole
commit_task-committed-requires-clause-whole c =
    let live = on_new (λ s x. IsLiveCall x c.args.call) c.args.book.now c.settle.new.self c.settle.ensures.same c.requires.call.live in
    (c.in_ok-repair_last.ensures.ok live.0 live.1).records

pub returns-else-is_err-clause-whole : goal.returns-else-is_err-clause-whole
returns-else-is_err-clause-whole c =
    let live = on_new (λ s x. IsLiveCall x c.args.call) c.args.book.now c.settle.new.self c.settle.ensures.same c.requires.call.live in
    always_ok c.commit_task-committed.result _
    (on_old (λ s x. c.repair_last.new.running.task.log.records ≡ records_at (batch_of s) x.order (length x.order) c.args.call) c.args.book.now c.settle.new.self c.settle.ensures.same (c.in_ok-repair_last.ensures.ok live.0 live.1).records)

pub commit_task-committed-requires-clause-own : goal.commit_task-committed-requires-clause-own
commit_task-committed-requires-clause-own c =
    let live = on_new (λ s x. IsLiveCall x c.args.call) c.args.book.now c.settle.new.self c.settle.ensures.same c.requires.call.live in
    let round_starts =
    on_new (λ s x. (l : Live) → IsLive x c.args.call l → HasRoundStarts (length x.order) l) c.args.book.now c.settle.new.self c.settle.ensures.same (λ l at. (c.requires.call.task l at).round_starts) in
    due_decided c.settle.new.self c.args.call live.0 live.1 (round_starts live.0 live.1) ∙ ap Some (sym (c.in_ok-repair_last.ensures.ok live.0 live.1).executed)

pub returns-then-is_err-clause-task : goal.returns-then-is_err-clause-task
returns-then-is_err-clause-task c = always_err c.commit_task-committed.result _ (λ l live.
    let due = due_now c.args.book.now c.args.call c.number-number.result c.args.running.now c.requires.call.live c.requires.call.task c.requires.whole c.number-number.ensures in
    let repaired = on_old (λ s x. (m : Live) → IsLive x c.args.call m → IsRepaired s x.order c.args.call m c.repair_last.new.running) c.args.book.now c.settle.new.self c.settle.ensures.same c.in_ok-repair_last.ensures.ok in
    task_given c.args.book.now.script c.args.book.now.schedule.order c.args.call c.number-number.result l c.spend.new.self (c.requires.call.task l live).round_starts
    (sym (due_live (batch_in c.args.book.now) c.args.book.now.schedule c.args.call l live) ∙ due) c.spend.ensures.count c.spend.ensures.executed
    (task_back c.args.book.now.script c.args.call _ c.repair_last.new.running.task c.spend.new.self.task (task_runs c.args.book.now.script c.args.call _ c.repair_last.new.running.task (repaired l live).runs) c.spend.ensures.begins))

pub returns-then-is_err-clause-made : goal.returns-then-is_err-clause-made
returns-then-is_err-clause-made c = committed_after (X c.args.call) c.commit_task-committed.result c.args.book.now c.settle.new.self c.commit_task-committed.new.book c.settle.ensures.same c.commit_task-committed.ensures.made

pub returns-else-is_err-clause-made : goal.returns-else-is_err-clause-made
returns-else-is_err-clause-made c = committed_after (X c.args.call) c.commit_task-committed.result c.args.book.now c.settle.new.self c.commit_task-committed.new.book c.settle.ensures.same c.commit_task-committed.ensures.made

use Rattle.std.proofs.Common.{◌<◌, length, ap}
use Rattle.mv_journal.specs.declared.event.Event.TheVariants.{C}
use Rattle.mv_lawful.specs.Lawful.{Schedule}
use Rattle.mv_core.specs.Calls.{IsLiveCall}
use Rattle.mv_core.proofs.Stored.{stored_same, last_records, last_records_on}
use Rattle.mv_core.proofs.Changed.{on_new, allowed_same, committed_after}
use Rattle.mv_core.proofs.commits.settle_and_commit.Goals as goal

pub commit_task-requires-clause-stored : goal.commit_task-requires-clause-stored
commit_task-requires-clause-stored c = stored_same c.args.book.now c.settle.new.self c.args.store.now c.requires.stored c.settle.ensures.same

pub commit_task-requires-clause-live : goal.commit_task-requires-clause-live
commit_task-requires-clause-live c = on_new (λ s x. IsLiveCall x c.args.call) c.args.book.now c.settle.new.self c.settle.ensures.same c.requires.live

pub commit_task-requires-clause-number : goal.commit_task-requires-clause-number
commit_task-requires-clause-number c = on_new (λ s x. c.args.call < length s.calls) c.args.book.now c.settle.new.self c.settle.ensures.same c.requires.number

pub commit_task-requires-clause-allowed : goal.commit_task-requires-clause-allowed
commit_task-requires-clause-allowed c = allowed_same (C c.args.call) c.args.book.now c.settle.new.self c.settle.ensures.same.script c.settle.ensures.same.schedule c.requires.allowed

pub commit_task-requires-clause-whole : goal.commit_task-requires-clause-whole
commit_task-requires-clause-whole c =
    last_records_on c.args.book.now c.settle.new.self c.args.call c.args.task.now.log.records c.settle.ensures.same.script (ap (λ (s : Schedule). s.order) c.settle.ensures.same.schedule)
    (last_records c.args.book.now c.args.call c.args.task.now.log.records c.requires.stored.script c.requires.number c.requires.live c.requires.whole c.requires.allowed)

pub returns-clause-made : goal.returns-clause-made
returns-clause-made c = committed_after (C c.args.call) c.commit_task.result c.args.book.now c.settle.new.self c.commit_task.new.book c.settle.ensures.same c.commit_task.ensures.made

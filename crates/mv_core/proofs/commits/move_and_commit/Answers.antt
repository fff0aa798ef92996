use Rattle.std.proofs.Common.{arith, ◌≡◌, ◌+◌, None, Some, length, refl, ap, sym, ◌∙◌}
use Rattle.mv_journal.specs.declared.event.Event.TheVariants.{M}
use Rattle.mv_journal.specs.declared.outcome.Mark.TheVariants.{Moved}
use Rattle.mv_record.specs.Runs.{Run}
use Rattle.mv_lawful.specs.Batch.{records_at}
use Rattle.mv_lawful.specs.Lawful.{Schedule, again, after}
use Rattle.mv_script.specs.declared.script.CompiledScript.{CompiledScript}
use Rattle.mv_script.specs.Scripts.{batch_of}
use Rattle.mv_core.specs.Books.{batch_in}
use Rattle.mv_core.proofs.Stored.{stored_same, stored_committed, stamped_on, last_run_on, last_changes_on, last_records_on}
use Rattle.mv_core.proofs.Given.{some_then, none_then}
use Rattle.mv_core.proofs.Moving.{live_moved, due_moved, moved_free, still_alone}
use Rattle.mv_core.proofs.Changed.{live_now, made_after, made_before, due_made, room_less}
use Rattle.mv_core.proofs.commits.move_and_commit.Goals as goal

pub prepare-requires-clause-whole : goal.prepare-requires-clause-whole
prepare-requires-clause-whole c =
    last_records_on c.args.book.now c.reserve.new.self c.args.call c.records.result c.reserve.ensures.same.script (ap (λ (s : Schedule). s.order) c.reserve.ensures.same.schedule)
    (c.records.ensures ∙ c.in_ok-task.ensures.records)

pub restart-requires-clause-room : goal.restart-requires-clause-room
restart-requires-clause-room c = room_less c.reserve.new.self c.args.call 2 1 (omega arith) c.in_ok-reserve.ensures.room

pub settle-requires-clause-live : goal.settle-requires-clause-live
settle-requires-clause-live c =
    let live = live_now c.args.book.now c.args.book.now c.reserve.new.self c.args.call refl c.requires.live c.reserve.ensures.same in
    (again (length c.reserve.new.self.schedule.order) Moved live.0, live_moved c.args.call c.reserve.new.self c.restart.new.self live.0 live.1 c.restart.ensures.made)

pub settle-requires-clause-number : goal.settle-requires-clause-number
settle-requires-clause-number c none =
    let live = live_now c.args.book.now c.args.book.now c.reserve.new.self c.args.call refl c.requires.live c.reserve.ensures.same in
    let same : records_at (batch_in c.reserve.new.self) c.reserve.new.self.schedule.order (length c.reserve.new.self.schedule.order) c.args.call ≡ c.in_ok-task.task.log.records =
    sym (last_records_on c.args.book.now c.reserve.new.self c.args.call c.in_ok-task.task.log.records c.reserve.ensures.same.script (ap (λ (s : Schedule). s.order) c.reserve.ensures.same.schedule)
    c.in_ok-task.ensures.records) in
    due_made Moved c.reserve.new.self c.restart.new.self c.args.call c.in_ok-task.task.executed c.restart.ensures.made
    (due_moved c.reserve.new.self c.args.call live.0 live.1 ∙ ap Some (ap length same ∙ sym c.in_ok-task.ensures.executed))

pub commit-commit-requires-clause-allowed : goal.commit-commit-requires-clause-allowed
commit-commit-requires-clause-allowed c =
    let live = live_now c.args.book.now c.args.book.now c.reserve.new.self c.args.call refl c.requires.live c.reserve.ensures.same in
    moved_free c.reserve.new.self c.settle.new.self c.args.store.now c.args.call live.0 (ap (λ (s : CompiledScript). (batch_of s).read_only c.args.call) c.reserve.ensures.same.script ∙ c.requires.kind) (stored_same c.args.book.now c.reserve.new.self c.args.store.now c.requires.stored c.reserve.ensures.same) live.1 (made_before (M c.args.call) c.reserve.new.self c.restart.new.self c.settle.new.self c.restart.ensures.made c.settle.ensures.same)

pub commit-commit-requires-clause-reply : goal.commit-commit-requires-clause-reply
commit-commit-requires-clause-reply c =
    c.in_ok-output.ensures.reply
    ∙ sym (ap (λ (r : Run). r.reply) (last_run_on c.reserve.new.self c.settle.new.self c.args.call (made_before (M c.args.call) c.reserve.new.self c.restart.new.self c.settle.new.self c.restart.ensures.made c.settle.ensures.same).script (ap (λ (s : Schedule). s.order) (made_before (M c.args.call) c.reserve.new.self c.restart.new.self c.settle.new.self c.restart.ensures.made c.settle.ensures.same).schedule)))

pub commit-commit-requires-clause-changes : goal.commit-commit-requires-clause-changes
commit-commit-requires-clause-changes c =
    some_then c.in_ok-output.output.changes c.in_ok-output.ensures.changes
    (λ output is. is ∙ sym (last_changes_on c.reserve.new.self c.settle.new.self c.args.call (made_before (M c.args.call) c.reserve.new.self c.restart.new.self c.settle.new.self c.restart.ensures.made c.settle.ensures.same).script (ap (λ (s : Schedule). s.order) (made_before (M c.args.call) c.reserve.new.self c.restart.new.self c.settle.new.self c.restart.ensures.made c.settle.ensures.same).schedule)))

pub commit-commit-requires-clause-alone : goal.commit-commit-requires-clause-alone
commit-commit-requires-clause-alone c =
    let live = live_now c.args.book.now c.args.book.now c.reserve.new.self c.args.call refl c.requires.live c.reserve.ensures.same in
    none_then c.in_ok-output.output.changes c.in_ok-output.ensures.alone (still_alone c.args.call c.reserve.new.self c.settle.new.self live.0 live.1 (made_before (M c.args.call) c.reserve.new.self c.restart.new.self c.settle.new.self c.restart.ensures.made c.settle.ensures.same))

pub commit-commit-requires-clause-room : goal.commit-commit-requires-clause-room
commit-commit-requires-clause-room c = c.settle.ensures.room c.args.call 1 (c.restart.ensures.room c.args.call 1 c.in_ok-reserve.ensures.room)

pub stamp-requires : goal.stamp-requires
stamp-requires c =
    let last = c.in_ok-output.ensures.ok.last in
    let number = c.commit-commit.ensures.number in
    let same = ap (λ (s : Schedule). length s.order) (made_before (M c.args.call) c.reserve.new.self c.restart.new.self c.settle.new.self c.restart.ensures.made c.settle.ensures.same).schedule in
    omega (arith, last, number, same)

pub returns-clause-made : goal.returns-clause-made
returns-clause-made c =
    let moved = made_after (M c.args.call) c.args.book.now c.reserve.new.self c.settle.new.self c.reserve.ensures.same (made_before (M c.args.call) c.reserve.new.self c.restart.new.self c.settle.new.self c.restart.ensures.made c.settle.ensures.same) in
    ((c.settle.new.self, moved, c.commit-commit.ensures.made, c.settle.ensures.settled), c.commit-commit.ensures.number ∙ ap (λ (s : Schedule). length s.order + 1) moved.schedule)

pub returns-clause-stored : goal.returns-clause-stored
returns-clause-stored c =
    let schedule : c.settle.new.self.schedule ≡ after (batch_in c.reserve.new.self) c.reserve.new.self.schedule (M c.args.call) = (made_before (M c.args.call) c.reserve.new.self c.restart.new.self c.settle.new.self c.restart.ensures.made c.settle.ensures.same).schedule in
    stored_committed None c.args.call c.settle.new.self c.commit-commit.new.self c.stamp.new.self
    (stamped_on c.reserve.new.self c.settle.new.self c.args.call c.stamp.new.self
    (c.in_ok-output.ensures.ok.stamped c.commit-commit.result c.stamp.new.self (c.commit-commit.ensures.number ∙ ap (λ (s : Schedule). length s.order + 1) schedule) c.stamp.ensures)
    (made_before (M c.args.call) c.reserve.new.self c.restart.new.self c.settle.new.self c.restart.ensures.made c.settle.ensures.same).script (ap (λ (s : Schedule). s.order) schedule) (ap (λ (s : Schedule). s.low) schedule))
    c.commit-commit.ensures.made

use Rattle.std.proofs.Common.{◌≡◌, ◌<◌, length, refl, sym, ap, subst, ◌∙◌, arith, rules}
use Rattle.mv_journal.specs.declared.event.Event.TheVariants.{M}
use Rattle.mv_journal.specs.declared.outcome.Mark.TheVariants.{Moved}
use Rattle.mv_lawful.specs.Lawful.{Schedule, again}
use Rattle.mv_script.specs.declared.script.CompiledScript.{CompiledScript}
use Rattle.mv_script.specs.Scripts.{batch_of}
use Rattle.mv_core.specs.Books.{Booked, Made, IsSame, IsReader}
use Rattle.mv_core.proofs.Moving.{live_moved}
use Rattle.mv_core.proofs.Changed.{live_now, room_less, made_after, made_before, same_self}
use Rattle.mv_gate.specs.Gates.{MayMove}
use Rattle.mv_gate.proofs.Starts.{entry_there}
use Rattle.mv_gate.proofs.Schedulers.{scheduler_seen, seen_still, scheduler_same, scheduler_read, read_failed}
use Rattle.mv_gate.proofs.Bringing.{told_all}
use Rattle.mv_gate.proofs.Committing.{reply_here, move_allowed, moved_number, moved_last, moved_fresh, moved_reply, must_answer, latest_here}
use Rattle.mv_shards.specs.Leaves.{start_shown}
use Rattle.mv_gate.proofs.Pins.{leave_last, leave_back}
use Rattle.mv_gate.proofs.scheduler.Scheduler.move_and_answer.Goals as goal

pub run_last-requires-clause-there : goal.run_last-requires-clause-there
run_last-requires-clause-there g c = subst (λ (x : CompiledScript). c.args.call < length x.calls) c.self.invariant.script (subst (λ (b : Booked). MayMove b c.args.call) (sym c.self.view_is) c.requires.may).there

pub invariant_of-self : goal.invariant_of-self
invariant_of-self g c =
    scheduler_same g.N.Making.script c.self.inside.book c.self.inside.book c.self.inside.ledger c.run_last.new.ledger c.self.inside.starts.items c.self.invariant (same_self c.self.inside.book) c.run_last.ensures.seen c.run_last.ensures.commits

pub invariant_of-self-in_err-reply : goal.invariant_of-self-in_err-reply
invariant_of-self-in_err-reply g c =
    scheduler_same g.N.Making.script c.self.inside.book c.self.inside.book c.self.inside.ledger c.run_last.new.ledger c.self.inside.starts.items c.self.invariant (same_self c.self.inside.book) c.run_last.ensures.seen c.run_last.ensures.commits

pub reserve-requires : goal.reserve-requires
reserve-requires g c = record { live = (subst (λ (b : Booked). MayMove b c.args.call) (sym c.self.view_is) c.requires.may).live }

pub invariant_of-self-in_err-reserve : goal.invariant_of-self-in_err-reserve
invariant_of-self-in_err-reserve g c =
    scheduler_same g.N.Making.script c.self.inside.book c.reserve.new.self c.self.inside.ledger c.run_last.new.ledger c.self.inside.starts.items c.self.invariant c.reserve.ensures.same c.run_last.ensures.seen c.run_last.ensures.commits

pub restart-requires-clause-allowed : goal.restart-requires-clause-allowed
restart-requires-clause-allowed g c = move_allowed c.reserve.new.self c.args.call (live_now c.self.inside.book c.self.inside.book c.reserve.new.self c.args.call refl (subst (λ (b : Booked). MayMove b c.args.call) (sym c.self.view_is) c.requires.may).live c.reserve.ensures.same)

pub restart-requires-clause-room : goal.restart-requires-clause-room
restart-requires-clause-room g c = room_less c.reserve.new.self c.args.call 2 1 (omega arith) c.in_ok-reserve.ensures.room

pub settle-requires-clause-live : goal.settle-requires-clause-live
settle-requires-clause-live g c =
    let live = live_now c.self.inside.book c.self.inside.book c.reserve.new.self c.args.call refl (subst (λ (b : Booked). MayMove b c.args.call) (sym c.self.view_is) c.requires.may).live c.reserve.ensures.same in
    (again (length c.reserve.new.self.schedule.order) Moved live.0, live_moved c.args.call c.reserve.new.self c.restart.new.self live.0 live.1 c.restart.ensures.made)

pub settle-requires-clause-number : goal.settle-requires-clause-number
settle-requires-clause-number g c none =
    moved_number c.reserve.new.self c.restart.new.self c.args.call c.in_ok-task.task (live_now c.self.inside.book c.self.inside.book c.reserve.new.self c.args.call refl (subst (λ (b : Booked). MayMove b c.args.call) (sym c.self.view_is) c.requires.may).live c.reserve.ensures.same) c.restart.ensures.made
    (latest_here g.N.Making.script c.reserve.new.self c.self.inside.ledger c.args.call c.in_ok-task.task (c.reserve.ensures.same.script ∙ c.self.invariant.script)
    (seen_still c.self.inside.book.schedule.order c.reserve.new.self.schedule.order c.self.inside.ledger c.self.inside.ledger (scheduler_seen g.N.Making.script c.self.inside.book c.self.inside.ledger c.self.inside.starts.items c.self.invariant) (ap (λ (x : Schedule). x.order) c.reserve.ensures.same.schedule) refl refl)
    c.in_ok-task.ensures.runs c.in_ok-task.ensures.ended c.in_ok-task.ensures.records) c.in_ok-task.ensures.executed

pub answer_read-requires-clause-live : goal.answer_read-requires-clause-live
answer_read-requires-clause-live g c =
    let live = (live_now c.self.inside.book c.self.inside.book c.reserve.new.self c.args.call refl (subst (λ (b : Booked). MayMove b c.args.call) (sym c.self.view_is) c.requires.may).live c.reserve.ensures.same) in (
      again (length c.reserve.new.self.schedule.order) Moved live.0,
      live_moved c.args.call c.reserve.new.self c.settle.new.self live.0 live.1 (made_before (M c.args.call) c.reserve.new.self c.restart.new.self c.settle.new.self c.restart.ensures.made c.settle.ensures.same),
    )

pub answer_read-requires-clause-kind : goal.answer_read-requires-clause-kind
answer_read-requires-clause-kind g c =
    let moved = made_before (M c.args.call) c.reserve.new.self c.restart.new.self c.settle.new.self c.restart.ensures.made c.settle.ensures.same in
    ap (λ (s : CompiledScript). (batch_of s).read_only c.args.call) (moved.script ∙ c.reserve.ensures.same.script) ∙ subst (λ (b : Booked). IsReader b c.args.call) (sym c.self.view_is) c.requires.kind

pub answer_read-requires-clause-reply : goal.answer_read-requires-clause-reply
answer_read-requires-clause-reply g c l at =
    let s = g.N.Making.script in
    let moved = made_before (M c.args.call) c.reserve.new.self c.restart.new.self c.settle.new.self c.restart.ensures.made c.settle.ensures.same in
    c.in_ok-reply.ensures
    ∙ ((told_all s c.self.inside.ledger.knows.seen c.args.call c.self.inside.ledger.commits c.records.result c.self.invariant.sound (subst (λ (x : CompiledScript). c.args.call < length x.calls) c.self.invariant.script (subst (λ (b : Booked). MayMove b c.args.call) (sym c.self.view_is) c.requires.may).there) (c.records.ensures ∙ c.in_ok-task.ensures.records)).0
    ∙ (reply_here s c.settle.new.self c.self.inside.ledger c.args.call (moved.script ∙ (c.reserve.ensures.same.script ∙ c.self.invariant.script))
    (seen_still c.self.inside.book.schedule.order c.settle.new.self.schedule.order c.self.inside.ledger c.self.inside.ledger (scheduler_seen s c.self.inside.book c.self.inside.ledger c.self.inside.starts.items c.self.invariant)
    (ap (λ (x : Schedule). x.order) moved.schedule ∙ ap (λ (x : Schedule). x.order) c.reserve.ensures.same.schedule) refl refl)
    ∙ moved_reply c.reserve.new.self c.settle.new.self c.args.call (live_now c.self.inside.book c.self.inside.book c.reserve.new.self c.args.call refl (subst (λ (b : Booked). MayMove b c.args.call) (sym c.self.view_is) c.requires.may).live c.reserve.ensures.same) moved l at))

pub answer_read-requires-clause-room : goal.answer_read-requires-clause-room
answer_read-requires-clause-room g c = let has = (c.settle.ensures.room c.args.call 1 (c.restart.ensures.room c.args.call 1 c.in_ok-reserve.ensures.room)).0 in omega (arith, has)

pub unreachable-requires : goal.unreachable-requires
unreachable-requires g c =
    let moved = made_before (M c.args.call) c.reserve.new.self c.restart.new.self c.settle.new.self c.restart.ensures.made c.settle.ensures.same in
    let low = ap (λ (s : Schedule). s.low) c.reserve.ensures.same.schedule in
    let order = ap (λ (s : Schedule). length s.order) c.reserve.ensures.same.schedule in
    let below = c.self.invariant.low in
    must_answer c.args.call _ c.settle.new.self c.answer_read.new.self c.in_default.ensures.never
    (moved_fresh c.reserve.new.self c.settle.new.self c.args.call (omega (arith, low, order, below)) (live_now c.self.inside.book c.self.inside.book c.reserve.new.self c.args.call refl (subst (λ (b : Booked). MayMove b c.args.call) (sym c.self.view_is) c.requires.may).live c.reserve.ensures.same) moved)
    c.in_default.ensures.answered

pub index_mut-requires : goal.index_mut-requires
index_mut-requires g c =
    let lt : c.args.call < length c.self.inside.starts.items = entry_there g.N.Making.script c.self.inside.book.schedule c.self.inside.starts.items c.args.call c.self.invariant.touched (subst (λ (b : Booked). MayMove b c.args.call) (sym c.self.view_is) c.requires.may).live in
    search (rules, lt)

pub invariant_of-self-2 : goal.invariant_of-self-2
invariant_of-self-2 g c =
    scheduler_read c.args.call g.N.Making.script c.self.inside.book c.settle.new.self c.answer_read.new.self c.self.inside.ledger c.run_last.new.ledger c.self.inside.starts.items c.self.invariant c.journal-events.ensures.allowed c.journal-events.ensures.reaches
    (subst (λ (b : Booked). MayMove b c.args.call) (sym c.self.view_is) c.requires.may).live (subst (λ (b : Booked). MayMove b c.args.call) (sym c.self.view_is) c.requires.may).past
    (made_after (M c.args.call) c.self.inside.book c.reserve.new.self c.settle.new.self c.reserve.ensures.same (made_before (M c.args.call) c.reserve.new.self c.restart.new.self c.settle.new.self c.restart.ensures.made c.settle.ensures.same))
    c.in-Ok.ensures.answered.0 c.run_last.ensures.seen c.run_last.ensures.commits

pub returns-clause-made : goal.returns-clause-made
returns-clause-made g c =
    let mid = made_before (M c.args.call) c.reserve.new.self c.restart.new.self c.settle.new.self c.restart.ensures.made c.settle.ensures.same in
    let moved = made_after (M c.args.call) c.self.inside.book c.reserve.new.self c.settle.new.self c.reserve.ensures.same mid in
    let live = (live_now c.self.inside.book c.self.inside.book c.reserve.new.self c.args.call refl (subst (λ (b : Booked). MayMove b c.args.call) (sym c.self.view_is) c.requires.may).live c.reserve.ensures.same) in
    let next = live_moved c.args.call c.reserve.new.self c.settle.new.self live.0 live.1 mid in (
      (c.settle.new.self, subst (λ (b : Booked). Made (M c.args.call) b c.settle.new.self) c.self.view_is moved, c.in-Ok.ensures.answered.0, c.settle.ensures.settled),
      c.in-Ok.ensures.answered.1 (again (length c.reserve.new.self.schedule.order) Moved live.0) next
          ∙ (moved_last c.reserve.new.self c.settle.new.self c.args.call live mid (again (length c.reserve.new.self.schedule.order) Moved live.0) next
          ∙ (ap (λ (s : Schedule). length s.order) moved.schedule ∙ ap (λ (b : Booked). length b.schedule.order) c.self.view_is)),
    )

pub returns-in_err-reserve-clause-made : goal.returns-in_err-reserve-clause-made
returns-in_err-reserve-clause-made g c =
    read_failed _ c.args.call c.from_residual-in_err-reserve.result c.args.self.now c.reserve.new.self c.from_residual-in_err-reserve.ensures.1 (subst (λ (b : Booked). IsSame b c.reserve.new.self) c.self.view_is c.reserve.ensures.same)

pub run_last-requires-clause-last : goal.run_last-requires-clause-last
run_last-requires-clause-last g c = leave_last g.N.Making.script g.N.Naming.word (start_shown c.args.last.now) c.self.inside.book c.args.self.now c.self.inside.ledger.commits c.self.view_is c.self.invariant.commits c.requires.last

pub returns-in_err-task-clause-last : goal.returns-in_err-task-clause-last
returns-in_err-task-clause-last g c = leave_back g.N.Making.script g.N.Naming.word (start_shown c.run_last.new.last) c.self.inside.book c.args.self.now c.self.inside.ledger.commits c.self.view_is c.self.invariant.commits c.run_last.ensures.last

pub returns-in_err-reserve-clause-last : goal.returns-in_err-reserve-clause-last
returns-in_err-reserve-clause-last g c = leave_back g.N.Making.script g.N.Naming.word (start_shown c.run_last.new.last) c.self.inside.book c.args.self.now c.self.inside.ledger.commits c.self.view_is c.self.invariant.commits c.run_last.ensures.last

pub returns-clause-last : goal.returns-clause-last
returns-clause-last g c = leave_back g.N.Making.script g.N.Naming.word (start_shown c.run_last.new.last) c.self.inside.book c.args.self.now c.self.inside.ledger.commits c.self.view_is c.self.invariant.commits c.run_last.ensures.last

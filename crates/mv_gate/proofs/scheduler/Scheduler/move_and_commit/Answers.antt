use Rattle.std.proofs.Common.{◌≡◌, ◌<◌, ◌+◌, ◌++◌, ◌∷◌, [], ℕ, List, false, length, refl, sym, ap, subst, ◌∙◌, arith, rules}
use Rattle.std.specs.List.{list_any}
use lib.Dec.{eqb}
use Rattle.mv_journal.specs.declared.event.Event.TheVariants.{M}
use Rattle.mv_journal.specs.declared.outcome.Mark.TheVariants.{Moved}
use Rattle.mv_lawful.specs.Lawful.{Schedule, again}
use Rattle.mv_script.specs.declared.script.CompiledScript.{CompiledScript}
use Rattle.mv_script.specs.Scripts.{batch_of}
use Rattle.mv_core.specs.Books.{Booked, Made, IsSame, IsNoReader}
use Rattle.mv_core.proofs.Moving.{live_moved}
use Rattle.mv_core.proofs.Changed.{live_now, room_less, made_after, made_before, same_self}
use Rattle.mv_gate.specs.Gates.{MayMove}
use Rattle.mv_gate.proofs.Starts.{entry_there}
use Rattle.mv_gate.proofs.Schedulers.{scheduler_seen, seen_still, scheduler_same, scheduler_gone, fresh_call, gone_failed}
use Rattle.mv_gate.proofs.Committing.{reply_here, changes_here, move_allowed, moved_free, moved_number, latest_here, last_kept}
use Rattle.mv_shards.specs.Leaves.{start_shown}
use Rattle.mv_gate.proofs.Pins.{leave_last, leave_at, leave_back}
use Rattle.mv_gate.proofs.scheduler.Scheduler.move_and_commit.Goals as goal

pub run_last-requires-clause-there : goal.run_last-requires-clause-there
run_last-requires-clause-there g c = subst (λ (x : CompiledScript). c.args.call < length x.calls) c.self.invariant.script (subst (λ (b : Booked). MayMove b c.args.call) (sym c.self.view_is) c.requires.may).there

pub invariant_of-self : goal.invariant_of-self
invariant_of-self g c =
    scheduler_same g.N.Making.script c.self.inside.book c.self.inside.book c.self.inside.ledger c.run_last.new.ledger c.self.inside.starts.items c.self.invariant (same_self c.self.inside.book) c.run_last.ensures.seen c.run_last.ensures.commits

pub reserve-requires : goal.reserve-requires
reserve-requires g c = record { live = (subst (λ (b : Booked). MayMove b c.args.call) (sym c.self.view_is) c.requires.may).live }

pub invariant_of-self-in_err-reserve : goal.invariant_of-self-in_err-reserve
invariant_of-self-in_err-reserve g c =
    scheduler_same g.N.Making.script c.self.inside.book c.reserve.new.self c.self.inside.ledger c.run_last.new.ledger c.self.inside.starts.items c.self.invariant c.reserve.ensures.same c.run_last.ensures.seen c.run_last.ensures.commits

pub install_task-requires-clause-there : goal.install_task-requires-clause-there
install_task-requires-clause-there g c = subst (λ (x : CompiledScript). c.args.call < length x.calls) c.self.invariant.script (subst (λ (b : Booked). MayMove b c.args.call) (sym c.self.view_is) c.requires.may).there

pub install_task-requires-clause-fresh : goal.install_task-requires-clause-fresh
install_task-requires-clause-fresh g c =
    subst (λ (xs : List ℕ). list_any (eqb c.args.call) xs ≡ false) (sym (c.run_last.ensures.seen ∙ c.self.invariant.seen))
    (fresh_call c.self.inside.book c.args.call c.journal-events.ensures.allowed c.journal-events.ensures.reaches (subst (λ (b : Booked). MayMove b c.args.call) (sym c.self.view_is) c.requires.may).live)

pub install_task-requires-clause-whole : goal.install_task-requires-clause-whole
install_task-requires-clause-whole g c = last_kept g.N.Making.script c.self.inside.ledger c.run_last.new.ledger c.args.call c.in_ok-task.task.log.records c.in_ok-task.ensures.records c.run_last.ensures.seen c.run_last.ensures.commits

pub invariant_of-self-in_err-installed : goal.invariant_of-self-in_err-installed
invariant_of-self-in_err-installed g c =
    scheduler_same g.N.Making.script c.self.inside.book c.reserve.new.self c.self.inside.ledger c.install_task.new.ledger c.self.inside.starts.items c.self.invariant c.reserve.ensures.same
    (c.in_err-installed.ensures.err ∙ c.run_last.ensures.seen) (c.in_err-installed.ensures.stays ∙ c.run_last.ensures.commits)

pub restart-requires-clause-allowed : goal.restart-requires-clause-allowed
restart-requires-clause-allowed g c = move_allowed c.reserve.new.self c.args.call (live_now c.self.inside.book c.self.inside.book c.reserve.new.self c.args.call refl (subst (λ (b : Booked). MayMove b c.args.call) (sym c.self.view_is) c.requires.may).live c.reserve.ensures.same)

pub restart-requires-clause-room : goal.restart-requires-clause-room
restart-requires-clause-room g c = room_less c.reserve.new.self c.args.call 2 1 (omega arith) c.in_ok-reserve.ensures.room

pub settle-requires-clause-live : goal.settle-requires-clause-live
settle-requires-clause-live g c =
    let live = live_now c.self.inside.book c.self.inside.book c.reserve.new.self c.args.call refl (subst (λ (b : Booked). MayMove b c.args.call) (sym c.self.view_is) c.requires.may).live c.reserve.ensures.same in
    (again (length c.reserve.new.self.schedule.order) Moved live.0, live_moved c.args.call c.reserve.new.self c.restart.new.self live.0 live.1 c.restart.ensures.made)

pub settle-requires-clause-number : goal.settle-requires-clause-number
settle-requires-clause-number g c none =
    moved_number c.reserve.new.self c.restart.new.self c.args.call c.in_ok-task.task (live_now c.self.inside.book c.self.inside.book c.reserve.new.self c.args.call refl (subst (λ (b : Booked). MayMove b c.args.call) (sym c.self.view_is) c.requires.may).live c.reserve.ensures.same) c.restart.ensures.made
    (latest_here g.N.Making.script c.reserve.new.self c.self.inside.ledger c.args.call c.in_ok-task.task (c.reserve.ensures.same.script ∙ c.self.invariant.script)
    (seen_still c.self.inside.book.schedule.order c.reserve.new.self.schedule.order c.self.inside.ledger c.self.inside.ledger (scheduler_seen g.N.Making.script c.self.inside.book c.self.inside.ledger c.self.inside.starts.items c.self.invariant) (ap (λ (x : Schedule). x.order) c.reserve.ensures.same.schedule) refl refl)
    c.in_ok-task.ensures.runs c.in_ok-task.ensures.ended c.in_ok-task.ensures.records) c.in_ok-task.ensures.executed

pub commit-commit-requires-clause-allowed : goal.commit-commit-requires-clause-allowed
commit-commit-requires-clause-allowed g c =
    let low = ap (λ (s : Schedule). s.low) c.reserve.ensures.same.schedule in
    let order = ap (λ (s : Schedule). length s.order) c.reserve.ensures.same.schedule in
    let below = c.self.invariant.low in
    moved_free c.reserve.new.self c.settle.new.self c.args.call (ap (λ (s : CompiledScript). (batch_of s).read_only c.args.call) c.reserve.ensures.same.script ∙ subst (λ (b : Booked). IsNoReader b c.args.call) (sym c.self.view_is) c.requires.kind) (omega (arith, low, order, below)) (live_now c.self.inside.book c.self.inside.book c.reserve.new.self c.args.call refl (subst (λ (b : Booked). MayMove b c.args.call) (sym c.self.view_is) c.requires.may).live c.reserve.ensures.same)
    (made_before (M c.args.call) c.reserve.new.self c.restart.new.self c.settle.new.self c.restart.ensures.made c.settle.ensures.same)

pub commit-commit-requires-clause-reply : goal.commit-commit-requires-clause-reply
commit-commit-requires-clause-reply g c =
    let moved = made_before (M c.args.call) c.reserve.new.self c.restart.new.self c.settle.new.self c.restart.ensures.made c.settle.ensures.same in
    c.in_ok-installed.ensures.reply
    ∙ reply_here g.N.Making.script c.settle.new.self c.run_last.new.ledger c.args.call (moved.script ∙ (c.reserve.ensures.same.script ∙ c.self.invariant.script))
    (seen_still c.self.inside.book.schedule.order c.settle.new.self.schedule.order c.self.inside.ledger c.run_last.new.ledger (scheduler_seen g.N.Making.script c.self.inside.book c.self.inside.ledger c.self.inside.starts.items c.self.invariant)
    (ap (λ (s : Schedule). s.order) moved.schedule ∙ ap (λ (s : Schedule). s.order) c.reserve.ensures.same.schedule) c.run_last.ensures.seen c.run_last.ensures.commits)

pub commit-commit-requires-clause-changes : goal.commit-commit-requires-clause-changes
commit-commit-requires-clause-changes g c =
    let moved = made_before (M c.args.call) c.reserve.new.self c.restart.new.self c.settle.new.self c.restart.ensures.made c.settle.ensures.same in
    c.in_ok-installed.ensures.changes
    ∙ changes_here g.N.Making.script c.settle.new.self c.run_last.new.ledger c.args.call (moved.script ∙ (c.reserve.ensures.same.script ∙ c.self.invariant.script))
    (seen_still c.self.inside.book.schedule.order c.settle.new.self.schedule.order c.self.inside.ledger c.run_last.new.ledger (scheduler_seen g.N.Making.script c.self.inside.book c.self.inside.ledger c.self.inside.starts.items c.self.invariant)
    (ap (λ (s : Schedule). s.order) moved.schedule ∙ ap (λ (s : Schedule). s.order) c.reserve.ensures.same.schedule) c.run_last.ensures.seen c.run_last.ensures.commits)

pub commit-commit-requires-clause-room : goal.commit-commit-requires-clause-room
commit-commit-requires-clause-room g c = c.settle.ensures.room c.args.call 1 (c.restart.ensures.room c.args.call 1 c.in_ok-reserve.ensures.room)

pub index_mut-requires : goal.index_mut-requires
index_mut-requires g c =
    let lt : c.args.call < length c.self.inside.starts.items = entry_there g.N.Making.script c.self.inside.book.schedule c.self.inside.starts.items c.args.call c.self.invariant.touched (subst (λ (b : Booked). MayMove b c.args.call) (sym c.self.view_is) c.requires.may).live in
    search (rules, lt)

pub invariant_of-self-2 : goal.invariant_of-self-2
invariant_of-self-2 g c =
    scheduler_gone c.args.call g.N.Making.script c.self.inside.book c.settle.new.self c.commit-commit.new.self c.self.inside.ledger c.install_task.new.ledger c.self.inside.starts.items c.self.invariant c.journal-events.ensures.allowed c.journal-events.ensures.reaches
    (subst (λ (b : Booked). MayMove b c.args.call) (sym c.self.view_is) c.requires.may).live (subst (λ (b : Booked). MayMove b c.args.call) (sym c.self.view_is) c.requires.may).past
    (made_after (M c.args.call) c.self.inside.book c.reserve.new.self c.settle.new.self c.reserve.ensures.same (made_before (M c.args.call) c.reserve.new.self c.restart.new.self c.settle.new.self c.restart.ensures.made c.settle.ensures.same))
    c.commit-commit.ensures.made (c.in_ok-installed.ensures.appended ∙ ap (λ (xs : List ℕ). xs ++ c.args.call ∷ []) c.run_last.ensures.seen) (c.in_ok-installed.ensures.counted ∙ ap (λ n. n + 1) c.run_last.ensures.commits)

pub returns-clause-made : goal.returns-clause-made
returns-clause-made g c =
    let moved =
    made_after (M c.args.call) c.self.inside.book c.reserve.new.self c.settle.new.self c.reserve.ensures.same (made_before (M c.args.call) c.reserve.new.self c.restart.new.self c.settle.new.self c.restart.ensures.made c.settle.ensures.same) in (
      (c.settle.new.self, subst (λ (b : Booked). Made (M c.args.call) b c.settle.new.self) c.self.view_is moved, c.commit-commit.ensures.made, c.settle.ensures.settled),
      c.commit-commit.ensures.number ∙ (ap (λ (s : Schedule). length s.order + 1) moved.schedule ∙ ap (λ (b : Booked). length b.schedule.order + 1) c.self.view_is),
    )

pub returns-in_err-reserve-clause-made : goal.returns-in_err-reserve-clause-made
returns-in_err-reserve-clause-made g c =
    gone_failed _ c.args.call c.from_residual-in_err-reserve.result c.args.self.now c.reserve.new.self c.from_residual-in_err-reserve.ensures.1 (subst (λ (b : Booked). IsSame b c.reserve.new.self) c.self.view_is c.reserve.ensures.same)

pub returns-in_err-installed-clause-made : goal.returns-in_err-installed-clause-made
returns-in_err-installed-clause-made g c =
    gone_failed _ c.args.call c.from_residual-in_err-installed.result c.args.self.now c.reserve.new.self c.from_residual-in_err-installed.ensures.1 (subst (λ (b : Booked). IsSame b c.reserve.new.self) c.self.view_is c.reserve.ensures.same)

pub run_last-requires-clause-last : goal.run_last-requires-clause-last
run_last-requires-clause-last g c = leave_last g.N.Making.script g.N.Naming.word (start_shown c.args.last.now) c.self.inside.book c.args.self.now c.self.inside.ledger.commits c.self.view_is c.self.invariant.commits c.requires.last

pub install_task-requires-clause-last : goal.install_task-requires-clause-last
install_task-requires-clause-last g c = leave_at g.N.Making.script g.N.Naming.word (start_shown c.run_last.new.last) c.self.inside.ledger.commits c.run_last.new.ledger.commits c.run_last.ensures.commits c.run_last.ensures.last

pub returns-in_err-task-clause-last : goal.returns-in_err-task-clause-last
returns-in_err-task-clause-last g c = leave_back g.N.Making.script g.N.Naming.word (start_shown c.run_last.new.last) c.self.inside.book c.args.self.now c.self.inside.ledger.commits c.self.view_is c.self.invariant.commits c.run_last.ensures.last

pub returns-in_err-reserve-clause-last : goal.returns-in_err-reserve-clause-last
returns-in_err-reserve-clause-last g c = leave_back g.N.Making.script g.N.Naming.word (start_shown c.run_last.new.last) c.self.inside.book c.args.self.now c.self.inside.ledger.commits c.self.view_is c.self.invariant.commits c.run_last.ensures.last

pub returns-in_err-installed-clause-last : goal.returns-in_err-installed-clause-last
returns-in_err-installed-clause-last g c = leave_back g.N.Making.script g.N.Naming.word (start_shown c.install_task.new.last) c.self.inside.book c.args.self.now c.run_last.new.ledger.commits c.self.view_is (c.run_last.ensures.commits ∙ c.self.invariant.commits) c.install_task.ensures.last

pub returns-clause-last : goal.returns-clause-last
returns-clause-last g c = leave_back g.N.Making.script g.N.Naming.word (start_shown c.install_task.new.last) c.self.inside.book c.args.self.now c.run_last.new.ledger.commits c.self.view_is (c.run_last.ensures.commits ∙ c.self.invariant.commits) c.install_task.ensures.last

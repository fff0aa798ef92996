use Rattle.std.proofs.Common.{◌<◌, true, length, refl, sym, ap, subst, ◌∙◌, arith, rules}
use Rattle.mv_journal.specs.declared.event.Event.TheVariants.{M}
use Rattle.mv_lawful.specs.Lawful.{Schedule}
use Rattle.mv_values.proofs.Deciding.{always_err}
use Rattle.mv_core.specs.Books.{Booked, Made, IsSame}
use Rattle.mv_core.proofs.Changed.{live_now, room_less, made_after}
use Rattle.mv_gate.specs.Gates.{MayMove, HasRound}
use Rattle.mv_gate.proofs.Starts.{entry_there, changes_seen}
use Rattle.mv_gate.proofs.Schedulers.{scheduler_seen, starts_last, scheduler_same, scheduler_moved}
use Rattle.mv_gate.proofs.Committing.{move_allowed}
use Rattle.mv_gate.proofs.scheduler.Scheduler.move_up.Goals as goal

pub reserve-requires : goal.reserve-requires
reserve-requires g c = record { live = (subst (λ (b : Booked). MayMove b c.args.call) (sym c.self.view_is) c.requires.call).live }

pub invariant_of-self : goal.invariant_of-self
invariant_of-self g c = scheduler_same g.N.Making.script c.self.inside.book c.reserve.new.self c.self.inside.ledger c.self.inside.ledger c.self.inside.starts.items c.self.invariant c.reserve.ensures.same refl refl

pub invariant_of-self-in_err-start : goal.invariant_of-self-in_err-start
invariant_of-self-in_err-start g c =
    scheduler_same g.N.Making.script c.self.inside.book c.reserve.new.self c.self.inside.ledger c.next_start.new.ledger c.self.inside.starts.items c.self.invariant c.reserve.ensures.same c.next_start.ensures.kept c.next_start.ensures.commits

pub restart-requires-clause-allowed : goal.restart-requires-clause-allowed
restart-requires-clause-allowed g c =
    move_allowed c.reserve.new.self c.args.call (live_now c.self.inside.book c.self.inside.book c.reserve.new.self c.args.call refl (subst (λ (b : Booked). MayMove b c.args.call) (sym c.self.view_is) c.requires.call).live c.reserve.ensures.same)

pub restart-requires-clause-room : goal.restart-requires-clause-room
restart-requires-clause-room g c = room_less c.reserve.new.self c.args.call 2 1 (omega arith) c.in_ok-reserve.ensures.room

pub index_mut-requires : goal.index_mut-requires
index_mut-requires g c =
    let lt : c.args.call < length c.self.inside.starts.items =
    entry_there g.N.Making.script c.self.inside.book.schedule c.self.inside.starts.items c.args.call c.self.invariant.touched (subst (λ (b : Booked). MayMove b c.args.call) (sym c.self.view_is) c.requires.call).live in
    search (rules, lt)

pub invariant_of-self-2 : goal.invariant_of-self-2
invariant_of-self-2 g c =
    let ok : MayMove c.self.inside.book c.args.call = subst (λ (b : Booked). MayMove b c.args.call) (sym c.self.view_is) c.requires.call in
    scheduler_moved c.args.call g.N.Making.script c.self.inside.book c.restart.new.self c.self.inside.ledger c.next_start.new.ledger c.self.inside.starts.items _ c.self.invariant c.journal-events.ensures.allowed c.journal-events.ensures.reaches ok.live ok.past
    (subst (λ (b : Booked). HasRound true b c.args.call) (sym c.self.view_is) c.requires.left) (made_after (M c.args.call) c.self.inside.book c.reserve.new.self c.restart.new.self c.reserve.ensures.same c.restart.ensures.made)
    c.next_start.ensures.kept c.next_start.ensures.commits (changes_seen g.N.Making.script c.self.inside.book.schedule.order c.self.inside.ledger _ c.self.invariant.seen c.self.invariant.commits c.in_ok-start.ensures.touched)

pub returns-in_err-reserve-clause-err : goal.returns-in_err-reserve-clause-err
returns-in_err-reserve-clause-err g c = always_err _ _ (subst (λ (b : Booked). IsSame b c.reserve.new.self) c.self.view_is c.reserve.ensures.same)

pub returns-in_err-start-clause-err : goal.returns-in_err-start-clause-err
returns-in_err-start-clause-err g c = always_err _ _ (subst (λ (b : Booked). IsSame b c.reserve.new.self) c.self.view_is c.reserve.ensures.same)

pub returns-clause-ok : goal.returns-clause-ok
returns-clause-ok g c =
    subst (λ (b : Booked). Made (M c.args.call) b c.restart.new.self) c.self.view_is
    (made_after (M c.args.call) c.self.inside.book c.reserve.new.self c.restart.new.self c.reserve.ensures.same c.restart.ensures.made)

pub returns-clause-last : goal.returns-clause-last
returns-clause-last g c =
    starts_last c.self.inside.book.schedule.order c.restart.new.self c.self.inside.ledger c.in_ok-start.start (scheduler_seen g.N.Making.script c.self.inside.book c.self.inside.ledger c.self.inside.starts.items c.self.invariant)
    (ap (λ (s : Schedule). s.order) c.restart.ensures.made.schedule ∙ ap (λ (s : Schedule). s.order) c.reserve.ensures.same.schedule) c.in_ok-start.ensures.number c.in_ok-start.ensures.whole

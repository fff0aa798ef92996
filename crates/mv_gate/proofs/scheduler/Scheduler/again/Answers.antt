use Rattle.std.proofs.Common.{◌≡◌, ◌<◌, None, length, refl, sym, ap, subst, ◌∙◌, arith, rules}
use Rattle.mv_journal.specs.declared.event.Event.TheVariants.{A}
use Rattle.mv_lawful.specs.Lawful.{Live, Schedule, refusal}
use Rattle.mv_values.proofs.Deciding.{always_err}
use Rattle.mv_core.specs.Calls.{IsLive}
use Rattle.mv_core.specs.Books.{Booked, batch_in, Made, IsSame, IsNotStale}
use Rattle.mv_core.proofs.Changed.{same_both, allowed_same, room_less, made_after}
use Rattle.mv_gate.specs.Gates.{HaveRoundStarts, IsWhole}
use Rattle.mv_gate.proofs.Starts.{entry_there, changes_seen}
use Rattle.mv_gate.proofs.Schedulers.{scheduler_seen, starts_last, scheduler_same, scheduler_again}
use Rattle.mv_gate.proofs.Holding.{whole_same, fresh_same, repair_made}
use Rattle.mv_gate.proofs.scheduler.Scheduler.again.Goals as goal

pub settle-requires-clause-live : goal.settle-requires-clause-live
settle-requires-clause-live g c = (subst (λ (b : Booked). IsWhole b c.args.call c.args.task) (sym c.self.view_is) c.requires.whole).live

pub settle-requires-clause-number : goal.settle-requires-clause-number
settle-requires-clause-number g c = (subst (λ (b : Booked). IsWhole b c.args.call c.args.task) (sym c.self.view_is) c.requires.whole).number

pub reserve-requires : goal.reserve-requires
reserve-requires g c = record { live = (whole_same c.self.inside.book c.settle.new.self c.args.call c.args.task c.settle.ensures.same (subst (λ (b : Booked). IsWhole b c.args.call c.args.task) (sym c.self.view_is) c.requires.whole)).live }

pub invariant_of-self : goal.invariant_of-self
invariant_of-self g c = scheduler_same g.N.Making.script c.self.inside.book c.reserve.new.self c.self.inside.ledger c.self.inside.ledger c.self.inside.starts.items c.self.invariant (same_both c.self.inside.book c.settle.new.self c.reserve.new.self c.settle.ensures.same c.reserve.ensures.same) refl refl

pub copy_since-requires-clause-live : goal.copy_since-requires-clause-live
copy_since-requires-clause-live g c = (whole_same c.self.inside.book c.reserve.new.self c.args.call c.args.task (same_both c.self.inside.book c.settle.new.self c.reserve.new.self c.settle.ensures.same c.reserve.ensures.same) (subst (λ (b : Booked). IsWhole b c.args.call c.args.task) (sym c.self.view_is) c.requires.whole)).live

pub copy_since-requires-clause-fresh : goal.copy_since-requires-clause-fresh
copy_since-requires-clause-fresh g c =
    fresh_same c.self.inside.book c.reserve.new.self c.args.call (same_both c.self.inside.book c.settle.new.self c.reserve.new.self c.settle.ensures.same c.reserve.ensures.same)
    (subst (λ (b : Booked). IsNotStale b c.args.call) (sym c.self.view_is) c.requires.fresh)

pub invariant_of-self-in_err-since : goal.invariant_of-self-in_err-since
invariant_of-self-in_err-since g c = scheduler_same g.N.Making.script c.self.inside.book c.reserve.new.self c.self.inside.ledger c.self.inside.ledger c.self.inside.starts.items c.self.invariant (same_both c.self.inside.book c.settle.new.self c.reserve.new.self c.settle.ensures.same c.reserve.ensures.same) refl refl

pub invariant_of-self-in_err-next : goal.invariant_of-self-in_err-next
invariant_of-self-in_err-next g c =
    scheduler_same g.N.Making.script c.self.inside.book c.reserve.new.self c.self.inside.ledger c.next_start.new.ledger c.self.inside.starts.items c.self.invariant (same_both c.self.inside.book c.settle.new.self c.reserve.new.self c.settle.ensures.same c.reserve.ensures.same) c.next_start.ensures.kept c.next_start.ensures.commits

pub restart-requires-clause-allowed : goal.restart-requires-clause-allowed
restart-requires-clause-allowed g c =
    allowed_same (A c.args.call) c.self.inside.book c.reserve.new.self (same_both c.self.inside.book c.settle.new.self c.reserve.new.self c.settle.ensures.same c.reserve.ensures.same).script (same_both c.self.inside.book c.settle.new.self c.reserve.new.self c.settle.ensures.same c.reserve.ensures.same).schedule
    (subst (λ (b : Booked). refusal (batch_in b) b.schedule (A c.args.call) ≡ None) (sym c.self.view_is) c.requires.allowed)

pub restart-requires-clause-settled : goal.restart-requires-clause-settled
restart-requires-clause-settled g c plain = c.reserve.ensures.same.settled c.args.call c.settle.ensures.settled

pub restart-requires-clause-room : goal.restart-requires-clause-room
restart-requires-clause-room g c = room_less c.reserve.new.self c.args.call 2 1 (omega arith) c.in_ok-reserve.ensures.room

pub index_mut-requires : goal.index_mut-requires
index_mut-requires g c =
    let lt : c.args.call < length c.self.inside.starts.items = entry_there g.N.Making.script c.self.inside.book.schedule c.self.inside.starts.items c.args.call c.self.invariant.touched (subst (λ (b : Booked). IsWhole b c.args.call c.args.task) (sym c.self.view_is) c.requires.whole).live in
    search (rules, lt)

pub invariant_of-self-2 : goal.invariant_of-self-2
invariant_of-self-2 g c =
    scheduler_again c.args.call g.N.Making.script c.self.inside.book c.restart.new.self c.self.inside.ledger c.next_start.new.ledger c.self.inside.starts.items _ c.self.invariant c.journal-events.ensures.allowed c.journal-events.ensures.reaches (subst (λ (b : Booked). IsWhole b c.args.call c.args.task) (sym c.self.view_is) c.requires.whole).live
    (made_after (A c.args.call) c.self.inside.book c.reserve.new.self c.restart.new.self (same_both c.self.inside.book c.settle.new.self c.reserve.new.self c.settle.ensures.same c.reserve.ensures.same) c.restart.ensures.made) c.next_start.ensures.kept c.next_start.ensures.commits
    (changes_seen g.N.Making.script c.self.inside.book.schedule.order c.self.inside.ledger _ c.self.invariant.seen c.self.invariant.commits c.in_ok-next.ensures.touched)

pub invariant_of-result : goal.invariant_of-result
invariant_of-result g c =
    let same = (same_both c.self.inside.book c.settle.new.self c.reserve.new.self c.settle.ensures.same c.reserve.ensures.same) in
    let whole = whole_same c.self.inside.book c.reserve.new.self c.args.call c.args.task same (subst (λ (b : Booked). IsWhole b c.args.call c.args.task) (sym c.self.view_is) c.requires.whole) in
    repair_made g.N.Making.script c.reserve.new.self c.args.call c.number-from.result _ c.args.task c.in_ok-since.since (same.script ∙ c.self.invariant.script) c.self.invariant.sound (subst HaveRoundStarts (sym same.schedule) c.self.invariant.round_starts) whole
    (λ l at. subst (λ (b : Booked). (m : Live) → IsLive b.schedule c.args.call m → m.start ≡ c.args.start.number) (sym c.self.view_is) c.requires.start l (subst (λ (s : Schedule). IsLive s c.args.call l) same.schedule at) ∙ sym c.number-from.ensures.number)
    (c.in_ok-next.ensures.number ∙ (c.self.invariant.commits ∙ ap (λ (s : Schedule). length s.order) (sym same.schedule))) (c.in_ok-next.ensures.whole ∙ (c.self.invariant.seen ∙ ap (λ (s : Schedule). s.order) (sym same.schedule))) c.in_ok-since.ensures.changes

pub returns-in_err-reserve-clause-err : goal.returns-in_err-reserve-clause-err
returns-in_err-reserve-clause-err g c = always_err _ _ (subst (λ (b : Booked). IsSame b c.reserve.new.self) c.self.view_is (same_both c.self.inside.book c.settle.new.self c.reserve.new.self c.settle.ensures.same c.reserve.ensures.same))

pub returns-in_err-since-clause-err : goal.returns-in_err-since-clause-err
returns-in_err-since-clause-err g c = always_err _ _ (subst (λ (b : Booked). IsSame b c.reserve.new.self) c.self.view_is (same_both c.self.inside.book c.settle.new.self c.reserve.new.self c.settle.ensures.same c.reserve.ensures.same))

pub returns-in_err-next-clause-err : goal.returns-in_err-next-clause-err
returns-in_err-next-clause-err g c = always_err _ _ (subst (λ (b : Booked). IsSame b c.reserve.new.self) c.self.view_is (same_both c.self.inside.book c.settle.new.self c.reserve.new.self c.settle.ensures.same c.reserve.ensures.same))

pub returns-clause-ok : goal.returns-clause-ok
returns-clause-ok g c =
    subst (λ (b : Booked). Made (A c.args.call) b c.restart.new.self) c.self.view_is
    (made_after (A c.args.call) c.self.inside.book c.reserve.new.self c.restart.new.self (same_both c.self.inside.book c.settle.new.self c.reserve.new.self c.settle.ensures.same c.reserve.ensures.same) c.restart.ensures.made)

pub returns-clause-last : goal.returns-clause-last
returns-clause-last g c =
    starts_last c.self.inside.book.schedule.order c.restart.new.self c.self.inside.ledger c.in_ok-next.next (scheduler_seen g.N.Making.script c.self.inside.book c.self.inside.ledger c.self.inside.starts.items c.self.invariant)
    (ap (λ (s : Schedule). s.order) c.restart.ensures.made.schedule ∙ ap (λ (s : Schedule). s.order) ((same_both c.self.inside.book c.settle.new.self c.reserve.new.self c.settle.ensures.same c.reserve.ensures.same).schedule)) c.in_ok-next.ensures.number c.in_ok-next.ensures.whole

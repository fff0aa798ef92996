use Rattle.std.proofs.Common.{◌≡◌, ◌<◌, None, length, refl, sym, ap, subst, ◌∙◌, arith, rules}
use Rattle.mv_journal.specs.declared.event.Event.TheVariants.{A}
use Rattle.mv_lawful.specs.Lawful.{Schedule, refusal}
use Rattle.mv_values.proofs.Deciding.{always_err}
use Rattle.mv_shards.specs.Ledgers.{Entered}
use Rattle.mv_core.specs.Books.{Booked, batch_in, Made, IsSame, IsNotStale}
use Rattle.mv_core.proofs.Changed.{same_both, allowed_same, room_less, made_after}
use Rattle.mv_gate.specs.Gates.{IsWhole}
use Rattle.mv_gate.proofs.Starts.{entry_there, changes_seen}
use Rattle.mv_gate.proofs.Schedulers.{scheduler_same, scheduler_again}
use Rattle.mv_gate.proofs.Holding.{whole_same, fresh_same, round_starts_same}
use Rattle.mv_gate.proofs.Committing.{again_free, again_whole}
use Rattle.mv_shards.specs.Leaves.{start_shown}
use Rattle.mv_gate.proofs.Pins.{leave_last, leave_back}
use Rattle.mv_gate.proofs.scheduler.Scheduler.rerun.Goals as goal

pub settle-requires-clause-live : goal.settle-requires-clause-live
settle-requires-clause-live g c = (subst (λ (b : Booked). IsWhole b c.args.call c.args.task.now) (sym c.self.view_is) c.requires.whole).live

pub settle-requires-clause-number : goal.settle-requires-clause-number
settle-requires-clause-number g c = (subst (λ (b : Booked). IsWhole b c.args.call c.args.task.now) (sym c.self.view_is) c.requires.whole).number

pub reserve-requires : goal.reserve-requires
reserve-requires g c = record { live = (whole_same c.self.inside.book c.settle.new.self c.args.call c.args.task.now c.settle.ensures.same (subst (λ (b : Booked). IsWhole b c.args.call c.args.task.now) (sym c.self.view_is) c.requires.whole)).live }

pub invariant_of-self : goal.invariant_of-self
invariant_of-self g c = scheduler_same g.N.Making.script c.self.inside.book c.reserve.new.self c.self.inside.ledger c.self.inside.ledger c.self.inside.starts.items c.self.invariant (same_both c.self.inside.book c.settle.new.self c.reserve.new.self c.settle.ensures.same c.reserve.ensures.same) refl refl

pub repair_last-requires-clause-script : goal.repair_last-requires-clause-script
repair_last-requires-clause-script g c = (same_both c.self.inside.book c.settle.new.self c.reserve.new.self c.settle.ensures.same c.reserve.ensures.same).script ∙ c.self.invariant.script

pub repair_last-requires-clause-seen : goal.repair_last-requires-clause-seen
repair_last-requires-clause-seen g c =
    c.next_start.ensures.kept ∙ (ap (λ (l : Entered). l.knows.seen) c.pass_for-seen.ensures.same ∙ (c.self.invariant.seen ∙ sym (ap (λ (s : Schedule). s.order) (same_both c.self.inside.book c.settle.new.self c.reserve.new.self c.settle.ensures.same c.reserve.ensures.same).schedule)))

pub repair_last-requires-clause-whole : goal.repair_last-requires-clause-whole
repair_last-requires-clause-whole g c = whole_same c.self.inside.book c.reserve.new.self c.args.call c.args.task.now (same_both c.self.inside.book c.settle.new.self c.reserve.new.self c.settle.ensures.same c.reserve.ensures.same) (subst (λ (b : Booked). IsWhole b c.args.call c.args.task.now) (sym c.self.view_is) c.requires.whole)

pub repair_last-requires-clause-fresh : goal.repair_last-requires-clause-fresh
repair_last-requires-clause-fresh g c = fresh_same c.self.inside.book c.reserve.new.self c.args.call (same_both c.self.inside.book c.settle.new.self c.reserve.new.self c.settle.ensures.same c.reserve.ensures.same) (subst (λ (b : Booked). IsNotStale b c.args.call) (sym c.self.view_is) c.requires.fresh)

pub restart-requires-clause-allowed : goal.restart-requires-clause-allowed
restart-requires-clause-allowed g c =
    allowed_same (A c.args.call) c.self.inside.book c.reserve.new.self (same_both c.self.inside.book c.settle.new.self c.reserve.new.self c.settle.ensures.same c.reserve.ensures.same).script (same_both c.self.inside.book c.settle.new.self c.reserve.new.self c.settle.ensures.same c.reserve.ensures.same).schedule (subst (λ (b : Booked). refusal (batch_in b) b.schedule (A c.args.call) ≡ None) (sym c.self.view_is) c.requires.allowed)

pub restart-requires-clause-settled : goal.restart-requires-clause-settled
restart-requires-clause-settled g c plain = c.reserve.ensures.same.settled c.args.call c.settle.ensures.settled

pub restart-requires-clause-room : goal.restart-requires-clause-room
restart-requires-clause-room g c = room_less c.reserve.new.self c.args.call 2 1 (omega arith) c.in_ok-reserve.ensures.room

pub index_mut-requires : goal.index_mut-requires
index_mut-requires g c =
    let lt : c.args.call < length c.self.inside.starts.items = entry_there g.N.Making.script c.self.inside.book.schedule c.self.inside.starts.items c.args.call c.self.invariant.touched (subst (λ (b : Booked). IsWhole b c.args.call c.args.task.now) (sym c.self.view_is) c.requires.whole).live in
    search (rules, lt)

pub invariant_of-self-in_err-_start : goal.invariant_of-self-in_err-_start
invariant_of-self-in_err-_start g c =
    scheduler_same g.N.Making.script c.self.inside.book c.reserve.new.self c.self.inside.ledger c.next_start.new.ledger c.self.inside.starts.items c.self.invariant (same_both c.self.inside.book c.settle.new.self c.reserve.new.self c.settle.ensures.same c.reserve.ensures.same)
    (c.next_start.ensures.kept ∙ ap (λ (l : Entered). l.knows.seen) c.pass_for-seen.ensures.same) (c.next_start.ensures.commits ∙ ap (λ (l : Entered). l.commits) c.pass_for-seen.ensures.same)

pub invariant_of-self-in_err-repair_last : goal.invariant_of-self-in_err-repair_last
invariant_of-self-in_err-repair_last g c =
    scheduler_same g.N.Making.script c.self.inside.book c.reserve.new.self c.self.inside.ledger c.repair_last.new.ledger c.self.inside.starts.items c.self.invariant (same_both c.self.inside.book c.settle.new.self c.reserve.new.self c.settle.ensures.same c.reserve.ensures.same)
    (c.repair_last.ensures.kept ∙ (c.next_start.ensures.kept ∙ ap (λ (l : Entered). l.knows.seen) c.pass_for-seen.ensures.same)) (c.repair_last.ensures.commits ∙ (c.next_start.ensures.commits ∙ ap (λ (l : Entered). l.commits) c.pass_for-seen.ensures.same))

pub invariant_of-self-2 : goal.invariant_of-self-2
invariant_of-self-2 g c =
    let kept = c.next_start.ensures.kept ∙ ap (λ (l : Entered). l.knows.seen) c.pass_for-seen.ensures.same in
    let counted = c.next_start.ensures.commits ∙ ap (λ (l : Entered). l.commits) c.pass_for-seen.ensures.same in
    scheduler_again c.args.call g.N.Making.script c.self.inside.book c.restart.new.self c.self.inside.ledger c.repair_last.new.ledger c.self.inside.starts.items _ c.self.invariant c.journal-events.ensures.allowed c.journal-events.ensures.reaches
    (subst (λ (b : Booked). IsWhole b c.args.call c.args.task.now) (sym c.self.view_is) c.requires.whole).live
    (made_after (A c.args.call) c.self.inside.book c.reserve.new.self c.restart.new.self (same_both c.self.inside.book c.settle.new.self c.reserve.new.self c.settle.ensures.same c.reserve.ensures.same) c.restart.ensures.made) (c.repair_last.ensures.kept ∙ kept)
    (c.repair_last.ensures.commits ∙ counted)
    (changes_seen g.N.Making.script c.self.inside.book.schedule.order c.pass_for-seen.new.self _ (ap (λ (l : Entered). l.knows.seen) c.pass_for-seen.ensures.same ∙ c.self.invariant.seen) (ap (λ (l : Entered). l.commits) c.pass_for-seen.ensures.same ∙ c.self.invariant.commits)
    c.in_ok-_start.ensures.touched)

pub returns-clause-ok : goal.returns-clause-ok
returns-clause-ok g c =
    subst (λ (b : Booked). Made (A c.args.call) b c.restart.new.self) c.self.view_is
    (made_after (A c.args.call) c.self.inside.book c.reserve.new.self c.restart.new.self (same_both c.self.inside.book c.settle.new.self c.reserve.new.self c.settle.ensures.same c.reserve.ensures.same) c.restart.ensures.made)

pub returns-clause-whole : goal.returns-clause-whole
returns-clause-whole g c =
    let same = same_both c.self.inside.book c.settle.new.self c.reserve.new.self c.settle.ensures.same c.reserve.ensures.same in
    let whole = whole_same c.self.inside.book c.reserve.new.self c.args.call c.args.task.now same (subst (λ (b : Booked). IsWhole b c.args.call c.args.task.now) (sym c.self.view_is) c.requires.whole) in
    again_whole c.reserve.new.self c.restart.new.self c.args.call c.repair_last.new.task whole.live whole.there (round_starts_same c.self.inside.book c.reserve.new.self c.args.call same c.self.invariant.round_starts) c.restart.ensures.made c.in_ok-repair_last.ensures.latest
    c.in_ok-repair_last.ensures.executed

pub returns-clause-free : goal.returns-clause-free
returns-clause-free g c =
    let same = same_both c.self.inside.book c.settle.new.self c.reserve.new.self c.settle.ensures.same c.reserve.ensures.same in
    let whole = whole_same c.self.inside.book c.reserve.new.self c.args.call c.args.task.now same (subst (λ (b : Booked). IsWhole b c.args.call c.args.task.now) (sym c.self.view_is) c.requires.whole) in
    again_free c.reserve.new.self c.restart.new.self c.args.call (invariant_of-self-2 g c).low whole.live c.restart.ensures.made

pub returns-in_err-reserve-clause-err : goal.returns-in_err-reserve-clause-err
returns-in_err-reserve-clause-err g c = always_err _ _ (subst (λ (b : Booked). IsSame b c.reserve.new.self) c.self.view_is (same_both c.self.inside.book c.settle.new.self c.reserve.new.self c.settle.ensures.same c.reserve.ensures.same))

pub returns-in_err-_start-clause-err : goal.returns-in_err-_start-clause-err
returns-in_err-_start-clause-err g c = always_err _ _ (subst (λ (b : Booked). IsSame b c.reserve.new.self) c.self.view_is (same_both c.self.inside.book c.settle.new.self c.reserve.new.self c.settle.ensures.same c.reserve.ensures.same))

pub returns-in_err-repair_last-clause-err : goal.returns-in_err-repair_last-clause-err
returns-in_err-repair_last-clause-err g c = always_err _ _ (subst (λ (b : Booked). IsSame b c.reserve.new.self) c.self.view_is (same_both c.self.inside.book c.settle.new.self c.reserve.new.self c.settle.ensures.same c.reserve.ensures.same))

pub repair_last-requires-clause-last : goal.repair_last-requires-clause-last
repair_last-requires-clause-last g c = leave_last g.N.Making.script g.N.Naming.word (start_shown c.args.last.now) c.self.inside.book c.args.self.now c.next_start.new.ledger.commits c.self.view_is (c.next_start.ensures.commits ∙ (ap (λ (l : Entered). l.commits) c.pass_for-seen.ensures.same ∙ c.self.invariant.commits)) c.requires.last

pub returns-in_err-repair_last-clause-last : goal.returns-in_err-repair_last-clause-last
returns-in_err-repair_last-clause-last g c = leave_back g.N.Making.script g.N.Naming.word (start_shown c.repair_last.new.last) c.self.inside.book c.args.self.now c.next_start.new.ledger.commits c.self.view_is (c.next_start.ensures.commits ∙ (ap (λ (l : Entered). l.commits) c.pass_for-seen.ensures.same ∙ c.self.invariant.commits)) c.repair_last.ensures.last

pub returns-clause-last : goal.returns-clause-last
returns-clause-last g c = leave_back g.N.Making.script g.N.Naming.word (start_shown c.repair_last.new.last) c.self.inside.book c.args.self.now c.next_start.new.ledger.commits c.self.view_is (c.next_start.ensures.commits ∙ (ap (λ (l : Entered). l.commits) c.pass_for-seen.ensures.same ∙ c.self.invariant.commits)) c.repair_last.ensures.last

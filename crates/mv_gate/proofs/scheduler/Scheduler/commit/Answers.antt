use Rattle.std.proofs.Common.{◌≡◌, ◌<◌, ◌+◌, ℕ, List, None, false, length, refl, sym, ap, subst, ◌∙◌, arith, rules}
use Rattle.std.specs.List.{list_any}
use lib.Dec.{eqb}
use Rattle.mv_journal.specs.declared.event.Event.TheVariants.{C}
use Rattle.mv_lawful.specs.Lawful.{Schedule, refusal}
use Rattle.mv_script.specs.declared.script.CompiledScript.{CompiledScript}
use Rattle.mv_script.specs.Scripts.{IsCompiledScript}
use Rattle.mv_core.specs.Books.{Booked, batch_in, Made, IsSame}
use Rattle.mv_core.proofs.Changed.{same_both, allowed_same, room_less, made_after}
use Rattle.mv_gate.specs.Gates.{IsWhole}
use Rattle.mv_gate.proofs.Starts.{entry_there}
use Rattle.mv_gate.proofs.Schedulers.{scheduler_seen, seen_on, scheduler_same, scheduler_committed, fresh_call, commit_failed}
use Rattle.mv_gate.proofs.Holding.{whole_same}
use Rattle.mv_gate.proofs.Committing.{free_last, records_here, reply_here, changes_here}
use Rattle.mv_shards.specs.Leaves.{start_shown}
use Rattle.mv_gate.proofs.Pins.{leave_last, leave_back}
use Rattle.mv_gate.proofs.scheduler.Scheduler.commit.Goals as goal

pub settle-requires-clause-live : goal.settle-requires-clause-live
settle-requires-clause-live g c = (subst (λ (b : Booked). IsWhole b c.args.call c.args.task.now) (sym c.self.view_is) c.requires.whole).live

pub settle-requires-clause-number : goal.settle-requires-clause-number
settle-requires-clause-number g c = (subst (λ (b : Booked). IsWhole b c.args.call c.args.task.now) (sym c.self.view_is) c.requires.whole).number

pub reserve-requires : goal.reserve-requires
reserve-requires g c = record { live = (whole_same c.self.inside.book c.settle.new.self c.args.call c.args.task.now c.settle.ensures.same (subst (λ (b : Booked). IsWhole b c.args.call c.args.task.now) (sym c.self.view_is) c.requires.whole)).live }

pub invariant_of-self : goal.invariant_of-self
invariant_of-self g c =
    scheduler_same g.N.Making.script c.self.inside.book c.reserve.new.self c.self.inside.ledger c.self.inside.ledger c.self.inside.starts.items c.self.invariant
    (same_both c.self.inside.book c.settle.new.self c.reserve.new.self c.settle.ensures.same c.reserve.ensures.same) refl refl

pub install-requires-clause-there : goal.install-requires-clause-there
install-requires-clause-there g c =
    subst (λ (x : CompiledScript). c.args.call < length x.calls) c.self.invariant.script (subst (λ (b : Booked). IsWhole b c.args.call c.args.task.now) (sym c.self.view_is) c.requires.whole).there

pub install-requires-clause-fresh : goal.install-requires-clause-fresh
install-requires-clause-fresh g c =
    subst (λ (xs : List ℕ). list_any (eqb c.args.call) xs ≡ false) (sym c.self.invariant.seen)
    (fresh_call c.self.inside.book c.args.call c.journal-events.ensures.allowed c.journal-events.ensures.reaches (subst (λ (b : Booked). IsWhole b c.args.call c.args.task.now) (sym c.self.view_is) c.requires.whole).live)

pub install-requires-clause-whole : goal.install-requires-clause-whole
install-requires-clause-whole g c =
    let s = g.N.Making.script in
    let b : Booked = c.self.inside.book in
    let whole : IsWhole b c.args.call c.args.task.now = subst (λ (x : Booked). IsWhole x c.args.call c.args.task.now) (sym c.self.view_is) c.requires.whole in
    records_here s b c.self.inside.ledger c.args.call c.args.task.now.log.records c.self.invariant.script (scheduler_seen s b c.self.inside.ledger c.self.inside.starts.items c.self.invariant)
    (free_last b c.args.call c.args.task.now.log.records (subst IsCompiledScript (sym c.self.invariant.script) c.self.invariant.sound) whole.there whole.live whole.records
    (subst (λ (x : Booked). refusal (batch_in x) x.schedule (C c.args.call) ≡ None) (sym c.self.view_is) c.requires.allowed))

pub invariant_of-self-in_err-installed : goal.invariant_of-self-in_err-installed
invariant_of-self-in_err-installed g c =
    scheduler_same g.N.Making.script c.self.inside.book c.reserve.new.self c.self.inside.ledger c.install.new.ledger c.self.inside.starts.items c.self.invariant
    (same_both c.self.inside.book c.settle.new.self c.reserve.new.self c.settle.ensures.same c.reserve.ensures.same) c.in_err-installed.ensures.err c.in_err-installed.ensures.stays

pub commit-commit-requires-clause-allowed : goal.commit-commit-requires-clause-allowed
commit-commit-requires-clause-allowed g c =
    let same = same_both c.self.inside.book c.settle.new.self c.reserve.new.self c.settle.ensures.same c.reserve.ensures.same in
    allowed_same (C c.args.call) c.self.inside.book c.reserve.new.self same.script same.schedule (subst (λ (x : Booked). refusal (batch_in x) x.schedule (C c.args.call) ≡ None) (sym c.self.view_is) c.requires.allowed)

pub commit-commit-requires-clause-reply : goal.commit-commit-requires-clause-reply
commit-commit-requires-clause-reply g c =
    let s = g.N.Making.script in
    let same = same_both c.self.inside.book c.settle.new.self c.reserve.new.self c.settle.ensures.same c.reserve.ensures.same in
    c.in_ok-installed.ensures.reply
    ∙ reply_here s c.reserve.new.self c.self.inside.ledger c.args.call (same.script ∙ c.self.invariant.script)
    (seen_on c.self.inside.book c.reserve.new.self c.self.inside.ledger (scheduler_seen s c.self.inside.book c.self.inside.ledger c.self.inside.starts.items c.self.invariant) same)

pub commit-commit-requires-clause-changes : goal.commit-commit-requires-clause-changes
commit-commit-requires-clause-changes g c =
    let s = g.N.Making.script in
    let same = same_both c.self.inside.book c.settle.new.self c.reserve.new.self c.settle.ensures.same c.reserve.ensures.same in
    c.in_ok-installed.ensures.changes
    ∙ changes_here s c.reserve.new.self c.self.inside.ledger c.args.call (same.script ∙ c.self.invariant.script)
    (seen_on c.self.inside.book c.reserve.new.self c.self.inside.ledger (scheduler_seen s c.self.inside.book c.self.inside.ledger c.self.inside.starts.items c.self.invariant) same)

pub commit-commit-requires-clause-settled : goal.commit-commit-requires-clause-settled
commit-commit-requires-clause-settled g c = c.reserve.ensures.same.settled c.args.call c.settle.ensures.settled

pub commit-commit-requires-clause-room : goal.commit-commit-requires-clause-room
commit-commit-requires-clause-room g c = room_less c.reserve.new.self c.args.call 2 1 (omega arith) c.in_ok-reserve.ensures.room

pub index_mut-requires : goal.index_mut-requires
index_mut-requires g c =
    let lt : c.args.call < length c.self.inside.starts.items =
    entry_there g.N.Making.script c.self.inside.book.schedule c.self.inside.starts.items c.args.call c.self.invariant.touched (subst (λ (b : Booked). IsWhole b c.args.call c.args.task.now) (sym c.self.view_is) c.requires.whole).live in
    search (rules, lt)

pub invariant_of-self-2 : goal.invariant_of-self-2
invariant_of-self-2 g c =
    scheduler_committed c.args.call g.N.Making.script c.self.inside.book c.commit-commit.new.self c.self.inside.ledger c.install.new.ledger c.self.inside.starts.items c.self.invariant
    (subst (λ (b : Booked). IsWhole b c.args.call c.args.task.now) (sym c.self.view_is) c.requires.whole).live
    (made_after (C c.args.call) c.self.inside.book c.reserve.new.self c.commit-commit.new.self (same_both c.self.inside.book c.settle.new.self c.reserve.new.self c.settle.ensures.same c.reserve.ensures.same) c.commit-commit.ensures.made)
    c.in_ok-installed.ensures.appended c.in_ok-installed.ensures.counted

pub returns-in_err-reserve-clause-made : goal.returns-in_err-reserve-clause-made
returns-in_err-reserve-clause-made g c =
    commit_failed _ (C c.args.call) c.from_residual.result c.args.self.now c.reserve.new.self c.from_residual.ensures.1
    (subst (λ (b : Booked). IsSame b c.reserve.new.self) c.self.view_is (same_both c.self.inside.book c.settle.new.self c.reserve.new.self c.settle.ensures.same c.reserve.ensures.same))

pub returns-in_err-installed-clause-made : goal.returns-in_err-installed-clause-made
returns-in_err-installed-clause-made g c =
    commit_failed _ (C c.args.call) c.from_residual-in_err-installed.result c.args.self.now c.reserve.new.self c.from_residual-in_err-installed.ensures.1
    (subst (λ (b : Booked). IsSame b c.reserve.new.self) c.self.view_is (same_both c.self.inside.book c.settle.new.self c.reserve.new.self c.settle.ensures.same c.reserve.ensures.same))

pub returns-clause-made : goal.returns-clause-made
returns-clause-made g c =
    let same = same_both c.self.inside.book c.settle.new.self c.reserve.new.self c.settle.ensures.same c.reserve.ensures.same in (
      subst (λ (b : Booked). Made (C c.args.call) b c.commit-commit.new.self) c.self.view_is (made_after (C c.args.call) c.self.inside.book c.reserve.new.self c.commit-commit.new.self same c.commit-commit.ensures.made),
      c.commit-commit.ensures.number ∙ (ap (λ (s : Schedule). length s.order + 1) same.schedule ∙ ap (λ (b : Booked). length b.schedule.order + 1) c.self.view_is),
    )

pub install-requires-clause-last : goal.install-requires-clause-last
install-requires-clause-last g c = leave_last g.N.Making.script g.N.Naming.word (start_shown c.args.last.now) c.self.inside.book c.args.self.now c.self.inside.ledger.commits c.self.view_is c.self.invariant.commits c.requires.last

pub returns-in_err-installed-clause-last : goal.returns-in_err-installed-clause-last
returns-in_err-installed-clause-last g c = leave_back g.N.Making.script g.N.Naming.word (start_shown c.install.new.last) c.self.inside.book c.args.self.now c.self.inside.ledger.commits c.self.view_is c.self.invariant.commits c.install.ensures.last

pub returns-clause-last : goal.returns-clause-last
returns-clause-last g c = leave_back g.N.Making.script g.N.Naming.word (start_shown c.install.new.last) c.self.inside.book c.args.self.now c.self.inside.ledger.commits c.self.view_is c.self.invariant.commits c.install.ensures.last

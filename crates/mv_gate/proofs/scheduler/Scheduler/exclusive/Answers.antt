use Rattle.std.proofs.Common.{◌≡◌, ◌<◌, ◌+◌, ◌++◌, ◌∷◌, ℕ, List, [], None, false, length, refl, sym, ap, subst, ◌∙◌, arith, rules}
use Rattle.std.specs.List.{list_any}
use lib.Dec.{eqb}
use Rattle.mv_journal.specs.declared.event.Event.TheVariants.{X}
use Rattle.mv_lawful.specs.Lawful.{Schedule, refusal}
use Rattle.mv_script.specs.declared.script.CompiledScript.{CompiledScript}
use Rattle.mv_core.specs.Books.{Booked, batch_in, Made, IsSame, IsNotStale}
use Rattle.mv_core.proofs.Changed.{same_both, allowed_same, room_less, made_after}
use Rattle.mv_gate.specs.Gates.{IsWhole}
use Rattle.mv_gate.proofs.Starts.{entry_there}
use Rattle.mv_gate.proofs.Schedulers.{scheduler_seen, seen_still, scheduler_same, scheduler_decided, fresh_call, commit_failed}
use Rattle.mv_gate.proofs.Holding.{whole_same, fresh_same, round_starts_same}
use Rattle.mv_gate.proofs.Committing.{own_decided, records_here, reply_here, changes_here}
use Rattle.mv_shards.specs.Leaves.{start_shown}
use Rattle.mv_gate.proofs.Pins.{leave_last, leave_at, leave_back}
use Rattle.mv_gate.proofs.scheduler.Scheduler.exclusive.Goals as goal

pub settle-requires-clause-live : goal.settle-requires-clause-live
settle-requires-clause-live g c = (subst (λ (b : Booked). IsWhole b c.args.call c.args.task.now) (sym c.self.view_is) c.requires.whole).live

pub settle-requires-clause-number : goal.settle-requires-clause-number
settle-requires-clause-number g c = (subst (λ (b : Booked). IsWhole b c.args.call c.args.task.now) (sym c.self.view_is) c.requires.whole).number

pub reserve-requires : goal.reserve-requires
reserve-requires g c = record { live = (whole_same c.self.inside.book c.settle.new.self c.args.call c.args.task.now c.settle.ensures.same (subst (λ (b : Booked). IsWhole b c.args.call c.args.task.now) (sym c.self.view_is) c.requires.whole)).live }

pub invariant_of-self : goal.invariant_of-self
invariant_of-self g c =
    scheduler_same g.N.Making.script c.self.inside.book c.reserve.new.self c.self.inside.ledger c.self.inside.ledger c.self.inside.starts.items c.self.invariant
    (same_both c.self.inside.book c.settle.new.self c.reserve.new.self c.settle.ensures.same c.reserve.ensures.same) refl refl

pub install_task-requires-clause-there : goal.install_task-requires-clause-there
install_task-requires-clause-there g c =
    subst (λ (x : CompiledScript). c.args.call < length x.calls) c.self.invariant.script (subst (λ (b : Booked). IsWhole b c.args.call c.args.task.now) (sym c.self.view_is) c.requires.whole).there

pub install_task-requires-clause-fresh : goal.install_task-requires-clause-fresh
install_task-requires-clause-fresh g c =
    subst (λ (xs : List ℕ). list_any (eqb c.args.call) xs ≡ false) (sym (c.repair_last.ensures.kept ∙ c.self.invariant.seen))
    (fresh_call c.self.inside.book c.args.call c.journal-events.ensures.allowed c.journal-events.ensures.reaches (subst (λ (b : Booked). IsWhole b c.args.call c.args.task.now) (sym c.self.view_is) c.requires.whole).live)

pub repair_last-requires-clause-script : goal.repair_last-requires-clause-script
repair_last-requires-clause-script g c = (same_both c.self.inside.book c.settle.new.self c.reserve.new.self c.settle.ensures.same c.reserve.ensures.same).script ∙ c.self.invariant.script

pub repair_last-requires-clause-seen : goal.repair_last-requires-clause-seen
repair_last-requires-clause-seen g c =
    c.self.invariant.seen ∙ sym (ap (λ (s : Schedule). s.order) (same_both c.self.inside.book c.settle.new.self c.reserve.new.self c.settle.ensures.same c.reserve.ensures.same).schedule)

pub repair_last-requires-clause-whole : goal.repair_last-requires-clause-whole
repair_last-requires-clause-whole g c =
    whole_same c.self.inside.book c.reserve.new.self c.args.call c.args.task.now (same_both c.self.inside.book c.settle.new.self c.reserve.new.self c.settle.ensures.same c.reserve.ensures.same)
    (subst (λ (b : Booked). IsWhole b c.args.call c.args.task.now) (sym c.self.view_is) c.requires.whole)

pub repair_last-requires-clause-fresh : goal.repair_last-requires-clause-fresh
repair_last-requires-clause-fresh g c =
    fresh_same c.self.inside.book c.reserve.new.self c.args.call (same_both c.self.inside.book c.settle.new.self c.reserve.new.self c.settle.ensures.same c.reserve.ensures.same) (subst (λ (b : Booked). IsNotStale b c.args.call) (sym c.self.view_is) c.requires.fresh)

pub invariant_of-self-in_err-repair_last : goal.invariant_of-self-in_err-repair_last
invariant_of-self-in_err-repair_last g c =
    scheduler_same g.N.Making.script c.self.inside.book c.reserve.new.self c.self.inside.ledger c.repair_last.new.ledger c.self.inside.starts.items c.self.invariant
    (same_both c.self.inside.book c.settle.new.self c.reserve.new.self c.settle.ensures.same c.reserve.ensures.same) c.repair_last.ensures.kept c.repair_last.ensures.commits

pub install_task-requires-clause-whole : goal.install_task-requires-clause-whole
install_task-requires-clause-whole g c =
    let s = g.N.Making.script in
    let same = same_both c.self.inside.book c.settle.new.self c.reserve.new.self c.settle.ensures.same c.reserve.ensures.same in
    records_here s c.reserve.new.self c.repair_last.new.ledger c.args.call c.repair_last.new.task.log.records (same.script ∙ c.self.invariant.script)
    (seen_still c.self.inside.book.schedule.order c.reserve.new.self.schedule.order c.self.inside.ledger c.repair_last.new.ledger (scheduler_seen s c.self.inside.book c.self.inside.ledger c.self.inside.starts.items c.self.invariant)
    (ap (λ (x : Schedule). x.order) same.schedule) c.repair_last.ensures.kept c.repair_last.ensures.commits) c.in_ok-repair_last.ensures.latest.records

pub invariant_of-self-in_err-installed : goal.invariant_of-self-in_err-installed
invariant_of-self-in_err-installed g c =
    scheduler_same g.N.Making.script c.self.inside.book c.reserve.new.self c.self.inside.ledger c.install_task.new.ledger c.self.inside.starts.items c.self.invariant
    (same_both c.self.inside.book c.settle.new.self c.reserve.new.self c.settle.ensures.same c.reserve.ensures.same) (c.in_err-installed.ensures.err ∙ c.repair_last.ensures.kept) (c.in_err-installed.ensures.stays ∙ c.repair_last.ensures.commits)

pub commit-commit-requires-clause-allowed : goal.commit-commit-requires-clause-allowed
commit-commit-requires-clause-allowed g c =
    let same = same_both c.self.inside.book c.settle.new.self c.reserve.new.self c.settle.ensures.same c.reserve.ensures.same in
    allowed_same (X c.args.call) c.self.inside.book c.reserve.new.self same.script same.schedule (subst (λ (x : Booked). refusal (batch_in x) x.schedule (X c.args.call) ≡ None) (sym c.self.view_is) c.requires.allowed)

pub commit-commit-requires-clause-reply : goal.commit-commit-requires-clause-reply
commit-commit-requires-clause-reply g c =
    let s = g.N.Making.script in
    let same = same_both c.self.inside.book c.settle.new.self c.reserve.new.self c.settle.ensures.same c.reserve.ensures.same in
    c.in_ok-installed.ensures.reply
    ∙ reply_here s c.reserve.new.self c.repair_last.new.ledger c.args.call (same.script ∙ c.self.invariant.script)
    (seen_still c.self.inside.book.schedule.order c.reserve.new.self.schedule.order c.self.inside.ledger c.repair_last.new.ledger (scheduler_seen s c.self.inside.book c.self.inside.ledger c.self.inside.starts.items c.self.invariant)
    (ap (λ (x : Schedule). x.order) same.schedule) c.repair_last.ensures.kept c.repair_last.ensures.commits)

pub commit-commit-requires-clause-changes : goal.commit-commit-requires-clause-changes
commit-commit-requires-clause-changes g c =
    let s = g.N.Making.script in
    let same = same_both c.self.inside.book c.settle.new.self c.reserve.new.self c.settle.ensures.same c.reserve.ensures.same in
    c.in_ok-installed.ensures.changes
    ∙ changes_here s c.reserve.new.self c.repair_last.new.ledger c.args.call (same.script ∙ c.self.invariant.script)
    (seen_still c.self.inside.book.schedule.order c.reserve.new.self.schedule.order c.self.inside.ledger c.repair_last.new.ledger (scheduler_seen s c.self.inside.book c.self.inside.ledger c.self.inside.starts.items c.self.invariant)
    (ap (λ (x : Schedule). x.order) same.schedule) c.repair_last.ensures.kept c.repair_last.ensures.commits)

pub commit-commit-requires-clause-settled : goal.commit-commit-requires-clause-settled
commit-commit-requires-clause-settled g c = c.reserve.ensures.same.settled c.args.call c.settle.ensures.settled

pub commit-commit-requires-clause-number : goal.commit-commit-requires-clause-number
commit-commit-requires-clause-number g c =
    let same = same_both c.self.inside.book c.settle.new.self c.reserve.new.self c.settle.ensures.same c.reserve.ensures.same in
    let whole = whole_same c.self.inside.book c.reserve.new.self c.args.call c.args.task.now same (subst (λ (b : Booked). IsWhole b c.args.call c.args.task.now) (sym c.self.view_is) c.requires.whole) in
    own_decided c.reserve.new.self c.args.call c.repair_last.new.task whole.live (round_starts_same c.self.inside.book c.reserve.new.self c.args.call same c.self.invariant.round_starts) c.in_ok-repair_last.ensures.executed

pub commit-commit-requires-clause-room : goal.commit-commit-requires-clause-room
commit-commit-requires-clause-room g c = room_less c.reserve.new.self c.args.call 2 1 (omega arith) c.in_ok-reserve.ensures.room

pub index_mut-requires : goal.index_mut-requires
index_mut-requires g c =
    let lt : c.args.call < length c.self.inside.starts.items =
    entry_there g.N.Making.script c.self.inside.book.schedule c.self.inside.starts.items c.args.call c.self.invariant.touched (subst (λ (b : Booked). IsWhole b c.args.call c.args.task.now) (sym c.self.view_is) c.requires.whole).live in
    search (rules, lt)

pub invariant_of-self-2 : goal.invariant_of-self-2
invariant_of-self-2 g c =
    scheduler_decided c.args.call g.N.Making.script c.self.inside.book c.commit-commit.new.self c.self.inside.ledger c.install_task.new.ledger c.self.inside.starts.items c.self.invariant
    (subst (λ (b : Booked). IsWhole b c.args.call c.args.task.now) (sym c.self.view_is) c.requires.whole).live
    (made_after (X c.args.call) c.self.inside.book c.reserve.new.self c.commit-commit.new.self (same_both c.self.inside.book c.settle.new.self c.reserve.new.self c.settle.ensures.same c.reserve.ensures.same) c.commit-commit.ensures.made)
    (c.in_ok-installed.ensures.appended ∙ ap (λ (xs : List ℕ). xs ++ c.args.call ∷ []) c.repair_last.ensures.kept) (c.in_ok-installed.ensures.counted ∙ ap (λ n. n + 1) c.repair_last.ensures.commits)

pub returns-in_err-reserve-clause-made : goal.returns-in_err-reserve-clause-made
returns-in_err-reserve-clause-made g c =
    commit_failed _ (X c.args.call) c.from_residual.result c.args.self.now c.reserve.new.self c.from_residual.ensures.1
    (subst (λ (b : Booked). IsSame b c.reserve.new.self) c.self.view_is (same_both c.self.inside.book c.settle.new.self c.reserve.new.self c.settle.ensures.same c.reserve.ensures.same))

pub returns-in_err-repair_last-clause-made : goal.returns-in_err-repair_last-clause-made
returns-in_err-repair_last-clause-made g c =
    commit_failed _ (X c.args.call) c.from_residual-in_err-repair_last.result c.args.self.now c.reserve.new.self c.from_residual-in_err-repair_last.ensures.1
    (subst (λ (b : Booked). IsSame b c.reserve.new.self) c.self.view_is (same_both c.self.inside.book c.settle.new.self c.reserve.new.self c.settle.ensures.same c.reserve.ensures.same))

pub returns-in_err-installed-clause-made : goal.returns-in_err-installed-clause-made
returns-in_err-installed-clause-made g c =
    commit_failed _ (X c.args.call) c.from_residual-in_err-installed.result c.args.self.now c.reserve.new.self c.from_residual-in_err-installed.ensures.1
    (subst (λ (b : Booked). IsSame b c.reserve.new.self) c.self.view_is (same_both c.self.inside.book c.settle.new.self c.reserve.new.self c.settle.ensures.same c.reserve.ensures.same))

pub returns-clause-made : goal.returns-clause-made
returns-clause-made g c =
    let same = same_both c.self.inside.book c.settle.new.self c.reserve.new.self c.settle.ensures.same c.reserve.ensures.same in (
      subst (λ (b : Booked). Made (X c.args.call) b c.commit-commit.new.self) c.self.view_is (made_after (X c.args.call) c.self.inside.book c.reserve.new.self c.commit-commit.new.self same c.commit-commit.ensures.made),
      c.commit-commit.ensures.number ∙ (ap (λ (s : Schedule). length s.order + 1) same.schedule ∙ ap (λ (b : Booked). length b.schedule.order + 1) c.self.view_is),
    )

pub repair_last-requires-clause-last : goal.repair_last-requires-clause-last
repair_last-requires-clause-last g c = leave_last g.N.Making.script g.N.Naming.word (start_shown c.args.last.now) c.self.inside.book c.args.self.now c.self.inside.ledger.commits c.self.view_is c.self.invariant.commits c.requires.last

pub install_task-requires-clause-last : goal.install_task-requires-clause-last
install_task-requires-clause-last g c = leave_at g.N.Making.script g.N.Naming.word (start_shown c.repair_last.new.last) c.self.inside.ledger.commits c.repair_last.new.ledger.commits c.repair_last.ensures.commits c.repair_last.ensures.last

pub returns-in_err-repair_last-clause-last : goal.returns-in_err-repair_last-clause-last
returns-in_err-repair_last-clause-last g c = leave_back g.N.Making.script g.N.Naming.word (start_shown c.repair_last.new.last) c.self.inside.book c.args.self.now c.self.inside.ledger.commits c.self.view_is c.self.invariant.commits c.repair_last.ensures.last

pub returns-in_err-installed-clause-last : goal.returns-in_err-installed-clause-last
returns-in_err-installed-clause-last g c = leave_back g.N.Making.script g.N.Naming.word (start_shown c.install_task.new.last) c.self.inside.book c.args.self.now c.repair_last.new.ledger.commits c.self.view_is (c.repair_last.ensures.commits ∙ c.self.invariant.commits) c.install_task.ensures.last

pub returns-clause-last : goal.returns-clause-last
returns-clause-last g c = leave_back g.N.Making.script g.N.Naming.word (start_shown c.install_task.new.last) c.self.inside.book c.args.self.now c.repair_last.new.ledger.commits c.self.view_is (c.repair_last.ensures.commits ∙ c.self.invariant.commits) c.install_task.ensures.last

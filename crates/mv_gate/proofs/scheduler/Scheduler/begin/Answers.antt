use Rattle.std.proofs.Common.{◌≡◌, ◌++◌, ◌∷◌, [], Ok, Some, Option, ℕ, List, sym, subst, rules}
use Rattle.mv_core.specs.declared.book.Begun.{Begun}
use Rattle.mv_core.specs.Books.{HasBegun}
use Rattle.mv_core.proofs.Changed.{same_self}
use Rattle.mv_gate.specs.Gates.{IsScheduler}
use Rattle.mv_gate.proofs.Starts.{changes_seen}
use Rattle.mv_gate.proofs.Schedulers.{scheduler_same, scheduler_begun}
use Rattle.mv_gate.proofs.scheduler.Scheduler.begin.Goals as goal

pub invariant_of-self : goal.invariant_of-self
invariant_of-self g c =
    scheduler_same g.N.Making.script c.self.inside.book c.self.inside.book c.self.inside.ledger c.next_start.new.ledger c.self.inside.starts.items c.self.invariant (same_self c.self.inside.book) c.next_start.ensures.kept c.next_start.ensures.commits

pub invariant_of-self-2 : goal.invariant_of-self-2
invariant_of-self-2 g c =
    let s = g.N.Making.script in
    let both = subst (λ (o : Option Begun). HasBegun (Ok o) c.self.inside.book c.begin.new.self) c.in-Some-2.is c.in_ok-begun.ensures in
    let more : c.push.new.self.items ≡ c.self.inside.starts.items ++ Some c.in_ok-start.touched ∷ [] = search (rules, c.push.ensures.items, c.if-is_err.false, c.is_err.ensures.value, c.reserve.ensures.items) in
    subst (λ (xs : List (Option (List ℕ))). IsScheduler s c.begin.new.self c.next_start.new.ledger xs) (sym more)
    (scheduler_begun c.in-Some-2.begun.call s c.self.inside.book c.begin.new.self c.self.inside.ledger c.next_start.new.ledger c.self.inside.starts.items c.in_ok-start.touched c.self.invariant both.0 c.next_start.ensures.kept c.next_start.ensures.commits
    (changes_seen s c.self.inside.book.schedule.order c.self.inside.ledger c.in_ok-start.touched c.self.invariant.seen c.self.invariant.commits c.in_ok-start.ensures.touched))

use Rattle.std.proofs.Common.{ℕ, List, sym, ap, subst, ◌∙◌}
use mathlib.Core.List.{IsPrefix}
use Rattle.mv_core.specs.Books.{Booked}
use Rattle.mv_core.proofs.Changed.{same_self}
use Rattle.mv_gate.proofs.Schedulers.{scheduler_same}
use Rattle.mv_gate.proofs.scheduler.Scheduler.learn.Goals as goal

pub invariant_of-self : goal.invariant_of-self
invariant_of-self g c =
    scheduler_same g.N.Making.script c.self.inside.book c.self.inside.book c.self.inside.ledger c.meet.new.self c.self.inside.starts.items c.self.invariant (same_self c.self.inside.book) c.meet.ensures.kept c.meet.ensures.commits

pub returns-clause-seen : goal.returns-clause-seen
returns-clause-seen g c =
    subst (λ (b : Booked). IsPrefix c.args.other.seen b.schedule.order) c.self.view_is (subst (λ (xs : List ℕ). IsPrefix c.args.other.seen xs) c.self.invariant.seen c.meet.ensures.seen)

pub returns-clause-script : goal.returns-clause-script
returns-clause-script g c = ap (λ (b : Booked). b.script) (sym c.self.view_is) ∙ c.self.invariant.script

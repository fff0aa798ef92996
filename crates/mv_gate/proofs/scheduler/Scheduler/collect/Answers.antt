use Rattle.std.proofs.Common.{refl, subst}
use Rattle.mv_journal.specs.declared.event.Event.TheVariants.{G}
use Rattle.mv_core.specs.Books.{Booked, Made}
use Rattle.mv_core.proofs.Changed.{made_after}
use Rattle.mv_gate.proofs.Schedulers.{scheduler_same, scheduler_collected}
use Rattle.mv_gate.proofs.scheduler.Scheduler.collect.Goals as goal

pub invariant_of-self : goal.invariant_of-self
invariant_of-self g c = scheduler_same g.N.Making.script c.self.inside.book c.reserve_event.new.self c.self.inside.ledger c.self.inside.ledger c.self.inside.starts.items c.self.invariant c.reserve_event.ensures.same refl refl

pub invariant_of-self-2 : goal.invariant_of-self-2
invariant_of-self-2 g c =
    scheduler_collected g.N.Making.script c.self.inside.book c.collect.new.self c.self.inside.ledger c.self.inside.starts.items c.self.invariant (made_after G c.self.inside.book c.reserve_event.new.self c.collect.new.self c.reserve_event.ensures.same c.collect.ensures.made)

pub returns : goal.returns
returns g c = (
  subst (λ (b : Booked). Made G b c.collect.new.self) c.self.view_is (made_after G c.self.inside.book c.reserve_event.new.self c.collect.new.self c.reserve_event.ensures.same c.collect.ensures.made),
  c.collect.ensures.low,
)

use Rattle.std.proofs.Common.{ap, ◌∙◌}
use Rattle.mv_core.specs.Books.{Booked}
use Rattle.mv_shards.specs.Ledgers.{Entered}
use Rattle.mv_core.proofs.Changed.{same_self}
use Rattle.mv_gate.proofs.Schedulers.{scheduler_same}
use Rattle.mv_gate.proofs.scheduler.Scheduler.pass_for.Goals as goal

pub invariant_of-self : goal.invariant_of-self
invariant_of-self g c =
    scheduler_same g.N.Making.script c.self.inside.book c.self.inside.book c.self.inside.ledger c.pass_for.new.self c.self.inside.starts.items c.self.invariant (same_self c.self.inside.book)
    (ap (λ (l : Entered). l.knows.seen) c.pass_for.ensures.same) (ap (λ (l : Entered). l.commits) c.pass_for.ensures.same)

pub returns-clause-seen : goal.returns-clause-seen
returns-clause-seen g c = c.pass_for.ensures.seen ∙ (c.self.invariant.seen ∙ ap (λ (b : Booked). b.schedule.order) c.self.view_is)

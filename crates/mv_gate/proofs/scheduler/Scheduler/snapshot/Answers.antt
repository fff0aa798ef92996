use Rattle.std.proofs.Common.{◌≡◌, length, ap, ◌∙◌}
use Rattle.std.specs.Prelude.{Result, Ok, Err, IfOk}
use Rattle.mv_values.specs.declared.memory.NoMemory.{NoMemory}
use Rattle.mv_shards.specs.Reads.{Started}
use Rattle.mv_shards.specs.Ledgers.{Entered}
use Rattle.mv_core.specs.Books.{Booked}
use Rattle.mv_core.proofs.Changed.{same_self}
use Rattle.mv_gate.specs.Gates.{StartsLast}
use Rattle.mv_gate.proofs.Schedulers.{HasSeen, scheduler_seen, scheduler_same}
use Rattle.mv_gate.proofs.scheduler.Scheduler.snapshot.Goals as goal

pub invariant_of-self : goal.invariant_of-self
invariant_of-self g c =
    scheduler_same g.N.Making.script c.self.inside.book c.self.inside.book c.self.inside.ledger c.start.new.self c.self.inside.starts.items c.self.invariant (same_self c.self.inside.book) c.start.ensures.kept c.start.ensures.commits

last : (now b : Booked) (ledger : Entered) (r : Result Started NoMemory) → b ≡ now → HasSeen ledger b.schedule.order → IfOk r (λ start. start.number ≡ ledger.commits) → IfOk r (λ start. start.knows.seen ≡ ledger.knows.seen) → IfOk r (λ start. StartsLast start now)
last now b ledger (Ok start) is seen number whole = (
  number ∙ (seen.commits ∙ ap (λ (x : Booked). length x.schedule.order) is),
  whole ∙ (seen.seen ∙ ap (λ (x : Booked). x.schedule.order) is),
)
last now b ledger (Err e) is seen number whole = tt

pub returns-clause-last : goal.returns-clause-last
returns-clause-last g c =
    last c.args.self.now c.self.inside.book c.self.inside.ledger c.start.result c.self.view_is (scheduler_seen g.N.Making.script c.self.inside.book c.self.inside.ledger c.self.inside.starts.items c.self.invariant) c.start.ensures.number c.start.ensures.whole

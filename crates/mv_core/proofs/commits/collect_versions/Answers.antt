use Rattle.std.proofs.Common.{refl, subst, arith}
use Rattle.mv_journal.specs.declared.event.Event.TheVariants.{G}
use Rattle.mv_store.specs.Changes.{HasRaised}
use Rattle.mv_core.proofs.Changed.{made_after}
use Rattle.mv_core.proofs.Stored.{stored_same, stored_raised}
use Rattle.mv_core.proofs.commits.collect_versions.Goals as goal

pub raise-requires : goal.raise-requires
raise-requires c =
    let low = (stored_same c.args.book.now c.reserve_event.new.self c.args.store.now c.requires c.reserve_event.ensures.same).low_is in
    let rises = c.collect-low.ensures.rises in
    omega (arith, low, rises)

pub returns-clause-raised : goal.returns-clause-raised
returns-clause-raised c = subst (λ n. HasRaised n c.args.store.now c.raise.new.self) c.collect-low.ensures.low c.raise.ensures

pub returns-in_err-reserve_event-clause-stored : goal.returns-in_err-reserve_event-clause-stored
returns-in_err-reserve_event-clause-stored c = stored_same c.args.book.now c.reserve_event.new.self c.args.store.now c.requires c.reserve_event.ensures.same

pub returns-clause-made : goal.returns-clause-made
returns-clause-made c = made_after G c.args.book.now c.reserve_event.new.self c.collect-low.new.self c.reserve_event.ensures.same c.collect-low.ensures.made

pub returns-clause-stored : goal.returns-clause-stored
returns-clause-stored c =
    stored_raised c.reserve_event.new.self c.collect-low.new.self c.args.store.now c.raise.new.self c.collect-low.new.self.schedule.low
    (stored_same c.args.book.now c.reserve_event.new.self c.args.store.now c.requires c.reserve_event.ensures.same) c.collect-low.ensures.made refl (subst (λ n. HasRaised n c.args.store.now c.raise.new.self) c.collect-low.ensures.low c.raise.ensures)

use Rattle.std.proofs.Common.{refl, subst}
use Rattle.mv_store.specs.Stored.{Versioned}
use Rattle.mv_store.specs.Changes.{HasRaised}
use Rattle.mv_store.proofs.Laws.{all_raised}
use Rattle.mv_store.proofs.store.Store.raise.Goals as goal

pub invariant_of-self : goal.invariant_of-self
invariant_of-self c = ((c.collect_all.ensures.versions c.self.inside.last c.self.invariant.0).1, c.collect_all.ensures.index c.self.invariant.1)

pub returns : goal.returns
returns c =
    let old : Versioned = record { tables = c.self.inside.tables.items; last = c.self.inside.last; low = c.self.inside.low } in
    let new : Versioned = record { tables = c.collect_all.new.tables.items; last = c.self.inside.last; low = c.args.low } in
    subst (λ v. HasRaised c.args.low v new) c.self.view_is (all_raised c.args.low old new c.self.invariant.0.rising c.self.invariant.0.filled (c.collect_all.ensures.versions c.self.inside.last c.self.invariant.0).0 refl refl)

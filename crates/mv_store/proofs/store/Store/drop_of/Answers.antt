use Rattle.std.proofs.Common.{refl, ap, subst}
use Rattle.mv_store.specs.Stored.{Versioned}
use Rattle.mv_store.specs.Changes.{HasDropped}
use Rattle.mv_store.specs.Kept.{AllChanged, table_keys_in, finished}
use Rattle.mv_store.specs.declared.change.Fate.TheVariants.{Gone}
use Rattle.mv_store.proofs.Done.{all_finished}
use Rattle.mv_store.proofs.Laws.{all_dropped, dropped_kept}
use Rattle.mv_store.proofs.store.Store.drop_of.Goals as goal

changed : (c : goal.After-forget) → AllChanged (finished Gone c.args.call) c.self.inside.tables.items c.finish_noted.new.tables.items
changed c = all_finished Gone c.args.call c.self.inside.table_keys _ c.self.inside.tables.items c.finish_noted.new.tables.items c.self.invariant.0.covered (ap table_keys_in c.of_call-noted.ensures) c.finish_noted.ensures.versions

pub invariant_of-self : goal.invariant_of-self
invariant_of-self c =
    (dropped_kept c.args.call c.self.inside.last c.self.inside.tables.items c.finish_noted.new.tables.items c.self.inside.table_keys c.forget.new.self c.self.invariant.0 (changed c) c.forget.ensures.calls c.forget.ensures.commits, c.finish_noted.ensures.index c.self.invariant.1)

pub returns : goal.returns
returns c =
    let old : Versioned = record { tables = c.self.inside.tables.items; last = c.self.inside.last; low = c.self.inside.low } in
    let new : Versioned = record { tables = c.finish_noted.new.tables.items; last = c.self.inside.last; low = c.self.inside.low } in
    subst (λ v. HasDropped c.args.call v new) c.self.view_is (all_dropped c.args.call old new c.self.invariant.0.rising (changed c) refl refl)

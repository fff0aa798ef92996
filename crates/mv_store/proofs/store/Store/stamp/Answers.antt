use Rattle.std.proofs.Common.{◌<◌, refl, sym, ap, subst}
use Rattle.mv_store.specs.Stored.{Versioned}
use Rattle.mv_store.specs.Changes.{HasStamped}
use Rattle.mv_store.specs.Kept.{AllChanged, table_keys_in, finished}
use Rattle.mv_store.specs.declared.change.Fate.TheVariants.{Commit}
use Rattle.mv_store.proofs.Done.{all_finished}
use Rattle.mv_store.proofs.Laws.{may_commit, all_stamped, stamped_kept}
use Rattle.mv_store.proofs.store.Store.stamp.Goals as goal

below : (c : goal.After-self-1) → c.self.inside.last < c.args.n
below c = subst (λ v. v.last < c.args.n) (sym c.self.view_is) c.requires

pub finish_noted-requires : goal.finish_noted-requires
finish_noted-requires c = may_commit c.args.call c.args.n c.self.inside.last c.self.inside.tables.items c.self.invariant.0.numbers (subst (λ v. v.last < c.args.n) (sym c.self.view_is) c.requires)

changed : (c : goal.After-self-1) → AllChanged (finished (Commit c.args.n) c.args.call) c.self.inside.tables.items c.finish_noted.new.tables.items
changed c = all_finished (Commit c.args.n) c.args.call c.self.inside.table_keys _ c.self.inside.tables.items c.finish_noted.new.tables.items c.self.invariant.0.covered (ap table_keys_in c.of_call-noted.ensures) c.finish_noted.ensures.versions

pub invariant_of-self : goal.invariant_of-self
invariant_of-self c =
    (stamped_kept c.args.call c.args.n c.self.inside.last c.self.inside.tables.items c.finish_noted.new.tables.items c.self.inside.table_keys c.commit.new.self c.self.invariant.0 (below c) (changed c) c.commit.ensures.calls c.commit.ensures.commits, c.finish_noted.ensures.index c.self.invariant.1)

pub returns : goal.returns
returns c =
    let old : Versioned = record { tables = c.self.inside.tables.items; last = c.self.inside.last; low = c.self.inside.low } in
    let new : Versioned = record { tables = c.finish_noted.new.tables.items; last = c.args.n; low = c.self.inside.low } in
    subst (λ v. HasStamped c.args.call c.args.n v new) c.self.view_is
    (all_stamped c.args.call c.args.n old new c.self.invariant.0.rising c.self.invariant.0.numbers (below c) (changed c) refl refl)

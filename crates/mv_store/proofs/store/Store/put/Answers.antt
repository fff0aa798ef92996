use Rattle.std.proofs.Common.{◌≡◌, ◌<◌, ◌≤◌, length, refl, subst, ◌∷◌, [], slice_set, rules}
use Rattle.std.proofs.lemmas.Result.{on_ok_weaker, on_err_weaker}
use Rattle.mv_chain.specs.Versions.{with_patch}
use Rattle.mv_store.specs.Stored.{Versioned}
use Rattle.mv_store.specs.Changes.{HasPut, IsAsBefore}
use Rattle.mv_store.specs.Kept.{entries_at, AreFilled, IsChanged}
use Rattle.mv_store.specs.Indexed.{IsTableIndex}
use Rattle.mv_store.proofs.Indexing.{tables_followed}
use Rattle.mv_store.proofs.Done.{tables_changed}
use Rattle.mv_store.proofs.Rows.{at_place}
use Rattle.mv_store.proofs.Laws.{put_one, put_none, put_any, all_same}
use Rattle.mv_store.proofs.store.Store.put.Goals as goal

pub returns-then-at-len-clause-ok : goal.returns-then-at-len-clause-ok
returns-then-at-len-clause-ok c = put_none c.args.call c.args.write.now c.args.self.now (subst (λ v. length v.tables ≤ c.args.write.now.table) c.self.view_is (search rules))

within : (c : goal.After-self-1) → c.args.write.now.table < length c.self.inside.tables.items
within c = search rules

there : (c : goal.After-self-1) → c.index_mut.result.now ≡ entries_at c.self.inside.tables.items c.args.write.now.table
there c = at_place c.self.inside.tables.items c.args.write.now.table c.index_mut.result.now (within c) c.index_mut.ensures.value

filled : (c : goal.After-self-1) → AreFilled (entries_at c.self.inside.tables.items c.args.write.now.table) → AreFilled c.put_write.new.table
filled c = subst (λ es. AreFilled es → AreFilled c.put_write.new.table) (there c) c.put_write.ensures.filled

pub invariant_of-self : goal.invariant_of-self
invariant_of-self c =
    let w = c.args.write.now in (
      put_any c.put_write.result w.table c.args.call c.self.inside.last w.key w.patch c.self.inside.tables.items _ c.index_mut.result.now c.put_write.new.table c.self.inside.table_keys c.put_write.new.table_keys c.self.invariant.0
          (within c) (there c) c.put_write.ensures.ok c.put_write.ensures.err c.put_write.ensures.filled c.put_write.ensures.kept c.put_write.ensures.noted refl,
      tables_followed w.table c.self.inside.tables.items c.put_write.new.table c.self.inside.index c.put_write.new.index (within c) c.put_write.ensures.elsewhere
          (subst (λ es. IsTableIndex w.table es c.self.inside.index → IsTableIndex w.table c.put_write.new.table c.put_write.new.index) (there c) c.put_write.ensures.index) c.self.invariant.1,
    )

pub returns-clause-ok : goal.returns-clause-ok
returns-clause-ok c =
    let w = c.args.write.now in
    let tables = c.self.inside.tables.items in
    let old : Versioned = record { tables = tables; last = c.self.inside.last; low = c.self.inside.low } in
    let new : Versioned = record { tables = slice_set tables w.table c.put_write.new.table; last = c.self.inside.last; low = c.self.inside.low } in
    on_ok_weaker c.put_write.result (λ h.
    subst (λ v. HasPut c.args.call (w ∷ []) v new) c.self.view_is
    (put_one c.args.call w old new c.self.invariant.0.rising
    (tables_changed w.table w.key (with_patch c.args.call w.patch) tables new.tables c.put_write.new.table (within c) (subst (λ es. IsChanged w.key (with_patch c.args.call w.patch) es c.put_write.new.table) (there c) h) (filled c) refl)
    refl refl)) c.put_write.ensures.ok

pub returns-clause-err : goal.returns-clause-err
returns-clause-err c =
    let w = c.args.write.now in
    let tables = c.self.inside.tables.items in
    let old : Versioned = record { tables = tables; last = c.self.inside.last; low = c.self.inside.low } in
    let new : Versioned = record { tables = slice_set tables w.table c.put_write.new.table; last = c.self.inside.last; low = c.self.inside.low } in
    on_err_weaker c.put_write.result (λ h.
    subst (λ v. IsAsBefore v new) c.self.view_is
    (all_same w.table w.key old new c.self.invariant.0.rising
    (tables_changed w.table w.key (λ v. v) tables new.tables c.put_write.new.table (within c) (subst (λ es. IsChanged w.key (λ v. v) es c.put_write.new.table) (there c) h) (filled c) refl)
    refl refl)) c.put_write.ensures.err

use Rattle.std.proofs.Common.{refl, sym, subst, take}
use Rattle.mv_store.specs.Kept.{versions_at, after_change, MayChange}
use Rattle.mv_store.proofs.Done.{may_done, done_none, done_one, rows_same, rows_then, rows_changed}
use Rattle.mv_store.proofs.change.change_all.Goals as goal

pub loop-table_key-init : goal.loop-table_key-init
loop-table_key-init c = record {
  versions = done_none (after_change c.args.to) c.args.tables.now.items;
  index = λ is. is;
  rows = λ t key. rows_same c.args.to (versions_at c.args.tables.now.items t key) (versions_at c.args.tables.now.items t key) refl;
}

pub change_at-requires : goal.change_at-requires
change_at-requires c =
    let t = c.table_key-item.result.table in
    let key = c.table_key-item.result.key in
    subst (MayChange c.args.to) (sym (c.loop-table_key.invariant.versions.at t key))
    (may_done c.args.to (take c.loop-table_key.table_key-index c.args.table_keys.now) t key (versions_at c.args.tables.now.items t key) (c.requires t key))

pub loop-table_key-preserved : goal.loop-table_key-preserved
loop-table_key-preserved c =
    let s = c.table_key-item.result in
    let old = c.args.tables.now.items in
    let now = c.loop-table_key.tables.items in
    let new = c.change_at.new.tables.items in
    record {
      versions = done_one (after_change c.args.to) c.args.table_keys.now c.loop-table_key.table_key-index s old now new c.loop-table_key-test.true c.table_key-item.is c.loop-table_key.invariant.versions c.change_at.ensures.versions;
      index = λ is. c.change_at.ensures.index (c.loop-table_key.invariant.index is);
      rows = λ t key.
          rows_then c.args.to (versions_at old t key) (versions_at now t key) (versions_at new t key) (c.loop-table_key.invariant.rows t key)
          (rows_changed c.args.to s.table s.key now new c.change_at.ensures.versions c.change_at.ensures.rows t key);
    }

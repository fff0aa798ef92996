use Rattle.std.proofs.Common.{◌≡◌, take}
use Rattle.mv_table.specs.Entries.{KeysRise}
use Rattle.mv_store.specs.Opened.{opened}
use Rattle.mv_store.proofs.open.open_table.Given as goal

abbrev pub invariant-loop-item : goal.invariant-loop-item
invariant-loop-item l = record {
  opens : l.table ≡ opened (take l.item-index l.item-items);
  rising : KeysRise l.table;
}

use Rattle.std.proofs.Common.{◌≡◌, take, map}
use Rattle.mv_store.specs.Kept.{AllRise}
use Rattle.mv_store.specs.Opened.{opened}
use Rattle.mv_store.proofs.open.open_all.Given as goal

abbrev pub invariant-loop-rows : goal.invariant-loop-rows
invariant-loop-rows l = record {
  opens : l.tables.items ≡ map opened (take l.rows-index l.rows-items);
  rising : AllRise l.tables.items;
}

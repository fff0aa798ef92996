use Rattle.std.proofs.Common.{◌≡◌, take, length}
use Rattle.mv_shards.specs.Ledgers.{AreTouched}
use Rattle.mv_shards.proofs.ledger.touch.Given as goal

abbrev pub invariant-loop-change : goal.invariant-loop-change
invariant-loop-change l = record {
  size : length l.touched ≡ 8;
  each : AreTouched (take l.change-index l.changes) l.n l.fn.touched l.touched;
}

use Rattle.std.proofs.Common.{◌≡◌, ◌<◌, ◌∙◌, ap, sym, arith, length, length-set}
use Rattle.std.specs.Prelude.{slice_set}
use Rattle.mv_shards.specs.Parts.{shard_of}
use Rattle.mv_shards.proofs.Reading.{below_8}
use Rattle.mv_shards.proofs.Ledgers.{touched_more}
use Rattle.mv_shards.proofs.ledger.touch.Goals as goal

pub set-requires : goal.set-requires
set-requires c = let small = below_8 c.change-item.result.table c.change-item.result.key in omega (arith, small, c.shard_of.ensures, c.loop-change.invariant.size)

pub loop-change-preserved : goal.loop-change-preserved
loop-change-preserved c = record {
  size = ap length c.set.ensures ∙ (length-set c.loop-change.touched c.shard_of.result c.args.n ∙ c.loop-change.invariant.size);
  each =
      touched_more c.args.changes.now c.loop-change.change-index c.args.n c.change-item.result c.args.touched.now c.loop-change.touched c.set.new.self c.loop-change-test.true c.change-item.is c.loop-change.invariant.size c.loop-change.invariant.each
      (c.set.ensures ∙ ap (λ k. slice_set c.loop-change.touched k c.args.n) c.shard_of.ensures);
}

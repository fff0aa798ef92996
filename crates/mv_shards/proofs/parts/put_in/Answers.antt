use Rattle.std.proofs.Common.{take, sym, ◌∙◌}
use Rattle.mv_store.proofs.Laws.{put_then_dropped, ok_from, err_from}
use Rattle.mv_shards.specs.Parts.{writes_in}
use Rattle.mv_shards.proofs.Stored.{write_more}
use Rattle.mv_shards.proofs.parts.put_in.Goals as goal

pub returns-then-is_err-clause-err : goal.returns-then-is_err-clause-err
returns-then-is_err-clause-err c =
    put_then_dropped c.args.call (writes_in c.args.shard (take c.loop-write.write-index c.args.writes.now)) c.args.store.now c.loop-write.store c.put_one.new.store c.drop_of.new.self c.loop-write.invariant
    (err_from c.put_one.result _ (sym c.is_err.ensures.value ∙ c.if-is_err.true) c.put_one.ensures.err) c.drop_of.ensures

pub loop-write-preserved : goal.loop-write-preserved
loop-write-preserved c =
    write_more c.args.shard c.args.call c.loop-write.write-index c.args.writes.now c.write-item.result c.args.store.now c.loop-write.store c.put_one.new.store c.loop-write-test.true c.write-item.is c.loop-write.invariant
    (ok_from c.put_one.result _ (sym c.is_err.ensures.value ∙ c.if-is_err.false) c.put_one.ensures.ok)

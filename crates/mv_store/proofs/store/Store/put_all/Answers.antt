use Rattle.std.proofs.Common.{take, sym, ◌∙◌}
use Rattle.mv_store.proofs.Laws.{put_then_dropped, write_more, ok_from, err_from}
use Rattle.mv_store.proofs.store.Store.put_all.Goals as goal

pub returns-then-is_err-clause-err : goal.returns-then-is_err-clause-err
returns-then-is_err-clause-err c =
    put_then_dropped c.args.call (take c.loop-write.write-index c.args.writes.now) c.args.self.now c.loop-write.self c.put.new.self c.drop_of.new.self c.loop-write.invariant
    (err_from c.put.result _ (sym c.is_err.ensures.value ∙ c.if-is_err.true) c.put.ensures.err) c.drop_of.ensures

pub loop-write-preserved : goal.loop-write-preserved
loop-write-preserved c =
    write_more c.args.call c.loop-write.write-index c.args.writes.now c.write-item.result c.args.self.now c.loop-write.self c.put.new.self c.loop-write-test.true c.write-item.is c.loop-write.invariant
    (ok_from c.put.result _ (sym c.is_err.ensures.value ∙ c.if-is_err.false) c.put.ensures.ok)

use Rattle.mv_recorder.proofs.Writing.{next_record}
use Rattle.mv_recorder.proofs.recorder.after_records.Goals as goal

pub loop-one-preserved : goal.loop-one-preserved
loop-one-preserved c =
    next_record c.args.records.now c.loop-one.one-index c.one-item.result c.loop-one.tables c.write_all.new.tables _ c.loop-one-test.true c.one-item.is (rw c.as_slice.ensures at c.in_ok-write_all.ensures.tables) c.loop-one.invariant

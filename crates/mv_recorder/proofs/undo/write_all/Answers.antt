use Rattle.std.proofs.Common.{◌∙◌}
use Rattle.mv_recorder.proofs.Undoing.{keeps}
use Rattle.mv_recorder.proofs.Writing.{next_written}
use Rattle.mv_recorder.proofs.undo.write_all.Goals as goal

pub loop-one-preserved : goal.loop-one-preserved
loop-one-preserved c = record {
  tables = next_written c.args.writes.now c.loop-one.one-index c.one-item.result c.loop-one.tables c.write.new.tables _ c.loop-one-test.true c.one-item.is c.in_ok-was.ensures.tables c.loop-one.invariant.tables;
  undo = rw c.in_ok-push.ensures.ok (keeps c.loop-one.undo c.in_ok-was.was' c.loop-one.tables c.write.new.tables c.in_ok-was.ensures.back ∙ c.loop-one.invariant.undo);
}

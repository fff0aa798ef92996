use Rattle.std.proofs.Common.{sym, ap, ◌∙◌}
use Rattle.mv_serial.specs.Changing.{changed_by}
use Rattle.mv_serial.proofs.Changing.{changed_last, keeps}
use Rattle.mv_serial.proofs.change.make_all.Goals as goal

pub loop-change-preserved : goal.loop-change-preserved
loop-change-preserved c =
    let tables = rw c.in-Some.ensures.items at c.loop-change.invariant.tables in
    record {
      tables = ap (changed_by c.pop.new.self) c.in_ok-back.ensures.tables ∙ (sym (changed_last c.pop.new.self c.in-Some.change c.loop-change.tables) ∙ tables);
      undo = rw c.in_ok-push.ensures.ok (keeps c.loop-change.undo c.in_ok-back.back c.loop-change.tables c.make.new.tables c.in_ok-back.ensures.back ∙ c.loop-change.invariant.undo);
    }

use Rattle.std.proofs.Common.{sym, ap, ◌∙◌}
use Rattle.mv_serial.specs.Changing.{changed_by}
use Rattle.mv_serial.proofs.Changing.{changed_last}
use Rattle.mv_serial.proofs.change.undo_all.Goals as goal

pub loop-change-preserved-in_ok-_back : goal.loop-change-preserved-in_ok-_back
loop-change-preserved-in_ok-_back c =
    let tables = rw c.in-Some.ensures.items at c.loop-change.invariant in
    ap (changed_by c.pop.new.self) c.in_ok-_back.ensures.tables ∙ (sym (changed_last c.pop.new.self c.in-Some.change c.loop-change.tables) ∙ tables)

pub loop-change-preserved : goal.loop-change-preserved
loop-change-preserved c =
    let tables = rw c.in-Some.ensures.items at c.loop-change.invariant in
    ap (changed_by c.pop.new.self) c.in_ok-_back.ensures.tables ∙ (sym (changed_last c.pop.new.self c.in-Some.change c.loop-change.tables) ∙ tables)

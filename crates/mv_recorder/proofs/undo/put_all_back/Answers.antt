use Rattle.std.proofs.Common.{sym, ap, ◌∙◌}
use Rattle.mv_recorder.specs.Undoing.{all_back}
use Rattle.mv_recorder.proofs.Undoing.{changed_last}
use Rattle.mv_recorder.proofs.undo.put_all_back.Goals as goal

pub loop-was-preserved : goal.loop-was-preserved
loop-was-preserved c =
    let tables = rw c.in-Some.ensures.items at c.loop-was.invariant in
    ap (all_back c.pop.new.self) c.in_ok-put_one_back.ensures ∙ (sym (changed_last c.pop.new.self c.in-Some.was c.loop-was.tables) ∙ tables)

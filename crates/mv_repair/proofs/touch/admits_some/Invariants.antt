use Rattle.std.proofs.Common.{◌≡◌, false, List, take}
use Rattle.mv_values.specs.declared.patch.Write.{Write}
use Rattle.mv_repair.specs.Walking.{any_touch, AreKnown}
use Rattle.mv_repair.proofs.touch.admits_some.Given as goal

abbrev pub invariant-loop-at : goal.invariant-loop-at
invariant-loop-at l = (ws : List Write) → AreKnown l.keys ws → any_touch (take l.at l.preds) ws ≡ false

use Rattle.std.proofs.Common.{◌≡◌, ◌++◌, All, List, Option, length}
use Rattle.mv_values.specs.declared.value.Value.{Value}
use Rattle.mv_values.specs.Keys.{IsRising, IsBelow}
use Rattle.mv_values.specs.Patching.{placed}
use Rattle.mv_undo.proofs.merge.Merge.pass.Given as goal

abbrev pub invariant-loop-item : goal.invariant-loop-item
invariant-loop-item l = record {
  rising : IsRising (l.self.done ++ l.self.ahead.items);
  below : All (IsBelow l.key) l.self.done;
  rows : (row : Option (List Value)) → placed l.key row (l.self.done ++ l.self.ahead.items) ≡ placed l.key row (l.fn.self.done ++ l.fn.self.ahead.items);
}

abbrev pub decreases-loop-item : goal.decreases-loop-item
decreases-loop-item l = length l.self.ahead.items

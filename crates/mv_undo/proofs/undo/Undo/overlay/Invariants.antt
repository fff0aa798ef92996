use Rattle.std.proofs.Common.{◌≡◌, ◌<◌, ◌≤◌, ◌++◌, ℕ, List, All, drop, length, slice_index_or}
use Rattle.mv_values.specs.declared.value.Value.{Value}
use Rattle.mv_values.specs.Keys.{IsRising, IsBelow}
use Rattle.mv_undo.specs.Owning.{earlier}
use Rattle.mv_undo.proofs.Laying.{laid}
use Rattle.mv_undo.proofs.undo.Undo.overlay.Given as goal

abbrev pub invariant-loop-key : goal.invariant-loop-key
invariant-loop-key l = record {
  rows : laid l.pred (earlier l.number l.self) l.fn.own (drop l.key-index l.keys) (l.merge.done ++ l.merge.ahead.items) ≡ laid l.pred (earlier l.number l.self) l.fn.own l.keys l.fn.rows;
  rising : IsRising (l.merge.done ++ l.merge.ahead.items);
  below : (k : ℕ) (d : List Value) → l.key-index ≤ k → k < length l.keys → All (IsBelow (slice_index_or l.keys k d)) l.merge.done;
}

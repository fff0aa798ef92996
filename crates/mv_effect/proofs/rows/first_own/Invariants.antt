use Rattle.std.proofs.Common.{◌≡◌, ◌≤◌, ◌-◌, ◌⊎◌, List, None, true, length}
use Rattle.std.specs.Prelude.{AllPairs}
use Rattle.std.specs.declared.cmp.Ordering.TheVariants.{Less}
use Rattle.mv_values.specs.declared.value.Value.{Value}
use Rattle.mv_values.specs.Order.{key_order}
use Rattle.mv_values.specs.Patching.{row_of, applied, found_by}
use Rattle.mv_undo.specs.Owning.{earlier, is_among, is_sought}
use Rattle.mv_effect.specs.Looking.{different}
use Rattle.mv_effect.proofs.Asked.{WasAsked}
use Rattle.mv_effect.proofs.rows.first_own.Given as goal

abbrev pub invariant-loop-key : goal.invariant-loop-key
invariant-loop-key g l = record {
  rising : AllPairs (λ a b. key_order a b ≡ Less) l.keys;
  each : (key : List Value) → is_sought l.pred (earlier l.number l.undo) key ≡ true
      → (row_of (found_by l.pred (applied (earlier l.number l.undo) (g.V.View.sight l.fn.view).database)) key ≡ None) ⊎ (is_among l.keys key ≡ true);
  few : length l.keys ≤ different (earlier l.number l.undo);
  asked : WasAsked 0 (different (earlier l.number l.undo) - length l.keys) (g.V.View.sight l.fn.view) (g.V.View.sight l.view);
}

abbrev pub decreases-loop-key : goal.decreases-loop-key
decreases-loop-key g l = length l.keys

use Rattle.std.proofs.Common.{◌<◌, ℕ, List, length}
use Rattle.std.specs.Prelude.{IfSome}
use Rattle.mv_values.specs.declared.value.Value.{Value}
use Rattle.mv_undo.specs.Indexing.{IsLastOn, IsUpTo}
use Rattle.mv_undo.proofs.Linking.{reach}
use Rattle.mv_undo.proofs.links.last_before.Given as goal

abbrev pub invariant-loop-last : goal.invariant-loop-last
invariant-loop-last l = record {
  within : IfSome l.last (λ p. p < length l.items);
  back : (t : ℕ) (key : List Value) → IsLastOn l.items t key l.fn.last → IsUpTo l.number l.items t key l.last;
}

abbrev pub decreases-loop-last : goal.decreases-loop-last
decreases-loop-last l = reach l.last

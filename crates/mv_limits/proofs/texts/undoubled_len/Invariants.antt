use Rattle.std.proofs.Common.{◌≡◌, ◌≤◌, ◌+◌, ◌-◌, drop, length}
use Rattle.mv_ast.specs.Texts.{undoubled}
use Rattle.mv_limits.proofs.texts.undoubled_len.Given as goal

abbrev pub invariant-loop-at : goal.invariant-loop-at
invariant-loop-at l = (l.at ≤ length l.text) × (l.count ≤ l.at) × (l.count + length (undoubled (drop l.at l.text)) ≡ length (undoubled l.fn.text))

abbrev pub decreases-loop-at : goal.decreases-loop-at
decreases-loop-at l = length l.text - l.at

use Rattle.std.proofs.Common.{◌≡◌, ◌++◌, drop, ℕ, zero, suc, List}
use Rattle.mv_values.specs.declared.value.Value.{Value}
use Rattle.mv_eval.specs.Line.{line_of, printed_after}
use Rattle.mv_eval.proofs.line.line_from.Given as goal

-- what is still to be added, before the first value and after it
abbrev pub to_add : ℕ → List Value → List ℕ
to_add zero vs = line_of vs
to_add (suc i) vs = printed_after (drop (suc i) vs)

abbrev pub invariant-loop-i : goal.invariant-loop-i
invariant-loop-i l = l.line ++ to_add l.i l.values ≡ line_of l.values

use Rattle.std.proofs.Common.{◌≡◌, ◌≤◌, ◌+◌, min, drop}
use Rattle.mv_ast.specs.Texts.{number_from, greatest}
use Rattle.mv_limits.proofs.texts.value.Given as goal

abbrev pub invariant-loop-digit : goal.invariant-loop-digit
invariant-loop-digit l = (l.value ≤ greatest + 1) × (min (number_from l.value (drop l.digit-index l.digits)) (greatest + 1) ≡ min (number_from 0 l.fn.digits) (greatest + 1))

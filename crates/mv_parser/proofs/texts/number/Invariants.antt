use Rattle.std.proofs.Common.{◌≡◌, ◌≤◌, min, drop}
use Rattle.mv_ast.specs.Texts.{number_from, number, greatest}
use Rattle.mv_parser.proofs.texts.number.Given as goal

abbrev pub invariant-loop-digit : goal.invariant-loop-digit
invariant-loop-digit l = (l.value ≤ greatest) × (min (number_from l.value (drop l.digit-index l.digits)) greatest ≡ number l.fn.digits)

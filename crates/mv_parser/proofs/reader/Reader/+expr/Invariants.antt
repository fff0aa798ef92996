use Rattle.std.proofs.Common.{◌≡◌, ◌-◌, ◌+◌, ◌*◌, drop, ℕ}
use Rattle.mv_ast.specs.Trees.{paired_by}
use Rattle.mv_parser.specs.declared.level.Level.{Level}
use Rattle.mv_parser.specs.declared.level.Level.TheVariants as level
use Rattle.mv_parser.specs.Reading.{more, read}
use Rattle.mv_parser.specs.Answers.{inside_of}
use Rattle.mv_parser.specs.Levels.{marks, next, chain}
use Rattle.mv_parser.proofs.reader.Reader.+expr.Given as goal

-- how many calls may still be made at one depth, by levels
abbrev rank : Level → ℕ
rank level.Term = 4
rank level.Sum = 7
rank level.And = 13
rank level.Or = 16

abbrev pub decreases-expression : goal.decreases-expression
decreases-expression l = 20 * l.self.now.depth + 0

abbrev pub decreases-in_parentheses : goal.decreases-in_parentheses
decreases-in_parentheses l = 20 * l.self.now.depth + 1

abbrev pub decreases-two_arguments : goal.decreases-two_arguments
decreases-two_arguments l = 20 * l.self.now.depth + 1

abbrev pub decreases-text_of_call : goal.decreases-text_of_call
decreases-text_of_call l = 20 * l.self.now.depth + 1

abbrev pub decreases-prim : goal.decreases-prim
decreases-prim l = 20 * l.self.now.depth + 2

abbrev pub decreases-fac : goal.decreases-fac
decreases-fac l = 20 * l.self.now.depth + 3

abbrev pub decreases-operand : goal.decreases-operand
decreases-operand l = 20 * l.self.now.depth + rank l.level

abbrev pub decreases-next : goal.decreases-next
decreases-next l = 20 * l.self.now.depth + rank l.level + 1

abbrev pub decreases-chain : goal.decreases-chain
decreases-chain l = 20 * l.self.now.depth + rank l.level + 2

abbrev pub decreases-compared : goal.decreases-compared
decreases-compared l = 20 * l.self.now.depth + 10

abbrev pub decreases-comp : goal.decreases-comp
decreases-comp l = 20 * l.self.now.depth + 11

abbrev pub decreases-neg : goal.decreases-neg
decreases-neg l = 20 * l.self.now.depth + 12

abbrev pub invariant-chain-loop-turn : goal.invariant-chain-loop-turn
invariant-chain-loop-turn l =
    let inside = inside_of l.fn.self in
    let bytes = l.fn.self.bytes.now in
    more (l._turn-end - l._turn) paired_by (marks l.level) (read inside (next bytes l.level)) l.whole (drop l.here l.fn.self.lexemes.now)
    ≡ read inside (chain bytes l.level) (drop l.fn.at l.fn.self.lexemes.now)

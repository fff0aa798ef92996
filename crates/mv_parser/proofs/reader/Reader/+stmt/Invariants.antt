use Rattle.std.proofs.Common.{◌≡◌, ◌-◌, ◌+◌, ◌*◌, drop}
use Rattle.mv_ast.specs.Parts.{statement}
use Rattle.mv_ast.specs.Grammar.{added, many}
use Rattle.mv_parser.specs.Reading.{more, read, statement_words}
use Rattle.mv_parser.specs.Answers.{inside_of}
use Rattle.mv_parser.proofs.reader.Reader.+stmt.Given as goal

abbrev pub decreases-statement : goal.decreases-statement
decreases-statement l = 8 * l.self.now.depth + 0

abbrev pub decreases-statements : goal.decreases-statements
decreases-statements l = 8 * l.self.now.depth + 1

abbrev pub decreases-loop_body : goal.decreases-loop_body
decreases-loop_body l = 8 * l.self.now.depth + 2

abbrev pub decreases-otherwise : goal.decreases-otherwise
decreases-otherwise l = 8 * l.self.now.depth + 2

abbrev pub decreases-branches : goal.decreases-branches
decreases-branches l = 8 * l.self.now.depth + 3

abbrev pub decreases-plain_rest : goal.decreases-plain_rest
decreases-plain_rest l = 8 * l.self.now.depth + 3

abbrev pub decreases-distinct_rest : goal.decreases-distinct_rest
decreases-distinct_rest l = 8 * l.self.now.depth + 3

abbrev pub decreases-for_plain : goal.decreases-for_plain
decreases-for_plain l = 8 * l.self.now.depth + 4

abbrev pub decreases-for_distinct : goal.decreases-for_distinct
decreases-for_distinct l = 8 * l.self.now.depth + 4

abbrev pub decreases-for_rows : goal.decreases-for_rows
decreases-for_rows l = 8 * l.self.now.depth + 4

abbrev pub decreases-for_each : goal.decreases-for_each
decreases-for_each l = 8 * l.self.now.depth + 5

abbrev pub decreases-branch : goal.decreases-branch
decreases-branch l = 8 * l.self.now.depth + 5

abbrev pub decreases-stmt : goal.decreases-stmt
decreases-stmt l = 8 * l.self.now.depth + 6

abbrev pub invariant-statements-loop-turn : goal.invariant-statements-loop-turn
invariant-statements-loop-turn l =
    more (l._turn-end - l._turn) added statement_words (read (inside_of l.fn.self) statement) l.all (drop l.here l.fn.self.lexemes.now)
    ≡ read (inside_of l.fn.self) (many statement) (drop l.fn.at l.fn.self.lexemes.now)

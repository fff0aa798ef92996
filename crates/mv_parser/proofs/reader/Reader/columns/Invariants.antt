use Rattle.std.proofs.Common.{◌≡◌, ◌-◌, drop}
use Rattle.mv_ast.specs.declared.lexeme.Terminal.TheVariants as word
use Rattle.mv_ast.specs.Parts.{one}
use Rattle.mv_ast.specs.Grammar.{added, ◌◂◌, columns, col_def}
use Rattle.mv_parser.specs.Reading.{first, more, read}
use Rattle.mv_parser.specs.Answers.{inside_of}
use Rattle.mv_parser.proofs.reader.Reader.columns.Given as goal

abbrev pub invariant-loop-turn : goal.invariant-loop-turn
invariant-loop-turn l =
    let bytes = l.fn.self.bytes.now in
    more (l._turn-end - l._turn) added (first (col_def bytes ◂ one word.Comma)) (read (inside_of l.fn.self) (col_def bytes ◂ one word.Comma)) l.all (drop l.here l.fn.self.lexemes.now)
    ≡ read (inside_of l.fn.self) (columns bytes) (drop l.fn.at l.fn.self.lexemes.now)

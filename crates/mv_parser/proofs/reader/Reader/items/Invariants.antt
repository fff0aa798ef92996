use Rattle.std.proofs.Common.{◌≡◌, ◌-◌, drop}
use Rattle.mv_ast.specs.Grammar.{added, many, an_item}
use Rattle.mv_parser.specs.Reading.{first, more, read}
use Rattle.mv_parser.specs.Answers.{inside_of}
use Rattle.mv_parser.proofs.reader.Reader.items.Given as goal

abbrev pub invariant-loop-turn : goal.invariant-loop-turn
invariant-loop-turn l =
    let bytes = l.fn.self.bytes.now in
    more (l._turn-end - l._turn) added (first (an_item bytes)) (read (inside_of l.fn.self) (an_item bytes)) l.all (drop l.here l.fn.self.lexemes.now)
    ≡ read (inside_of l.fn.self) (many (an_item bytes)) (drop l.fn.at l.fn.self.lexemes.now)

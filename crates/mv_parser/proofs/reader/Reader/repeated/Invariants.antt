use Rattle.std.proofs.Common.{◌≡◌, ◌-◌, [], ◌∷◌, drop}
use Rattle.mv_ast.specs.Parts.{one}
use Rattle.mv_ast.specs.Grammar.{added, many}
use Rattle.mv_parser.specs.Reading.{more, read, read_one}
use Rattle.mv_parser.specs.Answers.{inside_of}
use Rattle.mv_parser.proofs.reader.Reader.repeated.Given as goal

abbrev pub invariant-loop-turn : goal.invariant-loop-turn
invariant-loop-turn l =
    more (l._turn-end - l._turn) added (l.kind ∷ []) (read_one l.kind) l.all (drop l.here l.fn.self.lexemes.now)
    ≡ read (inside_of l.fn.self) (many (one l.kind)) (drop l.fn.at l.fn.self.lexemes.now)

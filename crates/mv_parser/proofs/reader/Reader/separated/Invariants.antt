use Rattle.std.proofs.Common.{◌≡◌, ◌-◌, [], ◌∷◌, drop}
use Rattle.mv_ast.specs.Grammar.{added}
use Rattle.mv_parser.specs.Reading.{more}
use Rattle.mv_parser.specs.Lists.{read_separated, read_behind}
use Rattle.mv_parser.proofs.reader.Reader.separated.Given as goal

abbrev pub invariant-loop-turn : goal.invariant-loop-turn
invariant-loop-turn g l =
    let reading = g.T.Parse.reading l.fn.self.bytes.now l.fn.self.depth in
    more (l._turn-end - l._turn) added (l.mark ∷ []) (read_behind l.mark reading) l.all (drop l.here l.fn.self.lexemes.now)
    ≡ read_separated l.mark reading (drop l.fn.at l.fn.self.lexemes.now)

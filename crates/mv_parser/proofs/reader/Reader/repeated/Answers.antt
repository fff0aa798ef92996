use Rattle.std.proofs.Common.{[], ◌∷◌, ◌∙◌, sym, drop}
use Rattle.mv_ast.specs.Parts.{one}
use Rattle.mv_ast.specs.Grammar.{added, many}
use Rattle.mv_parser.specs.Reading.{read, read_one}
use Rattle.mv_parser.specs.Answers.{inside_of}
use Rattle.mv_parser.proofs.Turns.{turn_kept}
use Rattle.mv_parser.proofs.reader.Reader.repeated.Goals as goal

pub loop-turn-preserved : goal.loop-turn-preserved
loop-turn-preserved c =
    let ts = c.args.self.now.lexemes.now in
    turn_kept c.left-turn-end.result c.loop-turn._turn added (c.args.kind ∷ []) (read_one c.args.kind) c.loop-turn.all c.push.new.self
    (drop c.loop-turn.here ts) (drop c.in_ok-lexeme.behind ts) c.in_ok-lexeme.lexeme (read (inside_of c.args.self.now) (many (one c.args.kind)) (drop c.args.at ts))
    c.loop-turn-test.true (sym c.has.ensures ∙ c.if-not-has.false) c.in_ok-lexeme.ensures.reads c.in_ok-push.ensures.ok c.loop-turn.invariant

use Rattle.std.proofs.Common.{◌∙◌, List, Ok, sym, ap, subst, drop}
use Rattle.std.proofs.lemmas.Result.{err_from_is_err_and}
use Rattle.mv_ast.specs.declared.lexeme.Terminal.{Terminal}
use Rattle.mv_ast.specs.declared.tree.Expr.{Expr}
use Rattle.mv_ast.specs.Parts.{give}
use Rattle.mv_ast.specs.Trees.{with_comparison}
use Rattle.mv_ast.specs.Grammar.{◌⊛◌, op, sum}
use Rattle.mv_parser.specs.Reading.{◌>>=◌, Read, read, starts_with}
use Rattle.mv_parser.specs.Answers.{inside_of, AnswersRead, Stops}
use Rattle.mv_parser.specs.Levels.{marks, next, chain, with_compare}
use Rattle.mv_parser.proofs.Chains.{chain_begins, chain_ends, chain_over, turn_joined, turn_stops, comp_read}
use Rattle.mv_parser.proofs.reader.Reader.+expr.Goals as goal

pub chain-loop-turn-init : goal.chain-loop-turn-init
chain-loop-turn-init t c =
    let ts = c.args.self.now.lexemes.now in
    chain_begins (inside_of c.args.self.now) c.args.self.now.bytes.now c.args.level c.left-turn-end.result c.in_ok-whole.whole (drop c.args.at ts) (drop c.in_ok-whole.at ts)
    c.left-turn-end.ensures c.in_ok-whole.ensures

pub chain-returns-then-not-has_any : goal.chain-returns-then-not-has_any
chain-returns-then-not-has_any t c =
    let ts = c.args.self.now.lexemes.now in
    let bytes = c.args.self.now.bytes.now in
    let inside = inside_of c.args.self.now in
    chain_ends c.left-turn-end.result c.loop-turn._turn (marks c.args.level) (read inside (next bytes c.args.level)) c.loop-turn.whole (drop c.loop-turn.here ts)
    (read inside (chain bytes c.args.level) (drop c.args.at ts)) c.loop-turn-test.true
    (ap (λ (ks : List Terminal). starts_with ks (drop c.loop-turn.here ts)) (sym c.marks.ensures) ∙ (sym c.has_any.ensures ∙ c.if-not-has_any.true)) c.loop-turn.invariant

pub chain-returns-in_err-joined : goal.chain-returns-in_err-joined
chain-returns-in_err-joined t c =
    let ts = c.args.self.now.lexemes.now in
    let bytes = c.args.self.now.bytes.now in
    let inside = inside_of c.args.self.now in
    let piece = read inside (next bytes c.args.level) in
    let p = err_from_is_err_and c.from_residual-in_err-joined.result c.from_residual-in_err-joined.ensures.1 in
    let stops : Stops ts c.in_err-joined.field-0.0 (read inside (chain bytes c.args.level) (drop c.args.at ts)) =
    turn_stops c.left-turn-end.result c.loop-turn._turn (marks c.args.level) piece c.loop-turn.whole (drop c.loop-turn.here ts) ts
    (read inside (chain bytes c.args.level) (drop c.args.at ts)) c.in_err-joined.field-0.0 c.loop-turn-test.true
    (ap (λ (ks : List Terminal). starts_with ks (drop c.loop-turn.here ts)) (sym c.marks.ensures) ∙ (sym c.has_any.ensures ∙ c.if-not-has_any.false))
    (c.in_err-joined.ensures (piece (drop c.loop-turn.here ts)) c.next-next.ensures) c.loop-turn.invariant in
    rw (p.1, p.2) stops

pub chain-loop-turn-preserved : goal.chain-loop-turn-preserved
chain-loop-turn-preserved t c =
    let ts = c.args.self.now.lexemes.now in
    let bytes = c.args.self.now.bytes.now in
    let inside = inside_of c.args.self.now in
    let piece = read inside (next bytes c.args.level) in
    turn_joined c.left-turn-end.result c.loop-turn._turn (marks c.args.level) piece c.loop-turn.whole c.in_ok-joined.joined
    (drop c.loop-turn.here ts) (drop c.in_ok-joined.behind ts) (read inside (chain bytes c.args.level) (drop c.args.at ts)) c.loop-turn-test.true
    (ap (λ (ks : List Terminal). starts_with ks (drop c.loop-turn.here ts)) (sym c.marks.ensures) ∙ (sym c.has_any.ensures ∙ c.if-not-has_any.false))
    (c.in_ok-joined.ensures (piece (drop c.loop-turn.here ts)) c.next-next.ensures) c.loop-turn.invariant

pub chain-returns : goal.chain-returns
chain-returns t c =
    let ts = c.args.self.now.lexemes.now in
    let bytes = c.args.self.now.bytes.now in
    let inside = inside_of c.args.self.now in
    chain_over c.left-turn-end.result c.loop-turn._turn (marks c.args.level) (read inside (next bytes c.args.level)) c.loop-turn.whole (drop c.loop-turn.here ts)
    (read inside (chain bytes c.args.level) (drop c.args.at ts)) c.loop-turn-test.false c.loop-turn.invariant

pub comp-returns : goal.comp-returns
unfolding op
comp-returns t c =
    let ts = c.args.self.now.lexemes.now in
    let bytes = c.args.self.now.bytes.now in
    let inside = inside_of c.args.self.now in
    let behind = drop c.in_ok-left.at ts in
    subst (λ (r : Read Expr). AnswersRead ts c.joined.result r)
    (comp_read inside bytes c.in_ok-left.left (drop c.args.at ts) behind c.in_ok-left.ensures (sym c.has_any.ensures ∙ c.if-not-has_any.false))
    (c.joined.ensures (read inside (give with_comparison ⊛ op bytes ⊛ sum bytes) behind >>= (λ x. Ok (with_compare x.0, x.1))) c.compared-next.ensures)

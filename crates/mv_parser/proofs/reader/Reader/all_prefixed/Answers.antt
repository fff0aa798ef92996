use Rattle.mv_ast.specs.Trees.{all_prefixed}
use Rattle.mv_parser.proofs.Prefixes.{prefixed_kept}
use Rattle.mv_parser.proofs.reader.Reader.all_prefixed.Goals as goal

pub loop-lexeme-preserved : goal.loop-lexeme-preserved
loop-lexeme-preserved c =
    prefixed_kept c.args.op c.loop-lexeme.tokens c.pop.new.self c.in-Some.lexeme c.loop-lexeme.whole c.in_ok-whole.whole (all_prefixed c.args.op c.args.tokens c.args.inner)
    c.in-Some.ensures.items c.in_ok-whole.ensures c.loop-lexeme.invariant

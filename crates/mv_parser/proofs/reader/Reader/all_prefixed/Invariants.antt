use Rattle.std.proofs.Common.{◌≡◌, length}
use Rattle.mv_ast.specs.Trees.{all_prefixed}
use Rattle.mv_parser.proofs.reader.Reader.all_prefixed.Given as goal

abbrev pub invariant-loop-lexeme : goal.invariant-loop-lexeme
invariant-loop-lexeme l = all_prefixed l.op l.tokens l.whole ≡ all_prefixed l.fn.op l.fn.tokens l.fn.inner

abbrev pub decreases-loop-lexeme : goal.decreases-loop-lexeme
decreases-loop-lexeme l = length l.tokens

use Rattle.std.proofs.Common.{◌≡◌, drop}
use Rattle.mv_ast.specs.Lexemes.{listed}
use Rattle.mv_ast.specs.Texts.{lower}
use Rattle.mv_ast.specs.declared.lexeme.Terminal.TheVariants as word
use Rattle.mv_parser.specs.Words.{table}
use Rattle.mv_parser.proofs.words.named.Given as goal

abbrev pub invariant-loop-word : goal.invariant-loop-word
invariant-loop-word l = listed (table (drop l.word-index l.words)) word.Name (lower l.text) ≡ listed (table l.fn.words) word.Name (lower l.fn.text)

use Rattle.std.proofs.Common.{arith}
use Rattle.mv_ast.specs.Texts.{undoubled}
use Rattle.mv_parser.proofs.TextLaws.{letters_end}
use Rattle.mv_parser.proofs.texts.undoubled.Goals as goal

pub returns : goal.returns
returns c = letters_end c.args.text.now c.loop-at.single.items (undoubled c.args.text.now) c.loop-at.at (omega arith) c.loop-at.invariant.1

use Rattle.std.proofs.Common.{arith, length}
use Rattle.mv_ast.specs.Texts.{undoubled}
use Rattle.mv_limits.proofs.TextLaws.{letters_end}
use Rattle.mv_limits.proofs.texts.undoubled_len.Goals as goal

pub returns : goal.returns
returns c = letters_end c.args.text.now c.loop-at.count (length (undoubled c.args.text.now)) c.loop-at.at (omega arith) c.loop-at.invariant.2

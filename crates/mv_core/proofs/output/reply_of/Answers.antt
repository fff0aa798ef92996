use Rattle.std.proofs.Common.{arith}
use Rattle.std.proofs.lemmas.Grind.{common_steps}
use Rattle.mv_core.proofs.output.reply_of.Goals as goal

pub returns-in_ok-copy-in-Some : goal.returns-in_ok-copy-in-Some
returns-in_ok-copy-in-Some c = grind (arith, common_steps)

pub returns-in_ok-lines_of-in-None : goal.returns-in_ok-lines_of-in-None
returns-in_ok-lines_of-in-None c = grind (arith, common_steps)

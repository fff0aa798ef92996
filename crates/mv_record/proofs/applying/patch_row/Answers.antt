use Rattle.std.proofs.Common.{arith}
use Rattle.std.proofs.lemmas.Grind.{common_steps}
use Rattle.mv_record.proofs.applying.patch_row.Goals as goal

pub returns-in-Delete : goal.returns-in-Delete
returns-in-Delete c = grind (arith, common_steps)

pub returns-in-None : goal.returns-in-None
returns-in-None c = grind (arith, common_steps)

pub returns-in_ok-set_columns-in-Some : goal.returns-in_ok-set_columns-in-Some
returns-in_ok-set_columns-in-Some c = grind (arith, common_steps)

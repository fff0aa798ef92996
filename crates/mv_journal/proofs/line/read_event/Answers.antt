use Rattle.std.proofs.Common.{arith}
use Rattle.std.proofs.lemmas.Grind.{common_steps}
use Rattle.mv_journal.proofs.Reading.{is_found}
use Rattle.mv_journal.proofs.line.read_event.Goals as goal

pub returns-in_err-number_of-in-32-clause-event : goal.returns-in_err-number_of-in-32-clause-event
returns-in_err-number_of-in-32-clause-event c = is_found c.args.line.now c.from_residual.result (grind (arith, common_steps))

pub returns-in_ok-number_of-in-32-clause-event : goal.returns-in_ok-number_of-in-32-clause-event
returns-in_ok-number_of-in-32-clause-event c = is_found c.args.line.now c.named.result (grind (arith, common_steps))

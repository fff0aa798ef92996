use Rattle.std.proofs.Common.{rules}
use Rattle.mv_eval.proofs.fixing.is_new.Goals as goal

pub returns-in-Some : goal.returns-in-Some
returns-in-Some g c = search rules

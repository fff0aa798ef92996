use Rattle.std.proofs.Common.{refl}
use Rattle.mv_eval.proofs.totals.value_in.Goals as goal

pub returns-in-None : goal.returns-in-None
returns-in-None g c = rw c.in-None.is refl

use Rattle.std.proofs.Common.{refl}
use Rattle.mv_names.proofs.check.stage_behind.Goals as goal

pub returns-in-Journal : goal.returns-in-Journal
returns-in-Journal c = rw c.in-Journal.is refl

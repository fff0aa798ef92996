use Rattle.std.proofs.Common.{refl}
use Rattle.mv_recorded.proofs.reads.is_behind.Goals as goal

pub returns : goal.returns
returns c = refl

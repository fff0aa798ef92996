use Rattle.std.proofs.Common.{refl}
use Rattle.mv_resolve.proofs.build.block_into.Goals as goal

pub returns : goal.returns
returns c = refl

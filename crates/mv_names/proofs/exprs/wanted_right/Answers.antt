use Rattle.std.proofs.Common.{refl}
use Rattle.mv_names.proofs.exprs.wanted_right.Goals as goal

pub returns-in-Compare : goal.returns-in-Compare
returns-in-Compare c = rw c.in-Compare.is refl

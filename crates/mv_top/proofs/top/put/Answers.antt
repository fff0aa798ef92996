use Rattle.std.proofs.Common.{inl, inr, refl}
use Rattle.mv_top.proofs.top.put.Goals as goal

pub returns-in-Ok : goal.returns-in-Ok
returns-in-Ok g c = inl (refl, c.in-Ok.ensures.all, c.in-Ok.ensures.quiet)

pub returns-in-Err : goal.returns-in-Err
returns-in-Err g c = inr (refl, c.in-Err.ensures.front, c.in-Err.ensures.failed)

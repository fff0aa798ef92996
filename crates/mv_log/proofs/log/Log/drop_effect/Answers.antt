-- The open statement loses its effect.
use Rattle.std.proofs.Common.{sym}
use Rattle.mv_log.proofs.Cutting.{dropped}
use Rattle.mv_log.proofs.log.Log.drop_effect.Goals as goal

pub returns : goal.returns
returns c = rw c.drop_changes.ensures (rw c.drop_asked.ensures (rw (sym c.self.view_is) (dropped c.self.inside c.self.invariant)))

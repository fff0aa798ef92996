use Rattle.std.proofs.Common.{◌≡◌, drop}
use Rattle.mv_undo.specs.Owning.{earlier}
use Rattle.mv_repair.specs.Walking.{is_hit_by}
use Rattle.mv_repair.proofs.hits.is_hit.Given as goal

abbrev pub invariant-loop-committed : goal.invariant-loop-committed
invariant-loop-committed l = is_hit_by (earlier l.number l.undo) l.record (drop l.committed-index l.since) ≡ is_hit_by (earlier l.number l.undo) l.record l.since

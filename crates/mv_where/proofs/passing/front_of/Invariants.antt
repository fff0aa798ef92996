use Rattle.std.proofs.Common.{length, ◌-◌, ◌≡◌}
use Rattle.mv_edge.specs.Edge.{Reads}
use Rattle.mv_where.proofs.passing.front_of.Given as goal

abbrev pub invariant-loop-buffer : goal.invariant-loop-buffer
invariant-loop-buffer g l = record {
  buffer : length l.buffer ≡ 4096;
  so_far : Reads (g.S.Source.left l.fn.source) (g.S.Source.left l.source) l.front;
}

abbrev pub decreases-loop-buffer : goal.decreases-loop-buffer
decreases-loop-buffer g l = 4096 - length l.front

use Rattle.std.proofs.Common.{ℕ, List, length, ◌≡◌, ◌++◌}
use Rattle.mv_edge.specs.Edge.{Reads, Writes}
use Rattle.mv_where.proofs.passing.pass.Given as goal

abbrev pub invariant-pieces : goal.invariant-pieces
invariant-pieces g l = record {
  buffer : length l.buffer ≡ 4096;
  so_far : (text : List ℕ) × Reads (g.S.Source.left l.fn.source) (g.S.Source.left l.source) text × Writes (g.K.Sink.written l.fn.sink) (g.K.Sink.written l.sink) (l.fn.front ++ text);
}

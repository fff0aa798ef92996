use Rattle.std.proofs.Common.{length, ◌≡◌}
use Rattle.mv_edge.specs.Edge.{Reads}
use Rattle.mv_show.proofs.input.read_text.Given as goal

abbrev pub invariant-pieces : goal.invariant-pieces
invariant-pieces g l = record {
  buffer : length l.buffer ≡ 4096;
  so_far : Reads (g.S.Source.left l.fn.source) (g.S.Source.left l.source) l.text;
}

use Rattle.std.proofs.Common.{take, sym, refl, subst, arith}
use Rattle.std.proofs.lemmas.Grind.{common_steps}
use Rattle.mv_edge.specs.Edge.{Reads}
use Rattle.mv_edge.proofs.Steps.{reads_none}
use Rattle.mv_show.proofs.Reading.{reads_all, reads_piece}
use Rattle.mv_show.proofs.input.read_text.Goals as goal

pub pieces-init : goal.pieces-init
pieces-init g c = record {
  buffer = refl;
  so_far = subst (Reads (g.S.Source.left c.args.source.now) (g.S.Source.left c.args.source.now)) (sym c.new-text.ensures) (reads_none (g.S.Source.left c.args.source.now));
}

pub pieces-preserved : goal.pieces-preserved
pieces-preserved g c = record {
  buffer = grind (arith, common_steps);
  so_far = reads_piece (g.S.Source.left c.args.source.now) (g.S.Source.left c.pieces.source) (g.S.Source.left c.read.new.self) c.pieces.text (take c.in-Ok.n c.read.new.buffer) c.append.new.self
      c.in_ok-append.ensures.ok c.pieces.invariant.so_far (c.in-Ok.ensures.bytes (omega (arith, c.pieces.invariant.buffer)));
}

pub returns-then-n-eq0 : goal.returns-then-n-eq0
returns-then-n-eq0 g c =
    reads_all (g.S.Source.left c.args.source.now) (g.S.Source.left c.pieces.source) c.pieces.text c.pieces.invariant.so_far
    (c.in-Ok.ensures.end (omega (arith, c.pieces.invariant.buffer)) c.if-n-eq0.true)

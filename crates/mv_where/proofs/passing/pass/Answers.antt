use Rattle.std.proofs.Common.{[], take, ◌++◌, ◌∙◌, sym, subst, refl, arith, append-nil, append_assoc}
use Rattle.std.proofs.lemmas.Grind.{common_steps}
use Rattle.mv_edge.specs.Edge.{Writes}
use Rattle.mv_edge.proofs.Steps.{reads_none, reads_more, writes_more}
use Rattle.mv_where.proofs.Passes.{writes_all, said_by_ok}
use Rattle.mv_where.proofs.passing.pass.Goals as goal

pub pieces-init : goal.pieces-init
pieces-init g c = record {
  buffer = refl;
  so_far = (
    [],
    reads_none (g.S.Source.left c.args.source.now),
    subst (Writes (g.K.Sink.written c.args.sink.now) (g.K.Sink.written c.write_front.new.sink)) (sym (append-nil c.args.front.now)) c.in_ok-write_front.ensures,
  );
}

pub pieces-preserved : goal.pieces-preserved
pieces-preserved g c =
    let so_far = c.pieces.invariant.so_far in
    let piece = take c.in-Ok.n c.read.new.buffer in
    let written = said_by_ok (Writes (g.K.Sink.written c.pieces.sink) (g.K.Sink.written c.write_all.new.sink) piece) c.write_all.result (sym c.is_err.ensures.value ∙ c.if-is_err.false) c.write_all.ensures.all in
    record {
      buffer = grind (arith, common_steps);
      so_far = (
        so_far.0 ++ piece,
        reads_more (g.S.Source.left c.args.source.now) (g.S.Source.left c.pieces.source) (g.S.Source.left c.read.new.self) so_far.0 piece so_far.1 (c.in-Ok.ensures.bytes (omega (arith, c.pieces.invariant.buffer))),
        subst (Writes (g.K.Sink.written c.args.sink.now) (g.K.Sink.written c.write_all.new.sink)) (append_assoc c.args.front.now so_far.0 piece)
            (writes_more (g.K.Sink.written c.args.sink.now) (g.K.Sink.written c.pieces.sink) (g.K.Sink.written c.write_all.new.sink) (c.args.front.now ++ so_far.0) piece so_far.2 written),
      );
    }

pub returns-then-n-eq0 : goal.returns-then-n-eq0
returns-then-n-eq0 g c =
    let so_far = c.pieces.invariant.so_far in
    writes_all (g.S.Source.left c.args.source.now) (g.S.Source.left c.pieces.source) (g.K.Sink.written c.args.sink.now) (g.K.Sink.written c.pieces.sink) c.args.front.now so_far.0 so_far.1 so_far.2
    (c.in-Ok.ensures.end (omega (arith, c.pieces.invariant.buffer)) c.if-n-eq0.true)

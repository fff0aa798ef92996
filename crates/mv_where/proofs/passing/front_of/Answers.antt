use Rattle.std.proofs.Common.{arith}
use Rattle.std.proofs.lemmas.Grind.{common_steps}
use Rattle.mv_edge.proofs.Steps.{reads_nothing}
use Rattle.mv_where.proofs.passing.front_of.Goals as goal

pub loop-buffer-preserved : goal.loop-buffer-preserved
loop-buffer-preserved g c = grind (arith, common_steps)

pub returns-then-n-eq0 : goal.returns-then-n-eq0
returns-then-n-eq0 g c =
    reads_nothing (g.S.Source.left c.args.source.now) (g.S.Source.left c.loop-buffer.source) (g.S.Source.left c.read.new.self) c.loop-buffer.front c.read.new.buffer c.in-Ok.n c.if-n-eq0.true c.loop-buffer.invariant.so_far
    (c.in-Ok.ensures.bytes (grind (arith, common_steps)))

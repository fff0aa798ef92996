use Rattle.std.proofs.Common.{arith, rules}
use Rattle.std.proofs.lemmas.Grind.{common_steps}
use Rattle.mv_edge.proofs.Steps.{whole_of, most_of, rest_of, reads_nothing}
use Rattle.mv_edge.specs.declared.reading.TheConstants.{MOST}
use Rattle.mv_edge.proofs.reading.read_all.Goals as goal

pub returns-then-n-eq0-clause-bytes : goal.returns-then-n-eq0-clause-bytes
returns-then-n-eq0-clause-bytes g c =
    whole_of (g.S.Source.left c.args.source.now) (g.S.Source.left c.loop-buffer.source) c.loop-buffer.bytes MOST c.loop-buffer.invariant.so_far (c.in_ok-n.ensures.end (grind (arith, common_steps)) c.if-n-eq0.true) c.loop-buffer.invariant.within

pub returns-then-n-eq0-clause-failed : goal.returns-then-n-eq0-clause-failed
returns-then-n-eq0-clause-failed g c = search rules

pub returns-clause-bytes : goal.returns-clause-bytes
returns-clause-bytes g c =
    most_of (g.S.Source.left c.args.source.now) (g.S.Source.left c.loop-buffer.source) c.loop-buffer.bytes MOST c.loop-buffer.invariant.so_far (grind (arith, common_steps, c.loop-buffer.invariant.within))

pub loop-buffer-preserved : goal.loop-buffer-preserved
loop-buffer-preserved g c = grind (arith, common_steps)

pub returns-then-n-eq0-clause-rest : goal.returns-then-n-eq0-clause-rest
returns-then-n-eq0-clause-rest g c =
    rest_of (g.S.Source.left c.args.source.now) (g.S.Source.left c.read.new.self) c.loop-buffer.bytes MOST
    (reads_nothing (g.S.Source.left c.args.source.now) (g.S.Source.left c.loop-buffer.source) (g.S.Source.left c.read.new.self) c.loop-buffer.bytes c.read.new.buffer c.in_ok-n.n c.if-n-eq0.true c.loop-buffer.invariant.so_far (c.in_ok-n.ensures.bytes (grind (arith, common_steps))))
    (whole_of (g.S.Source.left c.args.source.now) (g.S.Source.left c.loop-buffer.source) c.loop-buffer.bytes MOST c.loop-buffer.invariant.so_far (c.in_ok-n.ensures.end (grind (arith, common_steps)) c.if-n-eq0.true) c.loop-buffer.invariant.within)

pub returns-clause-rest : goal.returns-clause-rest
returns-clause-rest g c =
    rest_of (g.S.Source.left c.args.source.now) (g.S.Source.left c.loop-buffer.source) c.loop-buffer.bytes MOST c.loop-buffer.invariant.so_far
    (most_of (g.S.Source.left c.args.source.now) (g.S.Source.left c.loop-buffer.source) c.loop-buffer.bytes MOST c.loop-buffer.invariant.so_far (grind (arith, common_steps, c.loop-buffer.invariant.within)))

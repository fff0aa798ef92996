use Rattle.std.proofs.Common.{arith, subst, refl, ◌∙◌, length, ◌-◌, drop}
use Rattle.std.proofs.lemmas.List.{take_all, length-drop}
use Rattle.std.proofs.lemmas.Result.{err_from_is_err_and}
use Rattle.std.proofs.lemmas.Grind.{common_steps}
use Rattle.mv_values.specs.Counts.{Rose}
use Rattle.mv_edge.specs.Edge.{Writes}
use Rattle.mv_edge.proofs.Steps.{writes_none, writes_at, writes_front}
use Rattle.mv_edge.proofs.writing.write_all.Goals as goal

pub loop-at-init : goal.loop-at-init
loop-at-init g c = record { within = omega arith; so_far = writes_none (g.K.Sink.written c.args.sink.now); quiet = refl }

pub loop-at-preserved : goal.loop-at-preserved
loop-at-preserved g c = record {
  within = grind (arith, common_steps, c.in_ok-at.ensures.within);
  so_far = writes_at (g.K.Sink.written c.args.sink.now) (g.K.Sink.written c.loop-at.sink) (g.K.Sink.written c.write.new.self) c.args.bytes.now c.loop-at.at c.in_ok-at.field-0 c.loop-at.invariant.so_far (rw (take_all (length c.args.bytes.now - c.loop-at.at) (drop c.loop-at.at c.args.bytes.now) (omega (arith, length-drop c.loop-at.at c.args.bytes.now))) at c.in_ok-at.ensures.bytes);
  quiet = c.in_ok-at.ensures.quiet ∙ c.loop-at.invariant.quiet;
}

pub returns-in_err-at-clause-front : goal.returns-in_err-at-clause-front
returns-in_err-at-clause-front g c =
    let p = err_from_is_err_and c.from_residual.result c.from_residual.ensures.1 in
    rw p.1 (writes_front (g.K.Sink.written c.args.sink.now) (g.K.Sink.written c.loop-at.sink) (g.K.Sink.written c.write.new.self) c.args.bytes.now c.loop-at.at c.loop-at-test.true c.loop-at.invariant.so_far c.in_err-at.ensures.same)

pub returns-in_err-at-clause-failed : goal.returns-in_err-at-clause-failed
returns-in_err-at-clause-failed g c =
    let p = err_from_is_err_and c.from_residual.result c.from_residual.ensures.1 in
    rw p.1 (subst (λ before. Rose before (g.K.Sink.faults c.write.new.self)) c.loop-at.invariant.quiet c.in_err-at.ensures.failed)

pub returns-clause-all : goal.returns-clause-all
returns-clause-all g c = subst (Writes (g.K.Sink.written c.args.sink.now) (g.K.Sink.written c.loop-at.sink)) (take_all c.loop-at.at c.args.bytes.now (omega arith)) c.loop-at.invariant.so_far

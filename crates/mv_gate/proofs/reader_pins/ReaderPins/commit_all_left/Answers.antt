use Rattle.std.proofs.Common.{length, ap, arith}
use Rattle.mv_script.specs.declared.script.CompiledScript.{CompiledScript}
use Rattle.mv_gate.proofs.Ending.{keeps_both, done_more, all_done}
use Rattle.mv_gate.proofs.reader_pins.ReaderPins.commit_all_left.Goals as goal

pub bring-requires-clause-there : goal.bring-requires-clause-there
bring-requires-clause-there g c =
    let lt = c.loop-call-test.true in
    let end = c.calls-call-end.ensures in
    let same = ap (λ (s : CompiledScript). length s.calls) c.loop-call.invariant.kept.script in
    omega (arith, lt, end, same)

pub loop-call-preserved : goal.loop-call-preserved
loop-call-preserved g c = record {
  kept = keeps_both _ c.loop-call.scheduler c.bring.new.scheduler c.loop-call.invariant.kept c.in_ok-bring.ensures.kept;
  begun = let b = c.in_ok-bring.ensures.begun in omega (arith, b);
  done = done_more c.loop-call.scheduler c.bring.new.scheduler c.loop-call.call c.loop-call.invariant.done c.in_ok-bring.ensures.kept c.in_ok-bring.ensures.done;
  readers = c.in_ok-bring.ensures.readers;
}

pub returns-clause-ended : goal.returns-clause-ended
returns-clause-ended g c =
    let ge = c.loop-call-test.false in
    let end = c.calls-call-end.ensures in
    let same = ap (λ (s : CompiledScript). length s.calls) c.loop-call.invariant.kept.script in
    all_done c.loop-call.scheduler c.loop-call.call (omega (arith, ge, end, same)) c.loop-call.invariant.done

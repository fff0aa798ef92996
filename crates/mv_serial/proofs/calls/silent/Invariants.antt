use Rattle.std.proofs.Common.{◌≡◌, replicate}
use Rattle.mv_eval.specs.TableAfter.{no_reply}
use Rattle.mv_serial.proofs.calls.silent.Given as goal

abbrev pub invariant-loop-call : goal.invariant-loop-call
invariant-loop-call l = l.replies ≡ replicate l._call no_reply

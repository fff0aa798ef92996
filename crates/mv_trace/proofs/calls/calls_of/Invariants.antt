use Rattle.std.proofs.Common.{◌≡◌, map, take}
use Rattle.mv_trace.proofs.calls.calls_of.Given as goal

abbrev pub invariant-loop-number : goal.invariant-loop-number
invariant-loop-number l = map (λ call. call.bar) l.calls ≡ take l.number l.bars

abbrev pub invariant-loop-before : goal.invariant-loop-before
invariant-loop-before l = map (λ call. call.bar) l.calls ≡ l.bars

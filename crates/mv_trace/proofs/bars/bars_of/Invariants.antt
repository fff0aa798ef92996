use Rattle.std.proofs.Common.{take}
use Rattle.mv_trace.specs.Bars.{AreOpen}
use Rattle.mv_trace.proofs.bars.bars_of.Given as goal

abbrev pub invariant-loop-at : goal.invariant-loop-at
invariant-loop-at l = AreOpen (take l.at l.events) l.bars

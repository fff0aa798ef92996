use Rattle.std.proofs.Common.{take}
use Rattle.mv_repair.specs.Walking.{AreKnown, writes_at}
use Rattle.mv_repair.proofs.touch.learn.Given as goal

abbrev pub invariant-loop-at : goal.invariant-loop-at
invariant-loop-at l = AreKnown l.fn.keys (writes_at l.records (take l.known l.numbers)) → AreKnown l.keys (writes_at l.records (take l.at l.numbers))

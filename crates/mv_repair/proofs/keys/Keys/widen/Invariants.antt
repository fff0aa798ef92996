use Rattle.std.proofs.Common.{◌+◌, ◌-◌, length}
use Rattle.mv_repair.specs.Keys.{KeepsKeys}
use Rattle.mv_repair.proofs.keys.Keys.widen.Given as goal

abbrev pub invariant-loop-alloc : goal.invariant-loop-alloc
invariant-loop-alloc l = KeepsKeys l.fn.self l.self-inside.tables

abbrev pub decreases-loop-alloc : goal.decreases-loop-alloc
decreases-loop-alloc l = l.table + 1 - length l.self-inside.tables

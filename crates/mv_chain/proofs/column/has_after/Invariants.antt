use Rattle.std.proofs.Common.{◌≡◌, drop}
use Rattle.mv_chain.specs.Having.{has_after}
use Rattle.mv_chain.proofs.column.has_after.Given as goal

abbrev pub invariant-loop-item : goal.invariant-loop-item
invariant-loop-item l = has_after l.column l.value (drop l.item-index l.items) l.has ≡ has_after l.column l.value l.items l.had

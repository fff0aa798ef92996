use Rattle.std.proofs.Common.{◌≡◌, drop, map}
use Rattle.mv_ast.specs.Limits.{soonest, together, passes_in}
use Rattle.mv_limits.proofs.late.in_items.Given as goal

abbrev pub invariant-loop-item : goal.invariant-loop-item
invariant-loop-item l = soonest l.best (together (map passes_in (drop l.item-index l.items))) ≡ soonest l.fn.best (together (map passes_in l.items))

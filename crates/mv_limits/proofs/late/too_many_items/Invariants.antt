use Rattle.std.proofs.Common.{◌≡◌, drop}
use Rattle.mv_ast.specs.Limits.{too_many_items}
use Rattle.mv_limits.proofs.late.too_many_items.Given as goal

abbrev pub invariant-loop-item : goal.invariant-loop-item
invariant-loop-item l = too_many_items l.which l.left (drop l.item-index l.items) ≡ too_many_items l.which l.most l.items

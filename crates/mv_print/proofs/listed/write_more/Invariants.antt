use Rattle.std.proofs.Common.{◌≡◌, ◌∷◌, map, drop}
use Rattle.mv_ast.specs.Limits.{together}
use Rattle.mv_print.specs.Printing.{written, key}
use Rattle.mv_print.proofs.listed.write_more.Given as goal

abbrev pub invariant-loop-item : goal.invariant-loop-item
invariant-loop-item g l =
    written l.text (together (map (λ y. key l.mark ∷ g.T.Printed.pieces y) (drop l.item-index l.items))) ≡ written l.fn.text (together (map (λ y. key l.mark ∷ g.T.Printed.pieces y) l.items))

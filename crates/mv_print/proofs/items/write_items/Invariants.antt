use Rattle.std.proofs.Common.{◌≡◌, map, drop}
use Rattle.mv_ast.specs.Limits.{together}
use Rattle.mv_print.specs.Printing.{written, pieces_of}
use Rattle.mv_print.proofs.items.write_items.Given as goal

abbrev pub invariant-loop-item : goal.invariant-loop-item
invariant-loop-item l = written l.text (together (map (pieces_of l.bytes) (drop l.item-index l.items))) ≡ written l.fn.text (together (map (pieces_of l.bytes) l.items))

use Rattle.std.proofs.Common.{◌≡◌, map, drop}
use Rattle.mv_ast.specs.Limits.{together}
use Rattle.mv_print.specs.Printing.{written}
use Rattle.mv_print.proofs.listed.write_all.Given as goal

abbrev pub invariant-loop-item : goal.invariant-loop-item
invariant-loop-item g l = written l.text (together (map g.T.Printed.pieces (drop l.item-index l.items))) ≡ written l.fn.text (together (map g.T.Printed.pieces l.items))

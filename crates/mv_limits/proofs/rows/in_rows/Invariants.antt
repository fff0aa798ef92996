use Rattle.std.proofs.Common.{◌≡◌, drop, map}
use Rattle.mv_ast.specs.Limits.{soonest, together, row_passes}
use Rattle.mv_limits.proofs.rows.in_rows.Given as goal

abbrev pub invariant-loop-row : goal.invariant-loop-row
invariant-loop-row l = soonest l.best (together (map row_passes (drop l.row-index l.rows))) ≡ soonest l.fn.best (together (map row_passes l.rows))

use Rattle.mv_draw.specs.Rows.{AreRows}
use Rattle.mv_draw.proofs.rows.rows_of.Given as goal

abbrev pub invariant-loop-number : goal.invariant-loop-number
invariant-loop-number l = AreRows l.number l.rows.text

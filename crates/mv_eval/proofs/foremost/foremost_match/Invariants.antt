use Rattle.std.proofs.Common.{◌≡◌, length}
use Rattle.mv_values.specs.Keys.{stored}
use Rattle.mv_table.specs.Scans.{foremost}
use Rattle.mv_eval.specs.Rows.{matching}
use Rattle.mv_eval.proofs.foremost.foremost_match.Given as goal

abbrev pub invariant-loop-key : goal.invariant-loop-key
invariant-loop-key l = foremost l.direction (matching l.tests (stored l.left)) ≡ foremost l.direction (matching l.tests (stored l.fn.rows))

abbrev pub decreases-loop-key : goal.decreases-loop-key
decreases-loop-key l = length l.left

use Rattle.std.proofs.Common.{◌≡◌, ◌++◌, ◌+◌, ◌≤◌, length}
use Rattle.mv_values.specs.Keys.{IsRising}
use Rattle.mv_values.specs.Patching.{found_by}
use Rattle.mv_values.specs.Tables.{rows_at}
use Rattle.mv_index.specs.Forms.{several, left}
use Rattle.mv_index.proofs.Asked.{OnlyCounts}
use Rattle.mv_index.proofs.Finding.{found_under}
use Rattle.mv_index.proofs.look.rows_among.Given as goal

abbrev pub invariant-loop-key : goal.invariant-loop-key
invariant-loop-key g l =
    let sight = g.V.View.sight in
    record {
      rows : l.rows ++ found_under l.pred (rows_at (sight l.fn.view).database l.pred.table) (left l.left) ≡ found_by l.pred (sight l.fn.view).database;
      rising : IsRising (found_by l.pred (sight l.fn.view).database);
      same : OnlyCounts (sight l.fn.view) (sight l.view);
      for_rows : (sight l.view).rows_calls ≤ (sight l.fn.view).rows_calls;
      for_row : (sight l.view).row_calls + length (left l.left) ≤ (sight l.fn.view).row_calls + length (several l.keys);
    }

abbrev pub decreases-loop-key : goal.decreases-loop-key
decreases-loop-key g l = length (left l.left)

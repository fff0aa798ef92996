use Rattle.std.proofs.Common.{◌≡◌, ◌+ℤ◌, ◌≤ℤ◌, ◌*◌, ◌^◌, drop, map, pos, neg_ℤ}
use Rattle.mv_eval.specs.Rows.{column, sum_of}
use Rattle.mv_eval.proofs.totals.sum_in.Given as goal

abbrev pub invariant-loop-item : goal.invariant-loop-item
invariant-loop-item g l = record {
  so_far : l.sum +ℤ sum_of (column l.c (map g.R.Stored.keyed (drop l.item-index l.rows))) ≡ sum_of (column l.c (map g.R.Stored.keyed l.rows));
  low : neg_ℤ (pos (l.item-index * 2 ^ 63)) ≤ℤ l.sum;
  high : l.sum ≤ℤ pos (l.item-index * 2 ^ 63);
}

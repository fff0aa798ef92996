use Rattle.std.proofs.Common.{◌≡◌, drop}
use Rattle.mv_eval.specs.Rows.{sort_order}
use Rattle.mv_eval.proofs.order.compare.Given as goal

abbrev pub invariant-loop-sort : goal.invariant-loop-sort
invariant-loop-sort g l = sort_order (drop l.sort-index l.sorts) (g.R.Stored.keyed l.a) (g.R.Stored.keyed l.b) ≡ sort_order l.sorts (g.R.Stored.keyed l.a) (g.R.Stored.keyed l.b)

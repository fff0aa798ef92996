use Rattle.std.proofs.Common.{◌≡◌, ◌++◌, drop, map}
use Rattle.mv_eval.proofs.order.references.Given as goal

abbrev pub invariant-loop-row : goal.invariant-loop-row
invariant-loop-row g l = map (λ r. g.R.Stored.keyed r.now) l.all.items ++ map g.R.Stored.keyed (drop l.row-index l.rows) ≡ map g.R.Stored.keyed l.rows

use Rattle.std.proofs.Common.{◌≡◌, ◌++◌, drop, map}
use Rattle.mv_eval.specs.Rows.{projected}
use Rattle.mv_eval.proofs.fixing.projections.Given as goal

abbrev pub invariant-loop-item : goal.invariant-loop-item
invariant-loop-item g l = l.all ++ projected l.columns (map (λ r. g.R.Stored.keyed r.now) (drop l.item-index l.items)) ≡ projected l.columns (map (λ r. g.R.Stored.keyed r.now) l.items)

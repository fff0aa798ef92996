use Rattle.std.proofs.Common.{◌≡◌, ◌++◌, None, drop, map}
use Rattle.std.specs.Option.{option_copied, option_map}
use Rattle.mv_values.specs.Columns.{columns_of}
use Rattle.mv_eval.specs.Rows.{projected}
use Rattle.mv_eval.specs.Once.{once_each}
use Rattle.mv_eval.proofs.fixing.without_repeats.Given as goal

abbrev pub invariant-loop-item : goal.invariant-loop-item
invariant-loop-item g l =
    l.all ++ once_each (option_map (λ i. columns_of (g.R.Stored.keyed i).row l.columns) (option_copied l.before)) (projected l.columns (map (λ r. g.R.Stored.keyed r.now) (drop l.item-index l.items)))
    ≡ once_each None (projected l.columns (map (λ r. g.R.Stored.keyed r.now) l.items))

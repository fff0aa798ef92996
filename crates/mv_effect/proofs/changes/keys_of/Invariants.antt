use Rattle.std.proofs.Common.{◌≡◌, ◌++◌, drop}
use Rattle.mv_values.specs.Keys.{keys}
use Rattle.mv_effect.proofs.changes.keys_of.Given as goal

abbrev pub invariant-loop-item : goal.invariant-loop-item
invariant-loop-item l = l.all ++ keys (drop l.item-index l.rows) ≡ keys l.rows

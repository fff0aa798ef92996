use Rattle.std.proofs.Common.{◌≡◌, length}
use Rattle.mv_undo.specs.Indexing.{AreLast}
use Rattle.mv_undo.specs.Taking.{sought_keys}
use Rattle.mv_undo.proofs.ends.first_sought.Given as goal

abbrev pub invariant-loop-place : goal.invariant-loop-place
invariant-loop-place l = record {
  last : AreLast l.items l.left;
  same : sought_keys l.pred l.number l.items l.left ≡ sought_keys l.pred l.number l.items l.places;
}

abbrev pub decreases-loop-place : goal.decreases-loop-place
decreases-loop-place l = length l.left

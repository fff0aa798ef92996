use Rattle.std.proofs.Common.{◌≡◌, ◌++◌, drop}
use Rattle.mv_changes.specs.Drafting.{by_place, differing}
use Rattle.mv_changes.proofs.commit.copy_differing.Given as goal

abbrev pub invariant-loop-change : goal.invariant-loop-change
invariant-loop-change l = l.listed ++ differing (by_place (drop l.change-index l.changes)) ≡ differing (by_place l.changes)

use Rattle.mv_changes.proofs.Placing.{all_listed}
use Rattle.mv_changes.proofs.commit.copy_differing.Goals as goal

pub of-requires : goal.of-requires
of-requires c = all_listed c.args.changes.now c.loop-change.listed c.loop-change.change-index c.requires c.loop-change-test.false c.loop-change.invariant

use Rattle.std.proofs.Common.{ap, ◌∙◌}
use Rattle.mv_changes.specs.Drafting.{differing}
use Rattle.mv_audit.proofs.changes.differing.Goals as goal

pub loop-place-init : goal.loop-place-init
loop-place-init c = record {
  can = tt;
  ends = tt;
  whole = rw c.new-listed.ensures (ap differing (c.into_iter-place-iterator.ensures.into_iter_gives ∙ c.into_entries-place-items.ensures.items));
}

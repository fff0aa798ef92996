use Rattle.std.proofs.Common.{◌++◌, List, take}
use Rattle.mv_values.specs.declared.patch.Write.{Write}
use Rattle.mv_repair.specs.Walking.{AreKnown}
use Rattle.mv_repair.proofs.touch.add_keys.Given as goal

abbrev pub invariant-loop-write : goal.invariant-loop-write
invariant-loop-write l = (vs : List Write) → AreKnown l.fn.keys vs → AreKnown l.keys (vs ++ take l.write-index l.writes)

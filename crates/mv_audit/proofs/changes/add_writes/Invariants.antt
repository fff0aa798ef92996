use Rattle.std.proofs.Common.{◌++◌, List, take}
use Rattle.mv_values.specs.declared.patch.Write.{Write}
use Rattle.mv_changes.specs.Drafting.{IsDraft}
use Rattle.mv_audit.proofs.changes.add_writes.Given as goal

abbrev pub invariant-loop-write : goal.invariant-loop-write
invariant-loop-write l = (ws : List Write) → IsDraft l.fn.changes ws l.tables → IsDraft l.changes (ws ++ take l.write-index l.writes) l.tables

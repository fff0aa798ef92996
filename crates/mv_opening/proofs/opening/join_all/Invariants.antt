use Rattle.std.proofs.Common.{◌≡◌, All, length, take}
use Rattle.std.proofs.Common.{List as Seq}
use Rattle.mv_values.specs.Keys.{IsRising}
use Rattle.mv_values.specs.declared.rows.Keyed.{Keyed}
use Rattle.mv_opening.specs.Opening.{HaveCopied, HaveGathered}
use Rattle.mv_opening.proofs.opening.join_all.Given as goal

abbrev pub invariant-loop-copy : goal.invariant-loop-copy
invariant-loop-copy l = (gathered : Seq (Seq Keyed))
    × HaveGathered l.resolved.tables l.resolved.rows gathered
    × HaveCopied l.resolved.tables l.bytes gathered (take l.copy-index l.resolved.copies) l.tables
    × (length l.tables ≡ length l.resolved.tables)
    × All IsRising l.tables

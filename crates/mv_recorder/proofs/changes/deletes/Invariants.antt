use Rattle.std.proofs.Common.{◌≡◌, ◌++◌, drop, map}
use Rattle.mv_values.specs.declared.patch.Patch.TheVariants.{Delete}
use Rattle.mv_table.specs.Entries.{seen}
use Rattle.mv_recorded.specs.Doing.{write}
use Rattle.mv_recorder.proofs.changes.deletes.Given as goal

abbrev pub invariant-loop-entry : goal.invariant-loop-entry
invariant-loop-entry l = l.writes ++ map (λ item. write l.table item.key Delete) (map seen (drop l.entry-index l.rows)) ≡ map (λ item. write l.table item.key Delete) (map seen l.rows)

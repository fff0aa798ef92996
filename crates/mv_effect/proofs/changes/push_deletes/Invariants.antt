use Rattle.std.proofs.Common.{◌≡◌, ◌++◌, drop, map}
use Rattle.mv_values.specs.declared.patch.Patch.TheVariants.{Delete}
use Rattle.mv_recorded.specs.Doing.{write}
use Rattle.mv_effect.specs.Logging.{with_writes}
use Rattle.mv_effect.proofs.changes.push_deletes.Given as goal

abbrev pub invariant-loop-item : goal.invariant-loop-item
invariant-loop-item l = record {
  rest : l.log ≡ with_writes l.fn.log l.log.effect.writes;
  writes : l.log.effect.writes ++ map (λ item. write l.table item.key Delete) (drop l.item-index l.rows) ≡ map (λ item. write l.table item.key Delete) l.rows;
}

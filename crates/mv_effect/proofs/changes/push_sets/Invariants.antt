use Rattle.std.proofs.Common.{◌≡◌, ◌++◌, Ok, drop}
use Rattle.mv_eval.specs.Results.{then_do}
use Rattle.mv_recorded.specs.Effects.{changes, new_of}
use Rattle.mv_effect.specs.Logging.{with_writes}
use Rattle.mv_effect.proofs.changes.push_sets.Given as goal

abbrev pub invariant-loop-item : goal.invariant-loop-item
invariant-loop-item l = record {
  rest : l.log ≡ with_writes l.fn.log l.log.effect.writes;
  writes :
      then_do (changes l.update.table l.update.items.now (new_of l.context.tables.now l.update.table l.context.env.now l.update.items.now) (drop l.item-index l.rows)) (λ ws. Ok (l.log.effect.writes ++ ws))
      ≡ changes l.update.table l.update.items.now (new_of l.context.tables.now l.update.table l.context.env.now l.update.items.now) l.rows;
}

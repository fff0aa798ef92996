-- What an aggregate does with the rows that it finds.
use Rattle.std.specs.Prelude.{ℕ, List}
use Rattle.mv_values.specs.declared.rows.Keyed.{Keyed}
use Rattle.mv_values.specs.declared.pred.Pred.{Pred}
use Rattle.mv_catalog.specs.declared.resolved.RAgg.{RAgg}
use Rattle.mv_eval.specs.declared.state.Env.{Env}
use Rattle.mv_eval.specs.Rows.{aggregate, is_some_row}
use Rattle.mv_record.specs.declared.effect.Effect.{Effect}
use Rattle.mv_recorded.specs.Effects.{effect_after, effect_of_aggregate}

-- the effect of an aggregate that asked this and found these rows
abbrev pub total_asked : RAgg → ℕ → Pred → List Keyed → Env → Effect
total_asked agg x pred rows env = effect_after pred (aggregate agg rows) (λ total. effect_of_aggregate pred x total (is_some_row rows) env)

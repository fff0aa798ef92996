-- What a statement is executed on, and what an attempt to find its effect gives.
use Rattle.std.specs.Prelude.{◌<◌, ◌≤◌, ◌^◌, ◌≡◌, List, [], ◌∷◌, length, All, Result, Ok, Err}
use Rattle.mv_values.specs.declared.pred.Pred.{Pred}
use Rattle.mv_values.specs.declared.schema.TableInfo.{TableInfo}
use Rattle.mv_values.specs.Tables.{Tables, KeysStand}
use Rattle.mv_catalog.specs.Text.{IsTable, HaveParents}
use Rattle.mv_eval.specs.declared.state.Env.{Env}
use Rattle.mv_eval.specs.declared.state.Stop.{Stop}
use Rattle.mv_eval.specs.declared.state.Stop.TheVariants.{Memory, Ended}
use Rattle.mv_record.specs.declared.effect.Effect.{Effect}
use Rattle.mv_record.specs.Writes.{AreRising}
use Rattle.mv_recorded.specs.Effects.{only_end}

-- the tables of a program, and a database of theirs, in which each row stands under its own key and the keys rise
pub record AreSound (infos : List TableInfo) (db : Tables) : Type 0 where
  pub few : length infos ≤ 64
  pub each : All IsTable infos
  pub parents : HaveParents infos
  pub keys : KeysStand infos db
  pub rising : AreRising db

-- so they are, and `:found` has one of the numbers that statements can name
pub record IsSound (infos : List TableInfo) (env : Env) (db : Tables) : Type 0 where
  pub tables : AreSound infos db
  pub found : env.found < 2 ^ 16

-- the effect of a statement that asked this and then was stopped; where memory ran out there is none
abbrev pub EndsBy : Pred → Stop → Effect → Type 0
EndsBy pred Memory effect = ⊥
EndsBy pred (Ended end) effect = effect ≡ only_end (pred ∷ []) end

-- the effect, or the end of a statement that asked nothing before it ended; nothing where memory ran out
abbrev pub Finds : Result Effect Stop → (Effect → Type 0) → Type 0
Finds (Ok effect) Is = Is effect
Finds (Err Memory) Is = Unit {0}
Finds (Err (Ended end)) Is = Is (only_end [] end)

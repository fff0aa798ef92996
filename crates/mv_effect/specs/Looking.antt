-- What a statement may be executed on, and how it uses its view.
use Rattle.std.specs.Prelude.{◌≡◌, ◌≤◌, ◌<◌, ◌+◌, ◌*◌, ◌^◌, ℕ, suc, List, [], ◌∷◌, length, Result, Ok, Err, All, if◌then◌else◌}
use Rattle.mv_values.specs.declared.rows.Keyed.{Keyed}
use Rattle.mv_values.specs.declared.pred.Pred.{Pred}
use Rattle.mv_values.specs.declared.patch.Write.{Write}
use Rattle.mv_values.specs.declared.schema.TableInfo.{TableInfo}
use Rattle.mv_values.specs.Patching.{applied}
use Rattle.mv_values.specs.Tables.{KeysStand}
use Rattle.mv_values.specs.Counts.{one_more}
use Rattle.mv_catalog.specs.declared.resolved.RStmt.{RStmt, out-RStmt}
use Rattle.mv_catalog.specs.declared.resolved.RStmt.TheOpen.{RStmt-F}
use Rattle.mv_catalog.specs.Text.{IsTable, HaveParents}
use Rattle.mv_eval.specs.declared.state.Env.{Env}
use Rattle.mv_record.specs.Databases.{IsDatabaseOf}
use Rattle.mv_recorded.specs.Asking.{preds_of}
use Rattle.mv_undo.specs.Owning.{touches}
use Rattle.mv_view.specs.Viewing.{Sight, MayAnswer}
use Rattle.mv_view.specs.declared.view.Refused.{Refused}
use Rattle.mv_view.specs.declared.view.Refused.TheVariants.{NoMemory, Stale}
use Rattle.mv_recorded.specs.Naming.{NamesColumns}

-- the tables of a program, and a database of them before these writes and after them
pub record AreSoundTables (tables : List TableInfo) (ws : List Write) (db : List (List Keyed)) : Type 0 where
  pub few : length tables ≤ 64
  pub each : All IsTable tables
  pub parents : HaveParents tables
  pub database : IsDatabaseOf tables db
  pub behind : KeysStand tables (applied ws db)

-- a statement may be executed with these variables, after these writes to a database
pub record IsExecutable (tables : List TableInfo) (s : RStmt) (env : Env) (ws : List Write) (db : List (List Keyed)) : Type 0 where
  pub stands : AreSoundTables tables ws db
  pub names : NamesColumns tables (out-RStmt s)
  pub found : env.found < 2 ^ 16

-- how many different keys the writes are on
abbrev pub different : List Write → ℕ
different [] = 0
different (w ∷ ws) = if touches w.table w.key ws then different ws else suc (different ws)

-- it is the same view, of the same database
pub record IsSameView (before after : Sight) : Type 0 where
  pub database : after.database ≡ before.database
  pub start : after.start ≡ before.start
  pub may_be_stale : after.may_be_stale ≡ before.may_be_stale

-- the view never answered Stale
pub record WasNeverStale (before after : Sight) : Type 0 where
  pub answers : after.stale_answers ≡ before.stale_answers
  pub last_low : after.last_low ≡ before.last_low

-- the view answered Stale once, with this low
pub record WasStale (low : ℕ) (before after : Sight) : Type 0 where
  pub answers : after.stale_answers ≡ one_more before.stale_answers
  pub last_low : after.last_low ≡ low

-- the result is Stale exactly if an answer of the view was, and has the same low
abbrev pub PassesOn : {A : Type 0} → Sight → Sight → Result A Refused → Type 0
PassesOn before after (Ok x) = WasNeverStale before after
PassesOn before after (Err NoMemory) = WasNeverStale before after
PassesOn before after (Err (Stale start low)) = WasStale low before after

-- the view was only asked: it is the same view, and the result is Stale exactly if an answer of the view was, and then
-- as it may be
pub record OnlyAsks {A : Type 0} (before after : Sight) (result : Result A Refused) : Type 0 where
  pub same : IsSameView before after
  pub may_refuse : MayAnswer before after result
  pub passes_on : PassesOn before after result

-- the view got at most so many calls of `rows` or `foremost`, and of `row`
pub record AskedAtMost (rows row : ℕ) (before after : Sight) : Type 0 where
  pub for_rows : after.rows_calls ≤ before.rows_calls + rows
  pub for_row : after.row_calls ≤ before.row_calls + row

-- the view was asked at most once for each of these predicates, and then for each key that earlier writes are on
abbrev pub AskedFor : List Pred → List Write → Sight → Sight → Type 0
AskedFor preds ws before after = AskedAtMost (length preds) (length preds * different ws) before after

-- the view was asked so for the predicates of the statement with these variables, after these writes, whatever lines come
-- before it
abbrev pub AskedBy : List TableInfo → RStmt-F RStmt → Env → List Write → Sight → Sight → Type 0
AskedBy tables s env ws before after = (lines : List (List ℕ)) → AskedFor (preds_of tables s (record { env = env; tables = applied ws before.database; lines = lines })) ws before after

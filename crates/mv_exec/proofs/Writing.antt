-- A call's own writes are those of its records.
use Rattle.std.proofs.Common.{◌≡◌, List, length, refl, sym, ap, subst, ◌∙◌, arith}
use Rattle.std.proofs.lemmas.List.{take_all}
use Rattle.mv_values.specs.declared.schema.TableInfo.{TableInfo}
use Rattle.mv_values.specs.Patching.{applied}
use Rattle.mv_values.specs.Tables.{KeysStand, Tables}
use Rattle.mv_record.specs.Runs.{writes_in}
use Rattle.mv_log.specs.Logged.{owned}
use Rattle.mv_undo.specs.Owning.{earlier}
use Rattle.mv_undo.proofs.Writing.{has_writes}
use Rattle.mv_exec.specs.declared.task.Task.{Task}

-- before the next statement the own writes of a call are those of all records
pub own_writes : (task : Task) → earlier (length task.log.records) (owned task.log) ≡ writes_in task.log.records
own_writes task = has_writes (owned task.log) task.log.records refl (length task.log.records) (omega arith) ∙ ap writes_in (take_all (length task.log.records) task.log.records (omega arith))

-- behind them the keys stand
pub keys_before : (tables : List TableInfo) (task : Task) (db : Tables) → KeysStand tables (applied (writes_in task.log.records) db)
    → KeysStand tables (applied (earlier (length task.log.records) (owned task.log)) db)
keys_before tables task db h = subst (λ ws. KeysStand tables (applied ws db)) (sym (own_writes task)) h

-- The effect of each kind of statement, computed from its predicates and the rows they found.
use Rattle.std.specs.Prelude.{◌≡◌, ℕ, ℤ, Bool, ◌++◌, List, [], ◌∷◌, Option, Some, None, Result, Ok, Err, map}
use Rattle.std.specs.Option.{is_some}
use Rattle.mv_values.specs.declared.value.Value.{Value}
use Rattle.mv_values.specs.declared.patch.Write.{Write}
use Rattle.mv_values.specs.declared.pred.Pred.{Pred}
use Rattle.mv_values.specs.declared.rows.Keyed.{Keyed}
use Rattle.mv_values.specs.declared.schema.TableInfo.{TableInfo}
use Rattle.mv_values.specs.declared.calls.End.{End}
use Rattle.mv_values.specs.declared.patch.Patch.TheVariants.{Insert}
use Rattle.mv_values.specs.Tables.{columns_at, key_columns}
use Rattle.mv_values.specs.Columns.{number}
use Rattle.mv_catalog.specs.declared.resolved.RStmt.{RStmt}
use Rattle.mv_catalog.specs.declared.resolved.RStmt.TheOpen.{RStmt-F}
use Rattle.mv_catalog.specs.declared.resolved.RExpr.{RExpr}
use Rattle.mv_catalog.specs.declared.resolved.RSetItem.{RSetItem}
use Rattle.mv_catalog.specs.declared.resolved.RCond.{RCond}
use Rattle.mv_eval.specs.Results.{then_do}
use Rattle.mv_eval.specs.declared.state.Env.{Env}
use Rattle.mv_eval.specs.Env.{scalar_at, with_found}
use Rattle.mv_eval.specs.Alone.{offset_of, with_selected, totalled, is_turn}
use Rattle.mv_eval.specs.Rows.{tests_of}
use Rattle.mv_eval.specs.Changes.{set_row, keyed}
use Rattle.mv_record.specs.declared.record.Slot.{Slot}
use Rattle.mv_recorded.specs.Asking.{pred_of}
use Rattle.mv_recorded.specs.Reading.{each_once}
use Rattle.mv_recorded.specs.Doing.{effect_of, when, write, set_patch}
use Rattle.mv_record.specs.declared.effect.Effect.{Effect}

-- the effect of the statement with these variables on a database, whatever lines come before it
abbrev pub IsEffect : List TableInfo → RStmt-F RStmt → Env → List (List Keyed) → Effect → Type 0
IsEffect tables s env db effect = (lines : List (List ℕ)) → effect ≡ effect_of tables s (record { env = env; tables = db; lines = lines })

-- the effect of the statement with these variables on any tables and any database
abbrev pub IsEffectAnywhere : RStmt-F RStmt → Env → Effect → Type 0
IsEffectAnywhere s env effect = (tables : List TableInfo) (db : List (List Keyed)) → IsEffect tables s env db effect

-- no effect
abbrev pub empty : Effect
empty = record { preds = []; sets = []; rows = []; writes = []; line = None; end = None }

-- a statement that only queries
abbrev pub only_asks : Pred → Effect
only_asks pred = record empty { preds = pred ∷ [] }

-- a statement that only queries, then ends the call
abbrev pub only_end : List Pred → End → Effect
only_end preds e = record { preds = preds; sets = []; rows = []; writes = []; line = None; end = Some e }

-- a statement after its query: its effect if there is a value, or its end
abbrev pub effect_after : {A : Type 0} → Pred → Result A End → (A → Effect) → Effect
effect_after pred (Ok x) go = go x
effect_after pred (Err e) go = only_end (pred ∷ []) e

-- variables with their values after a statement
abbrev pub slots_behind : Env → List ℕ → List Slot
slots_behind env xs = map (λ x. record { slot = x; value = scalar_at env x }) xs

-- the predicate of a statement, if the right sides of WHERE have values
abbrev pub asks : List TableInfo → ℕ → List RCond → List ℕ → Env → Result Pred End
asks tables t conds cs env = then_do (tests_of (key_columns tables t) conds env) (λ tests. Ok (pred_of t tests cs))

-- the predicate of a statement and a value that it needs before it queries, or its effect if it ends before
abbrev pub pred_with : {A B : Type 0} → Result A End → Result B End → Result (A × B) Effect
pred_with (Ok a) (Ok b) = Ok (a, b)
pred_with (Ok a) (Err e) = Err (only_end [] e)
pred_with (Err e) b = Err (only_end [] e)

-- the number of the row that a SELECT takes
abbrev pub row_number : Option RExpr → Env → Result ℤ End
row_number offset env = then_do (offset_of offset env) (λ v. Ok (number v))

-- a statement after its query that takes this row
abbrev pub effect_of_select : Pred → List ℕ → List ℕ → Option Keyed → Env → Effect
effect_of_select pred cs xs item env = record (only_asks pred) { sets = slots_behind (with_selected cs xs item env) (when (is_some item) (each_once xs) ++ env.found ∷ []) }

-- a statement after its query that stores this aggregate
abbrev pub effect_of_aggregate : Pred → ℕ → Option Value → Bool → Env → Effect
effect_of_aggregate pred x total found env = record (only_asks pred) { sets = slots_behind (with_found (totalled x total env) found) (when (is_some total) (x ∷ []) ++ env.found ∷ []) }

-- a statement after its query that iterates over these rows
abbrev pub effect_of_loop : Pred → List (List Value) → Env → Effect
effect_of_loop pred turns env = record (only_asks pred) { sets = slots_behind (with_found env (is_turn turns)) (env.found ∷ []); rows = turns }

-- a statement after its queries that makes these writes; the flag tells whether it found a row
abbrev pub effect_of_writes : List Pred → Bool → List Write → Env → Effect
effect_of_writes preds found ws env = record empty { preds = preds; sets = slots_behind (with_found env found) (env.found ∷ []); writes = ws }

-- the same unless a check failed
abbrev pub effect_unless : Option End → List Pred → Bool → List Write → Env → Effect
effect_unless None preds found ws env = effect_of_writes preds found ws env
effect_unless (Some e) preds found ws env = only_end preds e

-- the writes of SET to rows, or the first fault
abbrev pub changes : ℕ → List RSetItem → (List Value → Result (List Value) End) → List Keyed → Result (List Write) End
changes t items new [] = Ok []
changes t items new (item ∷ rest) = then_do (new item.row) (λ row. then_do (changes t items new rest) (λ ws. Ok (write t item.key (set_patch items row) ∷ ws)))

-- a row of a table after SET
abbrev pub new_of : List TableInfo → ℕ → Env → List RSetItem → List Value → Result (List Value) End
new_of tables t env items row = set_row (columns_at tables t) (key_columns tables t) env row items row

-- the write of an INSERT
abbrev pub inserted : List TableInfo → ℕ → List Value → List Write
inserted tables t row = write t (keyed (key_columns tables t) row).key (Insert row) ∷ []

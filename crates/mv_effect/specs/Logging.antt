-- Logs whose open effect alone changes.
use Rattle.std.specs.Prelude.{◌≡◌, List, []}
use Rattle.mv_values.specs.declared.value.Value.{Value}
use Rattle.mv_values.specs.declared.pred.Pred.{Pred}
use Rattle.mv_values.specs.declared.patch.Write.{Write}
use Rattle.mv_record.specs.declared.record.Slot.{Slot}
use Rattle.mv_log.specs.Logged.{Logged, no_effect}

-- the open effect has nothing yet
pub record IsBlank (log : Logged) : Type 0 where
  pub effect : log.effect ≡ no_effect
  pub tests : log.tests ≡ []
  pub columns : log.columns ≡ []

-- its next predicate has nothing yet
pub record BeginsPred (log : Logged) : Type 0 where
  pub tests : log.tests ≡ []
  pub columns : log.columns ≡ []

-- the log with these as the predicates of its open effect
abbrev pub with_preds : Logged → List Pred → Logged
with_preds log preds = let was = log.effect in record log { effect = record was { preds = preds } }

-- the log without its open effect
abbrev pub without_effect : Logged → Logged
without_effect log = record log { effect = no_effect; tests = []; columns = [] }

-- the log with these as what its open effect sets
abbrev pub with_sets : Logged → List Slot → Logged
with_sets log slots = let was = log.effect in record log { effect = record was { sets = slots } }

-- the log with these as the rows of its open effect
abbrev pub with_rows : Logged → List (List Value) → Logged
with_rows log rows = let was = log.effect in record log { effect = record was { rows = rows } }

-- the log with these as the writes of its open effect
abbrev pub with_writes : Logged → List Write → Logged
with_writes log writes = let was = log.effect in record log { effect = record was { writes = writes } }

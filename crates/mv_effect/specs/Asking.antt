-- Logs whose open effect asks one predicate, and columns that are added once.
use Rattle.std.specs.Prelude.{◌≡◌, ℕ, ℤ, List, [], ◌∷◌, Result, Ok, Err}
use Rattle.mv_values.specs.declared.pred.Pred.{Pred}
use Rattle.mv_eval.specs.declared.state.Stop.{Stop}
use Rattle.mv_recorded.specs.Effects.{only_asks}
use Rattle.mv_log.specs.Logged.{Logged, once_more}

-- the first of these, or one without tests and columns
abbrev pub first_asked : List Pred → Pred
first_asked [] = record { table = 0; tests = []; columns = [] }
first_asked (pred ∷ preds) = pred

-- the predicate that the open effect asks first
abbrev pub asked : Logged → Pred
asked log = first_asked log.effect.preds

-- the open effect asks one predicate, and has nothing else yet
pub record AsksOne (log : Logged) : Type 0 where
  pub effect : log.effect ≡ only_asks (asked log)
  pub tests : log.tests ≡ []
  pub columns : log.columns ≡ []

-- a number with the predicate that was asked before
abbrev pub asked_with : Result ℤ Stop → Pred → Result (Pred × ℤ) Stop
asked_with (Ok number) pred = Ok (pred, number)
asked_with (Err stop) pred = Err stop

-- the columns with more, each unless it stands there
abbrev pub all_once : List ℕ → List ℕ → List ℕ
all_once cs [] = cs
all_once cs (c ∷ more) = all_once (once_more cs c) more

-- the log with these as the columns of its next predicate
abbrev pub with_columns : Logged → List ℕ → Logged
with_columns log cs = record log { columns = cs }

-- the log that asks this predicate, whose tests and columns were added before
abbrev pub asking : Logged → Pred → Logged
asking log pred = record log { effect = only_asks pred; tests = []; columns = [] }

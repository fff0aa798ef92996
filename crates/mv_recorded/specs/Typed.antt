-- Variables whose values have their types.
use Rattle.std.specs.Prelude.{◌≡◌, ℕ, List, Some, All, slice_get}
use Rattle.mv_values.specs.declared.value.Value.{Value}
use Rattle.mv_values.specs.Columns.{column_of}
use Rattle.mv_catalog.specs.Types.{Kind, int, Var, fixed, declared, rows, turn, Vars, kind_of_value}
use Rattle.mv_eval.specs.declared.state.Content.{Content}
use Rattle.mv_eval.specs.declared.state.Env.{Env}
use Rattle.mv_eval.specs.Env.{held_at, scalar_in, turn_in, turns_in}

-- the row has a value of its type for each column, and perhaps more
abbrev pub OfKinds : List Kind → List Value → Type 0
OfKinds ks row = (c : ℕ) (k : Kind) → slice_get ks c ≡ Some k → kind_of_value (column_of row c) ≡ k

-- the variable's value has its type
abbrev pub Holds : Var → Content → Type 0
Holds (fixed k) h = kind_of_value (scalar_in h) ≡ k
Holds (declared k) h = kind_of_value (scalar_in h) ≡ k
Holds (rows ks) h = All (OfKinds ks) (turns_in h)
Holds (turn ks) h = OfKinds ks (turn_in h)

-- each variable has its type, and `:found` is a read-only number
pub record IsEnvOf (vars : Vars) (env : Env) : Type 0 where
  pub holds : (x : ℕ) (v : Var) → vars x ≡ Some v → Holds v (held_at env x)
  pub found : vars env.found ≡ Some (fixed int)

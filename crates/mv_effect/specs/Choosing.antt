-- Which branch an IF chooses.
use Rattle.std.specs.Prelude.{◌≡◌, Bool, [], Ok}
use Rattle.mv_values.specs.declared.value.Value.{Value}
use Rattle.mv_catalog.specs.declared.resolved.RStmt.TheOpen.{RStmt-F, Branch}
use Rattle.mv_eval.specs.declared.state.Env.{Env}
use Rattle.mv_eval.specs.Value.{value_of, is_so}

-- an IF chooses this branch, unless its condition faults
abbrev pub Chooses : {X : Type 0} → Env → Bool → RStmt-F X → Type 0
Chooses env b (Branch e ys ns) = (v : Value) → value_of e env [] ≡ Ok v → b ≡ is_so v
Chooses env b s = Unit {0}

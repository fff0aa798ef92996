-- The variables of a call. This project's own.
use Rattle.std.specs.Prelude.{◌≡◌, ℕ, zero, suc, pos, Bool, List, [], ◌∷◌, drop, slice_index_or, if◌then◌else◌}
use Rattle.mv_values.specs.declared.value.Value.{Value}
use Rattle.mv_values.specs.declared.value.Value.TheVariants.{Int}
use Rattle.mv_values.specs.Columns.{columns_of}
use Rattle.mv_eval.specs.declared.state.Content.{Content}
use Rattle.mv_eval.specs.declared.state.Content.TheVariants.{Scalar, Turn, Turns}
use Rattle.mv_eval.specs.declared.state.Env.{Env}

-- a variable that was never set holds 0
abbrev pub unset : Content
unset = Scalar (Int (pos 0))

abbrev pub held_at : Env → ℕ → Content
held_at env x = slice_index_or env.held x unset

abbrev pub scalar_in : Content → Value
scalar_in (Scalar v) = v
scalar_in (Turn row) = Int (pos 0)
scalar_in (Turns rows) = Int (pos 0)

abbrev pub turn_in : Content → List Value
turn_in (Scalar v) = []
turn_in (Turn row) = row
turn_in (Turns rows) = []

abbrev pub turns_in : Content → List (List Value)
turns_in (Scalar v) = []
turns_in (Turn row) = []
turns_in (Turns rows) = rows

-- the value of a variable
abbrev pub scalar_at : Env → ℕ → Value
scalar_at env x = scalar_in (held_at env x)

-- the row of a loop
abbrev pub turn_at : Env → ℕ → List Value
turn_at env x = turn_in (held_at env x)

-- the rows of a ROWS parameter
abbrev pub turns_at : Env → ℕ → List (List Value)
turns_at env x = turns_in (held_at env x)

-- the list with this at the index; a shorter list is filled up with unset variables
abbrev pub put_at : List Content → ℕ → Content → List Content
put_at [] zero h = h ∷ []
put_at [] (suc x) h = unset ∷ put_at [] x h
put_at (g ∷ gs) zero h = h ∷ gs
put_at (g ∷ gs) (suc x) h = g ∷ put_at gs x h

-- the list with at least this many items
abbrev pub padded : ℕ → List Content → List Content
padded zero hs = hs
padded (suc n) [] = unset ∷ padded n []
padded (suc n) (h ∷ hs) = h ∷ padded n hs

abbrev pub with_held : Env → ℕ → Content → Env
with_held env x h = record env { held = put_at env.held x h }

-- sets a variable
abbrev pub with_value : Env → ℕ → Value → Env
with_value env x v = with_held env x (Scalar v)

-- sets variables in order
abbrev pub with_values : Env → List ℕ → List Value → Env
with_values env [] vs = env
with_values env (x ∷ xs) [] = env
with_values env (x ∷ xs) (v ∷ vs) = with_values (with_value env x v) xs vs

-- the first of these variables were set to the row's columns: to set the others leads to what setting all of them leads to
abbrev pub ArePartlySet : List ℕ → List Value → List ℕ → Env → Env → Type 0
ArePartlySet to row columns old new = (n : ℕ) × (with_values new (drop n to) (columns_of row (drop n columns)) ≡ with_values old to (columns_of row columns))

-- 1 or 0
abbrev pub truth : Bool → Value
truth b = Int (if b then pos 1 else pos 0)

-- sets `:found`
abbrev pub with_found : Env → Bool → Env
with_found env b = with_value env env.found (truth b)

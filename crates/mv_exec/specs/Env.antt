-- Defines the variables of a running call, and its initial ones.
use Rattle.std.specs.Prelude.{◌≡◌, Bool, true, false, ℕ, zero, suc, ◌+◌, max, List, [], ◌∷◌, Option, Some, None, slice_set}
use Rattle.mv_eval.specs.declared.state.Content.{Content}
use Rattle.mv_eval.specs.declared.state.Env.{Env}
use Rattle.mv_eval.specs.declared.state.Content.TheVariants.{Scalar}
use Rattle.mv_eval.specs.Env.{with_held}
use Rattle.mv_record.specs.declared.record.Slot.{Slot}
use Rattle.mv_exec.specs.declared.changes.VariableChange.{VariableChange}

-- the variables of a running call, and those with which it began
pub record CallVariables : Type 0 where
  pub env : Env
  pub initial : Env

-- before a call has set any
abbrev pub at_beginning : Env → CallVariables
at_beginning env = record { env = env; initial = env }

-- what variables held at the beginning: what is kept of them, or else what they hold
abbrev pub restored : List (Option Content) → List Content → List Content
restored [] hs = []
restored (k ∷ ks) [] = []
restored (None ∷ ks) (h ∷ hs) = h ∷ restored ks hs
restored (Some first ∷ ks) (h ∷ hs) = first ∷ restored ks hs

-- a variable was there at the beginning, and nothing is kept of it
abbrev pub is_unset : Option (Option Content) → Bool
is_unset None = false
is_unset (Some None) = true
is_unset (Some (Some first)) = false

-- the variable set to what is kept of it
abbrev pub set_back : List Content → ℕ → Option Content → List Content
set_back hs x None = hs
set_back hs x (Some first) = slice_set hs x first

-- nothing is kept of the first variables
abbrev pub AreNone : ℕ → List (Option Content) → Type 0
AreNone zero ks = Unit {0}
AreNone (suc n) [] = Unit {0}
AreNone (suc n) (k ∷ ks) = (k ≡ None) × AreNone n ks

-- variables set, in order
abbrev pub with_changes : List VariableChange → Env → Env
with_changes [] env = env
with_changes (c ∷ cs) env = with_changes cs (with_held env c.slot c.held)

-- the same of the variables of a running call
abbrev pub with_changed : List VariableChange → CallVariables → CallVariables
with_changed cs vs = record vs { env = with_changes cs vs.env }

-- as many variables as changes need
abbrev pub room : List VariableChange → ℕ
room [] = 0
room (c ∷ cs) = max (c.slot + 1) (room cs)

abbrev pub of_slot : Slot → VariableChange
of_slot s = record { slot = s.slot; held = Scalar s.value }

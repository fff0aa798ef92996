-- The first fault of a script: the one at the least token, and there of the first kind. This project's own rule.
use Rattle.std.specs.Prelude.{◌≡◌, ℕ, Bool, true, false, ◌&&◌, ◌||◌, List, [], ◌∷◌, ◌++◌, Option, Some, None, nat_lt, ◌==◌, All}
use Rattle.mv_names.specs.declared.fault.TokenFault.{TokenFault}
use Rattle.mv_names.specs.declared.fault.FaultKind.{FaultKind}
use Rattle.mv_names.specs.declared.fault.FaultKind.TheVariants.{UnknownName, DoubleName, WrongType, KeyAssigned, Late, Writes}

-- the order of the kinds
abbrev pub rank : FaultKind → ℕ
rank UnknownName = 0
rank DoubleName = 1
rank WrongType = 2
rank KeyAssigned = 3
rank Late = 4
rank Writes = 5

abbrev pub is_before : TokenFault → TokenFault → Bool
is_before f g = nat_lt f.token g.token || (f.token == g.token && nat_lt (rank f.kind) (rank g.kind))

-- the fault is the first: it is one of the faults, and no other is before it
abbrev pub IsFirst : List TokenFault → TokenFault → Type 0
IsFirst faults f = (front : List TokenFault) × (back : List TokenFault) × (faults ≡ front ++ f ∷ back) × All (λ g. is_before g f ≡ false) faults

-- the first fault, or none if there are no faults
abbrev pub IsFirstOf : List TokenFault → Option TokenFault → Type 0
IsFirstOf faults None = faults ≡ []
IsFirstOf faults (Some f) = IsFirst faults f

-- a fault of each kind, at the token with this number
abbrev pub unknown : ℕ → TokenFault
unknown token = record { token = token; kind = UnknownName }

abbrev pub double : ℕ → TokenFault
double token = record { token = token; kind = DoubleName }

abbrev pub wrong : ℕ → TokenFault
wrong token = record { token = token; kind = WrongType }

abbrev pub key_set : ℕ → TokenFault
key_set token = record { token = token; kind = KeyAssigned }

abbrev pub late : ℕ → TokenFault
late token = record { token = token; kind = Late }

abbrev pub writing : ℕ → TokenFault
writing token = record { token = token; kind = Writes }

-- the fault if the test holds
abbrev pub when : Bool → TokenFault → List TokenFault
when true f = f ∷ []
when false f = []

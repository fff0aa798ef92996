-- Defines which lines are events. The form is this project's own: a letter, and except for a collection one space and
-- the number of the call in decimal digits. Leading zeros are allowed.
use Rattle.std.specs.Prelude.{◌≡◌, ◌+◌, ◌^◌, ◌<◌, ℕ, List, [], ◌∷◌, ◌++◌, length, codes}
use Rattle.std.specs.Str.Parse.{IsNumeral, digits_value}
use Rattle.mv_journal.specs.declared.event.Event.{Event}
use Rattle.mv_journal.specs.declared.event.Event.TheVariants.{B, S, A, M, C, X, R, G}
use Rattle.mv_journal.specs.declared.fault.LineFault.{LineFault}
use Rattle.mv_journal.specs.declared.fault.LineFault.TheVariants.{Line, NoMemory}

-- decimal digits, at least one, for this number, which fits in 32 bits
abbrev pub IsNumber : List ℕ → ℕ → Type 0
IsNumber digits n = IsNumeral 10 digits × (digits_value 10 digits ≡ n) × (n < 2 ^ 32)

-- a prefix, and after it the number of the call
abbrev pub IsNamed : List ℕ → ℕ → List ℕ → Type 0
IsNamed front call line = (digits : List ℕ) × (line ≡ front ++ digits) × IsNumber digits call

-- the line is the event
abbrev pub IsEventLine : List ℕ → Event → Type 0
IsEventLine line (B call) = IsNamed (codes "B ") call line
IsEventLine line (S call) = IsNamed (codes "S ") call line
IsEventLine line (A call) = IsNamed (codes "A ") call line
IsEventLine line (M call) = IsNamed (codes "M ") call line
IsEventLine line (C call) = IsNamed (codes "C ") call line
IsEventLine line (X call) = IsNamed (codes "X ") call line
IsEventLine line (R call) = IsNamed (codes "R ") call line
IsEventLine line G = line ≡ codes "G"

-- each line is the event at its place
abbrev pub AreEventLines : List (List ℕ) → List Event → Type 0
AreEventLines [] [] = Unit {0}
AreEventLines [] (event ∷ events) = ⊥
AreEventLines (line ∷ more) [] = ⊥
AreEventLines (line ∷ more) (event ∷ events) = IsEventLine line event × AreEventLines more events

-- the line with this number is the first that isn't an event; lines are counted from 1
pub record IsFirstBad (all : List (List ℕ)) (number : ℕ) : Type 0 where
  pub front : List (List ℕ)
  pub events : List Event
  pub line : List ℕ
  pub rest : List (List ℕ)
  pub are : all ≡ front ++ line ∷ rest
  pub before : AreEventLines front events
  pub bad : (event : Event) → IsEventLine line event → ⊥
  pub counted : number ≡ length front + 1

abbrev pub TellsFault : List (List ℕ) → LineFault → Type 0
TellsFault all (Line number) = IsFirstBad all number
TellsFault all NoMemory = Unit {0}

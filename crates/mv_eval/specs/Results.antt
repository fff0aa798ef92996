-- Results that stop what comes after them. This project's own.
use Rattle.std.specs.Prelude.{◌≡◌, Result, Ok, Err}
use Rattle.mv_values.specs.declared.calls.End.{End}
use Rattle.mv_eval.specs.declared.state.Stop.{Stop}
use Rattle.mv_eval.specs.declared.state.Stop.TheVariants.{Memory, Ended}

-- goes on with the value, or stops
abbrev pub then_do : {A B : Type 0} → Result A End → (A → Result B End) → Result B End
then_do (Ok x) go = go x
then_do (Err e) go = Err e

-- the end is the one that is meant, unless memory ran out
abbrev pub Fails : {A : Type 0} → Stop → Result A End → Type 0
Fails Memory meant = Unit {0}
Fails (Ended e) meant = meant ≡ Err e

-- the answer is the one that is meant, unless memory ran out
abbrev pub Gives : {A : Type 0} → Result A Stop → Result A End → Type 0
Gives (Ok x) meant = meant ≡ Ok x
Gives (Err s) meant = Fails s meant

-- the same for a function that changes a state in place
abbrev pub Leaves : {A : Type 0} → Result (Unit {0}) Stop → A → Result A End → Type 0
Leaves (Ok x) new meant = meant ≡ Ok new
Leaves (Err s) new meant = Fails s meant

-- what is made of the value that is meant
pub record IsMadeOf {A B : Type 0} (make : A → B) (meant : Result A End) (answer : B) : Type 0 where
  pub value : A
  pub is : meant ≡ Ok value
  pub made : make value ≡ answer

-- the answer is made of the value that is meant, unless memory ran out
abbrev pub Makes : {A B : Type 0} → (A → B) → Result B Stop → Result A End → Type 0
Makes make (Ok answer) meant = IsMadeOf make meant answer
Makes make (Err stop) meant = Fails stop meant

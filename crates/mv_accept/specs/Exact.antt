-- Results that are returned exactly when their cause holds, unless memory runs out.
use Rattle.std.specs.Prelude.{◌≡◌, ◌⊎◌, Result, Ok, Err, IfOk, IfErr, MatchResult}
use Rattle.mv_accept.specs.declared.refusal.ScriptRefusal.{ScriptRefusal}
use Rattle.mv_accept.specs.declared.accept.NotAccepted.{NotAccepted}
use Rattle.mv_accept.specs.declared.accept.NotAccepted.TheVariants.{Refused, NoMemory}

-- the cause of the returned refusal holds
abbrev pub HasCause : (ScriptRefusal → Type 0) → NotAccepted → Type 0
HasCause Causes (Refused refusal) = Causes refusal
HasCause Causes NoMemory = Unit {0}

-- this refusal is returned, or memory ran out
abbrev pub RefusesWith : {A : Type 0} → ScriptRefusal → Result A NotAccepted → Type 0
RefusesWith refusal (Ok x) = ⊥
RefusesWith refusal (Err f) = (f ≡ Refused refusal) ⊎ (f ≡ NoMemory)

-- A returned value is the right one, and a right value is returned. A refusal is returned if and only if its cause
-- holds. Only `NoMemory` may be returned instead of either.
pub record Exact {A : Type 0} (Is : A → Type 0) (Causes : ScriptRefusal → Type 0) (result : Result A NotAccepted) : Type 0 where
  pub found : IfOk result Is
  pub only : (x : A) → Is x → MatchResult result (λ y. y ≡ x) (λ f. f ≡ NoMemory)
  pub refused : IfErr result (HasCause Causes)
  pub told : (refusal : ScriptRefusal) → Causes refusal → RefusesWith refusal result

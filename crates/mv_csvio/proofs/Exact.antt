-- A result that gives what was asked for, or tells a fault: there is one such answer, or one such fault.
use Rattle.std.proofs.Common.{◌≡◌, ◌⊎◌, inl, inr, Result, Ok, Err, ap}
use Rattle.std.specs.Prelude.{MatchResult}

-- where there is an answer, that is given, if there is memory
pub only_one : {A B E : Type 0} (Good : B → Type 0) (Bad : E → Type 0) (none : E) (given : A → B) (result : Result A E)
    → ((x y : B) → Good x → Good y → x ≡ y) → ((x : B) (f : E) → Good x → Bad f → ⊥)
    → MatchResult result (λ a. Good (given a)) (λ f. (f ≡ none) ⊎ Bad f)
    → (x : B) → Good x → MatchResult result (λ a. given a ≡ x) (λ f. f ≡ none)
only_one Good Bad none given (Ok a) once apart is x good = once (given a) x is good
only_one Good Bad none given (Err f) once apart (inl e) x good = e
only_one Good Bad none given (Err f) once apart (inr bad) x good = absurd (apart x f good bad)

-- where there is a fault, that is told, if there is memory
pub only_fault : {A B E : Type 0} (Good : B → Type 0) (Bad : E → Type 0) (none : E) (given : A → B) (result : Result A E)
    → ((f g : E) → Bad f → Bad g → f ≡ g) → ((x : B) (f : E) → Good x → Bad f → ⊥)
    → MatchResult result (λ a. Good (given a)) (λ f. (f ≡ none) ⊎ Bad f)
    → (f : E) → Bad f → (result ≡ Err f) ⊎ (result ≡ Err none)
only_fault Good Bad none given (Ok a) once apart is f bad = absurd (apart (given a) f is bad)
only_fault Good Bad none given (Err g) once apart (inl e) f bad = inr (ap Err e)
only_fault Good Bad none given (Err g) once apart (inr was) f bad = inl (ap Err (once g f was bad))

-- Draws one after another.
use Rattle.std.proofs.Common.{◌≡◌, ◌≢◌, ◌⊎◌, ◌≤◌, ◌<◌, ◌+◌, ◌++◌, ◌∷◌, [], ℕ, Bool, true, false, List, refl, ap, ◌∙◌, add-one, arith}
use Rattle.std.specs.Prelude.{nat_le, nat_lt, ◌==◌, ◌&&◌, if◌then◌else◌}
use Rattle.std.proofs.lemmas.Bool.Decides.{nat_tests}
use Rattle.rand_core.specs.Stream.{Stream}
use Rattle.mv_tpccgen.specs.Draws.{◌>>=◌, each}

pub follows : {A B : Type 0} (draw : Stream → A × Stream) (more : A → Stream → B × Stream) (s t u : Stream) (x : A) (y : B)
    → (x, t) ≡ draw s → (y, u) ≡ more x t → (y, u) ≡ ◌>>=◌ draw more s
unfolding ◌>>=◌
follows {A} draw more s t u x y e f = f ∙ ap (λ (p : A × Stream). more p.0 p.1) e

pub one_way : {A : Type 0} (test : Bool) (one another : Stream → A × Stream) (s : Stream) (drawn : A × Stream)
    → test ≡ true → drawn ≡ one s → drawn ≡ (if test then one else another) s
one_way test one another s drawn is e = rw is e

pub other_way : {A : Type 0} (test : Bool) (one another : Stream → A × Stream) (s : Stream) (drawn : A × Stream)
    → test ≡ false → drawn ≡ another s → drawn ≡ (if test then one else another) s
other_way test one another s drawn is e = rw is e

pub each_more : {A : Type 0} (draw : ℕ → Stream → A × Stream) (count : ℕ) (s t u : Stream) (xs : List A) (x : A)
    → (xs, t) ≡ each draw count s → (x, u) ≡ draw count t → (xs ++ x ∷ [], u) ≡ each draw (count + 1) s
unfolding each
each_more draw count s t u xs x e f = rw (add-one count) (follows _ _ s t u xs (xs ++ x ∷ []) e (follows _ _ t u u x (xs ++ x ∷ []) f refl))

pub le_holds : (a b : ℕ) → a ≤ b → nat_le a b ≡ true
le_holds a b h = grind (arith, nat_tests)

pub le_fails : (a b : ℕ) → b < a → nat_le a b ≡ false
le_fails a b h = grind (arith, nat_tests)

pub eq_holds : (a b : ℕ) → a ≡ b → (a == b) ≡ true
eq_holds a b h = grind (arith, nat_tests)

pub eq_or_lt_fails : (a b c d : ℕ) → ((a ≡ b) × (d ≤ c)) ⊎ (a ≢ b) → ((a == b) && nat_lt c d) ≡ false
eq_or_lt_fails a b c d h = grind (arith, nat_tests)

pub lt_or_lt_fails : (a b c d : ℕ) → ((a < b) × (d ≤ c)) ⊎ (b ≤ a) → (nat_lt a b && nat_lt c d) ≡ false
lt_or_lt_fails a b c d h = grind (arith, nat_tests)

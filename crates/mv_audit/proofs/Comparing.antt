-- Texts without a line in which they differ are equal.
use Rattle.std.proofs.Common.{◌≡◌, ◌+◌, ℕ, Bool, true, false, List, [], ◌∷◌, Some, None, refl, ap, ◌∙◌, if◌then◌else◌}
use Rattle.std.specs.Prelude.{◌==◌}
use Rattle.std.proofs.lemmas.Bool.{eqb-true, eq-eqb}
use Rattle.mv_audit.specs.Verdicts.{difference}

pub same_text : (n : ℕ) (xs ys : List ℕ) → difference n xs ys ≡ None → xs ≡ ys
same_text n [] [] h = refl
same_text n [] (y ∷ ys) h = cc
same_text n (x ∷ xs) [] h = cc
same_text n (x ∷ xs) (y ∷ ys) h = by (x == y) refl h (same_text (if x == 10 then n + 1 else n) xs ys)
  where
    by : (t : Bool) → (x == y) ≡ t → (if t then difference (if x == 10 then n + 1 else n) xs ys else Some n) ≡ None → (difference (if x == 10 then n + 1 else n) xs ys ≡ None → xs ≡ ys) → x ∷ xs ≡ y ∷ ys
    by true e k go = ap (λ (z : ℕ). z ∷ xs) (eqb-true x y e) ∙ ap (λ (l : List ℕ). y ∷ l) (go k)
    by false e k go = cc

pub no_difference : (n : ℕ) (xs : List ℕ) → difference n xs xs ≡ None
no_difference n [] = refl
no_difference n (x ∷ xs) =
    ap (λ t. if t then difference (if x == 10 then n + 1 else n) xs xs else Some n) (eq-eqb x x refl) ∙ no_difference (if x == 10 then n + 1 else n) xs

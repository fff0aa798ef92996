-- Items that are moved out of a list, one after another.
use Rattle.std.proofs.Common.{◌≡◌, ◌≤◌, ◌+◌, ℕ, zero, suc, List, [], ◌∷◌, ◌++◌, Option, Some, length, drop, refl, sym, ap, ◌∙◌, arith, append-nil}
use Rattle.std.specs.Prelude.{slice_get, slice_set}
use Rattle.std.proofs.lemmas.List.{drop_all}

some_same : {X : Type 0} (x y : X) → ◌≡◌ {A = Option X} (Some x) (Some y) → x ≡ y
some_same x y e = cc

-- the item that was moved out, and those after it
left : {X : Type 0} (xs : List X) (i : ℕ) (x blank : X) → slice_get xs i ≡ Some x → drop i xs ≡ x ∷ drop (suc i) (slice_set xs i blank)
left [] i x blank e = cc
left (y ∷ xs) zero x blank e = ap (λ z. z ∷ xs) (some_same y x e)
left (y ∷ xs) (suc i) x blank e = left xs i x blank e

after : {X : Type 0} (done rest : List X) (x : X) → (done ++ x ∷ []) ++ rest ≡ done ++ x ∷ rest
after [] rest x = refl
after (d ∷ done) rest x = ap (λ l. d ∷ l) (after done rest x)

-- one more item was moved
pub moved : {X : Type 0} (done xs whole : List X) (i : ℕ) (x blank : X) → slice_get xs i ≡ Some x → done ++ drop i xs ≡ whole → (done ++ x ∷ []) ++ drop (i + 1) (slice_set xs i blank) ≡ whole
moved done xs whole i x blank e h =
    let next : i + 1 ≡ suc i = omega arith in
    ap (λ n. (done ++ x ∷ []) ++ drop n (slice_set xs i blank)) next ∙ (after done (drop (suc i) (slice_set xs i blank)) x ∙ (ap (λ l. done ++ l) (sym (left xs i x blank e)) ∙ h))

pub moved_len : {X : Type 0} (xs : List X) (i : ℕ) (blank : X) → length (slice_set xs i blank) ≡ length xs
moved_len [] i blank = refl
moved_len (y ∷ xs) zero blank = refl
moved_len (y ∷ xs) (suc i) blank = ap suc (moved_len xs i blank)

-- all were moved
pub moved_all : {X : Type 0} (done xs whole : List X) (i : ℕ) → length xs ≤ i → done ++ drop i xs ≡ whole → done ≡ whole
moved_all done xs whole i le h = sym (ap (λ l. done ++ l) (drop_all i xs le) ∙ append-nil done) ∙ h

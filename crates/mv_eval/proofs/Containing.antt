-- Where a text stands in another.
use Rattle.std.proofs.Common.{◌≡◌, ℕ, zero, suc, ◌+◌, ◌≤◌, Bool, true, false, ◌||◌, List, [], ◌∷◌, Option, Some, None, is_some, length, take, drop, refl, sym, ap, arith, length-drop, length-take}
use Rattle.std.proofs.lemmas.Slice.Eq.{bytes_eq-Decides}
use Rattle.std.proofs.lemmas.Bool.{or_left, or_right}
use Rattle.memchr.specs.Find.{FindsNeedle}
use Rattle.memchr.proofs.lemmas.MatchLemmas.{OccursAt-part, OccursAt-from_part}
use Rattle.mv_eval.specs.Value.{begins, contains}

begins_at : (t u : List ℕ) → take (length u) t ≡ u → begins t u ≡ true
begins_at t u h = (bytes_eq-Decides (take (length u) t) u).1 h

found_in : (t u : List ℕ) (k : ℕ) → take (length u) (drop k t) ≡ u → contains t u ≡ true
found_in [] u zero h = begins_at [] u h
found_in [] u (suc k) h = begins_at [] u h
found_in (b ∷ t) u zero h = or_left (begins (b ∷ t) u) (contains t u) (begins_at (b ∷ t) u h)
found_in (b ∷ t) u (suc k) h = or_right (begins (b ∷ t) u) (contains t u) (found_in t u k h)

record Place (t u : List ℕ) : Type 0 where
  at : ℕ
  within : at ≤ length t
  is : take (length u) (drop at t) ≡ u

place_in : (b : ℕ) (t u : List ℕ) (r : Bool) → begins (b ∷ t) u ≡ r → (r || contains t u) ≡ true → (contains t u ≡ true → Place t u) → Place (b ∷ t) u
place_in b t u true e h later = record { at = 0; within = omega arith; is = (bytes_eq-Decides (take (length u) (b ∷ t)) u).0 e }
place_in b t u false e h later = let p : Place t u = later h in record { at = suc p.at; within = omega (arith, p.within); is = p.is }

place_of : (t u : List ℕ) → contains t u ≡ true → Place t u
place_of [] u h = record { at = 0; within = omega arith; is = (bytes_eq-Decides (take (length u) []) u).0 h }
place_of (b ∷ t) u h = place_in b t u (begins (b ∷ t) u) refl h (place_of t u)

fits_at : (t u : List ℕ) (k : ℕ) → k ≤ length t → take (length u) (drop k t) ≡ u → k + length u ≤ length t
fits_at t u k h e = omega (arith, h, ap length e, length-take (length u) (drop k t), length-drop k t)

none_in : (t u : List ℕ) → FindsNeedle t u 0 None → (r : Bool) → contains t u ≡ r → false ≡ r
none_in t u h false e = refl
none_in t u h true e =
    let p = place_of t u e in
    let fits : p.at + length u ≤ length t = fits_at t u p.at p.within p.is in
    absurd (h p.at (omega arith) (omega (arith, p.within)) (OccursAt-from_part t u p.at fits p.is))

pub is_found : (t u : List ℕ) (r : Option ℕ) → FindsNeedle t u 0 r → is_some r ≡ contains t u
is_found t u None h = none_in t u h (contains t u) refl
is_found t u (Some k) h = sym (found_in t u k (OccursAt-part t u k h.1))

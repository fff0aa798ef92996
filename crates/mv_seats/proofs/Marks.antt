-- Marks of shards, after one of them is set.
use Rattle.std.proofs.Common.{◌≡◌, ◌≢◌, ℕ, zero, suc, ◌+◌, ◌-◌, ◌≤◌, List, [], ◌∷◌, slice_index, refl, ap, sym, ◌∙◌, subst, arith}
use Rattle.mv_seats.specs.Knowing.{with_mark}

pub at_marked : (q n : ℕ) (row : List ℕ) → slice_index (with_mark q n row) q ≡ n
at_marked zero n [] = refl
at_marked zero n (x ∷ xs) = refl
at_marked (suc q) n [] = at_marked q n []
at_marked (suc q) n (x ∷ xs) = at_marked q n xs

-- the same, as a step on word q + 1 says it
pub at_stepped : (q n : ℕ) (row : List ℕ) → slice_index (with_mark (q + 1 - 1) n row) q ≡ n
at_stepped q n row = let back : q + 1 - 1 ≡ q = omega arith in ap (λ (k : ℕ). slice_index (with_mark k n row) q) back ∙ at_marked q n row

pub else_marked : (q k n : ℕ) (row : List ℕ) → k ≢ q → slice_index (with_mark q n row) k ≡ slice_index row k
else_marked zero zero n row h = absurd (h refl)
else_marked zero (suc k) n [] h = refl
else_marked zero (suc k) n (x ∷ xs) h = refl
else_marked (suc q) zero n [] h = refl
else_marked (suc q) zero n (x ∷ xs) h = refl
else_marked (suc q) (suc k) n [] h = else_marked q k n [] (λ e. h (ap suc e))
else_marked (suc q) (suc k) n (x ∷ xs) h = else_marked q k n xs (λ e. h (ap suc e))

-- word q + 1 has become n, and no other mark has changed
pub record Becomes (words words' : List ℕ) (q n : ℕ) : Type 0 where
  pub here : slice_index words' (q + 1) ≡ n
  pub else : (k : ℕ) → k ≢ q → slice_index words' (k + 1) ≡ slice_index words (k + 1)

-- marks that are known stay at most the words
pub marked_below : (words words' : List ℕ) (q n k : ℕ) (row : List ℕ) → Becomes words words' q n → slice_index row k ≤ slice_index words (k + 1) → Dec (k ≡ q) → slice_index (with_mark q n row) k ≤ slice_index words' (k + 1)
marked_below words words' q n k row b below (yes e) = subst (λ (z : ℕ). slice_index (with_mark q n row) z ≤ slice_index words' (z + 1)) (sym e) (omega (arith, at_marked q n row, b.here))
marked_below words words' q n k row b below (no ne) = omega (arith, else_marked q k n row ne, b.else k ne)

pub marked_exact : (words words' : List ℕ) (q n k : ℕ) (row : List ℕ) → Becomes words words' q n → slice_index row k ≡ slice_index words (k + 1) → Dec (k ≡ q) → slice_index (with_mark q n row) k ≡ slice_index words' (k + 1)
marked_exact words words' q n k row b is (yes e) = subst (λ (z : ℕ). slice_index (with_mark q n row) z ≡ slice_index words' (z + 1)) (sym e) (at_marked q n row ∙ sym b.here)
marked_exact words words' q n k row b is (no ne) = else_marked q k n row ne ∙ (is ∙ sym (b.else k ne))

-- words stay at most a number, if n is
pub words_below : (words words' : List ℕ) (q n k most : ℕ) → Becomes words words' q n → (k ≡ q → n ≤ most) → slice_index words (k + 1) ≤ most → Dec (k ≡ q) → slice_index words' (k + 1) ≤ most
words_below words words' q n k most b small was (yes e) = subst (λ (z : ℕ). slice_index words' (z + 1) ≤ most) (sym e) (omega (arith, small e, b.here))
words_below words words' q n k most b small was (no ne) = omega (arith, b.else k ne)

-- what was at most a word still is, if the word has not fallen
pub still_below : (words words' : List ℕ) (q n k x : ℕ) → Becomes words words' q n → slice_index words (q + 1) ≤ n → x ≤ slice_index words (k + 1) → Dec (k ≡ q) → x ≤ slice_index words' (k + 1)
still_below words words' q n k x b up below (yes e) = subst (λ (z : ℕ). x ≤ slice_index words' (z + 1)) (sym e) (omega (arith, b.here, subst (λ (z : ℕ). x ≤ slice_index words (z + 1)) e below))
still_below words words' q n k x b up below (no ne) = omega (arith, b.else k ne)

-- Lists that a test divides in two, and the part between two such places.
use Rattle.std.proofs.Common.{◌≡◌, ℕ, zero, suc, ◌+◌, ◌-◌, ◌<◌, ◌≤◌, Bool, true, false, List, [], ◌∷◌, ◌++◌, length, take, drop, slice_index_or, slice_range, refl, sym, ap, subst, ◌∙◌, inl, inr, arith, take-append-drop}
use Rattle.std.specs.Prelude.{AllPairs}
use Rattle.std.specs.List.{filter}
use Rattle.std.specs.List.Sorted.{IsPartitionPoint, IsPartitionedBy}
use Rattle.std.proofs.lemmas.Bool.{cases_lt}
use Rattle.std.proofs.lemmas.List.{get_or-take, get_or-drop, length-take, length-drop, drop-drop, append-nil}
use Rattle.std.proofs.lemmas.List.Elements.{filter-append}

-- the first elements pass the test, and the others fail it
abbrev pub IsPoint : {X : Type 0} → (X → Bool) → List X → ℕ → Type 0
IsPoint p xs at = IsPartitionPoint (λ y. p y ≡ true) (λ y. p y ≡ false) xs at

module _ {X : Type 0} where
  -- a list in order is divided by a test that each element before a passing one passes
  pub parted : (R : X → X → Type 0) (test : X → Bool) → ((a b : X) → R a b → test b ≡ true → test a ≡ true) → (xs : List X) → AllPairs R xs → IsPartitionedBy test xs
  parted R test lower xs order i j d le lt h =
      elim (cases_lt i j) [
        | inl below ↦ lower (slice_index_or xs i d) (slice_index_or xs j d) (order i j d below lt) h
        | inr above ↦ let same : j ≡ i = omega (arith, le, above) in subst (λ k. test (slice_index_or xs k d) ≡ true) same h
      ]

  none_pass : (p : X → Bool) (xs : List X) → ((k : ℕ) (d : X) → k < length xs → p (slice_index_or xs k d) ≡ false) → filter p xs ≡ []
  none_pass p [] h = refl
  none_pass p (x ∷ xs) h =
      let first : p x ≡ false = h zero x (omega arith) in
      rw first (none_pass p xs (λ k d lt. h (suc k) d (omega (arith, lt))))

  all_pass : (p : X → Bool) (xs : List X) → ((k : ℕ) (d : X) → k < length xs → p (slice_index_or xs k d) ≡ true) → filter p xs ≡ xs
  all_pass p [] h = refl
  all_pass p (x ∷ xs) h =
      let first : p x ≡ true = h zero x (omega arith) in
      rw first (ap (λ l. x ∷ l) (all_pass p xs (λ k d lt. h (suc k) d (omega (arith, lt)))))

-- p: below the part; q: before its end
module _ {X : Type 0} (p q : X → Bool) (both : (y : X) → p y ≡ true → q y ≡ true) where
  pub in_order : (xs : List X) (from to : ℕ) → from ≤ length xs → IsPoint p xs from → IsPoint q xs to → from ≤ to
  in_order [] from to low first last = omega (arith, low)
  in_order (x ∷ xs) from to low first last =
      elim (cases_lt to from) [
        | inl crossed ↦ absurd (clash (slice_index_or (x ∷ xs) to x) (first.0 to x (omega arith) crossed) (last.1 to x (omega arith) (omega (arith, crossed, low))))
        | inr fine ↦ fine
      ]
    where
      clash : (y : X) → p y ≡ true → q y ≡ false → ⊥
      clash y h k = let so = both y h in cc

  module _ (within : X → Bool) (under : (y : X) → p y ≡ true → within y ≡ false) (over : (y : X) → q y ≡ false → within y ≡ false) (inside : (y : X) → p y ≡ false → q y ≡ true → within y ≡ true) where
    pub between : (xs : List X) (from to : ℕ) → from ≤ length xs → to ≤ length xs → IsPoint p xs from → IsPoint q xs to → slice_range xs from to ≡ filter within xs
    between xs from to low high first last =
        let order : from ≤ to = in_order xs from to low first last in
        let rest : List X = drop from xs in
        let mid : List X = take (to - from) rest in
        let back : drop (to - from) rest ≡ drop to xs = drop-drop (to - from) from xs ∙ ap (λ n. drop n xs) (omega (arith, order)) in
        let before : filter within (take from xs) ≡ [] =
        none_pass within (take from xs) (λ k d lt.
        let front : k < from = omega (arith, lt, length-take from xs) in
        let is : slice_index_or (take from xs) k d ≡ slice_index_or xs k d = get_or-take from xs k d front in
        rw is (under _ (first.0 k d (omega arith) front))) in
        let after : filter within (drop to xs) ≡ [] =
        none_pass within (drop to xs) (λ k d lt.
        let behind : to + k < length xs = omega (arith, lt, length-drop to xs) in
        let is : slice_index_or (drop to xs) k d ≡ slice_index_or xs (to + k) d = get_or-drop to xs k d in
        rw is (over _ (last.1 (to + k) d (omega arith) behind))) in
        let inner : filter within mid ≡ mid =
        all_pass within mid (λ k d lt.
        let short : k < to - from = omega (arith, lt, length-take (to - from) rest) in
        let is : slice_index_or mid k d ≡ slice_index_or xs (from + k) d = get_or-take (to - from) rest k d short ∙ get_or-drop from xs k d in
        rw is (inside _ (first.1 (from + k) d (omega arith) (omega (arith, short, high))) (last.0 (from + k) d (omega arith) (omega (arith, short))))) in
        sym inner
        ∙ (sym (append-nil (filter within mid))
        ∙ (ap (λ l. filter within mid ++ l) (sym (ap (filter within) back ∙ after))
        ∙ (sym (filter-append within mid (drop (to - from) rest))
        ∙ (ap (filter within) (take-append-drop (to - from) rest)
        ∙ (ap (λ l. l ++ filter within rest) (sym before)
        ∙ (sym (filter-append within (take from xs) rest) ∙ ap (filter within) (take-append-drop from xs)))))))

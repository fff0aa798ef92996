-- Own writes of records with smaller numbers.
use Rattle.std.proofs.Common.{◌≡◌, ◌≤◌, ℕ, zero, suc, Bool, true, false, List, [], ◌∷◌, length, take, refl, sym, ap, subst, arith}
use Rattle.std.specs.Prelude.{nat_lt, AllPairs}
use Rattle.std.specs.List.{filter}
use Rattle.std.specs.List.Sorted.{IsPartitionPoint, IsPartitionedBy}
use Rattle.std.proofs.lemmas.Bool.Decides.{nat_tests}
use Rattle.std.proofs.lemmas.List.Kept.{AllPairs-filter}
use Rattle.mv_table.proofs.Points.{parted}
use Rattle.mv_undo.specs.declared.place.Place.{Place}
use Rattle.mv_undo.specs.Owned.{Owned, places_before}
use Rattle.mv_undo.specs.Owning.{IsInOrder, before}

-- Those before a number

-- the front up to the first that fails a test is what passes it
front_passes : {A : Type 0} (p : A → Bool) (xs : List A) (n : ℕ) → n ≤ length xs → IsPartitionPoint (λ y. p y ≡ true) (λ y. p y ≡ false) xs n → take n xs ≡ filter p xs
front_passes p [] zero le h = refl
front_passes p [] (suc n) le h = refl
front_passes p (x ∷ xs) zero le h =
    let more = front_passes p xs zero (omega arith) (λ k d low lt. absurd (omega (arith, lt)), λ k d low lt. h.1 (suc k) d (omega arith) (omega (arith, lt))) in
    let first : p x ≡ false = h.1 0 x (omega arith) (omega arith) in
    rw first more
front_passes p (x ∷ xs) (suc n) le h =
    let more = front_passes p xs n (omega (arith, le)) (λ k d low lt. h.0 (suc k) d (omega arith) (omega (arith, lt)), λ k d low lt. h.1 (suc k) d (omega (arith, low)) (omega (arith, lt))) in
    let first : p x ≡ true = h.0 0 x (omega arith) (omega arith) in
    rw first (ap (λ l. x ∷ l) more)

pub smaller : (a b n : ℕ) → a ≤ b → nat_lt b n ≡ true → nat_lt a n ≡ true
smaller a b n le h = grind (arith, nat_tests)

divided : (n : ℕ) (xs : List Place) → AllPairs (λ (a b : Place). a.number ≤ b.number) xs → IsPartitionedBy (λ (o : Place). nat_lt o.number n) xs
divided n xs = parted (λ (a b : Place). a.number ≤ b.number) (λ o. nat_lt o.number n) (λ a b. smaller a.number b.number n) xs

pub dropped : (n : ℕ) (xs : List Place) (len : ℕ) → AllPairs (λ (a b : Place). a.number ≤ b.number) xs → len ≤ length xs
    → (IsPartitionedBy (λ (o : Place). nat_lt o.number n) xs → IsPartitionPoint (λ (o : Place). nat_lt o.number n ≡ true) (λ (o : Place). nat_lt o.number n ≡ false) xs len) → take len xs ≡ places_before n xs
dropped n xs len order le h = front_passes (λ (o : Place). nat_lt o.number n) xs len le (h (divided n xs order))

pub order_before : (n len : ℕ) (xs : List Owned) → IsInOrder xs → take len xs ≡ before n xs → IsInOrder (take len xs)
order_before n len xs order is = subst IsInOrder (sym is) (AllPairs-filter (λ a b. a.number ≤ b.number) (λ o. nat_lt o.number n) xs order)

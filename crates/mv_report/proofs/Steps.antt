-- One more item of a list behind the texts of those before it.
use Rattle.std.proofs.Common.{◌≡◌, ◌<◌, ◌≤◌, ◌+◌, ◌-◌, ◌++◌, ◌∷◌, [], ℕ, zero, suc, List, length, take, drop, get_or, min, refl, sym, ap, ◌∙◌, append_assoc, append-nil, arith}
use Rattle.std.specs.Prelude.{slice_index_or}
use Rattle.std.specs.List.{flat_map, join_by, enumerate_from, zip}
use Rattle.std.proofs.lemmas.List.{take_all, take_more, length-take-le}
use Rattle.std.proofs.lemmas.Grind.{flat_map-append}
use Rattle.mv_journal.specs.declared.outcome.Round.{Round}
use Rattle.mv_lawful.specs.Rounds.{last_start}

-- a text that grew twice
pub grew : (old mid new a b whole : List ℕ) → mid ≡ old ++ a → new ≡ mid ++ b → whole ≡ a ++ b → new ≡ old ++ whole
grew old mid new a b whole e f g = f ∙ (rw e (append_assoc old a b) ∙ ap (λ (t : List ℕ). old ++ t) (sym g))

-- one more numbered item
enumerate_more : {X : Type 0} (n : ℕ) (xs : List X) (x : X) → enumerate_from n (xs ++ x ∷ []) ≡ enumerate_from n xs ++ (n + length xs, x) ∷ []
enumerate_more n [] x = (let e : n + 0 ≡ n = omega arith in rw e refl)
enumerate_more n (y ∷ ys) x =
    let e : (n + 1) + length ys ≡ n + suc (length ys) = omega arith in
    rw (enumerate_more (n + 1) ys x, e) refl

-- the text of one more numbered item
pub numbered_more : {X : Type 0} (f : ℕ × X → List ℕ) (n : ℕ) (xs : List X) (i k : ℕ) (x : X) → i < length xs → x ≡ get_or xs i x → n + i ≡ k
    → flat_map f (enumerate_from n (take (i + 1) xs)) ≡ flat_map f (enumerate_from n (take i xs)) ++ f (k, x)
numbered_more f n xs i k x lt is at =
    let len : length (take i xs) ≡ i = length-take-le i xs (omega arith) in
    rw (take_more xs i x lt, ← is, enumerate_more n (take i xs) x, len, at, flat_map-append f (enumerate_from n (take i xs)) ((k, x) ∷ []), append-nil (f (k, x))) refl

-- one more pair
zip_more : {A B : Type 0} (xs : List A) (ys : List B) (i : ℕ) (x : A) (y : B) → i < length xs → i < length ys → x ≡ get_or xs i x → y ≡ get_or ys i y
    → zip (take (i + 1) xs) (take (i + 1) ys) ≡ zip (take i xs) (take i ys) ++ (x, y) ∷ []
zip_more [] ys i x y lt le is at = absurd (omega arith)
zip_more (a ∷ xs) [] i x y lt le is at = absurd (omega arith)
zip_more (a ∷ xs) (b ∷ ys) zero x y lt le is at = rw (is, at) refl
zip_more (a ∷ xs) (b ∷ ys) (suc i) x y lt le is at =
    let e : suc i + 1 ≡ suc (i + 1) = omega arith in
    rw e (ap (λ (ps : List _). (a, b) ∷ ps) (zip_more xs ys i x y (omega arith) (omega arith) is at))

-- the text of one more pair
zipped_more : {A B : Type 0} (f : A × B → List ℕ) (xs : List A) (ys : List B) (i : ℕ) (x : A) (y : B) → i < length xs → i < length ys → x ≡ get_or xs i x → y ≡ get_or ys i y
    → flat_map f (zip (take (i + 1) xs) (take (i + 1) ys)) ≡ flat_map f (zip (take i xs) (take i ys)) ++ f (x, y)
zipped_more f xs ys i x y lt le is at =
    rw (zip_more xs ys i x y lt le is at, flat_map-append f (zip (take i xs) (take i ys)) ((x, y) ∷ []), append-nil (f (x, y))) refl

-- pairs end with the shorter list
zip_whole : {A B : Type 0} (xs : List A) (ys : List B) (n : ℕ) → n ≡ min (length xs) (length ys) → zip (take n xs) (take n ys) ≡ zip xs ys
zip_whole [] ys zero h = refl
zip_whole [] ys (suc n) h = absurd (omega arith)
zip_whole (x ∷ xs) [] zero h = refl
zip_whole (x ∷ xs) [] (suc n) h = absurd (omega arith)
zip_whole (x ∷ xs) (y ∷ ys) zero h = absurd (omega arith)
zip_whole (x ∷ xs) (y ∷ ys) (suc n) h = ap (λ (ps : List _). (x, y) ∷ ps) (zip_whole xs ys n (omega arith))

-- a text that grew by one more pair
pub pair_grew : {A B : Type 0} (f : A × B → List ℕ) (xs : List A) (ys : List B) (i : ℕ) (x : A) (y : B) (old mid new : List ℕ) → i < length xs → i < length ys → x ≡ get_or xs i x → y ≡ get_or ys i y
    → mid ≡ old ++ flat_map f (zip (take i xs) (take i ys)) → new ≡ mid ++ f (x, y) → new ≡ old ++ flat_map f (zip (take (i + 1) xs) (take (i + 1) ys))
pair_grew f xs ys i x y old mid new lt le is at so_far more = grew old mid new (flat_map f (zip (take i xs) (take i ys))) (f (x, y)) _ so_far more (zipped_more f xs ys i x y lt le is at)

-- a text that grew by all pairs
pub pairs_grew : {A B : Type 0} (f : A × B → List ℕ) (xs : List A) (ys : List B) (n : ℕ) (old new : List ℕ) → n ≡ min (length xs) (length ys)
    → new ≡ old ++ flat_map f (zip (take n xs) (take n ys)) → new ≡ old ++ flat_map f (zip xs ys)
pairs_grew f xs ys n old new all so_far = so_far ∙ ap (λ both. old ++ flat_map f both) (zip_whole xs ys n all)

-- joined texts are the first one, and the others each behind a separator
pub joined : {X : Type 0} (f : X → List ℕ) (sep : List ℕ) (xs : List X) → 0 < length xs
    → join_by f sep xs ≡ join_by f sep (take 1 xs) ++ flat_map (λ x. sep ++ f x) (take (length xs - 1) (drop 1 xs))
joined f sep [] lt = absurd (omega arith)
joined f sep (x ∷ xs) lt =
    let all : take (length (x ∷ xs) - 1) xs ≡ xs = take_all (length (x ∷ xs) - 1) xs (omega arith) in
    rw (all, append-nil (f x)) refl

-- the start of the last round
last_at : (rs : List Round) (k : ℕ) (d : Round) → length rs ≡ suc k → (slice_index_or rs k d).start ≡ last_start rs
last_at [] k d h = absurd (omega (arith, h))
last_at (r ∷ []) zero d h = refl
last_at (r ∷ []) (suc k) d h = absurd (omega (arith, h))
last_at (r ∷ s ∷ rs) zero d h = absurd (omega (arith, h))
last_at (r ∷ s ∷ rs) (suc k) d h = last_at (s ∷ rs) k d (omega (arith, h))

pub last_is : (rs : List Round) (d : Round) → 1 ≤ length rs → (slice_index_or rs (length rs - 1) d).start ≡ last_start rs
last_is rs d h = last_at rs (length rs - 1) d (omega (arith, h))

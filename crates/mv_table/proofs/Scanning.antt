-- What a scan meets first.
use Rattle.std.proofs.Common.{◌≡◌, ◌<◌, ◌+◌, ℕ, zero, suc, Bool, true, false, ◌&&◌, cond, List, [], ◌∷◌, ◌++◌, Option, Some, None, length, map, refl, sym, ap, subst, ◌∙◌, inl, inr, arith}
use Rattle.std.specs.List.{filter}
use Rattle.std.specs.Option.{option_map, unwrap_or}
use Rattle.std.specs.Ordering.{ordering_then, is_le}
use Rattle.std.specs.declared.cmp.Ordering.{Ordering}
use Rattle.std.specs.declared.cmp.Ordering.TheVariants.{Less, Equal, Greater}
use Rattle.std.proofs.lemmas.Bool.{cases_lt}
use Rattle.mv_values.specs.declared.value.Value.{Value}
use Rattle.mv_values.specs.declared.pred.Test.{Test}
use Rattle.mv_values.specs.Columns.{column_of}
use Rattle.mv_values.specs.Order.{value_order, key_order}
use Rattle.mv_table.specs.declared.scan.Direction.{Direction}
use Rattle.mv_table.specs.declared.scan.Direction.TheVariants.{Forward, Backward}
use Rattle.mv_table.specs.declared.span.Side.TheVariants.{Both}
use Rattle.mv_table.specs.Entries.{alone_at, picked}
use Rattle.mv_table.specs.Scans.{last, foremost, with_foremost, NeverFallsAt, RisesAt}
use Rattle.mv_table.specs.Spans.{Admits, bounds, HoldsAt, is_bounded, are_fixed_before}
use Rattle.mv_table.proofs.Spanning.{tied, exactly}

module _ {A : Type 0} where
  pub last_there : (xs : List A) (x : A) → last (xs ++ x ∷ []) ≡ Some x
  last_there [] x = refl
  last_there (y ∷ ys) x = ap (λ o. Some (unwrap_or o y)) (last_there ys x)

  -- the item that was put before the others is met first
  pub foremost_there : (d : Direction) (x : A) (xs : List A) → foremost d (with_foremost d x xs) ≡ Some x
  foremost_there Forward x xs = refl
  foremost_there Backward x xs = last_there xs x

  pub foremost_none : (d : Direction) → foremost {A = A} d [] ≡ None
  foremost_none Forward = refl
  foremost_none Backward = refl

  kept_behind : (p : A → Bool) (x : A) (xs : List A) → filter p (xs ++ x ∷ []) ≡ filter p xs ++ cond (p x) (x ∷ []) []
  kept_behind p x [] = refl
  kept_behind p x (y ∷ ys) = by (p y) (kept_behind p x ys)
    where
      by : (b : Bool) → filter p (ys ++ x ∷ []) ≡ filter p ys ++ cond (p x) (x ∷ []) [] → cond b (y ∷ filter p (ys ++ x ∷ [])) (filter p (ys ++ x ∷ [])) ≡ cond b (y ∷ filter p ys) (filter p ys) ++ cond (p x) (x ∷ []) []
      by true h = ap (λ l. y ∷ l) h
      by false h = h

  none_behind : (xs : List A) → xs ++ [] ≡ xs
  none_behind [] = refl
  none_behind (x ∷ xs) = ap (λ l. x ∷ l) (none_behind xs)

  -- where the first item is kept, it is the first of those kept
  pub foremost_kept : (p : A → Bool) (d : Direction) (x : A) (xs : List A) → p x ≡ true → foremost d (filter p (with_foremost d x xs)) ≡ Some x
  foremost_kept p Forward x xs h = rw h refl
  foremost_kept p Backward x xs h = ap last (kept_behind p x xs ∙ ap (λ b. filter p xs ++ cond b (x ∷ []) []) h) ∙ last_there (filter p xs) x

  -- where it isn't, the first of the others that are kept is
  pub foremost_passed : (p : A → Bool) (d : Direction) (x : A) (xs : List A) → p x ≡ false → foremost d (filter p (with_foremost d x xs)) ≡ foremost d (filter p xs)
  foremost_passed p Forward x xs h = rw h refl
  foremost_passed p Backward x xs h = ap last (kept_behind p x xs ∙ (ap (λ b. filter p xs ++ cond b (x ∷ []) []) h ∙ none_behind (filter p xs)))

module _ {A B : Type 0} (f : A → B) where
  last_of : (x : A) (o : Option A) → Some (unwrap_or (option_map f o) (f x)) ≡ option_map f (Some (unwrap_or o x))
  last_of x None = refl
  last_of x (Some y) = refl

  last_mapped : (xs : List A) → last (map f xs) ≡ option_map f (last xs)
  last_mapped [] = refl
  last_mapped (x ∷ xs) = ap (λ o. Some (unwrap_or o (f x))) (last_mapped xs) ∙ last_of x (last xs)

  pub foremost_mapped : (d : Direction) (xs : List A) → foremost d (map f xs) ≡ option_map f (foremost d xs)
  foremost_mapped Forward [] = refl
  foremost_mapped Forward (x ∷ xs) = refl
  foremost_mapped Backward xs = last_mapped xs

  mapped_behind : (xs : List A) (x : A) → map f (xs ++ x ∷ []) ≡ map f xs ++ f x ∷ []
  mapped_behind [] x = refl
  mapped_behind (y ∷ ys) x = ap (λ l. f y ∷ l) (mapped_behind ys x)

  pub with_mapped : (d : Direction) (x : A) (xs : List A) → map f (with_foremost d x xs) ≡ with_foremost d (f x) (map f xs)
  with_mapped Forward x xs = refl
  with_mapped Backward x xs = mapped_behind xs x

module _ {A B : Type 0} (f : A → Option B) where
  alone_behind : (key : List Value) (o : Option B) → alone_at key o ++ [] ≡ alone_at key o
  alone_behind key None = refl
  alone_behind key (Some x) = refl

  picked_behind : (e : List Value × A) (es : List (List Value × A)) → picked f (es ++ e ∷ []) ≡ picked f es ++ alone_at e.0 (f e.1)
  picked_behind e [] = alone_behind e.0 (f e.1)
  picked_behind e (x ∷ es) = by (f x.1) (picked_behind e es)
    where
      by : (o : Option B) → picked f (es ++ e ∷ []) ≡ picked f es ++ alone_at e.0 (f e.1) → alone_at x.0 o ++ picked f (es ++ e ∷ []) ≡ (alone_at x.0 o ++ picked f es) ++ alone_at e.0 (f e.1)
      by None h = h
      by (Some y) h = ap (λ l. (x.0, y) ∷ l) h

  -- where something is picked of the first entry, it is met first
  pub foremost_picked : (d : Direction) (e : List Value × A) (es : List (List Value × A)) (x : B) → f e.1 ≡ Some x → foremost d (picked f (with_foremost d e es)) ≡ Some (e.0, x)
  foremost_picked Forward e es x h = rw h refl
  foremost_picked Backward e es x h = ap last (picked_behind e es ∙ ap (λ o. picked f es ++ alone_at e.0 o) h) ∙ last_there (picked f es) (e.0, x)

  -- where nothing is, the first of what is picked of the others is
  pub foremost_unpicked : (d : Direction) (e : List Value × A) (es : List (List Value × A)) → f e.1 ≡ None → foremost d (picked f (with_foremost d e es)) ≡ foremost d (picked f es)
  foremost_unpicked Forward e es h = rw h refl
  foremost_unpicked Backward e es h = ap last (picked_behind e es ∙ (ap (λ o. picked f es ++ alone_at e.0 o) h ∙ none_behind (picked f es)))

-- Values that rise with their keys

-- the keys that the tests admit have the same values before the place
abbrev pub AgreeBefore : List Test → ℕ → Type 0
AgreeBefore tests place = (a b : List Value) → Admits tests a → Admits tests b → (i : ℕ) → i < place → column_of a i ≡ column_of b i

pub agree_none : (tests : List Test) → AgreeBefore tests 0
agree_none tests a b h k i lt = absurd (omega (arith, lt))

pub agree_more : (tests : List Test) (place : ℕ) (test : Test) → bounds Both test.op ≡ true → HoldsAt tests place test → AgreeBefore tests place → AgreeBefore tests (place + 1)
agree_more tests place test side holds h = λ a b so also i lt.
    elim (cases_lt i place) [
      | inl low ↦ h a b so also i low
      | inr high ↦
          let there : i ≡ place = omega (arith, high, lt) in
          let one : column_of a place ≡ test.value = exactly test (column_of a place) side (holds a so) in
          let other : column_of b place ≡ test.value = exactly test (column_of b place) side (holds b also) in
          subst (λ j. column_of a j ≡ column_of b j) (sym there) (one ∙ sym other)
    ]

first_lower : (o p : Ordering) → ordering_then o p ≡ Less → is_le o ≡ true
first_lower Less p h = refl
first_lower Equal p h = refl
first_lower Greater p h = cc

rises : (place : ℕ) (a b : List Value) → ((i : ℕ) → i < place → column_of a i ≡ column_of b i) → place < length a → place < length b → key_order a b ≡ Less → is_le (value_order (column_of a place) (column_of b place)) ≡ true
rises place [] b h low high less = absurd (omega (arith, low))
rises place (v ∷ vs) [] h low high less = absurd (omega (arith, high))
rises zero (v ∷ vs) (w ∷ ws) h low high less = first_lower (value_order v w) (key_order vs ws) less
rises (suc place) (v ∷ vs) (w ∷ ws) h low high less =
    rises place vs ws (λ i lt. h (suc i) (omega (arith, lt))) (omega (arith, low)) (omega (arith, high)) (sym (tied v w (key_order vs ws) (h 0 (omega arith))) ∙ less)

pub never_falls : (tests : List Test) (place : ℕ) → AgreeBefore tests place → NeverFallsAt tests place
never_falls tests place h a b low high so also less = rises place a b (h a b so also) low high less

alone_lower : (o : Ordering) → ordering_then o Equal ≡ Less → o ≡ Less
alone_lower Less h = refl
alone_lower Equal h = cc
alone_lower Greater h = cc

ends_lower : (place : ℕ) (a b : List Value) → ((i : ℕ) → i < place → column_of a i ≡ column_of b i) → length a ≡ place + 1 → length b ≡ place + 1 → key_order a b ≡ Less → value_order (column_of a place) (column_of b place) ≡ Less
ends_lower place [] b h low high less = absurd (omega (arith, low))
ends_lower place (v ∷ vs) [] h low high less = absurd (omega (arith, high))
ends_lower zero (v ∷ []) (w ∷ []) h low high less = alone_lower (value_order v w) less
ends_lower zero (v ∷ x ∷ vs) (w ∷ ws) h low high less = absurd (omega (arith, low))
ends_lower zero (v ∷ []) (w ∷ x ∷ ws) h low high less = absurd (omega (arith, high))
ends_lower (suc place) (v ∷ vs) (w ∷ ws) h low high less =
    ends_lower place vs ws (λ i lt. h (suc i) (omega (arith, lt))) (omega (arith, low)) (omega (arith, high)) (sym (tied v w (key_order vs ws) (h 0 (omega arith))) ∙ less)

pub rises_last : (tests : List Test) (place : ℕ) → AgreeBefore tests place → RisesAt tests place
rises_last tests place h a b low high so also less = ends_lower place a b (h a b so also) low high less

-- `=` fixes one value more
pub fixed_more : (tests : List Test) (place : ℕ) → are_fixed_before tests place ≡ true → is_bounded Both tests place ≡ true → are_fixed_before tests (place + 1) ≡ true
fixed_more tests place h k =
    let is : suc place ≡ place + 1 = omega arith in
    subst (λ n. are_fixed_before tests n ≡ true) is (rw (h, k) refl)

-- where it doesn't fix one, it doesn't fix all before a later place
pub unfixed : (tests : List Test) (before place : ℕ) → before < place → is_bounded Both tests before ≡ false → are_fixed_before tests place ≡ false
unfixed tests before zero lt h = absurd (omega (arith, lt))
unfixed tests before (suc place) lt h =
    elim (cases_lt before place) [
      | inl low ↦ ap (λ b. b && is_bounded Both tests place) (unfixed tests before place low h)
      | inr high ↦
          let there : before ≡ place = omega (arith, high, lt) in
          by (are_fixed_before tests place) (subst (λ n. is_bounded Both tests n ≡ false) there h)
    ]
  where
    by : (b : Bool) → is_bounded Both tests place ≡ false → b && is_bounded Both tests place ≡ false
    by true k = k
    by false k = refl

-- Who last set a variable.
use Rattle.std.proofs.Common.{◌≡◌, ◌<◌, ◌≤◌, ℕ, zero, suc, ◌+◌, Bool, true, false, List, [], ◌∷◌, Option, Some, None, length, take, drop, get_or, refl, sym, ap, subst, ◌∙◌, arith, if◌then◌else◌}
use Rattle.std.proofs.lemmas.List.{drop_all}
use Rattle.std.specs.Option.{option_or}
use Rattle.mv_values.proofs.Deciding.{from_place}
use Rattle.mv_record.specs.declared.record.Read.{Read}
use Rattle.mv_record.specs.declared.record.Record.{Record}
use Rattle.mv_recorded.specs.Reading.{Loop, definer, last_place}

-- what is read of a variable
abbrev pub read_at : List Loop → List Record → ℕ → Read
read_at loops records x = record { slot = x; definer = definer loops records x }

or_none : (o : Option ℕ) → option_or o None ≡ o
or_none None = refl
or_none (Some n) = refl

or_both : (a b c : Option ℕ) → option_or (option_or a b) c ≡ option_or a (option_or b c)
or_both None b c = refl
or_both (Some n) b c = refl

-- the last place is among the later items, or else among the first ones
pub place_parts : {A : Type 0} (test : A → Bool) (n k : ℕ) (xs : List A) → last_place test n xs ≡ option_or (last_place test (n + k) (drop k xs)) (last_place test n (take k xs))
place_parts test n zero xs =
    let at : n ≡ n + 0 = omega arith in
    ap (λ m. last_place test m xs) at ∙ sym (or_none (last_place test (n + 0) xs))
place_parts test n (suc k) [] = refl
place_parts test n (suc k) (x ∷ xs) =
    let at : n + 1 + k ≡ n + suc k = omega arith in
    ap (λ o. option_or o (if test x then Some n else None)) (place_parts test (n + 1) k xs ∙ ap (λ m. option_or (last_place test m (drop k xs)) (last_place test (n + 1) (take k xs))) at)
    ∙ or_both (last_place test (n + suc k) (drop k xs)) (last_place test (n + 1) (take k xs)) (if test x then Some n else None)

-- Looking from the last item on

pub none_yet : {A : Type 0} (test : A → Bool) (n : ℕ) (xs : List A) → n ≡ length xs → last_place test n (drop n xs) ≡ None
none_yet test n xs all = ap (last_place test n) (drop_all n xs (omega (arith, all)))

-- one item more, seen from behind
step_back : {A : Type 0} (test : A → Bool) (k : ℕ) (x : A) (xs : List A) → k < length xs → x ≡ get_or xs k x → last_place test (k + 1) (drop (k + 1) xs) ≡ None
    → last_place test k (drop k xs) ≡ (if test x then Some k else None)
step_back test k x xs lt is none =
    ap (last_place test k) (from_place xs k x lt is) ∙ ap (λ o. option_or o (if test x then Some k else None)) none

pub none_before : {A : Type 0} (test : A → Bool) (k : ℕ) (x : A) (xs : List A) → k < length xs → x ≡ get_or xs k x → test x ≡ false → last_place test (k + 1) (drop (k + 1) xs) ≡ None
    → last_place test k (drop k xs) ≡ None
none_before test k x xs lt is isnt none = step_back test k x xs lt is none ∙ ap (λ b. if b then Some k else None) isnt

pub last_is : {A : Type 0} (test : A → Bool) (k : ℕ) (x : A) (xs : List A) → k < length xs → x ≡ get_or xs k x → test x ≡ true → last_place test (k + 1) (drop (k + 1) xs) ≡ None
    → Some k ≡ last_place test 0 xs
last_is test k x xs lt is so none =
    let at : 0 + k ≡ k = omega arith in
    sym (place_parts test 0 k xs ∙ ap (λ o. option_or o (last_place test 0 (take k xs)))
    (ap (λ m. last_place test m (drop k xs)) at ∙ (step_back test k x xs lt is none ∙ ap (λ b. if b then Some k else None) so)))

pub none_at_all : {A : Type 0} (test : A → Bool) (n : ℕ) (xs : List A) → n ≤ 0 → last_place test n (drop n xs) ≡ None → None ≡ last_place test 0 xs
none_at_all test n xs end none = let at : n ≡ 0 = omega (arith, end) in sym (subst (λ m. last_place test m (drop m xs) ≡ None) at none)

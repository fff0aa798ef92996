-- Who last set each variable, and the writes of records.
use Rattle.std.proofs.Common.{◌≡◌, ◌⊎◌, inl, inr, ℕ, zero, suc, ◌+◌, ◌==◌, ◌<◌, ◌≤◌, Bool, true, false, ◌||◌, List, [], ◌∷◌, ◌++◌, Option, Some, None, length, slice_set, refl, sym, ap, ◌∙◌, arith, if◌then◌else◌, eq-eqb}
use Rattle.std.specs.List.{list_any}
use Rattle.std.specs.Option.{option_or}
use Rattle.std.proofs.lemmas.Bool.{ne_eqb, cases_eq}
use Rattle.mv_record.specs.declared.record.Record.{Record}
use Rattle.mv_record.specs.declared.record.Slot.{Slot}
use Rattle.mv_recorded.specs.Reading.{last_place}
use Rattle.mv_exec.specs.Keeping.{with_room, define, slot_room}
use Rattle.mv_exec.specs.Tasks.{definer_in}

-- Longer lists

pub widen_longer : (n : ℕ) (ds : List (Option ℕ)) → length ds < n → with_room n (ds ++ None ∷ []) ≡ with_room n ds
widen_longer zero ds lt = absurd (omega (arith, lt))
widen_longer (suc n) [] lt = refl
widen_longer (suc n) (d ∷ ds) lt = ap (λ l. d ∷ l) (widen_longer n ds (omega (arith, lt)))

pub room_full : (n : ℕ) (ds : List (Option ℕ)) → n ≤ length ds → with_room n ds ≡ ds
room_full zero ds le = refl
room_full (suc n) [] le = absurd (omega (arith, le))
room_full (suc n) (d ∷ ds) le = ap (λ l. d ∷ l) (room_full n ds (omega (arith, le)))

pub none_behind : (ds : List (Option ℕ)) (x : ℕ) → definer_in (ds ++ None ∷ []) x ≡ definer_in ds x
none_behind [] zero = refl
none_behind [] (suc x) = refl
none_behind (d ∷ ds) zero = refl
none_behind (d ∷ ds) (suc x) = none_behind ds x

-- Definers

pub room_same : (n : ℕ) (ds : List (Option ℕ)) (x : ℕ) → definer_in (with_room n ds) x ≡ definer_in ds x
room_same zero ds x = refl
room_same (suc n) [] zero = refl
room_same (suc n) [] (suc x) = room_same n [] x
room_same (suc n) (d ∷ ds) zero = refl
room_same (suc n) (d ∷ ds) (suc x) = room_same n ds x

pub room_long : (n : ℕ) (ds : List (Option ℕ)) → n ≤ length (with_room n ds)
room_long zero ds = omega arith
room_long (suc n) [] = let h : n ≤ length (with_room n []) = room_long n [] in omega arith
room_long (suc n) (d ∷ ds) = let h : n ≤ length (with_room n ds) = room_long n ds in omega arith

set_length : (ds : List (Option ℕ)) (k : ℕ) (o : Option ℕ) → length (slice_set ds k o) ≡ length ds
set_length [] k o = refl
set_length (d ∷ ds) zero o = refl
set_length (d ∷ ds) (suc k) o = ap suc (set_length ds k o)

set_same : (ds : List (Option ℕ)) (k n : ℕ) → k < length ds → definer_in (slice_set ds k (Some n)) k ≡ Some n
set_same [] k n lt = absurd (omega (arith, lt))
set_same (d ∷ ds) zero n lt = refl
set_same (d ∷ ds) (suc k) n lt = set_same ds k n (omega (arith, lt))

set_other : (ds : List (Option ℕ)) (k x n : ℕ) → (k ≡ x → ⊥) → definer_in (slice_set ds k (Some n)) x ≡ definer_in ds x
set_other [] k x n other = refl
set_other (d ∷ ds) zero zero n other = absurd (other refl)
set_other (d ∷ ds) zero (suc x) n other = refl
set_other (d ∷ ds) (suc k) zero n other = refl
set_other (d ∷ ds) (suc k) (suc x) n other = set_other ds k x n (λ e. other (ap suc e))

one_set : (ds : List (Option ℕ)) (k x n : ℕ) → k < length ds → definer_in (slice_set ds k (Some n)) x ≡ (if k == x then Some n else definer_in ds x)
one_set ds k x n lt = by (cases_eq k x)
  where
    by : (k ≡ x) ⊎ (k ≡ x → ⊥) → definer_in (slice_set ds k (Some n)) x ≡ (if k == x then Some n else definer_in ds x)
    by (inl e) = ap (definer_in (slice_set ds k (Some n))) (sym e) ∙ (set_same ds k n lt ∙ ap (λ b. if b then Some n else definer_in ds x) (sym (eq-eqb k x e)))
    by (inr other) = set_other ds k x n other ∙ ap (λ b. if b then Some n else definer_in ds x) (sym (ne_eqb k x other))

either_set : {A : Type 0} (a b : Bool) (x y : A) → (if b then x else (if a then x else y)) ≡ (if a || b then x else y)
either_set true true x y = refl
either_set true false x y = refl
either_set false true x y = refl
either_set false false x y = refl

-- the variables that were set have this definer, the others theirs
pub define_at : (ds : List (Option ℕ)) (ss : List Slot) (n x : ℕ) → slot_room ss ≤ length ds → definer_in (define ds ss n) x ≡ (if list_any (λ (s : Slot). s.slot == x) ss then Some n else definer_in ds x)
define_at ds [] n x le = refl
define_at ds (s ∷ ss) n x le =
    define_at (slice_set ds s.slot (Some n)) ss n x (let l : length (slice_set ds s.slot (Some n)) ≡ length ds = set_length ds s.slot (Some n) in omega (arith, le))
    ∙ (ap (λ d. if list_any (λ (s : Slot). s.slot == x) ss then Some n else d) (one_set ds s.slot x n (omega (arith, le)))
    ∙ either_set (s.slot == x) (list_any (λ (s : Slot). s.slot == x) ss) (Some n) (definer_in ds x))

-- One record more

pub last_more : (test : Record → Bool) (n : ℕ) (rs : List Record) (r : Record) → last_place test n (rs ++ r ∷ []) ≡ (if test r then Some (n + length rs) else last_place test n rs)
last_more test n [] r = by (test r)
  where
    by : (b : Bool) → option_or None (if b then Some n else None) ≡ (if b then Some (n + 0) else None)
    by true = ap Some (let e : n ≡ n + 0 = omega arith in e)
    by false = refl
last_more test n (q ∷ rs) r =
    ap (λ o. option_or o (if test q then Some n else None)) (last_more test (n + 1) rs r) ∙ by (test r)
  where
    by : (b : Bool) → option_or (if b then Some (n + 1 + length rs) else last_place test (n + 1) rs) (if test q then Some n else None)
        ≡ (if b then Some (n + length (q ∷ rs)) else option_or (last_place test (n + 1) rs) (if test q then Some n else None))
    by true = ap Some (let e : n + 1 + length rs ≡ n + length (q ∷ rs) = omega arith in e)
    by false = refl

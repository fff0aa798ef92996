-- Numbers taken one after another, each once.
use Rattle.std.proofs.Common.{◌≡◌, ℕ, suc, Bool, true, false, not, ◌&&◌, ◌==◌, ◌||◌, ◌<◌, ◌+◌, cond, List, [], ◌∷◌, ◌++◌, length, drop, slice_index_or, refl, sym, ap, ◌∙◌, append_assoc, rules, arith}
use Rattle.std.specs.List.{filter}
use Rattle.std.proofs.lemmas.List.Folds.{list_any-append}
use Rattle.std.proofs.Math.Seq.{drop-cons}
use Rattle.std.proofs.lemmas.Cmp.{nat_eq_equiv}
use Rattle.mv_recorded.specs.Reading.{each_once}
use Rattle.mv_recorded.specs.Adding.{is_in, with_new}

-- those of the numbers that aren't in the list
abbrev pub new_to : List ℕ → List ℕ → List ℕ
new_to all ms = filter (λ m. not (is_in all m)) ms

pub all_new : (ms : List ℕ) → new_to [] ms ≡ ms
all_new [] = refl
all_new (m ∷ ms) = ap (λ l. m ∷ l) (all_new ms)

filter_twice : (p q r : ℕ → Bool) (ms : List ℕ) → ((m : ℕ) → r m ≡ q m && p m) → filter p (filter q ms) ≡ filter r ms
filter_twice p q r [] h = refl
filter_twice p q r (m ∷ ms) h = by (q m) refl (p m) refl (filter_twice p q r ms h)
  where
    by : (b : Bool) → q m ≡ b → (c : Bool) → p m ≡ c → filter p (filter q ms) ≡ filter r ms → filter p (cond b (m ∷ filter q ms) (filter q ms)) ≡ cond (r m) (m ∷ filter r ms) (filter r ms)
    by true e true f rest = let g : r m ≡ true = cc (h m) in rw (f, g) (ap (λ l. m ∷ l) rest)
    by true e false f rest = let g : r m ≡ false = cc (h m) in rw (f, g) rest
    by false e c f rest = let g : r m ≡ false = cc (h m) in rw g rest

-- the other numbers that are new to a list with this one
others : (all : List ℕ) (n m : ℕ) → not (is_in (all ++ n ∷ []) m) ≡ not (m == n) && not (is_in all m)
others all n m = ap not (list_any-append (λ k. k == m) all (n ∷ [])) ∙ by (is_in all m) (n == m) (m == n) (nat_eq_equiv.symm n m)
  where
    by : (a b c : Bool) → b ≡ c → not (a || (b || false)) ≡ not c && not a
    by true true c e = cc
    by true false c e = cc
    by false true c e = cc
    by false false c e = cc

there : (all : List ℕ) (n m : ℕ) → is_in all n ≡ true → not (is_in all m) ≡ not (m == n) && not (is_in all m)
there all n m h = by (m == n) refl
  where
    by : (b : Bool) → (m == n) ≡ b → not (is_in all m) ≡ not b && not (is_in all m)
    by false e = refl
    by true e =
        let same : m ≡ n = search rules in
        ap not (ap (is_in all) same ∙ h)

-- of a number and others than it
first_number : (all : List ℕ) (n : ℕ) (ms : List ℕ) → with_new all n ++ new_to (with_new all n) ms ≡ all ++ new_to all (n ∷ filter (λ m. not (m == n)) ms)
first_number all n ms = by (is_in all n) refl
  where
    by : (b : Bool) → is_in all n ≡ b → cond b all (all ++ n ∷ []) ++ new_to (cond b all (all ++ n ∷ [])) ms ≡ all ++ new_to all (n ∷ filter (λ m. not (m == n)) ms)
    by true e = rw e (ap (λ l. all ++ l) (sym (filter_twice (λ m. not (is_in all m)) (λ m. not (m == n)) (λ m. not (is_in all m)) ms (λ m. there all n m e))))
    by false e =
        let rest = filter_twice (λ m. not (is_in all m)) (λ m. not (m == n)) (λ m. not (is_in (all ++ n ∷ []) m)) ms (others all n) in
        rw e (append_assoc all (n ∷ []) (new_to (all ++ n ∷ []) ms) ∙ ap (λ l. all ++ (n ∷ l)) (sym rest))

pub one_number_more : (all ns : List ℕ) (i : ℕ) (d : ℕ) → i < length ns → with_new all (slice_index_or ns i d) ++ new_to (with_new all (slice_index_or ns i d)) (each_once (drop (i + 1) ns)) ≡ all ++ new_to all (each_once (drop i ns))
one_number_more all ns i d lt =
    let next : suc i ≡ i + 1 = omega arith in
    first_number all (slice_index_or ns i d) (each_once (drop (i + 1) ns))
    ∙ sym (ap (λ l. all ++ new_to all (each_once l)) (drop-cons ns i d lt ∙ ap (λ k. slice_index_or ns i d ∷ drop k ns) next))

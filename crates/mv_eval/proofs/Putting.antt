-- Setting variables, and lists of them made longer.
use Rattle.std.proofs.Common.{◌≡◌, ℕ, zero, suc, ◌+◌, ◌<◌, ◌≤◌, List, [], ◌∷◌, ◌++◌, length, take, drop, slice_set, refl, sym, ap, ◌∙◌, arith, add-one}
use Rattle.std.proofs.lemmas.List.{take-append-le}
use Rattle.mv_values.specs.declared.value.Value.{Value}
use Rattle.mv_values.specs.Columns.{columns_of}
use Rattle.mv_eval.specs.declared.state.Content.{Content}
use Rattle.mv_eval.specs.declared.state.Env.{Env}
use Rattle.mv_eval.specs.Env.{put_at, padded, unset, with_values}

pub pad_longer : (n : ℕ) (hs : List Content) → length hs < n → padded n (hs ++ unset ∷ []) ≡ padded n hs
pad_longer zero hs lt = absurd (omega (arith, lt))
pad_longer (suc n) [] lt = refl
pad_longer (suc n) (h ∷ hs) lt = ap (λ l. h ∷ l) (pad_longer n hs (omega (arith, lt)))

pub pad_full : (n : ℕ) (hs : List Content) → n ≤ length hs → padded n hs ≡ hs
pad_full zero hs le = refl
pad_full (suc n) [] le = absurd (omega (arith, le))
pad_full (suc n) (h ∷ hs) le = ap (λ l. h ∷ l) (pad_full n hs (omega (arith, le)))

short : {A : Type 0} (n : ℕ) (xs base : List A) → take n xs ≡ base → length base ≡ n → n ≤ length xs
short zero xs base e len = omega arith
short (suc n) [] base e len = absurd (let h : length base ≡ 0 = ap length (sym e) in omega arith)
short (suc n) (x ∷ xs) base e len = let h : suc (length (take n xs)) ≡ suc n = ap length e ∙ len in let k : n ≤ length xs = short n xs (take n xs) refl (omega arith) in omega arith

pub front_longer : (base hs : List Content) (h : Content) → take (length base) hs ≡ base → take (length base) (hs ++ h ∷ []) ≡ base
front_longer base hs h e = take-append-le (length base) hs (h ∷ []) (short (length base) hs base e refl) ∙ e

pub put_padded : (hs : List Content) (x : ℕ) (h : Content) → slice_set (padded (x + 1) hs) x h ≡ put_at hs x h
put_padded hs x h = rw add-one (at hs x)
  where
    at : (hs : List Content) (x : ℕ) → slice_set (padded (suc x) hs) x h ≡ put_at hs x h
    at [] zero = refl
    at [] (suc x) = ap (λ l. unset ∷ l) (at [] x)
    at (g ∷ gs) zero = refl
    at (g ∷ gs) (suc x) = ap (λ l. g ∷ l) (at gs x)

pub padded_long : (n : ℕ) (hs : List Content) → n ≤ length (padded n hs)
padded_long zero hs = omega arith
padded_long (suc n) [] = let h : n ≤ length (padded n []) = padded_long n [] in omega arith
padded_long (suc n) (g ∷ gs) = let h : n ≤ length (padded n gs) = padded_long n gs in omega arith

with_none : (env : Env) (xs : List ℕ) → with_values env xs [] ≡ env
with_none env [] = refl
with_none env (x ∷ xs) = refl

-- no variable is set once the columns end
pub values_end : (env : Env) (xs : List ℕ) (row : List Value) (cs : List ℕ) (i : ℕ) → length cs ≤ i → with_values env xs (columns_of row (drop i cs)) ≡ env
values_end env xs row [] zero h = with_none env xs
values_end env xs row [] (suc i) h = with_none env xs
values_end env xs row (c ∷ cs) zero h = absurd (omega (arith, h))
values_end env xs row (c ∷ cs) (suc i) h = values_end env xs row cs i (omega (arith, h))

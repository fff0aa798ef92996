-- Numbers in place, of which one more is set, or which are compared.
use Rattle.std.proofs.Common.{◌≡◌, ◌<◌, ◌+◌, ℕ, ℤ, zero, suc, List, [], ◌∷◌, ◌++◌, length, take, drop, refl, sym, ap, subst, ◌∙◌, arith}
use Rattle.std.specs.Prelude.{slice_set}
use Rattle.std.specs.Cmp.Lexicographic.{slice_cmp}
use Rattle.std.specs.Ordering.{int_cmp, ordering_then}
use Rattle.std.specs.declared.cmp.Ordering.TheVariants.{Equal}
use Rattle.std.proofs.lemmas.Cmp.{lists_total, int_cmp_total, tied_itself}
use Rattle.std.proofs.lemmas.List.{take_more_set, drop-set-lt}
use Rattle.std.proofs.lemmas.Grind.{drop_more_same}
use Rattle.mv_values.specs.Room.{HasNoMore, zeros}

pub next_placed : {A : Type 0} (xs : List A) (i : ℕ) (x : A) → i < length xs → take (i + 1) (slice_set xs i x) ≡ take i xs ++ x ∷ []
next_placed xs i x within = take_more_set xs i x within

-- after the new number there is none
pub no_more_set : (xs : List ℤ) (i : ℕ) (x : ℤ) → HasNoMore i xs → HasNoMore (i + 1) (slice_set xs i x)
no_more_set xs i x h = drop-set-lt (i + 1) xs i x (omega arith) ∙ drop_more_same xs zeros i h

-- what has the same behind a place compares as its fronts do
pub fronts_alike : (xs ys : List ℤ) (n : ℕ) → drop n xs ≡ drop n ys → slice_cmp int_cmp xs ys ≡ slice_cmp int_cmp (take n xs) (take n ys)
fronts_alike xs ys zero h = subst (λ zs. slice_cmp int_cmp xs zs ≡ Equal) h (tied_itself (lists_total int_cmp_total) xs)
fronts_alike [] [] (suc n) h = refl
fronts_alike [] (y ∷ ys) (suc n) h = refl
fronts_alike (x ∷ xs) [] (suc n) h = refl
fronts_alike (x ∷ xs) (y ∷ ys) (suc n) h = ap (ordering_then (int_cmp x y)) (fronts_alike xs ys n h)

-- numbers of one length
pub padded_alike : (xs ys : List ℤ) (m n : ℕ) → m ≡ n → HasNoMore m xs → HasNoMore n ys → slice_cmp int_cmp xs ys ≡ slice_cmp int_cmp (take m xs) (take n ys)
padded_alike xs ys m n same h k = subst (λ j. HasNoMore j ys → slice_cmp int_cmp xs ys ≡ slice_cmp int_cmp (take m xs) (take j ys)) same (λ l. fronts_alike xs ys m (h ∙ sym l)) k

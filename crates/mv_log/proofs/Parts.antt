-- Parts of lists.
use Rattle.std.proofs.Common.{◌≡◌, ◌≤◌, ◌+◌, ◌-◌, ℕ, List, [], length, take, drop, sym, ap, ◌∙◌, arith}
use Rattle.std.specs.Prelude.{slice_range}
use Rattle.std.proofs.lemmas.List.{drop-take, take_all, drop_all, take-take}
use Rattle.mv_log.specs.declared.head.Range.{Range}
use Rattle.mv_log.specs.Parts.{part}

pub range_part : {X : Type 0} (xs : List X) (i j : ℕ) → i ≤ j → slice_range xs i j ≡ drop i (take j xs)
range_part xs i j l =
    let e : i + (j - i) ≡ j = omega arith in
    sym (drop-take i (j - i) xs) ∙ ap (λ n. drop i (take n xs)) e

pub part_rest : {X : Type 0} (xs : List X) (i n : ℕ) → n ≡ length xs → drop i (take n xs) ≡ drop i xs
part_rest xs i n e = ap (drop i) (take_all n xs (omega (arith, e)))

-- a part of equal fronts
pub same_part : {X : Type 0} (xs ys : List X) (n : ℕ) (r : Range) → r.to ≤ n → take n ys ≡ take n xs → part r ys ≡ part r xs
same_part xs ys n r l e =
    let a : take r.to ys ≡ take r.to xs = sym (take-take r.to n ys l) ∙ ap (take r.to) e ∙ take-take r.to n xs l in
    ap (drop r.from) a

pub part_none : {X : Type 0} (xs : List X) (i : ℕ) → i ≡ length xs → drop i xs ≡ []
part_none xs i e = drop_all i xs (omega (arith, e))

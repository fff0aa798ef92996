-- How many statements a list has, and how many they are with those that they hold.
use Rattle.std.proofs.Common.{◌≡◌, ℕ, zero, suc, ◌+◌, ◌-◌, ◌<◌, ◌≤◌, Bool, true, false, nat_lt, List, [], ◌∷◌, length, drop, refl, sym, ap, ◌∙◌, arith}
use Rattle.std.proofs.lemmas.Bool.{lt-ltb, le-ltb, ltb-true, ltb-false}
use Rattle.std.proofs.lemmas.List.{drop_all}
use Rattle.mv_catalog.specs.Statements.{size, size_of}
use Rattle.mv_catalog.specs.declared.resolved.RStmt.{RStmt}
use Rattle.mv_graph.proofs.Sizes.{some_size}
use Rattle.mv_exec.proofs.Turning.{FirstOf, first_of}

pub long_enough : (block : List RStmt) → length block ≤ size_of block
long_enough [] = omega arith
long_enough (s ∷ block) = omega (arith, some_size s, long_enough block)

-- so many statements further none is left
pub past_all : (block : List RStmt) → drop (size_of block) block ≡ []
past_all block = drop_all (size_of block) block (long_enough block)

-- some are left exactly where they count for something
pub left_by_size : (block : List RStmt) (at : ℕ) → nat_lt 0 (size_of (drop at block)) ≡ nat_lt at (length block)
left_by_size block at = by (nat_lt at (length block)) refl
  where
    by : (b : Bool) → nat_lt at (length block) ≡ b → nat_lt 0 (size_of (drop at block)) ≡ nat_lt at (length block)
    by true e =
        let f : FirstOf RStmt block at = first_of block at e in
        lt-ltb 0 (size_of (drop at block)) (let some : size_of (drop at block) ≡ size f.it + size_of (drop (at + 1) block) = ap size_of f.rest in omega (arith, some, some_size f.it)) ∙ sym e
    by false e = ap (λ ss. nat_lt 0 (size_of ss)) (drop_all at block (ltb-false at (length block) e)) ∙ sym e

fewer_left : (block : List RStmt) (at : ℕ) → size_of (drop at block) ≤ size_of block
fewer_left block zero = omega arith
fewer_left [] (suc at) = omega arith
fewer_left (s ∷ block) (suc at) = omega (arith, fewer_left block at)

-- the numbers of a frame and of the first statement of its list tell whether some are left
pub left_by_number : (block : List RStmt) (at first number : ℕ) → number + size_of (drop at block) ≡ first + size_of block → nat_lt (number - first) (size_of block) ≡ nat_lt at (length block)
left_by_number block at first number e = by (nat_lt 0 (size_of (drop at block))) refl ∙ left_by_size block at
  where
    by : (b : Bool) → nat_lt 0 (size_of (drop at block)) ≡ b → nat_lt (number - first) (size_of block) ≡ nat_lt 0 (size_of (drop at block))
    by true h = let some : 0 < size_of (drop at block) = ltb-true 0 (size_of (drop at block)) h in lt-ltb (number - first) (size_of block) (omega (arith, e, some, fewer_left block at)) ∙ sym h
    by false h = let none : size_of (drop at block) ≤ 0 = ltb-false 0 (size_of (drop at block)) h in le-ltb (number - first) (size_of block) (omega (arith, e, none)) ∙ sym h

-- Rounds and their numbers.
use Rattle.std.proofs.Common.{◌≡◌, ◌⊎◌, inl, inr, ℕ, zero, suc, ◌-◌, List, [], ◌∷◌, ◌++◌, Option, Some, None, length, slice_set, get_or, sym, ap, subst, ◌∙◌, arith, rules}
use Rattle.mv_journal.specs.declared.outcome.Mark.{Mark}
use Rattle.mv_journal.specs.declared.outcome.Mark.TheVariants.{Moved}
use Rattle.mv_journal.specs.declared.outcome.Round.{Round}
use Rattle.mv_lawful.specs.Batch.{Batch}
use Rattle.mv_lawful.specs.Lawful.{RoundStart}
use Rattle.mv_lawful.specs.Rounds.{later_run, round, rounds_of, last_turn_or, numbered, last_number, closed, counted, uncounted}
use Rattle.mv_lawful.proofs.Numbers.{numbered_twice, numbered_own, last_of_end, numbered_end, none_numbered, rounds_more}
use Rattle.mv_core.specs.Calls.{AreRounds}

-- Numbers in a list

pub set_last : (n : Option ℕ) (rs : List Round) (at : ℕ) (r : Round) → length rs ≡ suc at → r ≡ get_or rs at r → slice_set rs at (record r { count = n }) ≡ numbered n rs
set_last n [] at r len is = absurd (omega (arith, len))
set_last n (q ∷ []) zero r len is = ap (λ (x : Round). record x { count = n } ∷ []) is
set_last n (q ∷ []) (suc at) r len is = absurd (omega (arith, len))
set_last n (q ∷ s ∷ rs) zero r len is = absurd (omega (arith, len))
set_last n (q ∷ s ∷ rs) (suc at) r len is = ap (λ xs. q ∷ xs) (set_last n (s ∷ rs) at r (omega (arith, len)) is)

-- Rounds as they are kept

-- where the last one has a number, it is Runs'
pub settled : (kept all : List Round) (k : ℕ) → AreRounds kept all → last_number kept ≡ Some k → kept ≡ all
settled kept all k (inl is) has = is
settled kept all k (inr is) has = let none : Some k ≡ None = sym has ∙ (ap last_number is ∙ none_numbered all) in absurd (search (rules, none))

-- a number that is Runs' makes them all Runs'
pub settles : (kept all : List Round) (n : Option ℕ) → AreRounds kept all → last_number all ≡ n → numbered n kept ≡ all
settles kept all n (inl is) own = ap (λ m. numbered m kept) (sym own) ∙ (ap (numbered (last_number all)) is ∙ numbered_own all)
settles kept all n (inr is) own = ap (λ m. numbered m kept) (sym own) ∙ (ap (numbered (last_number all)) is ∙ (numbered_twice (last_number all) None all ∙ numbered_own all))

-- what is kept of rounds, where one of this mark comes after them
pub closes : (m : Mark) (kept all : List Round) → AreRounds kept all → (m ≡ Moved) ⊎ (kept ≡ all) → closed m kept ≡ closed m all
closes m kept all are (inr is) = ap (closed m) is
closes m kept all (inl is) (inl moved) = ap (closed m) is
closes m kept all (inr is) (inl moved) = subst (λ x. closed x kept ≡ closed x all) (sym moved) (ap (numbered None) is ∙ numbered_twice None None all)

-- a round more with a number that is Runs'
pub rounds_end : (w : Batch) (order : List ℕ) (c n k : ℕ) (m : Mark) (t : RoundStart) (ts : List RoundStart)
    → last_number (rounds_of w order c ((t ∷ ts) ++ record { start = n; mark = m } ∷ [])) ≡ Some k
    → rounds_of w order c ((t ∷ ts) ++ record { start = n; mark = m } ∷ []) ≡ closed m (rounds_of w order c (t ∷ ts)) ++ counted n m k ∷ []
rounds_end w order c n k m t ts is =
    let u : RoundStart = record { start = n; mark = m } in
    let more = rounds_more w order c t u ts in
    let own : Some (later_run w order c (last_turn_or t.start ts) n m) ≡ Some k =
    sym (last_of_end (closed m (rounds_of w order c (t ∷ ts))) (round u (Some (later_run w order c (last_turn_or t.start ts) n m)))) ∙ (sym (ap last_number more) ∙ is) in
    more ∙ ap (λ o. closed m (rounds_of w order c (t ∷ ts)) ++ record { start = n; count = o; mark = m } ∷ []) own

-- a round more without its number
pub rounds_begun : (w : Batch) (order : List ℕ) (c n : ℕ) (m : Mark) (t : RoundStart) (ts : List RoundStart)
    → numbered None (rounds_of w order c ((t ∷ ts) ++ record { start = n; mark = m } ∷ [])) ≡ closed m (rounds_of w order c (t ∷ ts)) ++ uncounted n m ∷ []
rounds_begun w order c n m t ts =
    let u : RoundStart = record { start = n; mark = m } in
    ap (numbered None) (rounds_more w order c t u ts)
    ∙ numbered_end None (closed m (rounds_of w order c (t ∷ ts))) (round u (Some (later_run w order c (last_turn_or t.start ts) n m)))

-- How the last round of a call came about, and its number.
use Rattle.std.proofs.Common.{◌≡◌, ℕ, zero, suc, ◌-◌, ◌≤◌, ◌<◌, true, false, not, List, [], ◌∷◌, Option, Some, None, length, refl, sym, ap, ◌∙◌, arith, rules}
use Rattle.std.specs.Prelude.{slice_index_or}
use Rattle.std.specs.Option.{option_eq}
use Rattle.std.proofs.lemmas.Bool.Decides.{eqb_tells}
use Rattle.std.proofs.lemmas.Bool.{eqb-true, not-false}
use lib.Dec.{eqb}
use Rattle.mv_journal.specs.declared.outcome.Mark.{Mark}
use Rattle.mv_journal.specs.declared.outcome.Mark.TheVariants.{Plain, Exclusive, Moved}
use Rattle.mv_journal.specs.declared.outcome.Round.{Round}
use Rattle.mv_lawful.specs.Batch.{Batch}
use Rattle.mv_lawful.specs.Lawful.{RoundStart, Live, used}
use Rattle.mv_lawful.specs.Rounds.{later_run, later_rounds, rounds_of, round_starts_in, last_number, last_round_start}
use Rattle.mv_core.specs.Cores.{HasRoundStarts}
use Rattle.mv_gate.specs.Gates.{repaired_by, repaired_from}
use Rattle.mv_gate.proofs.Prefixes.{number_by}

-- The number of the last round

number_of : (w : Batch) (order : List ℕ) (c old start : ℕ) (m : Mark) → later_run w order c old start m ≡ number_by w order c (repaired_by m old) start
number_of w order c old start Plain = refl
number_of w order c old start Exclusive = refl
number_of w order c old start Moved = refl

later_number : (w : Batch) (order : List ℕ) (c : ℕ) (t u : RoundStart) (us : List RoundStart)
    → last_number (later_rounds w order c t.start (u ∷ us)) ≡ Some (number_by w order c (repaired_from (t ∷ u ∷ us)) (last_round_start (u ∷ us)))
later_number w order c t u [] = ap Some (number_of w order c t.start u.start u.mark)
later_number w order c t u (v ∷ vs) = later_number w order c u v vs

first_number : (w : Batch) (order : List ℕ) (c : ℕ) (t : RoundStart) (ts : List RoundStart) → last_number (rounds_of w order c (t ∷ ts)) ≡ Some (number_by w order c (repaired_from (t ∷ ts)) (last_round_start (t ∷ ts)))
first_number w order c t [] = refl
first_number w order c t (u ∷ us) = later_number w order c t u us

pub number_came : (w : Batch) (order : List ℕ) (c n : ℕ) (l : Live) → HasRoundStarts n l → last_number (rounds_of w order c l.round_starts) ≡ Some (number_by w order c (repaired_from l.round_starts) l.start)
number_came w order c n l h =
    ap (λ ts. last_number (rounds_of w order c ts)) h.round_starts
    ∙ (first_number w order c h.first h.rest
    ∙ (ap (λ ts. Some (number_by w order c (repaired_from ts) (last_round_start ts))) (sym h.round_starts) ∙ ap (λ k. Some (number_by w order c (repaired_from l.round_starts) k)) h.last))

-- a call in its first round wasn't repaired
pub only_first : (n : ℕ) (l : Live) → HasRoundStarts n l → used l ≡ 0 → repaired_from l.round_starts ≡ None
only_first n l h first = by h.rest refl where
  by : (ts : List RoundStart) → h.rest ≡ ts → repaired_from l.round_starts ≡ None
  by [] none = ap repaired_from (h.round_starts ∙ ap (λ ts. h.first ∷ ts) none)
  by (t ∷ ts) some =
      let a = ap length h.round_starts in
      let b = ap length some in
      absurd (omega (arith, first, a, b))

-- Rounds as they are kept

pub few_rounds : (rs : List Round) → length rs < 2 → repaired_from (round_starts_in rs) ≡ None
few_rounds [] h = refl
few_rounds (r ∷ []) h = refl
few_rounds (r ∷ s ∷ rs) h = absurd (omega (arith, h))

repaired_at : (rs : List Round) (k : ℕ) (d e : Round) → length rs ≡ suc (suc k) → repaired_from (round_starts_in rs) ≡ repaired_by (slice_index_or rs (suc k) d).mark (slice_index_or rs k e).start
repaired_at [] k d e h = absurd (omega (arith, h))
repaired_at (r ∷ []) k d e h = absurd (omega (arith, h))
repaired_at (r ∷ s ∷ []) zero d e h = refl
repaired_at (r ∷ s ∷ []) (suc k) d e h = absurd (omega (arith, h))
repaired_at (r ∷ s ∷ t ∷ rs) zero d e h = absurd (omega (arith, h))
repaired_at (r ∷ s ∷ t ∷ rs) (suc k) d e h = repaired_at (s ∷ t ∷ rs) k d e (omega (arith, h))

pub repaired_later : (rs : List Round) (d e : Round) → 2 ≤ length rs → repaired_from (round_starts_in rs) ≡ repaired_by (slice_index_or rs (length rs - 1) d).mark (slice_index_or rs (length rs - 2) e).start
repaired_later rs d e h = by (length rs - 2) refl (omega (arith, h)) where
  by : (k : ℕ) → length rs - 2 ≡ k → length rs ≡ suc (suc k) → repaired_from (round_starts_in rs) ≡ repaired_by (slice_index_or rs (length rs - 1) d).mark (slice_index_or rs (length rs - 2) e).start
  by k at long =
      repaired_at rs k d e long
      ∙ (ap (λ n. repaired_by (slice_index_or rs (suc k) d).mark (slice_index_or rs n e).start) (sym at)
      ∙ ap (λ n. repaired_by (slice_index_or rs n d).mark (slice_index_or rs (length rs - 2) e).start) (omega (arith, long)))

-- Tests of starts and numbers

pub number_same : (a b : ℕ) → a ≡ b → eqb a b ≡ true
number_same a b h = grind (arith, eqb_tells, h)

pub same_starts : (a b : Option ℕ) → not (option_eq eqb a b) ≡ false → a ≡ b
same_starts None None h = refl
same_starts None (Some y) h = absurd (search (rules, h))
same_starts (Some x) None h = absurd (search (rules, h))
same_starts (Some x) (Some y) h = ap Some (eqb-true x y (not-false (eqb x y) h))

pub starts_apart : (a b : Option ℕ) → not (option_eq eqb a b) ≡ true → a ≡ b → ⊥
starts_apart None None h e = search (rules, h)
starts_apart None (Some y) h e = search (rules, e)
starts_apart (Some x) None h e = search (rules, e)
starts_apart (Some x) (Some y) h e =
    let one : x ≡ y = search (rules, e) in
    let no : false ≡ true = sym (ap not (number_same x y one)) ∙ h in
    search (rules, no)

pub starts_eq : (a b : Option ℕ) → option_eq eqb a b ≡ true → a ≡ b
starts_eq None None h = refl
starts_eq None (Some y) h = absurd (search (rules, h))
starts_eq (Some x) None h = absurd (search (rules, h))
starts_eq (Some x) (Some y) h = ap Some (eqb-true x y h)

pub eq_starts : (a b : Option ℕ) → a ≡ b → option_eq eqb a b ≡ true
eq_starts None None e = refl
eq_starts None (Some y) e = absurd (search (rules, e))
eq_starts (Some x) None e = absurd (search (rules, e))
eq_starts (Some x) (Some y) e =
    let one : x ≡ y = search (rules, e) in
    number_same x y one

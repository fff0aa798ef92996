-- Rounds and their numbers.
use Rattle.std.proofs.Common.{◌≡◌, ℕ, zero, suc, ◌+◌, ◌-◌, ◌≤◌, List, [], ◌∷◌, ◌++◌, Option, Some, None, length, take, drop, refl, sym, ap, ◌∙◌, arith}
use Rattle.std.specs.Prelude.{slice_index_or}
use Rattle.std.proofs.lemmas.List.{take-append-le, drop-append-le, length-drop}
use Rattle.std.specs.List.{flat_map}
use Rattle.mv_values.specs.Tables.{Tables}
use Rattle.mv_journal.specs.declared.outcome.Mark.{Mark}
use Rattle.mv_journal.specs.declared.outcome.Mark.TheVariants.{Plain, Exclusive, Moved}
use Rattle.mv_journal.specs.declared.outcome.Round.{Round}
use Rattle.mv_history.specs.declared.change.Change.{Change}
use Rattle.mv_history.specs.Changes.{changes_between}
use Rattle.mv_history.specs.Kept.{executions}
use Rattle.mv_lawful.specs.Batch.{Batch, tables_after, table_at, records_at, changes_after, changes_up_to}
use Rattle.mv_lawful.specs.Lawful.{RoundStart}
use Rattle.mv_lawful.specs.Rounds.{round_start_of, round_starts_in, WithinRounds, last_round_start, last_turn_or, numbered, last_number, closed, whole_run, repair_run, later_run, unless_moved, round, later_rounds, rounds_of}
use Rattle.mv_lawful.proofs.Turns.{length_changes}

-- Starts

pub within_more : (n m : ℕ) (ts : List RoundStart) → n ≤ m → WithinRounds n ts → WithinRounds m ts
within_more n m [] le h = tt
within_more n m (t ∷ ts) le h = let a = h.0 in (omega (arith, a, le), within_more n m ts le h.1)

pub within_end : (n : ℕ) (ts : List RoundStart) (t : RoundStart) → WithinRounds n ts → t.start ≤ n → WithinRounds n (ts ++ t ∷ [])
within_end n [] t h le = (le, tt)
within_end n (u ∷ ts) t h le = (h.0, within_end n ts t h.1 le)

pub last_end : (ts : List RoundStart) (t : RoundStart) → last_round_start (ts ++ t ∷ []) ≡ t.start
last_end [] t = refl
last_end (u ∷ []) t = refl
last_end (u ∷ v ∷ us) t = last_end (v ∷ us) t

pub last_is_or : (t : RoundStart) (ts : List RoundStart) → last_round_start (t ∷ ts) ≡ last_turn_or t.start ts
last_is_or t [] = refl
last_is_or t (u ∷ us) = last_is_or u us

-- Numbers

pub round_starts_numbered : (n : Option ℕ) (rs : List Round) → round_starts_in (numbered n rs) ≡ round_starts_in rs
round_starts_numbered n [] = refl
round_starts_numbered n (r ∷ []) = refl
round_starts_numbered n (r ∷ s ∷ rs) = ap (λ ts. round_start_of r ∷ ts) (round_starts_numbered n (s ∷ rs))

pub round_starts_closed : (m : Mark) (rs : List Round) → round_starts_in (closed m rs) ≡ round_starts_in rs
round_starts_closed Plain rs = refl
round_starts_closed Exclusive rs = refl
round_starts_closed Moved rs = round_starts_numbered None rs

pub numbered_twice : (n m : Option ℕ) (rs : List Round) → numbered n (numbered m rs) ≡ numbered n rs
numbered_twice n m [] = refl
numbered_twice n m (r ∷ []) = refl
numbered_twice n m (r ∷ s ∷ []) = refl
numbered_twice n m (r ∷ s ∷ t ∷ rs) = ap (λ xs. r ∷ xs) (numbered_twice n m (s ∷ t ∷ rs))

pub numbered_own : (rs : List Round) → numbered (last_number rs) rs ≡ rs
numbered_own [] = refl
numbered_own (r ∷ []) = refl
numbered_own (r ∷ s ∷ rs) = ap (λ xs. r ∷ xs) (numbered_own (s ∷ rs))

pub last_numbered : (n : Option ℕ) (r : Round) (rs : List Round) → last_number (numbered n (r ∷ rs)) ≡ n
last_numbered n r [] = refl
last_numbered n r (s ∷ []) = refl
last_numbered n r (s ∷ t ∷ rs) = last_numbered n s (t ∷ rs)

pub last_of_end : (rs : List Round) (r : Round) → last_number (rs ++ r ∷ []) ≡ r.count
last_of_end [] r = refl
last_of_end (q ∷ []) r = refl
last_of_end (q ∷ s ∷ rs) r = last_of_end (s ∷ rs) r

pub numbered_end : (n : Option ℕ) (rs : List Round) (r : Round) → numbered n (rs ++ r ∷ []) ≡ rs ++ record r { count = n } ∷ []
numbered_end n [] r = refl
numbered_end n (q ∷ []) r = refl
numbered_end n (q ∷ s ∷ rs) r = ap (λ xs. q ∷ xs) (numbered_end n (s ∷ rs) r)

last_at : (rs : List Round) (k : ℕ) (d : Round) → length rs ≡ suc k → (slice_index_or rs k d).count ≡ last_number rs
last_at [] k d h = absurd (omega (arith, h))
last_at (r ∷ []) zero d h = refl
last_at (r ∷ []) (suc k) d h = absurd (omega (arith, h))
last_at (r ∷ s ∷ rs) zero d h = absurd (omega (arith, h))
last_at (r ∷ s ∷ rs) (suc k) d h = last_at (s ∷ rs) k d (omega (arith, h))

pub last_is : (rs : List Round) (d : Round) → 1 ≤ length rs → (slice_index_or rs (length rs - 1) d).count ≡ last_number rs
last_is rs d h = last_at rs (length rs - 1) d (omega (arith, h))

-- without a number, the last one hasn't any
pub none_numbered : (rs : List Round) → last_number (numbered None rs) ≡ None
none_numbered [] = refl
none_numbered (r ∷ rs) = last_numbered None r rs

-- What the first commits come to doesn't hang on those after them

pub table_stays : (w : Batch) (order : List ℕ) (d k : ℕ) → k ≤ length order → table_at w (order ++ d ∷ []) k ≡ table_at w order k
table_stays w order d k le = ap (tables_after w w.opening) (take-append-le k order (d ∷ []) le)

pub changes_more : (w : Batch) (db : Tables) (cs : List ℕ) (d : ℕ)
    → changes_after w db (cs ++ d ∷ []) ≡ changes_after w db cs ++ changes_between (tables_after w db cs) (w.run d (tables_after w db cs)).tables ∷ []
changes_more w db [] d = refl
changes_more w db (c ∷ cs) d = ap (λ l. changes_between db (w.run c db).tables ∷ l) (changes_more w (w.run c db).tables cs d)

pub changes_stay : (w : Batch) (order : List ℕ) (d old new : ℕ) → old ≤ length order → new ≤ length order → changes_up_to w (order ++ d ∷ []) old new ≡ changes_up_to w order old new
changes_stay w order d old new lo ln = ap (flat_map (λ (cs : List Change). cs)) (ap (λ xs. take (new - old) (drop old xs)) (changes_more w w.opening order d) ∙ front) where
  all : List (List Change)
  all = changes_after w w.opening order

  one : List (List Change)
  one = changes_between (tables_after w w.opening order) (w.run d (tables_after w w.opening order)).tables ∷ []

  long : length all ≡ length order
  long = length_changes w w.opening order

  front : take (new - old) (drop old (all ++ one)) ≡ take (new - old) (drop old all)
  front =
      let len : length (drop old all) ≡ length all - old = length-drop old all in
      ap (take (new - old)) (drop-append-le old all one (omega (arith, lo, long))) ∙ take-append-le (new - old) (drop old all) one (omega (arith, len, long, ln))

whole_stays : (w : Batch) (order : List ℕ) (d c start : ℕ) → start ≤ length order → whole_run w (order ++ d ∷ []) c start ≡ whole_run w order c start
whole_stays w order d c start le = ap (λ db. length (w.run c db).records) (table_stays w order d start le)

pub repair_stays : (w : Batch) (order : List ℕ) (d c old new : ℕ) → old ≤ length order → new ≤ length order → repair_run w (order ++ d ∷ []) c old new ≡ repair_run w order c old new
repair_stays w order d c old new lo ln =
    ap (λ db. executions (w.run c db).records (records_at w (order ++ d ∷ []) new c) (changes_up_to w (order ++ d ∷ []) old new)) (table_stays w order d old lo)
    ∙ (ap (λ db. executions (records_at w order old c) (w.run c db).records (changes_up_to w (order ++ d ∷ []) old new)) (table_stays w order d new ln)
    ∙ ap (λ cs. executions (records_at w order old c) (records_at w order new c) cs) (changes_stay w order d old new lo ln))

later_stays : (w : Batch) (order : List ℕ) (d c old start : ℕ) (m : Mark) → old ≤ length order → start ≤ length order → later_run w (order ++ d ∷ []) c old start m ≡ later_run w order c old start m
later_stays w order d c old start Plain lo ln = repair_stays w order d c old start lo ln
later_stays w order d c old start Exclusive lo ln = repair_stays w order d c old start lo ln
later_stays w order d c old start Moved lo ln = whole_stays w order d c start ln

later_rounds_stay : (w : Batch) (order : List ℕ) (d c old : ℕ) (ts : List RoundStart) → old ≤ length order → WithinRounds (length order) ts → later_rounds w (order ++ d ∷ []) c old ts ≡ later_rounds w order c old ts
later_rounds_stay w order d c old [] lo h = refl
later_rounds_stay w order d c old (t ∷ ts) lo h =
    ap (λ n. round t (unless_moved n ts) ∷ later_rounds w (order ++ d ∷ []) c t.start ts) (later_stays w order d c old t.start t.mark lo h.0)
    ∙ ap (λ rs. round t (unless_moved (later_run w order c old t.start t.mark) ts) ∷ rs) (later_rounds_stay w order d c t.start ts h.0 h.1)

pub rounds_stay : (w : Batch) (order : List ℕ) (d c : ℕ) (ts : List RoundStart) → WithinRounds (length order) ts → rounds_of w (order ++ d ∷ []) c ts ≡ rounds_of w order c ts
rounds_stay w order d c [] h = refl
rounds_stay w order d c (t ∷ ts) h =
    ap (λ n. round t (unless_moved n ts) ∷ later_rounds w (order ++ d ∷ []) c t.start ts) (whole_stays w order d c t.start h.0)
    ∙ ap (λ rs. round t (unless_moved (whole_run w order c t.start) ts) ∷ rs) (later_rounds_stay w order d c t.start ts h.0 h.1)

-- A round more

closed_one : (t u : RoundStart) (k : ℕ) → round t (unless_moved k (u ∷ [])) ∷ [] ≡ closed u.mark (round t (Some k) ∷ [])
closed_one t u k = by u.mark where
  by : (m : Mark) → round t (unless_moved k (record { start = u.start; mark = m } ∷ [])) ∷ [] ≡ closed m (round t (Some k) ∷ [])
  by Plain = refl
  by Exclusive = refl
  by Moved = refl

closed_more : (m : Mark) (r q : Round) (rs : List Round) → closed m (r ∷ q ∷ rs) ≡ r ∷ closed m (q ∷ rs)
closed_more Plain r q rs = refl
closed_more Exclusive r q rs = refl
closed_more Moved r q rs = refl

later_more : (w : Batch) (order : List ℕ) (c old : ℕ) (t u : RoundStart) (ts : List RoundStart)
    → later_rounds w order c old ((t ∷ ts) ++ u ∷ []) ≡ closed u.mark (later_rounds w order c old (t ∷ ts)) ++ round u (Some (later_run w order c (last_turn_or t.start ts) u.start u.mark)) ∷ []
later_more w order c old t u [] =
    ap (λ rs. rs ++ round u (Some (later_run w order c t.start u.start u.mark)) ∷ []) (closed_one t u (later_run w order c old t.start t.mark))
later_more w order c old t u (v ∷ ts) =
    ap (λ rs. round t (unless_moved (later_run w order c old t.start t.mark) (v ∷ ts)) ∷ rs) (later_more w order c t.start v u ts)
    ∙ ap (λ rs. rs ++ round u (Some (later_run w order c (last_turn_or v.start ts) u.start u.mark)) ∷ [])
    (sym (closed_more u.mark (round t (unless_moved (later_run w order c old t.start t.mark) (v ∷ ts))) (round v (unless_moved (later_run w order c t.start v.start v.mark) ts)) (later_rounds w order c v.start ts)))

-- Runs of rounds with one more
pub rounds_more : (w : Batch) (order : List ℕ) (c : ℕ) (t u : RoundStart) (ts : List RoundStart)
    → rounds_of w order c ((t ∷ ts) ++ u ∷ []) ≡ closed u.mark (rounds_of w order c (t ∷ ts)) ++ round u (Some (later_run w order c (last_turn_or t.start ts) u.start u.mark)) ∷ []
rounds_more w order c t u [] =
    ap (λ rs. rs ++ round u (Some (later_run w order c t.start u.start u.mark)) ∷ []) (closed_one t u (whole_run w order c t.start))
rounds_more w order c t u (v ∷ ts) =
    ap (λ rs. round t (unless_moved (whole_run w order c t.start) (v ∷ ts)) ∷ rs) (later_more w order c t.start v u ts)
    ∙ ap (λ rs. rs ++ round u (Some (later_run w order c (last_turn_or v.start ts) u.start u.mark)) ∷ [])
    (sym (closed_more u.mark (round t (unless_moved (whole_run w order c t.start) (v ∷ ts))) (round v (unless_moved (later_run w order c t.start v.start v.mark) ts)) (later_rounds w order c v.start ts)))

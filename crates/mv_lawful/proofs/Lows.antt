-- Low never falls, and only a horizon makes a live call stale.
use Rattle.std.proofs.Common.{◌≡◌, ◌≤◌, ℕ, zero, suc, ◌+◌, max, min, Bool, true, false, List, [], ◌∷◌, ◌++◌, Option, Some, None, length, slice_set, if◌then◌else◌, refl, subst, arith, length-append}
use Rattle.std.specs.Prelude.{nat_lt, slice_get}
use Rattle.std.proofs.Math.Nat.{le-max_left, le-max_right, max-le, min-le_right}
use Rattle.std.proofs.lemmas.Bool.{both_ways, ltb-true}
use Rattle.std.proofs.lemmas.Option.{same_Some}
use Rattle.mv_journal.specs.declared.event.Event.{Event}
use Rattle.mv_journal.specs.declared.event.Event.TheVariants.{B, S, A, M, C, X, R, G}
use Rattle.mv_journal.specs.declared.outcome.Mark.TheVariants.{Plain, Exclusive, Moved}
use Rattle.mv_lawful.specs.Batch.{Batch}
use Rattle.mv_lawful.specs.Lawful.{Live, Schedule, beginning, change_live, with_call, begin, again, finish, commit, oldest, floor, next_low, after, reach, schedule_of, is_stale}
use Rattle.mv_lawful.specs.Rounds.{IsPast}
use Rattle.mv_lawful.specs.Laws.{LowNeverFalls, NoneIsStale, StaleIsPast}

at_most : (n : ℕ) → n ≤ n
at_most n = omega arith

pub low_never_falls : LowNeverFalls
low_never_falls w s (B c) = at_most s.low
low_never_falls w s (S c) = at_most s.low
low_never_falls w s (A c) = at_most s.low
low_never_falls w s (M c) = at_most s.low
low_never_falls w s (C c) = at_most s.low
low_never_falls w s (X c) = at_most s.low
low_never_falls w s (R c) = at_most s.low
low_never_falls w s G = le-max_left s.low (max (oldest (length s.order) s.calls) (floor (length s.order) w.options.horizon))

-- Live calls and low

-- a live call didn't start below low, unless low is no more than this floor
abbrev Holds : ℕ → ℕ → Live → Type 0
Holds floor low l = l.done ≡ false → low ≤ max l.start floor

abbrev AllHold : ℕ → ℕ → List Live → Type 0
AllHold floor low [] = Unit {0}
AllHold floor low (l ∷ ls) = Holds floor low l × AllHold floor low ls

hold_more : (floor low : ℕ) (ls : List Live) (l : Live) → AllHold floor low ls → Holds floor low l → AllHold floor low (ls ++ l ∷ [])
hold_more floor low [] l h k = (k, tt)
hold_more floor low (m ∷ ls) l h k = (h.0, hold_more floor low ls l h.1 k)

hold_set : (floor low : ℕ) (ls : List Live) (c : ℕ) (l : Live) → AllHold floor low ls → Holds floor low l → AllHold floor low (slice_set ls c l)
hold_set floor low [] c l h k = tt
hold_set floor low (m ∷ ls) zero l h k = (k, h.1)
hold_set floor low (m ∷ ls) (suc c) l h k = (h.0, hold_set floor low ls c l h.1 k)

hold_get : (floor low : ℕ) (ls : List Live) (c : ℕ) (l : Live) → AllHold floor low ls → slice_get ls c ≡ Some l → Holds floor low l
hold_get floor low [] c l h is = cc
hold_get floor low (m ∷ ls) zero l h is = subst (Holds floor low) (same_Some m l is) h.0
hold_get floor low (m ∷ ls) (suc c) l h is = hold_get floor low ls c l h.1 is

hold_changed : (floor low : ℕ) (ls : List Live) (c : ℕ) (f : Live → Live) → AllHold floor low ls → ((l : Live) → Holds floor low l → Holds floor low (f l)) → AllHold floor low (change_live (slice_get ls c) f ls c)
hold_changed floor low ls c f h k = by (slice_get ls c) refl
  where
    by : (o : Option Live) → slice_get ls c ≡ o → AllHold floor low (change_live o f ls c)
    by None e = h
    by (Some l) e = hold_set floor low ls c (f l) h (k l (hold_get floor low ls c l h e))

-- also with a higher floor, and a smaller low
looser : (floor high a b : ℕ) (ls : List Live) → floor ≤ high → a ≤ b → AllHold floor b ls → AllHold high a ls
looser floor high a b [] f h k = tt
looser floor high a b (l ∷ ls) f h k = (λ d. let m = k.0 d in at_most_max l.start f h m, looser floor high a b ls f h k.1)
  where
    at_most_max : (start : ℕ) → floor ≤ high → a ≤ b → b ≤ max start floor → a ≤ max start high
    at_most_max start f h m = omega (arith, f, h, m)

join : (floor a b : ℕ) (ls : List Live) → AllHold floor a ls → AllHold floor b ls → AllHold floor (max a b) ls
join floor a b [] h k = tt
join floor a b (l ∷ ls) h k = ((λ d. max-le (h.0 d) (k.0 d)), join floor a b ls h.1 k.1)

oldest_holds : (floor n : ℕ) (ls : List Live) → AllHold floor (oldest n ls) ls
oldest_holds floor n [] = tt
oldest_holds floor n (l ∷ ls) = by l.done refl (oldest_holds floor n ls)
  where
    first : (a : ℕ) → min l.start a ≤ max l.start floor
    first a = omega arith

    by : (b : Bool) → l.done ≡ b → AllHold floor (oldest n ls) ls → AllHold floor (if b then oldest n ls else min l.start (oldest n ls)) (l ∷ ls)
    by true e h = ((λ d. absurd (both_ways l.done d e)), h)
    by false e h = ((λ d. first (oldest n ls)), looser floor floor (min l.start (oldest n ls)) (oldest n ls) ls (at_most floor) (min-le_right l.start (oldest n ls)) h)

pub oldest_most : (n : ℕ) (ls : List Live) → oldest n ls ≤ n
oldest_most n [] = at_most n
oldest_most n (l ∷ ls) = by l.done (oldest_most n ls)
  where
    by : (b : Bool) → oldest n ls ≤ n → (if b then oldest n ls else min l.start (oldest n ls)) ≤ n
    by true h = h
    by false h = let low = min-le_right l.start (oldest n ls) in omega (arith, low, h)

floor_holds : (floor : ℕ) (ls : List Live) → AllHold floor floor ls
floor_holds floor [] = tt
floor_holds floor (l ∷ ls) = ((λ d. le-max_right l.start floor), floor_holds floor ls)

-- After events

floor_most : (n : ℕ) (horizon : Option ℕ) → floor n horizon ≤ n
floor_most n None = omega arith
floor_most n (Some h) = omega arith

floor_grows : (n m : ℕ) (horizon : Option ℕ) → n ≤ m → floor n horizon ≤ floor m horizon
floor_grows n m None le = omega arith
floor_grows n m (Some h) le = omega (arith, le)

-- low isn't past the commits, and no live call started below it but by the horizon
record Fresh (w : Batch) (s : Schedule) : Type 0 where
  low : s.low ≤ length s.order
  all : AllHold (floor (length s.order) w.options.horizon) s.low s.calls

-- a call that starts after all commits
fresh_start : (w : Batch) (s : Schedule) (l : Live) → Fresh w s → l.start ≡ length s.order → Holds (floor (length s.order) w.options.horizon) s.low l
fresh_start w s l f start d = let a = f.low in let b = le-max_left l.start (floor (length s.order) w.options.horizon) in omega (arith, a, b, start)

-- one call commits
fresh_commit : (w : Batch) (s : Schedule) (c : ℕ) (f : Live → Live) → Fresh w s → ((l : Live) → (f l).done ≡ true) → Fresh w (with_call (commit s c) c f)
fresh_commit w s c f fresh done =
    let n : ℕ = length s.order in
    let m : ℕ = length (s.order ++ c ∷ []) in
    let long = length-append s.order (c ∷ []) in
    let low = fresh.low in
    record {
      low = omega (arith, low, long);
      all = hold_changed (floor m w.options.horizon) s.low s.calls c f
          (looser (floor n w.options.horizon) (floor m w.options.horizon) s.low s.low s.calls (floor_grows n m w.options.horizon (omega (arith, long))) (at_most s.low) fresh.all)
          (λ l h d. absurd (both_ways (f l).done d (done l)));
    }

fresh_low : (w : Batch) (s : Schedule) → Fresh w s → Fresh w (record s { low = next_low w s })
fresh_low w s f =
    let n : ℕ = length s.order in
    let most : ℕ = floor n w.options.horizon in
    record {
      low = max-le f.low (max-le (oldest_most n s.calls) (floor_most n w.options.horizon));
      all = join most s.low (max (oldest n s.calls) most) s.calls f.all (join most (oldest n s.calls) most s.calls (oldest_holds most n s.calls) (floor_holds most s.calls));
    }

fresh_after : (w : Batch) (s : Schedule) (e : Event) → Fresh w s → Fresh w (after w s e)
fresh_after w s (B c) f = record { low = f.low; all = hold_more _ s.low s.calls (begin (length s.order)) f.all (fresh_start w s (begin (length s.order)) f refl) }
fresh_after w s (S c) f = record { low = f.low; all = hold_changed _ s.low s.calls c (λ l. record l { steps = l.steps + 1 }) f.all (λ l h. h) }
fresh_after w s (A c) f = record { low = f.low; all = hold_changed _ s.low s.calls c (again (length s.order) Plain) f.all (λ l h. fresh_start w s (again (length s.order) Plain l) f refl) }
fresh_after w s (M c) f = record { low = f.low; all = hold_changed _ s.low s.calls c (again (length s.order) Moved) f.all (λ l h. fresh_start w s (again (length s.order) Moved l) f refl) }
fresh_after w s (C c) f = fresh_commit w s c finish f (λ l. refl)
fresh_after w s (X c) f = fresh_commit w s c (λ l. finish (again (length s.order) Exclusive l)) f (λ l. refl)
fresh_after w s (R c) f = record { low = f.low; all = hold_changed _ s.low s.calls c finish f.all (λ l h d. absurd (both_ways true d refl)) }
fresh_after w s G f = fresh_low w s f

fresh_reach : (w : Batch) (s : Schedule) (es : List Event) → Fresh w s → Fresh w (reach w s es)
fresh_reach w s [] f = f
fresh_reach w s (e ∷ es) f = fresh_reach w (after w s e) es (fresh_after w s e f)

-- a call that started below low did so before the horizon
past : (start low n : ℕ) (horizon : Option ℕ) → nat_lt start low ≡ true → low ≤ max start (floor n horizon) → IsPast horizon start n
past start low n None below holds = let less = ltb-true start low below in absurd (omega (arith, less, holds))
past start low n (Some h) below holds = let less = ltb-true start low below in omega (arith, less, holds)

pub stale_is_past : StaleIsPast
stale_is_past w es c l is live stale =
    let s : Schedule = schedule_of w es in
    let f : Fresh w s = fresh_reach w beginning es (record { low = omega arith; all = tt }) in
    past l.start s.low (length s.order) w.options.horizon stale (hold_get (floor (length s.order) w.options.horizon) s.low s.calls c l f.all is live)

pub none_is_stale : NoneIsStale
none_is_stale w es none c l is live = by (is_stale (schedule_of w es) l) refl
  where
    by : (b : Bool) → is_stale (schedule_of w es) l ≡ b → is_stale (schedule_of w es) l ≡ false
    by true e = absurd (subst (λ h. IsPast h l.start (length (schedule_of w es).order)) none (stale_is_past w es c l is live e))
    by false e = e

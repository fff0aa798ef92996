-- The rounds that a live call has used are its A and M events, so a journal stays bounded.
use Rattle.std.proofs.Common.{◌≡◌, ◌≤◌, ℕ, zero, suc, ◌+◌, Bool, true, false, not, List, [], ◌∷◌, ◌++◌, Option, Some, None, length, slice_set, refl, sym, ap, subst, ◌∙◌, arith, length-append}
use Rattle.std.specs.Prelude.{◌==◌, nat_lt, slice_get}
use Rattle.std.specs.List.{filter}
use Rattle.std.specs.Option.{ForSome}
use Rattle.std.proofs.lemmas.Bool.Decides.{eqb_tells}
use Rattle.std.proofs.lemmas.List.Elements.{filter-append}
use Rattle.std.proofs.lemmas.Bool.{eqb-true, eq-eqb, both_ways}
use Rattle.mv_journal.specs.declared.event.Event.{Event}
use Rattle.mv_journal.specs.declared.event.Event.TheVariants.{B, S, A, M, C, X, R, G}
use Rattle.mv_journal.specs.declared.outcome.Mark.{Mark}
use Rattle.mv_journal.specs.declared.outcome.Mark.TheVariants.{Plain, Exclusive, Moved}
use Rattle.mv_lawful.specs.declared.fault.EventFault.{EventFault}
use Rattle.mv_lawful.specs.declared.fault.EventFault.TheVariants.{Order, Kind, Stale, Idle, Rounds}
use Rattle.mv_lawful.specs.Batch.{Batch}
use Rattle.mv_lawful.specs.Lawful.{Live, Schedule, beginning, change_live, begin, again, finish, used, is_stale, is_hit, has_round, unless, of_live, refusal, after, reach, schedule_of, AllAllowed}
use Rattle.mv_lawful.specs.Rounds.{is_round, IsPast, MayMove, IsBounded}
use Rattle.mv_lawful.specs.Laws.{RoundsAreCounted}
use Rattle.mv_lawful.proofs.Lows.{stale_is_past}
use Rattle.mv_lawful.proofs.Lists.{set_there}
use Rattle.mv_lawful.proofs.Repairs.{more_round_starts}
use Rattle.mv_lawful.proofs.Turns.{moves_join}

-- The count

-- a call that hasn't begun has no A and M events; a live one has one for each round after its first
abbrev Counts : Option Live → ℕ → Type 0
Counts None k = k ≡ 0
Counts (Some l) k = l.done ≡ false → length l.round_starts ≡ k + 1

counts_begun : (ls : List Live) (n c k : ℕ) → Counts (slice_get ls c) k → Counts (slice_get (ls ++ begin n ∷ []) c) k
counts_begun [] n zero k h = λ d. omega (arith, h)
counts_begun [] n (suc c) k h = h
counts_begun (l ∷ ls) n zero k h = h
counts_begun (l ∷ ls) n (suc c) k h = counts_begun ls n c k h

counts_set : (ls : List Live) (d c k : ℕ) (m : Live) → (Counts (slice_get ls d) k → Counts (Some m) k) → Counts (slice_get ls c) k → Counts (slice_get (slice_set ls d m) c) k
counts_set [] d c k m keeps h = h
counts_set (l ∷ ls) zero zero k m keeps h = keeps h
counts_set (l ∷ ls) zero (suc c) k m keeps h = h
counts_set (l ∷ ls) (suc d) zero k m keeps h = h
counts_set (l ∷ ls) (suc d) (suc c) k m keeps h = counts_set ls d c k m keeps h

counts_changed : (ls : List Live) (d c k : ℕ) (f : Live → Live) → ((l : Live) → Counts (Some l) k → Counts (Some (f l)) k) → Counts (slice_get ls c) k → Counts (slice_get (change_live (slice_get ls d) f ls d) c) k
counts_changed ls d c k f keeps h = by (slice_get ls d) refl
  where
    by : (o : Option Live) → slice_get ls d ≡ o → Counts (slice_get (change_live o f ls d) c) k
    by None e = h
    by (Some l) e = counts_set ls d c k (f l) (λ g. keeps l (subst (λ o. Counts o k) e g)) h

-- another call
counts_apart : (ls : List Live) (d c k : ℕ) (f : Live → Live) → (d == c) ≡ false → Counts (slice_get ls c) k → Counts (slice_get (change_live (slice_get ls d) f ls d) c) k
counts_apart ls d c k f other h = by (slice_get ls d)
  where
    differ : d ≡ c → ⊥
    differ e = grind (arith, eqb_tells, other)

    apart : (ls : List Live) (d c : ℕ) (m : Live) → (d ≡ c → ⊥) → Counts (slice_get ls c) k → Counts (slice_get (slice_set ls d m) c) k
    apart [] d c m ne h = h
    apart (l ∷ ls) zero zero m ne h = absurd (ne refl)
    apart (l ∷ ls) zero (suc c) m ne h = h
    apart (l ∷ ls) (suc d) zero m ne h = h
    apart (l ∷ ls) (suc d) (suc c) m ne h = apart ls d c m (λ e. ne (ap suc e)) h

    by : (o : Option Live) → Counts (slice_get (change_live o f ls d) c) k
    by None = h
    by (Some l) = apart ls d c (f l) differ h

-- the call has one round more
counts_again : (ls : List Live) (c n k : ℕ) (mark : Mark) → (slice_get ls c ≡ None → ⊥) → Counts (slice_get ls c) k → Counts (slice_get (change_live (slice_get ls c) (again n mark) ls c) c) (k + 1)
counts_again ls c n k mark there h = by (slice_get ls c) refl h
  where
    by : (o : Option Live) → slice_get ls c ≡ o → Counts o k → Counts (slice_get (change_live o (again n mark) ls c) c) (k + 1)
    by None e g = absurd (there e)
    by (Some l) e g =
        subst (λ o. Counts o (k + 1)) (sym (set_there ls c (again n mark l) l e))
        (λ d. let many = g d in let more = more_round_starts n mark l in omega (arith, many, more))

-- an event that is no round of the call
counts_kept : (w : Batch) (s : Schedule) (e : Event) (c k : ℕ) → is_round c e ≡ false → Counts (slice_get s.calls c) k → Counts (slice_get (after w s e).calls c) k
counts_kept w s (B d) c k other h = counts_begun s.calls (length s.order) c k h
counts_kept w s (S d) c k other h = counts_changed s.calls d c k (λ l. record l { steps = l.steps + 1 }) (λ l g. g) h
counts_kept w s (A d) c k other h = counts_apart s.calls d c k (again (length s.order) Plain) other h
counts_kept w s (M d) c k other h = counts_apart s.calls d c k (again (length s.order) Moved) other h
counts_kept w s (C d) c k other h = counts_changed s.calls d c k finish (λ l g e. absurd (both_ways true e refl)) h
counts_kept w s (X d) c k other h = counts_changed s.calls d c k (λ l. finish (again (length s.order) Exclusive l)) (λ l g e. absurd (both_ways true e refl)) h
counts_kept w s (R d) c k other h = counts_changed s.calls d c k finish (λ l g e. absurd (both_ways true e refl)) h
counts_kept w s G c k other h = h

-- an event of a call that is allowed is of a call that has begun
begun : (o : Option Live) (f : Live → Option EventFault) → of_live o f ≡ None → o ≡ None → ⊥
begun None f h e = cc
begun (Some l) f h e = cc

-- a round of the call
counts_more : (w : Batch) (s : Schedule) (e : Event) (c k : ℕ) → is_round c e ≡ true → refusal w s e ≡ None → Counts (slice_get s.calls c) k → Counts (slice_get (after w s e).calls c) (k + 1)
counts_more w s (A d) c k is free h = by (eqb-true d c is)
  where
    by : d ≡ c → Counts (slice_get (after w s (A d)).calls c) (k + 1)
    by same =
        subst (λ x. Counts (slice_get (after w s (A x)).calls c) (k + 1)) (sym same)
        (counts_again s.calls c (length s.order) k Plain (begun (slice_get s.calls c) (λ l. unless (not (w.read_only c)) Kind (unless (not (is_stale s l)) Stale (unless (is_hit w s c l) Idle (unless (has_round w l) Rounds None)))) (subst (λ x. refusal w s (A x) ≡ None) same free)) h)
counts_more w s (M d) c k is free h = by (eqb-true d c is)
  where
    by : d ≡ c → Counts (slice_get (after w s (M d)).calls c) (k + 1)
    by same =
        subst (λ x. Counts (slice_get (after w s (M x)).calls c) (k + 1)) (sym same)
        (counts_again s.calls c (length s.order) k Moved (begun (slice_get s.calls c) (λ l. None) (subst (λ x. refusal w s (M x) ≡ None) same free)) h)
counts_more w s (B d) c k is free h = absurd (both_ways false refl is)
counts_more w s (S d) c k is free h = absurd (both_ways false refl is)
counts_more w s (C d) c k is free h = absurd (both_ways false refl is)
counts_more w s (X d) c k is free h = absurd (both_ways false refl is)
counts_more w s (R d) c k is free h = absurd (both_ways false refl is)
counts_more w s G c k is free h = absurd (both_ways false refl is)

counts_reach : (w : Batch) (s : Schedule) (es : List Event) (c k : ℕ) → AllAllowed w s es → Counts (slice_get s.calls c) k → Counts (slice_get (reach w s es).calls c) (k + length (filter (is_round c) es))
counts_reach w s [] c k free h = subst (λ n. Counts (slice_get s.calls c) n) (plus_none k) h
  where
    plus_none : (n : ℕ) → n ≡ n + 0
    plus_none n = omega arith
counts_reach w s (e ∷ es) c k free h = by (is_round c e) refl (λ n. counts_reach w (after w s e) es c n free.1)
  where
    after_es : ℕ → Type 0
    after_es n = Counts (slice_get (reach w (after w s e) es).calls c) n

    by : (b : Bool) → is_round c e ≡ b → ((n : ℕ) → Counts (slice_get (after w s e).calls c) n → after_es (n + length (filter (is_round c) es))) → after_es (k + length (filter (is_round c) (e ∷ es)))
    by false other rest = rw other (rest k (counts_kept w s e c k other h))
    by true own rest =
        let long : length (filter (is_round c) (e ∷ es)) ≡ suc (length (filter (is_round c) es)) = rw own refl in
        subst after_es (omega (arith, long)) (rest (k + 1) (counts_more w s e c k own free.0 h))

pub rounds_are_counted : RoundsAreCounted
rounds_are_counted w es free c l is live =
    let many : length l.round_starts ≡ (0 + length (filter (is_round c) es)) + 1 = subst (λ o. Counts o (0 + length (filter (is_round c) es))) is (counts_reach w beginning es c 0 free refl) live in
    omega (arith, many)

-- One event more

-- the journal stays bounded if a call whose round the event is had one left, and the event may be a move
bounded_end : (w : Batch) (es : List Event) (e : Event) → ((c : ℕ) → is_round c e ≡ true → length (filter (is_round c) es) ≤ w.options.rounds) → MayMove w (schedule_of w es) e → IsBounded w es → IsBounded w (es ++ e ∷ [])
bounded_end w es e left may b = record { few = λ c. by c (is_round c e) refl; late = moves_join w beginning es (e ∷ []) b.late (may, tt) }
  where
    split : (c : ℕ) → length (filter (is_round c) (es ++ e ∷ [])) ≡ length (filter (is_round c) es) + length (filter (is_round c) (e ∷ []))
    split c = ap length (filter-append (is_round c) es (e ∷ [])) ∙ length-append (filter (is_round c) es) (filter (is_round c) (e ∷ []))

    by : (c : ℕ) (r : Bool) → is_round c e ≡ r → length (filter (is_round c) (es ++ e ∷ [])) ≤ w.options.rounds + 1
    by c false other =
        let all = split c in
        let one : length (filter (is_round c) (e ∷ [])) ≡ 0 = rw other refl in
        let few = b.few c in
        omega (arith, all, one, few)
    by c true own =
        let all = split c in
        let one : length (filter (is_round c) (e ∷ [])) ≡ 1 = rw own refl in
        let few = left c own in
        omega (arith, all, one, few)

-- an event that is no repair and no move
pub bounded_other : (w : Batch) (es : List Event) (e : Event) → ((c : ℕ) → is_round c e ≡ false) → IsBounded w es → IsBounded w (es ++ e ∷ [])
bounded_other w es e other b = bounded_end w es e (λ c is. absurd (both_ways (is_round c e) (other c) is)) (may e other) b
  where
    may : (e : Event) → ((c : ℕ) → is_round c e ≡ false) → MayMove w (schedule_of w es) e
    may (B d) other = tt
    may (S d) other = tt
    may (A d) other = tt
    may (M d) other = absurd (both_ways (d == d) (other d) (eq-eqb d d refl))
    may (C d) other = tt
    may (X d) other = tt
    may (R d) other = tt
    may G other = tt

-- a round of a live call that has one left
left_of : (w : Batch) (es : List Event) (d : ℕ) (l : Live) → AllAllowed w beginning es → slice_get (schedule_of w es).calls d ≡ Some l → l.done ≡ false → used l ≤ w.options.rounds
    → (c : ℕ) → (d == c) ≡ true → length (filter (is_round c) es) ≤ w.options.rounds
left_of w es d l free is live le c same =
    subst (λ x. length (filter (is_round x) es) ≤ w.options.rounds) (eqb-true d c same)
    (subst (λ n. n ≤ w.options.rounds) (sym (rounds_are_counted w es free d l is live)) le)

-- a repair that is allowed
pub bounded_repair : (w : Batch) (es : List Event) (c : ℕ) → AllAllowed w beginning es → refusal w (schedule_of w es) (A c) ≡ None → IsBounded w es → IsBounded w (es ++ A c ∷ [])
bounded_repair w es c free allowed b = by (slice_get s.calls c) refl allowed
  where
    s : Schedule
    s = schedule_of w es

    parts : (l : Live) (d b a h r : Bool) → l.done ≡ d → has_round w l ≡ r → unless (not d) Order (unless b Kind (unless a Stale (unless h Idle (unless r Rounds None)))) ≡ None → (d ≡ false) × (r ≡ true)
    parts l false true true true true e g k = (refl, refl)
    parts l false true true true false e g k = cc
    parts l false true true false r e g k = cc
    parts l false true false h r e g k = cc
    parts l false false a h r e g k = cc
    parts l true b a h r e g k = cc

    less : (l : Live) → nat_lt (used l) w.options.rounds ≡ true → used l ≤ w.options.rounds
    less l h = grind (arith, h)

    by : (o : Option Live) → slice_get s.calls c ≡ o → of_live o (λ l. unless (not (w.read_only c)) Kind (unless (not (is_stale s l)) Stale (unless (is_hit w s c l) Idle (unless (has_round w l) Rounds None)))) ≡ None → IsBounded w (es ++ A c ∷ [])
    by None at k = cc
    by (Some l) at k =
        let both = parts l l.done (not (w.read_only c)) (not (is_stale s l)) (is_hit w s c l) (has_round w l) refl refl k in
        bounded_end w es (A c) (left_of w es c l free at both.0 (less l both.1)) tt b

-- a move of a stale call that has a round left
pub bounded_move : (w : Batch) (es : List Event) (c : ℕ) (l : Live) → AllAllowed w beginning es → slice_get (schedule_of w es).calls c ≡ Some l → l.done ≡ false → is_stale (schedule_of w es) l ≡ true → used l ≤ w.options.rounds
    → IsBounded w es → IsBounded w (es ++ M c ∷ [])
bounded_move w es c l free at live stale le b = bounded_end w es (M c) (left_of w es c l free at live le) may b
  where
    may : ForSome (slice_get (schedule_of w es).calls c) (λ x. IsPast w.options.horizon x.start (length (schedule_of w es).order))
    may = subst (λ o. ForSome o (λ x. IsPast w.options.horizon x.start (length (schedule_of w es).order))) (sym at) past
      where
        past : ForSome (Some l) (λ x. IsPast w.options.horizon x.start (length (schedule_of w es).order))
        past x is = subst (λ (y : Live). IsPast w.options.horizon y.start (length (schedule_of w es).order)) (same x is) (stale_is_past w es c l at live stale)
          where
            same : (x : Live) → ◌≡◌ {A = Option Live} (Some l) (Some x) → l ≡ x
            same x e = cc

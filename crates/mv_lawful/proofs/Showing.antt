-- The events that a text shows are a journal of their own, with the same outcome.
use Rattle.std.proofs.Common.{◌≡◌, ◌≤◌, ℕ, zero, suc, ◌+◌, Bool, true, false, not, cond, if◌then◌else◌, List, [], ◌∷◌, ◌++◌, Option, Some, None, map, length, slice_set, refl, sym, ap, subst, ◌∙◌, arith}
use Rattle.std.specs.Prelude.{◌==◌, ◌&&◌, nat_lt, slice_get}
use Rattle.std.specs.List.{filter}
use Rattle.std.specs.Option.{option_map, ForSome}
use Rattle.std.proofs.lemmas.Bool.{ltb-true}
use Rattle.std.proofs.lemmas.List.{map-append, length-map}
use Rattle.std.proofs.lemmas.Option.{same_Some, slice_get-map}
use Rattle.mv_values.specs.declared.calls.Reply.{Reply}
use Rattle.mv_values.specs.Counts.{first_numbers}
use Rattle.mv_journal.specs.declared.event.Event.{Event}
use Rattle.mv_journal.specs.declared.event.Event.TheVariants.{B, S, A, M, C, X, R, G}
use Rattle.mv_journal.specs.declared.outcome.Mark.TheVariants.{Plain, Exclusive, Moved}
use Rattle.mv_journal.specs.declared.outcome.HistoryLine.{HistoryLine}
use Rattle.mv_journal.specs.declared.outcome.Outcome.{Outcome}
use Rattle.mv_lawful.specs.declared.fault.EventFault.{EventFault}
use Rattle.mv_lawful.specs.declared.fault.EventFault.TheVariants.{Order, Kind, Stale, Conflict, Idle, Rounds}
use Rattle.mv_lawful.specs.declared.fault.Wrong.TheVariants.{Open}
use Rattle.mv_lawful.specs.Batch.{Batch, table_at}
use Rattle.mv_lawful.specs.Lawful.{RoundStart, Live, Schedule, beginning, change_live, begin, again, finish, is_stale, is_hit, has_round, unless, of_live, refusal, after, reach, schedule_of, first_open, or_refused, wrong_from}
use Rattle.mv_lawful.specs.Rounds.{rounds_of, is_round, IsPast, MayMove, MovesLate}
use Rattle.mv_lawful.specs.Places.{Place, start_by, start_in, answered_at, answer_place, places_from, places}
use Rattle.mv_lawful.specs.Outcomes.{commits_before, reply_after, reply_in, round_starts_of, history_line, outcome_at, has_line, shown}
use Rattle.mv_lawful.specs.Laws.{ShownIsAllShown, ShownIsLawful, ShownIsBounded, ShownHasTheOutcome}
use Rattle.mv_lawful.proofs.Repairs.{first_allowed}

-- The state without statements and collections

-- a call whose S events aren't counted
abbrev bare : Live → Live
bare l = record l { steps = 0 }

-- the state after the events that are shown
abbrev plain : Schedule → Schedule
plain s = record { order = s.order; calls = map bare s.calls; low = 0; answered = s.answered }

set_bare : (ls : List Live) (c : ℕ) (l : Live) → slice_set (map bare ls) c (bare l) ≡ map bare (slice_set ls c l)
set_bare [] c l = refl
set_bare (m ∷ ls) zero l = refl
set_bare (m ∷ ls) (suc c) l = ap (λ ms. bare m ∷ ms) (set_bare ls c l)

set_itself : (ls : List Live) (c : ℕ) (l : Live) → slice_get ls c ≡ Some l → slice_set ls c l ≡ ls
set_itself [] c l is = refl
set_itself (m ∷ ls) zero l is = ap (λ x. x ∷ ls) (sym (same_Some m l is))
set_itself (m ∷ ls) (suc c) l is = ap (λ ms. m ∷ ms) (set_itself ls c l is)

changed_bare : (ls : List Live) (c : ℕ) (f : Live → Live) → ((l : Live) → f (bare l) ≡ bare (f l)) → change_live (slice_get (map bare ls) c) f (map bare ls) c ≡ map bare (change_live (slice_get ls c) f ls c)
changed_bare ls c f same = ap (λ (o : Option Live). change_live o f (map bare ls) c) (slice_get-map bare ls c) ∙ by (slice_get ls c)
  where
    by : (o : Option Live) → change_live (option_map bare o) f (map bare ls) c ≡ map bare (change_live o f ls c)
    by None = refl
    by (Some l) = ap (slice_set (map bare ls) c) (same l) ∙ set_bare ls c (f l)

stepped_bare : (ls : List Live) (c : ℕ) → map bare (change_live (slice_get ls c) (λ l. record l { steps = l.steps + 1 }) ls c) ≡ map bare ls
stepped_bare ls c = by (slice_get ls c) refl
  where
    by : (o : Option Live) → slice_get ls c ≡ o → map bare (change_live o (λ l. record l { steps = l.steps + 1 }) ls c) ≡ map bare ls
    by None is = refl
    by (Some l) is = sym (set_bare ls c (record l { steps = l.steps + 1 })) ∙ (set_bare ls c l ∙ ap (map bare) (set_itself ls c l is))

-- with these commits, these answered calls and these calls
abbrev at : List ℕ → List ℕ → List Live → Schedule
at order answered calls = record { order = order; calls = calls; low = 0; answered = answered }

plain_after : (w : Batch) (s : Schedule) (e : Event) → has_line e ≡ true → after w (plain s) e ≡ plain (after w s e)
plain_after w s (B c) h = ap (at s.order s.answered) (sym (map-append bare s.calls (begin (length s.order) ∷ [])))
plain_after w s (S c) h = cc
plain_after w s (A c) h = ap (at s.order s.answered) (changed_bare s.calls c (again (length s.order) Plain) (λ l. refl))
plain_after w s (M c) h = ap (at s.order s.answered) (changed_bare s.calls c (again (length s.order) Moved) (λ l. refl))
plain_after w s (C c) h = ap (at (s.order ++ c ∷ []) s.answered) (changed_bare s.calls c finish (λ l. refl))
plain_after w s (X c) h = ap (at (s.order ++ c ∷ []) s.answered) (changed_bare s.calls c (λ l. finish (again (length s.order) Exclusive l)) (λ l. refl))
plain_after w s (R c) h = ap (at s.order (s.answered ++ c ∷ [])) (changed_bare s.calls c finish (λ l. refl))
plain_after w s G h = cc

plain_other : (w : Batch) (s : Schedule) (e : Event) → has_line e ≡ false → plain (after w s e) ≡ plain s
plain_other w s (B c) h = cc
plain_other w s (S c) h = ap (at s.order s.answered) (stepped_bare s.calls c)
plain_other w s (A c) h = cc
plain_other w s (M c) h = cc
plain_other w s (C c) h = cc
plain_other w s (X c) h = cc
plain_other w s (R c) h = cc
plain_other w s G h = refl

plain_reach : (w : Batch) (s : Schedule) (es : List Event) → reach w (plain s) (shown es) ≡ plain (reach w s es)
plain_reach w s [] = refl
plain_reach w s (e ∷ es) = by (has_line e) refl (plain_reach w (after w s e) es)
  where
    by : (b : Bool) → has_line e ≡ b → reach w (plain (after w s e)) (shown es) ≡ plain (reach w (after w s e) es) → reach w (plain s) (cond b (e ∷ shown es) (shown es)) ≡ plain (reach w (after w s e) es)
    by true is go = ap (λ (t : Schedule). reach w t (shown es)) (plain_after w s e is) ∙ go
    by false is go = ap (λ (t : Schedule). reach w t (shown es)) (sym (plain_other w s e is)) ∙ go

-- Outcomes

same_round_starts : (ls : List Live) (c : ℕ) → round_starts_of (slice_get (map bare ls) c) ≡ round_starts_of (slice_get ls c)
same_round_starts ls c = ap round_starts_of (slice_get-map bare ls c) ∙ by (slice_get ls c)
  where
    by : (o : Option Live) → round_starts_of (option_map bare o) ≡ round_starts_of o
    by None = refl
    by (Some l) = refl

abbrev line_with : Batch → List ℕ → Place → List RoundStart → HistoryLine
line_with w order p ts = record { commit = p.commit; call = p.call; rounds = rounds_of w order p.call ts }

same_lines : (w : Batch) (s : Schedule) (ps : List Place) → map (history_line w (plain s)) ps ≡ map (history_line w s) ps
same_lines w s [] = refl
same_lines w s (p ∷ ps) =
    ap (λ (l : HistoryLine). l ∷ map (history_line w (plain s)) ps) (ap (line_with w s.order p) (same_round_starts s.calls p.call))
    ∙ ap (λ (ls : List HistoryLine). history_line w s p ∷ ls) (same_lines w s ps)

-- Places

same_start : (ls : List Live) (c : ℕ) → start_in (map bare ls) c ≡ start_in ls c
same_start ls c = ap start_by (slice_get-map bare ls c) ∙ by (slice_get ls c)
  where
    by : (o : Option Live) → start_by (option_map bare o) ≡ start_by o
    by None = refl
    by (Some l) = refl

same_answered : (ls : List Live) (n : ℕ) (cs : List ℕ) → filter (λ c. start_in (map bare ls) c == n) cs ≡ filter (λ c. start_in ls c == n) cs
same_answered ls n [] = refl
same_answered ls n (c ∷ cs) =
    ap (λ k. cond (k == n) (c ∷ filter (λ d. start_in (map bare ls) d == n) cs) (filter (λ d. start_in (map bare ls) d == n) cs)) (same_start ls c)
    ∙ ap (λ ds. cond (start_in ls c == n) (c ∷ ds) ds) (same_answered ls n cs)

same_places : (s : Schedule) (n : ℕ) (cs : List ℕ) → places_from (plain s) n cs ≡ places_from s n cs
same_places s n [] = ap (map answer_place) (same_answered s.calls n s.answered)
same_places s n (c ∷ cs) =
    ap (λ ds. map answer_place ds ++ record { commit = Some (n + 1); call = c } ∷ places_from (plain s) (n + 1) cs) (same_answered s.calls n s.answered)
    ∙ ap (λ (ps : List Place). map answer_place (answered_at s n) ++ record { commit = Some (n + 1); call = c } ∷ ps) (same_places s (n + 1) cs)

same_history : (w : Batch) (s : Schedule) → map (history_line w (plain s)) (places (plain s)) ≡ map (history_line w s) (places s)
same_history w s = ap (map (history_line w (plain s))) (same_places s 0 s.order) ∙ same_lines w s (places s)

-- Replies

same_reply : (w : Batch) (s : Schedule) (c : ℕ) → reply_in w (plain s) c ≡ reply_in w s c
same_reply w s c = ap (λ n. reply_after w s.order c (commits_before s.order s.answered n c)) (same_start s.calls c)

same_replies : (w : Batch) (s : Schedule) (cs : List ℕ) → map (reply_in w (plain s)) cs ≡ map (reply_in w s) cs
same_replies w s [] = refl
same_replies w s (c ∷ cs) = ap (λ (r : Reply). r ∷ map (reply_in w (plain s)) cs) (same_reply w s c) ∙ ap (λ (rs : List Reply). reply_in w s c ∷ rs) (same_replies w s cs)

abbrev outcome_with : Batch → List ℕ → List Reply → List HistoryLine → List Event → Outcome
outcome_with w order replies history es = record { replies = replies; history = history; journal = es; tables = table_at w order (length order) }

outcome_plain : (w : Batch) (s : Schedule) (es : List Event) → outcome_at w (plain s) es ≡ outcome_at w s es
outcome_plain w s es =
    ap (λ (rs : List Reply). outcome_with w s.order rs (map (history_line w (plain s)) (places (plain s))) es) (same_replies w s (first_numbers w.count))
    ∙ ap (λ (ls : List HistoryLine). outcome_with w s.order (map (reply_in w s) (first_numbers w.count)) ls es) (same_history w s)

pub shown_has_the_outcome : ShownHasTheOutcome
shown_has_the_outcome w es = ap (λ (s : Schedule). outcome_at w s (shown es)) (plain_reach w beginning es) ∙ outcome_plain w (schedule_of w es) (shown es)

-- Refusals

low_none : (n : ℕ) → nat_lt n 0 ≡ false
low_none n = by (nat_lt n 0) refl
  where
    by : (b : Bool) → nat_lt n 0 ≡ b → nat_lt n 0 ≡ false
    by true e = absurd (let below = ltb-true n 0 e in omega (arith, below))
    by false e = e

-- no call is stale
fresh : (n : ℕ) (later : Option EventFault) → unless (not (nat_lt n 0)) Stale later ≡ later
fresh n later = ap (λ b. unless (not b) Stale later) (low_none n)

later_of : (b : Bool) (f : EventFault) (later : Option EventFault) → unless b f later ≡ None → later ≡ None
later_of true f later h = h
later_of false f later h = cc

-- the same after a reason that is tried before
fresh_kind : (k : Bool) (n : ℕ) (b : Bool) (later : Option EventFault) → unless k Kind (unless b Stale later) ≡ None → unless k Kind (unless (not (nat_lt n 0)) Stale later) ≡ None
fresh_kind true n b later h = fresh n later ∙ later_of b Stale later h
fresh_kind false n b later h = cc

live_bare : (o : Option Live) (f g : Live → Option EventFault) → ((l : Live) → f l ≡ None → g (bare l) ≡ None) → of_live o f ≡ None → of_live (option_map bare o) g ≡ None
live_bare None f g k h = cc
live_bare (Some l) f g k h = by l.done h (k l)
  where
    by : (b : Bool) → unless (not b) Order (f l) ≡ None → (f l ≡ None → g (bare l) ≡ None) → unless (not b) Order (g (bare l)) ≡ None
    by true is go = cc
    by false is go = go is

call_bare : (ls : List Live) (c : ℕ) (f g : Live → Option EventFault) → ((l : Live) → f l ≡ None → g (bare l) ≡ None) → of_live (slice_get ls c) f ≡ None → of_live (slice_get (map bare ls) c) g ≡ None
call_bare ls c f g k h = ap (λ (o : Option Live). of_live o g) (slice_get-map bare ls c) ∙ live_bare (slice_get ls c) f g k h

plain_allowed : (w : Batch) (s : Schedule) (e : Event) → has_line e ≡ true → refusal w s e ≡ None → refusal w (plain s) e ≡ None
plain_allowed w s (B c) is h = ap (λ n. unless ((c == n) && nat_lt c w.count) Order None) (length-map s.calls bare) ∙ h
plain_allowed w s (S c) is h = cc
plain_allowed w s (A c) is h =
    call_bare s.calls c (λ l. unless (not (w.read_only c)) Kind (unless (not (is_stale s l)) Stale (unless (is_hit w s c l) Idle (unless (has_round w l) Rounds None))))
    (λ l. unless (not (w.read_only c)) Kind (unless (not (is_stale (plain s) l)) Stale (unless (is_hit w (plain s) c l) Idle (unless (has_round w l) Rounds None))))
    (λ l. fresh_kind (not (w.read_only c)) l.start (not (is_stale s l)) (unless (is_hit w s c l) Idle (unless (has_round w l) Rounds None))) h
plain_allowed w s (M c) is h = call_bare s.calls c (λ l. None) (λ l. None) (λ l k. refl) h
plain_allowed w s (C c) is h =
    call_bare s.calls c (λ l. unless (not (w.read_only c)) Kind (unless (not (is_stale s l)) Stale (unless (not (is_hit w s c l)) Conflict None)))
    (λ l. unless (not (w.read_only c)) Kind (unless (not (is_stale (plain s) l)) Stale (unless (not (is_hit w (plain s) c l)) Conflict None)))
    (λ l. fresh_kind (not (w.read_only c)) l.start (not (is_stale s l)) (unless (not (is_hit w s c l)) Conflict None)) h
plain_allowed w s (X c) is h =
    call_bare s.calls c (λ l. unless (not (w.read_only c)) Kind (unless (not (is_stale s l)) Stale (unless (is_hit w s c l) Idle (unless (not (has_round w l)) Rounds None))))
    (λ l. unless (not (w.read_only c)) Kind (unless (not (is_stale (plain s) l)) Stale (unless (is_hit w (plain s) c l) Idle (unless (not (has_round w l)) Rounds None))))
    (λ l. fresh_kind (not (w.read_only c)) l.start (not (is_stale s l)) (unless (is_hit w s c l) Idle (unless (not (has_round w l)) Rounds None))) h
plain_allowed w s (R c) is h =
    call_bare s.calls c (λ l. unless (w.read_only c) Kind (unless (not (is_stale s l)) Stale None)) (λ l. unless (w.read_only c) Kind (unless (not (is_stale (plain s) l)) Stale None))
    (λ l. fresh_kind (w.read_only c) l.start (not (is_stale s l)) None) h
plain_allowed w s G is h = cc

same_open : (n : ℕ) (ls : List Live) → first_open n (map bare ls) ≡ first_open n ls
same_open n [] = refl
same_open n (l ∷ ls) = ap (λ k. if l.done then k else n) (same_open (n + 1) ls)

none_wrong : (w : Batch) (n m : ℕ) (s : Schedule) (es : List Event) → wrong_from w n s es ≡ None → wrong_from w m (plain s) (shown es) ≡ None
none_wrong w n m s [] h = ap (λ c. option_map Open (if nat_lt c w.count then Some c else None)) (same_open 0 s.calls) ∙ h
none_wrong w n m s (e ∷ es) h = by (has_line e) refl (λ k. none_wrong w (n + 1) k (after w s e) es parts.1)
  where
    parts : (refusal w s e ≡ None) × (wrong_from w (n + 1) (after w s e) es ≡ None)
    parts = first_allowed n (refusal w s e) (wrong_from w (n + 1) (after w s e) es) h

    by : (b : Bool) → has_line e ≡ b → ((k : ℕ) → wrong_from w k (plain (after w s e)) (shown es) ≡ None) → wrong_from w m (plain s) (cond b (e ∷ shown es) (shown es)) ≡ None
    by true is go =
        ap (λ o. or_refused m o (wrong_from w (m + 1) (after w (plain s) e) (shown es))) (plain_allowed w s e is parts.0)
        ∙ (ap (λ (t : Schedule). wrong_from w (m + 1) t (shown es)) (plain_after w s e is) ∙ go (m + 1))
    by false is go = ap (λ (t : Schedule). wrong_from w m t (shown es)) (sym (plain_other w s e is)) ∙ go m

pub shown_is_lawful : ShownIsLawful
shown_is_lawful w es h = none_wrong w 1 1 beginning es h

-- Bounds

same_rounds : (c : ℕ) (es : List Event) → filter (is_round c) (shown es) ≡ filter (is_round c) es
same_rounds c [] = refl
same_rounds c (B d ∷ es) = same_rounds c es
same_rounds c (S d ∷ es) = same_rounds c es
same_rounds c (A d ∷ es) = ap (λ (fs : List Event). cond (d == c) (A d ∷ fs) fs) (same_rounds c es)
same_rounds c (M d ∷ es) = ap (λ (fs : List Event). cond (d == c) (M d ∷ fs) fs) (same_rounds c es)
same_rounds c (C d ∷ es) = same_rounds c es
same_rounds c (X d ∷ es) = same_rounds c es
same_rounds c (R d ∷ es) = same_rounds c es
same_rounds c (G ∷ es) = same_rounds c es

plain_may : (w : Batch) (s : Schedule) (e : Event) → MayMove w s e → MayMove w (plain s) e
plain_may w s (B c) h = tt
plain_may w s (S c) h = tt
plain_may w s (A c) h = tt
plain_may w s (M c) h = subst (λ (o : Option Live). ForSome o (λ l. IsPast w.options.horizon l.start (length s.order))) (sym (slice_get-map bare s.calls c)) (by (slice_get s.calls c) h)
  where
    by : (o : Option Live) → ForSome o (λ l. IsPast w.options.horizon l.start (length s.order)) → ForSome (option_map bare o) (λ l. IsPast w.options.horizon l.start (length s.order))
    by None k x is = cc
    by (Some l) k x is = subst (λ (m : Live). IsPast w.options.horizon m.start (length s.order)) (same_Some (bare l) x is) (k l refl)
plain_may w s (C c) h = tt
plain_may w s (X c) h = tt
plain_may w s (R c) h = tt
plain_may w s G h = tt

moves_late : (w : Batch) (s : Schedule) (es : List Event) → MovesLate w s es → MovesLate w (plain s) (shown es)
moves_late w s [] h = tt
moves_late w s (e ∷ es) h = by (has_line e) refl (moves_late w (after w s e) es h.1)
  where
    by : (b : Bool) → has_line e ≡ b → MovesLate w (plain (after w s e)) (shown es) → MovesLate w (plain s) (cond b (e ∷ shown es) (shown es))
    by true is go = (plain_may w s e h.0, subst (λ (t : Schedule). MovesLate w t (shown es)) (sym (plain_after w s e is)) go)
    by false is go = subst (λ (t : Schedule). MovesLate w t (shown es)) (plain_other w s e is) go

pub shown_is_bounded : ShownIsBounded
shown_is_bounded w es h = record {
  few = λ c. subst (λ (fs : List Event). length fs ≤ w.options.rounds + 1) (sym (same_rounds c es)) (h.few c);
  late = moves_late w beginning es h.late;
}

-- Twice

pub shown_is_all_shown : ShownIsAllShown
shown_is_all_shown [] = refl
shown_is_all_shown (B c ∷ es) = ap (λ (fs : List Event). B c ∷ fs) (shown_is_all_shown es)
shown_is_all_shown (S c ∷ es) = shown_is_all_shown es
shown_is_all_shown (A c ∷ es) = ap (λ (fs : List Event). A c ∷ fs) (shown_is_all_shown es)
shown_is_all_shown (M c ∷ es) = ap (λ (fs : List Event). M c ∷ fs) (shown_is_all_shown es)
shown_is_all_shown (C c ∷ es) = ap (λ (fs : List Event). C c ∷ fs) (shown_is_all_shown es)
shown_is_all_shown (X c ∷ es) = ap (λ (fs : List Event). X c ∷ fs) (shown_is_all_shown es)
shown_is_all_shown (R c ∷ es) = ap (λ (fs : List Event). R c ∷ fs) (shown_is_all_shown es)
shown_is_all_shown (G ∷ es) = shown_is_all_shown es

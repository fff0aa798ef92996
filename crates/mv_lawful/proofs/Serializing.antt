-- The outcome of a lawful journal is serializable.
use Rattle.std.proofs.Common.{◌≡◌, ◌≤◌, ◌<◌, inl, inr, ℕ, zero, suc, ◌+◌, Bool, true, false, not, cond, if◌then◌else◌, List, [], ◌∷◌, ◌++◌, Option, Some, None, map, length, take, slice_set, refl, sym, ap, subst, ◌∙◌, arith, length-append, append_assoc}
use Rattle.std.specs.Prelude.{◌==◌, ◌||◌, ◌&&◌, nat_lt, slice_get, All, Contains}
use Rattle.std.specs.List.{filter, position, position_or_len}
use Rattle.std.specs.Option.{is_some, option_map}
use Rattle.std.proofs.lemmas.Bool.{eqb-true, both_ways, eq-eqb, cases_lt}
use Rattle.std.proofs.lemmas.List.{length-map}
use Rattle.std.proofs.lemmas.List.Elements.{All-nil, All-cons}
use Rattle.std.proofs.lemmas.Option.{same_Some, slice_get-map, slice_get_within}
use Rattle.mv_values.specs.Counts.{first_numbers}
use Rattle.mv_journal.specs.declared.event.Event.{Event}
use Rattle.mv_journal.specs.declared.event.Event.TheVariants.{B, S, A, M, C, X, R, G}
use Rattle.mv_journal.specs.declared.outcome.Mark.{Mark}
use Rattle.mv_journal.specs.declared.outcome.Mark.TheVariants.{Plain, Exclusive, Moved}
use Rattle.mv_journal.specs.declared.outcome.Round.{Round}
use Rattle.mv_journal.specs.declared.outcome.HistoryLine.{HistoryLine}
use Rattle.mv_lawful.specs.declared.fault.EventFault.{EventFault}
use Rattle.mv_lawful.specs.declared.fault.EventFault.TheVariants.{Order, Kind, Stale}
use Rattle.mv_values.specs.Tables.{Tables}
use Rattle.mv_lawful.specs.Batch.{Batch, tables_after, table_at}
use Rattle.mv_lawful.specs.Lawful.{RoundStart, Live, Schedule, beginning, change_live, begin, again, finish, is_stale, unless, of_live, refusal, after, reach, schedule_of, wrong_from, AllAllowed}
use Rattle.mv_lawful.specs.Places.{Place, start_in, places, calls_at, standing}
use Rattle.mv_lawful.specs.Rounds.{WithinRounds, last_round_start, last_turn_or, unless_moved, whole_run, later_run, later_rounds, rounds_of, round, last_start}
use Rattle.mv_lawful.specs.Outcomes.{commits_before, reply_in, reply_after, round_starts_of, history_line}
use Rattle.mv_lawful.specs.Laws.{IsSerial}
use Rattle.mv_lawful.specs.Serializable.{begins_in, commits_in, ends_in, order_of, commits_of, commits_to, IsPlaced, start_of, LawfulIsSerializable}
use Rattle.mv_lawful.proofs.Lists.{get_front, get_below, get_end, set_there, set_apart}
use Rattle.mv_lawful.proofs.Numbers.{last_is_or}
use Rattle.mv_lawful.proofs.Placing.{is_commit, commits_to_place, StandsBy, place_at, commits_are, readers, tables_standing, all_commits, place_of, ended_at, standing_below, start_at, serial_of}
use Rattle.mv_lawful.proofs.Repairs.{first_allowed}
use Rattle.mv_lawful.proofs.Serial.{stands, stands_same, stands_at, contains_it, Once, OrderlyAt, Ended, orderly_after, ended_from, all_done, at_beginning, next_below}
use Rattle.mv_lawful.proofs.Turns.{length_numbers}

-- The place of a call

place_is : (cs : List ℕ) (c k : ℕ) → Once cs → slice_get cs k ≡ Some c → position_or_len (λ d. d == c) cs ≡ k
place_is [] c k o is = cc
place_is (d ∷ cs) c zero o is = ap (λ b. cond (not b) (1 + position_or_len (λ x. x == c) cs) 0) (eq-eqb d c (same_Some d c is))
place_is (d ∷ cs) c (suc k) o is = by (d == c) refl (place_is cs c k o.1 is)
  where
    by : (b : Bool) → (d == c) ≡ b → position_or_len (λ x. x == c) cs ≡ k → cond (not b) (1 + position_or_len (λ x. x == c) cs) 0 ≡ suc k
    by true e at = absurd (both_ways (stands d cs) o.0 (subst (λ x. stands x cs ≡ true) (sym (eqb-true d c e)) (stands_at cs k c is)))
    by false e at = omega (arith, at)

position_is : (cs : List ℕ) (c k : ℕ) → Once cs → slice_get cs k ≡ Some c → position (λ d. d == c) cs ≡ Some k
position_is cs c k o is = ap (λ b. cond b (Some (position_or_len (λ d. d == c) cs)) None) within ∙ ap Some at
  where
    at : position_or_len (λ d. d == c) cs ≡ k
    at = place_is cs c k o is

    within : nat_lt (position_or_len (λ d. d == c) cs) (length cs) ≡ true
    within = let lt : k < length cs = slice_get_within cs k c is in grind (arith, at, lt)

-- Replies

pub number_at : (n c : ℕ) → c < n → slice_get (first_numbers n) c ≡ Some c
number_at zero c lt = absurd (omega (arith, lt))
number_at (suc n) c lt =
    let long = length_numbers n in
    elim (cases_lt c n) [
      | inl less ↦ get_below (first_numbers n) n c (omega (arith, long, less)) ∙ number_at n c less
      | inr past ↦ (let same : c ≡ n = omega (arith, past, lt) in subst (λ k. slice_get (first_numbers n ++ n ∷ []) k ≡ Some k) (sym same) (get_end (first_numbers n) n n (sym long)))
    ]

-- the reply of a call after so many commits
reply_at : (w : Batch) (s : Schedule) (j c : ℕ) → c < w.count → commits_before s.order s.answered (start_in s.calls c) c ≡ Some j
    → slice_get (map (reply_in w s) (first_numbers w.count)) c ≡ Some (w.run c (table_at w s.order j)).reply
reply_at w s j c lt is =
    slice_get-map (reply_in w s) (first_numbers w.count) c
    ∙ (ap (option_map (reply_in w s)) (number_at w.count c lt) ∙ ap (λ (o : Option ℕ). Some (reply_after w s.order c o)) is)

-- with so many commits before it a call is at its place
before_place : (w : Batch) (s : Schedule) (j : ℕ) (o : Option ℕ) (c : ℕ) → OrderlyAt w s → StandsBy s 0 s.order j o c → commits_before s.order s.answered (start_in s.calls c) c ≡ Some j
before_place w s j (Some number) c o h =
    ap (λ b. if b then Some (start_in s.calls c) else position (λ d. d == c) s.order) (o.apart c (stands_at s.order j c h.1)) ∙ position_is s.order c j o.once h.1
before_place w s j None c o h =
    ap (λ b. if b then Some (start_in s.calls c) else position (λ d. d == c) s.order) h.0 ∙ ap Some (let e = h.1 in omega (arith, e))

-- The history

calls_of : (w : Batch) (s : Schedule) (ps : List Place) → order_of (map (history_line w s) ps) ≡ calls_at ps
calls_of w s [] = refl
calls_of w s (p ∷ ps) = ap (λ cs. p.call ∷ cs) (calls_of w s ps)

-- the lines of commits are those of their places
commits_in_lines : (w : Batch) (s : Schedule) (ps : List Place) → commits_of (map (history_line w s) ps) ≡ map (history_line w s) (filter is_commit ps)
commits_in_lines w s [] = refl
commits_in_lines w s (p ∷ ps) = by (is_some p.commit) (commits_in_lines w s ps)
  where
    by : (b : Bool) → commits_of (map (history_line w s) ps) ≡ map (history_line w s) (filter is_commit ps)
        → cond b (history_line w s p ∷ commits_of (map (history_line w s) ps)) (commits_of (map (history_line w s) ps)) ≡ map (history_line w s) (cond b (p ∷ filter is_commit ps) (filter is_commit ps))
    by true h = ap (λ (ls : List HistoryLine). history_line w s p ∷ ls) h
    by false h = h

taken_lines : (w : Batch) (s : Schedule) (k : ℕ) (ps : List Place) → take k (map (history_line w s) ps) ≡ map (history_line w s) (take k ps)
taken_lines w s zero ps = refl
taken_lines w s (suc k) [] = refl
taken_lines w s (suc k) (p ∷ ps) = ap (λ (ls : List HistoryLine). history_line w s p ∷ ls) (taken_lines w s k ps)

as_many_before : (w : Batch) (s : Schedule) (k : ℕ) (ps : List Place) → commits_to k (map (history_line w s) ps) ≡ commits_to_place k ps
as_many_before w s k ps =
    ap (λ (ls : List HistoryLine). length (commits_of ls)) (taken_lines w s k ps)
    ∙ (ap (λ (ls : List HistoryLine). length ls) (commits_in_lines w s (take k ps)) ∙ length-map (filter is_commit (take k ps)) (history_line w s))

-- the line at a place is that of the call there
record IsLineAt (w : Batch) (s : Schedule) (ps : List Place) (k : ℕ) (found : HistoryLine) : Type 0 where
  place : Place
  is : slice_get ps k ≡ Some place
  line : history_line w s place ≡ found

line_at : (w : Batch) (s : Schedule) (ps : List Place) (k : ℕ) (line : HistoryLine) → slice_get (map (history_line w s) ps) k ≡ Some line → IsLineAt w s ps k line
line_at w s ps k line h = by (slice_get ps k) refl (sym (slice_get-map (history_line w s) ps k) ∙ h)
  where
    by : (o : Option Place) → slice_get ps k ≡ o → option_map (history_line w s) o ≡ Some line → IsLineAt w s ps k line
    by None at is = cc
    by (Some p) at is = record { place = p; is = at; line = same_Some (history_line w s p) line is }

-- Events one after another

allowed_from : (w : Batch) (n : ℕ) (s : Schedule) (es : List Event) → wrong_from w n s es ≡ None → AllAllowed w s es
allowed_from w n s [] h = tt
allowed_from w n s (e ∷ es) h =
    let parts = first_allowed n (refusal w s e) (wrong_from w (n + 1) (after w s e) es) h in
    (parts.0, allowed_from w (n + 1) (after w s e) es parts.1)

allowed_parts : (w : Batch) (s : Schedule) (es fs : List Event) → AllAllowed w s (es ++ fs) → AllAllowed w s es × AllAllowed w (reach w s es) fs
allowed_parts w s [] fs h = (tt, h)
allowed_parts w s (e ∷ es) fs h = let both = allowed_parts w (after w s e) es fs h.1 in ((h.0, both.0), both.1)

reach_parts : (w : Batch) (s : Schedule) (es fs : List Event) → reach w s (es ++ fs) ≡ reach w (reach w s es) fs
reach_parts w s [] fs = refl
reach_parts w s (e ∷ es) fs = reach_parts w (after w s e) es fs

orderly_reach : (w : Batch) (s : Schedule) (es : List Event) → AllAllowed w s es → OrderlyAt w s → OrderlyAt w (reach w s es)
orderly_reach w s [] h o = o
orderly_reach w s (e ∷ es) h o = orderly_reach w (after w s e) es h.1 (orderly_after w s e h.0 o)

-- Commits

order_is : (w : Batch) (s : Schedule) (es : List Event) → (reach w s es).order ≡ s.order ++ commits_in es
order_is w s [] = nothing s.order
  where
    nothing : (cs : List ℕ) → cs ≡ cs ++ []
    nothing [] = refl
    nothing (c ∷ cs) = ap (λ ds. c ∷ ds) (nothing cs)
order_is w s (B c ∷ es) = order_is w (after w s (B c)) es
order_is w s (S c ∷ es) = order_is w (after w s (S c)) es
order_is w s (A c ∷ es) = order_is w (after w s (A c)) es
order_is w s (M c ∷ es) = order_is w (after w s (M c)) es
order_is w s (C c ∷ es) = order_is w (after w s (C c)) es ∙ append_assoc s.order (c ∷ []) (commits_in es)
order_is w s (X c ∷ es) = order_is w (after w s (X c)) es ∙ append_assoc s.order (c ∷ []) (commits_in es)
order_is w s (R c ∷ es) = order_is w (after w s (R c)) es
order_is w s (G ∷ es) = order_is w (after w s G) es

-- Ends

-- whether a call has committed or was answered
abbrev is_ended : ℕ → Schedule → Bool
is_ended c s = stands c s.answered || stands c s.order

stands_more : (c d : ℕ) (cs : List ℕ) → stands c (cs ++ d ∷ []) ≡ (stands c cs || ((d == c) || false))
stands_more c d [] = refl
stands_more c d (x ∷ cs) = by (x == c) (stands_more c d cs)
  where
    by : (b : Bool) → stands c (cs ++ d ∷ []) ≡ (stands c cs || ((d == c) || false)) → (b || stands c (cs ++ d ∷ [])) ≡ ((b || stands c cs) || ((d == c) || false))
    by true h = refl
    by false h = h

ended_by_commit : (a o x e : Bool) → ((a || (o || (x || false))) || e) ≡ ((a || o) || (x || e))
ended_by_commit true o x e = refl
ended_by_commit false true x e = refl
ended_by_commit false false true e = refl
ended_by_commit false false false e = refl

ended_by_answer : (a o x e : Bool) → (((a || (x || false)) || o) || e) ≡ ((a || o) || (x || e))
ended_by_answer true o x e = refl
ended_by_answer false true true e = refl
ended_by_answer false true false e = refl
ended_by_answer false false true e = refl
ended_by_answer false false false e = refl

nothing_more : (b : Bool) → b ≡ (b || false)
nothing_more true = refl
nothing_more false = refl

-- it has ended before the events, or ends by them
ends_are : (w : Batch) (s : Schedule) (es : List Event) (c : ℕ) → is_ended c (reach w s es) ≡ (is_ended c s || stands c (ends_in es))
ends_are w s [] c = nothing_more (is_ended c s)
ends_are w s (B d ∷ es) c = ends_are w (after w s (B d)) es c
ends_are w s (S d ∷ es) c = ends_are w (after w s (S d)) es c
ends_are w s (A d ∷ es) c = ends_are w (after w s (A d)) es c
ends_are w s (M d ∷ es) c = ends_are w (after w s (M d)) es c
ends_are w s (C d ∷ es) c =
    ends_are w (after w s (C d)) es c
    ∙ (ap (λ b. (stands c s.answered || b) || stands c (ends_in es)) (stands_more c d s.order) ∙ ended_by_commit (stands c s.answered) (stands c s.order) (d == c) (stands c (ends_in es)))
ends_are w s (X d ∷ es) c =
    ends_are w (after w s (X d)) es c
    ∙ (ap (λ b. (stands c s.answered || b) || stands c (ends_in es)) (stands_more c d s.order) ∙ ended_by_commit (stands c s.answered) (stands c s.order) (d == c) (stands c (ends_in es)))
ends_are w s (R d ∷ es) c =
    ends_are w (after w s (R d)) es c
    ∙ (ap (λ b. (b || stands c s.order) || stands c (ends_in es)) (stands_more c d s.answered) ∙ ended_by_answer (stands c s.answered) (stands c s.order) (d == c) (stands c (ends_in es)))
ends_are w s (G ∷ es) c = ends_are w (after w s G) es c

-- Begins

same_count : (ls : List Live) (c : ℕ) (f : Live → Live) → length (change_live (slice_get ls c) f ls c) ≡ length ls
same_count ls c f = by (slice_get ls c)
  where
    set_count : (ls : List Live) (c : ℕ) (m : Live) → length (slice_set ls c m) ≡ length ls
    set_count [] c m = refl
    set_count (l ∷ ls) zero m = refl
    set_count (l ∷ ls) (suc c) m = ap suc (set_count ls c m)

    by : (o : Option Live) → length (change_live o f ls c) ≡ length ls
    by None = refl
    by (Some l) = set_count ls c (f l)

-- the call that begins is the next one
next_is : (w : Batch) (n c : ℕ) → unless ((c == n) && nat_lt c w.count) Order None ≡ None → c ≡ n
next_is w n c h = by (c == n) (nat_lt c w.count) refl h
  where
    by : (a b : Bool) → (c == n) ≡ a → unless (a && b) Order None ≡ None → c ≡ n
    by true b e k = eqb-true c n e
    by false b e k = cc

begins_are : (w : Batch) (s : Schedule) (es : List Event) → AllAllowed w s es → first_numbers (length s.calls) ++ begins_in es ≡ first_numbers (length (reach w s es).calls)
begins_are w s [] h = nothing (first_numbers (length s.calls))
  where
    nothing : (cs : List ℕ) → cs ++ [] ≡ cs
    nothing [] = refl
    nothing (c ∷ cs) = ap (λ ds. c ∷ ds) (nothing cs)
begins_are w s (B c ∷ es) h =
    let n : ℕ = length s.calls in
    let one : length (s.calls ++ begin (length s.order) ∷ []) ≡ suc n = (let l = length-append s.calls (begin (length s.order) ∷ []) in omega (arith, l)) in
    ap (λ d. first_numbers n ++ d ∷ begins_in es) (next_is w n c h.0)
    ∙ (sym (append_assoc (first_numbers n) (n ∷ []) (begins_in es))
    ∙ (ap (λ m. first_numbers m ++ begins_in es) (sym one) ∙ begins_are w (after w s (B c)) es h.1))
begins_are w s (S c ∷ es) h = ap (λ m. first_numbers m ++ begins_in es) (sym (same_count s.calls c (λ l. record l { steps = l.steps + 1 }))) ∙ begins_are w (after w s (S c)) es h.1
begins_are w s (A c ∷ es) h = ap (λ m. first_numbers m ++ begins_in es) (sym (same_count s.calls c (again (length s.order) Plain))) ∙ begins_are w (after w s (A c)) es h.1
begins_are w s (M c ∷ es) h = ap (λ m. first_numbers m ++ begins_in es) (sym (same_count s.calls c (again (length s.order) Moved))) ∙ begins_are w (after w s (M c)) es h.1
begins_are w s (C c ∷ es) h = ap (λ m. first_numbers m ++ begins_in es) (sym (same_count s.calls c finish)) ∙ begins_are w (after w s (C c)) es h.1
begins_are w s (X c ∷ es) h = ap (λ m. first_numbers m ++ begins_in es) (sym (same_count s.calls c (λ l. finish (again (length s.order) Exclusive l)))) ∙ begins_are w (after w s (X c)) es h.1
begins_are w s (R c ∷ es) h = ap (λ m. first_numbers m ++ begins_in es) (sym (same_count s.calls c finish)) ∙ begins_are w (after w s (R c)) es h.1
begins_are w s (G ∷ es) h = begins_are w (after w s G) es h.1

-- at the end each call has begun
all_begun : (w : Batch) (s : Schedule) → Ended w s → length s.calls ≡ w.count
all_begun w s h =
    elim (cases_lt (length s.calls) w.count) [
      | inl less ↦ absurd (let it = all_done w s h.closed (length s.calls) less in let within : length s.calls < length s.calls = slice_get_within s.calls (length s.calls) it.0 it.1 in omega (arith, within))
      | inr enough ↦ (let few = h.orderly.count in omega (arith, few, enough))
    ]

-- A begin and what comes after it

-- the first round of a call is a plain one after this many commits
record BeganAt (n : ℕ) (ls : List Live) (c : ℕ) : Type 0 where
  l : Live
  is : slice_get ls c ≡ Some l
  later : List RoundStart
  round_starts : l.round_starts ≡ record { start = n; mark = Plain } ∷ later

-- it keeps the first round
abbrev KeepsFirst : (Live → Live) → Type 0
KeepsFirst f = (l : Live) (t : RoundStart) (ts : List RoundStart) → l.round_starts ≡ t ∷ ts → (us : List RoundStart) × ((f l).round_starts ≡ t ∷ us)

keeps_again : (n : ℕ) (mark : Mark) → KeepsFirst (again n mark)
keeps_again n mark l t ts is = (ts ++ record { start = n; mark = mark } ∷ [], ap (λ (us : List RoundStart). us ++ record { start = n; mark = mark } ∷ []) is)

began_changed : (n : ℕ) (ls : List Live) (c d : ℕ) (f : Live → Live) → KeepsFirst f → BeganAt n ls c → BeganAt n (change_live (slice_get ls d) f ls d) c
began_changed n ls c d f keeps b = by (slice_get ls d) refl
  where
    set : (m : Live) (e : Bool) → (c == d) ≡ e → slice_get ls d ≡ Some m → BeganAt n (slice_set ls d (f m)) c
    set m true e at =
        let same : c ≡ d = eqb-true c d e in
        let one : b.l ≡ m = same_Some b.l m (sym b.is ∙ (ap (slice_get ls) same ∙ at)) in
        let kept = keeps m (record { start = n; mark = Plain }) b.later (subst (λ (x : Live). x.round_starts ≡ record { start = n; mark = Plain } ∷ b.later) one b.round_starts) in
        record { l = f m; is = ap (slice_get (slice_set ls d (f m))) same ∙ set_there ls d (f m) m at; later = kept.0; round_starts = kept.1 }
    set m false e at = record { l = b.l; is = set_apart ls d c (f m) (λ same. both_ways (c == d) e (eq-eqb c d same)) ∙ b.is; later = b.later; round_starts = b.round_starts }

    by : (o : Option Live) → slice_get ls d ≡ o → BeganAt n (change_live o f ls d) c
    by None at = b
    by (Some m) at = set m (c == d) refl at

began_after : (w : Batch) (s : Schedule) (e : Event) (n c : ℕ) → BeganAt n s.calls c → BeganAt n (after w s e).calls c
began_after w s (B d) n c b = record { l = b.l; is = get_front s.calls (begin (length s.order)) c b.l b.is; later = b.later; round_starts = b.round_starts }
began_after w s (S d) n c b = began_changed n s.calls c d (λ l. record l { steps = l.steps + 1 }) (λ l t ts is. (ts, is)) b
began_after w s (A d) n c b = began_changed n s.calls c d (again (length s.order) Plain) (keeps_again (length s.order) Plain) b
began_after w s (M d) n c b = began_changed n s.calls c d (again (length s.order) Moved) (keeps_again (length s.order) Moved) b
began_after w s (C d) n c b = began_changed n s.calls c d finish (λ l t ts is. (ts, is)) b
began_after w s (X d) n c b = began_changed n s.calls c d (λ l. finish (again (length s.order) Exclusive l)) (keeps_again (length s.order) Exclusive) b
began_after w s (R d) n c b = began_changed n s.calls c d finish (λ l t ts is. (ts, is)) b
began_after w s G n c b = b

began_reach : (w : Batch) (s : Schedule) (es : List Event) (n c : ℕ) → BeganAt n s.calls c → BeganAt n (reach w s es).calls c
began_reach w s [] n c b = b
began_reach w s (e ∷ es) n c b = began_reach w (after w s e) es n c (began_after w s e n c b)

abbrev rounds_in : Batch → Schedule → ℕ → List Round
rounds_in w s c = rounds_of w s.order c (round_starts_of (slice_get s.calls c))

start_is : (w : Batch) (s : Schedule) (n c : ℕ) → BeganAt n s.calls c → start_of (rounds_in w s c) ≡ Some n
start_is w s n c b =
    ap (λ (o : Option Live). start_of (rounds_of w s.order c (round_starts_of o))) b.is
    ∙ ap (λ (ts : List RoundStart). start_of (rounds_of w s.order c ts)) b.round_starts

-- the first start of a call, and its end, by the events before and after its begin
record IsBegun (w : Batch) (before later : List Event) (c : ℕ) (s : Schedule) : Type 0 where
  end : Contains (ends_in later) c
  start : start_of (rounds_in w s c) ≡ Some (length (commits_in before))

begun_by_events : (w : Batch) (before later : List Event) (c : ℕ) → AllAllowed w beginning (before ++ B c ∷ later) → Ended w (schedule_of w (before ++ B c ∷ later)) → IsBegun w before later c (schedule_of w (before ++ B c ∷ later))
begun_by_events w before later c free ended = record {
  end = contains_it c (ends_in later) (sym (ap (λ b. b || stands c (ends_in later)) away) ∙ (sym (ends_are w mid (B c ∷ later) c) ∙ stood));
  start = start_is w s (length (commits_in before)) c (subst (λ (t : Schedule). BeganAt (length (commits_in before)) t.calls c) (sym (reach_parts w beginning before (B c ∷ later))) (began_reach w (after w mid (B c)) later (length (commits_in before)) c there));
}
  where
    mid : Schedule
    mid = schedule_of w before

    s : Schedule
    s = schedule_of w (before ++ B c ∷ later)

    both : AllAllowed w beginning before × AllAllowed w mid (B c ∷ later)
    both = allowed_parts w beginning before (B c ∷ later) free

    orderly : OrderlyAt w mid
    orderly = orderly_reach w beginning before both.0 (at_beginning w)

    next : c ≡ length mid.calls
    next = next_is w (length mid.calls) c both.1.0

    below : c < w.count
    below = next_below w (length mid.calls) c both.1.0

    early : mid.order ≡ commits_in before
    early = order_is w beginning before

    away : is_ended c mid ≡ false
    away = orderly.within c (omega (arith, next))

    stood : is_ended c (reach w mid (B c ∷ later)) ≡ true
    stood =
        ap (is_ended c) (sym (reach_parts w beginning before (B c ∷ later)))
        ∙ (let it = all_done w s ended.closed c below in sym (ended.orderly.done c it.0 it.1) ∙ it.2)

    there : BeganAt (length (commits_in before)) (after w mid (B c)).calls c
    there = record {
      l = begin (length (commits_in before));
      is = get_end mid.calls (begin (length mid.order)) c next ∙ ap (λ (cs : List ℕ). Some (begin (length cs))) early;
      later = [];
      round_starts = refl;
    }

-- Starts

starts_by : (w : Batch) (order : List ℕ) (c old k : ℕ) (ts : List RoundStart) → WithinRounds k ts → All (λ (r : Round). r.start ≤ k) (later_rounds w order c old ts)
starts_by w order c old k [] h = All-nil (λ (r : Round). r.start ≤ k)
starts_by w order c old k (t ∷ ts) h =
    All-cons (λ (r : Round). r.start ≤ k) (round t (unless_moved (later_run w order c old t.start t.mark) ts)) (later_rounds w order c t.start ts) h.0 (starts_by w order c t.start k ts h.1)

all_by : (w : Batch) (order : List ℕ) (c k : ℕ) (ts : List RoundStart) → WithinRounds k ts → All (λ (r : Round). r.start ≤ k) (rounds_of w order c ts)
all_by w order c k [] h = All-nil (λ (r : Round). r.start ≤ k)
all_by w order c k (t ∷ ts) h = All-cons (λ (r : Round). r.start ≤ k) (round t (unless_moved (whole_run w order c t.start) ts)) (later_rounds w order c t.start ts) h.0 (starts_by w order c t.start k ts h.1)

-- the last start of rounds is that of the starts of rounds
last_later : (w : Batch) (order : List ℕ) (c old : ℕ) (r : Round) (ts : List RoundStart) → r.start ≡ old → last_start (r ∷ later_rounds w order c old ts) ≡ last_turn_or old ts
last_later w order c old r [] is = is
last_later w order c old r (t ∷ ts) is = last_later w order c t.start (round t (unless_moved (later_run w order c old t.start t.mark) ts)) ts refl

last_is : (w : Batch) (order : List ℕ) (c : ℕ) (ts : List RoundStart) → last_start (rounds_of w order c ts) ≡ last_round_start ts
last_is w order c [] = refl
last_is w order c (t ∷ ts) = last_later w order c t.start (round t (unless_moved (whole_run w order c t.start) ts)) ts refl ∙ sym (last_is_or t ts)

-- the rounds of a call that has begun
rounds_at : (w : Batch) (s : Schedule) (c : ℕ) (l : Live) → slice_get s.calls c ≡ Some l → rounds_in w s c ≡ rounds_of w s.order c l.round_starts
rounds_at w s c l is = ap (λ (o : Option Live). rounds_of w s.order c (round_starts_of o)) is

-- a call that is live changes, and no other
kept_set : (ls : List Live) (d c : ℕ) (l m x : Live) → slice_get ls c ≡ Some l → l.done ≡ true → slice_get ls d ≡ Some m → m.done ≡ false → slice_get (slice_set ls d x) c ≡ Some l
kept_set ls d c l m x is done at live =
    set_apart ls d c x (λ same. both_ways m.done live (ap (λ (y : Live). y.done) (same_Some m l (sym at ∙ (ap (slice_get ls) (sym same) ∙ is))) ∙ done)) ∙ is

kept_call : (ls : List Live) (d c : ℕ) (l : Live) (f : Live → Live) (g : Live → Option EventFault) → slice_get ls c ≡ Some l → l.done ≡ true → of_live (slice_get ls d) g ≡ None
    → slice_get (change_live (slice_get ls d) f ls d) c ≡ Some l
kept_call ls d c l f g is done free = by (slice_get ls d) refl free
  where
    live : (m : Live) (b : Bool) → unless (not b) Order (g m) ≡ None → b ≡ false
    live m true k = cc
    live m false k = refl

    by : (o : Option Live) → slice_get ls d ≡ o → of_live o g ≡ None → slice_get (change_live o f ls d) c ≡ Some l
    by None at k = cc
    by (Some m) at k = kept_set ls d c l m (f m) is done at (live m m.done k)

-- a call that is done stays as it is
done_after : (w : Batch) (s : Schedule) (e : Event) (c : ℕ) (l : Live) → refusal w s e ≡ None → slice_get s.calls c ≡ Some l → l.done ≡ true → slice_get (after w s e).calls c ≡ Some l
done_after w s (B d) c l free is done = get_front s.calls (begin (length s.order)) c l is
done_after w s (S d) c l free is done = kept_call s.calls d c l _ _ is done free
done_after w s (A d) c l free is done = kept_call s.calls d c l _ _ is done free
done_after w s (M d) c l free is done = kept_call s.calls d c l _ _ is done free
done_after w s (C d) c l free is done = kept_call s.calls d c l _ _ is done free
done_after w s (X d) c l free is done = kept_call s.calls d c l _ _ is done free
done_after w s (R d) c l free is done = kept_call s.calls d c l _ _ is done free
done_after w s G c l free is done = is

done_reach : (w : Batch) (s : Schedule) (es : List Event) (c : ℕ) (l : Live) → AllAllowed w s es → slice_get s.calls c ≡ Some l → l.done ≡ true → slice_get (reach w s es).calls c ≡ Some l
done_reach w s [] c l free is done = is
done_reach w s (e ∷ es) c l free is done = done_reach w (after w s e) es c l free.1 (done_after w s e c l free.0 is done) done

-- an answered call stays answered
answered_stays : (w : Batch) (s : Schedule) (es : List Event) (c : ℕ) → stands c s.answered ≡ true → stands c (reach w s es).answered ≡ true
answered_stays w s [] c h = h
answered_stays w s (B d ∷ es) c h = answered_stays w (after w s (B d)) es c h
answered_stays w s (S d ∷ es) c h = answered_stays w (after w s (S d)) es c h
answered_stays w s (A d ∷ es) c h = answered_stays w (after w s (A d)) es c h
answered_stays w s (M d ∷ es) c h = answered_stays w (after w s (M d)) es c h
answered_stays w s (C d ∷ es) c h = answered_stays w (after w s (C d)) es c h
answered_stays w s (X d ∷ es) c h = answered_stays w (after w s (X d)) es c h
answered_stays w s (R d ∷ es) c h = answered_stays w (after w s (R d)) es c (stands_more c d s.answered ∙ ap (λ b. b || ((d == c) || false)) h)
answered_stays w s (G ∷ es) c h = answered_stays w (after w s G) es c h

-- a call that is answered by an event: it stays so, with a start of at most the number of commits before
record IsAnswered (before : List Event) (c : ℕ) (s : Schedule) : Type 0 where
  there : stands c s.answered ≡ true
  past : start_in s.calls c ≤ length (commits_in before)

answered_by_events : (w : Batch) (before later : List Event) (c : ℕ) → AllAllowed w beginning (before ++ R c ∷ later) → IsAnswered before c (schedule_of w (before ++ R c ∷ later))
answered_by_events w before later c free =
    subst (λ (t : Schedule). IsAnswered before c t) (sym (reach_parts w beginning before (R c ∷ later))) (by (slice_get mid.calls c) refl both.1.0)
  where
    mid : Schedule
    mid = schedule_of w before

    both : AllAllowed w beginning before × AllAllowed w mid (R c ∷ later)
    both = allowed_parts w beginning before (R c ∷ later) free

    orderly : OrderlyAt w mid
    orderly = orderly_reach w beginning before both.0 (at_beginning w)

    by : (o : Option Live) → slice_get mid.calls c ≡ o → of_live o (λ l. unless (w.read_only c) Kind (unless (not (is_stale mid l)) Stale None)) ≡ None → IsAnswered before c (reach w mid (R c ∷ later))
    by None is k = cc
    by (Some l) is k = record {
      there = answered_stays w (after w mid (R c)) later c (stands_same c mid.answered);
      past = (let start = start_at (reach w (after w mid (R c)) later).calls c (finish l) there in let past = (orderly.starts c l is).past in let n = ap (λ (cs : List ℕ). length cs) (order_is w beginning before) in omega (arith, start, past, n));
    }
      where
        now : slice_get (after w mid (R c)).calls c ≡ Some (finish l)
        now = ap (λ (o : Option Live). slice_get (change_live o finish mid.calls c) c) is ∙ set_there mid.calls c (finish l) l is

        there : slice_get (reach w (after w mid (R c)) later).calls c ≡ Some (finish l)
        there = done_reach w (after w mid (R c)) later c (finish l) both.1.1 now refl

-- Lines in their places

-- a place has so many commits before it; its rounds start no later
record IsFound (w : Batch) (s : Schedule) (k : ℕ) (line : HistoryLine) : Type 0 where
  placed : IsPlaced (commits_to k (map (history_line w s) (places s))) line.commit line.rounds
  starts : All (λ (r : Round). r.start ≤ commits_to k (map (history_line w s) (places s))) line.rounds
  answered : stands line.call s.answered ≡ true → commits_to k (map (history_line w s) (places s)) ≡ start_in s.calls line.call

-- by the number of its commit
found_by : (w : Batch) (s : Schedule) (j : ℕ) (o : Option ℕ) (c : ℕ) (l : Live) → OrderlyAt w s → slice_get s.calls c ≡ Some l → StandsBy s 0 s.order j o c
    → IsPlaced j o (rounds_of w s.order c l.round_starts) × WithinRounds j l.round_starts × (stands c s.answered ≡ true → j ≡ start_in s.calls c)
found_by w s j (Some number) c l o is h = (
  (let e = h.0 in omega (arith, e)),
  o.after_begin j c l h.1 is,
  (λ there. absurd (both_ways (stands c s.answered) (o.apart c (stands_at s.order j c h.1)) there)),
)
found_by w s j None c l o is h =
    let t = o.starts c l is in
    let own = start_at s.calls c l is in
    let there = h.1 in
    let start : l.start ≡ j = omega (arith, own, there) in (
      last_is w s.order c l.round_starts ∙ (t.last ∙ start),
      subst (λ n. WithinRounds n l.round_starts) start t.by,
      (λ answered. omega (arith, there)),
    )

-- a call that stands has begun
begun_at_place : (w : Batch) (s : Schedule) (j : ℕ) (o : Option ℕ) (c : ℕ) → OrderlyAt w s → StandsBy s 0 s.order j o c → (l : Live) × (slice_get s.calls c ≡ Some l)
begun_at_place w s j o c orderly h = by (slice_get s.calls c) refl
  where
    short : (ls : List Live) (c : ℕ) → slice_get ls c ≡ None → length ls ≤ c
    short [] c e = omega arith
    short (x ∷ ls) zero e = cc
    short (x ∷ ls) (suc c) e = let rest = short ls c e in omega (arith, rest)

    by : (live : Option Live) → slice_get s.calls c ≡ live → (l : Live) × (slice_get s.calls c ≡ Some l)
    by (Some l) is = (l, is)
    by None is = absurd (both_ways (stands c s.answered || stands c s.order) (orderly.within c (short s.calls c is)) (ended_at s 0 s.order j o c h))

found_at : (w : Batch) (s : Schedule) (k : ℕ) (line : HistoryLine) → OrderlyAt w s → slice_get (map (history_line w s) (places s)) k ≡ Some line → IsFound w s k line
found_at w s k line o at =
    let it = line_at w s (places s) k line at in
    let here = place_at s 0 s.order k it.place it.is in
    let live = begun_at_place w s (commits_to_place k (places s)) it.place.commit it.place.call o here in
    let parts = found_by w s (commits_to_place k (places s)) it.place.commit it.place.call live.0 o live.1 here in
    let many : commits_to_place k (places s) ≡ commits_to k (map (history_line w s) (places s)) = sym (as_many_before w s k (places s)) in
    let rounds : rounds_of w s.order it.place.call live.0.round_starts ≡ rounds_in w s it.place.call = sym (rounds_at w s it.place.call live.0 live.1) in
    subst (λ (x : HistoryLine). IsFound w s k x) it.line (record {
      placed = subst (λ n. IsPlaced n it.place.commit (rounds_in w s it.place.call)) many (subst (λ (rs : List Round). IsPlaced (commits_to_place k (places s)) it.place.commit rs) rounds parts.0);
      starts = subst (λ n. All (λ (r : Round). r.start ≤ n) (rounds_in w s it.place.call)) many
          (subst (λ (rs : List Round). All (λ (r : Round). r.start ≤ commits_to_place k (places s)) rs) rounds (all_by w s.order it.place.call (commits_to_place k (places s)) live.0.round_starts parts.1));
      answered = λ there. sym many ∙ parts.2 there;
    })

pub lawful_is_serializable : LawfulIsSerializable
lawful_is_serializable w es keeps h = record {
  calls = subst (λ (cs : List ℕ). All (λ c. c < w.count) cs) (sym order) serial.calls;
  once = λ c less. ap (λ (cs : List ℕ). length (filter (λ d. d == c) cs)) order ∙ serial.once c less;
  count = length-map (first_numbers w.count) (reply_in w s) ∙ length_numbers w.count;
  replies = λ k c at. reply_is k c (ap (λ (cs : List ℕ). slice_get cs k) (sym order) ∙ at) ∙ ap (λ (cs : List ℕ). Some (w.run c (table_at w cs k)).reply) (sym order);
  tables = last_tables ∙ ap (λ (cs : List ℕ). table_at w cs (length cs)) (sym order);
  begun = begins_are w beginning es free ∙ ap first_numbers (all_begun w s ended);
  committed = sym (order_is w beginning es) ∙ sym (ap order_of (commits_in_lines w s (places s)) ∙ (calls_of w s (filter is_commit (places s)) ∙ commits_are s 0 s.order));
  between = λ before later c is. (begun_at before later c is).end;
  placed = λ k line at. (found_at w s k line orderly at).placed;
  answered = λ before later k line is at. (
      let it = answered_by before later line.call is in
      let found = found_at w s k line orderly at in
      let here = found.answered it.there in
      let past = it.past in
      omega (arith, here, past));
  first = λ before later k line is at. (let it = line_at w s (places s) k line at in
      subst (λ (l : HistoryLine). start_of l.rounds ≡ Some (length (commits_in before))) it.line
      (begun_at before later it.place.call (subst (λ (l : HistoryLine). es ≡ before ++ B l.call ∷ later) (sym it.line) is)).start);
  starts = λ k line at. (found_at w s k line orderly at).starts;
}
  where
    s : Schedule
    s = schedule_of w es

    ended : Ended w s
    ended = ended_from w 1 beginning es h (at_beginning w)

    orderly : OrderlyAt w s
    orderly = ended.orderly

    serial : IsSerial w s
    serial = serial_of w s ended

    free : AllAllowed w beginning es
    free = allowed_from w 1 beginning es h

    order : order_of (map (history_line w s) (places s)) ≡ standing s
    order = calls_of w s (places s)

    -- the tables before a place
    tables_to : (k : ℕ) → table_at w (standing s) k ≡ table_at w s.order (commits_to_place k (places s))
    tables_to k =
        tables_standing w keeps (places s) (readers w s 0 s.order orderly.readers) w.opening k
        ∙ ap (λ (cs : List ℕ). tables_after w w.opening (take (commits_to_place k (places s)) cs)) (commits_are s 0 s.order)

    reply_is : (k c : ℕ) → slice_get (standing s) k ≡ Some c → slice_get (map (reply_in w s) (first_numbers w.count)) c ≡ Some (w.run c (table_at w (standing s) k)).reply
    reply_is k c at =
        let it = place_of (places s) k c at in
        let here = subst (λ x. StandsBy s 0 s.order (commits_to_place k (places s)) it.place.commit x) it.call (place_at s 0 s.order k it.place it.is) in
        reply_at w s (commits_to_place k (places s)) c (standing_below w s k c orderly at) (before_place w s (commits_to_place k (places s)) it.place.commit c orderly here)
        ∙ ap (λ (t : Tables). Some (w.run c t).reply) (sym (tables_to k))

    as_many : length (standing s) ≡ length (places s)
    as_many = length-map (places s) (λ (p : Place). p.call)

    all_committed : commits_to_place (length (places s)) (places s) ≡ length s.order
    all_committed = all_commits (places s) ∙ (sym (length-map (filter is_commit (places s)) (λ (p : Place). p.call)) ∙ ap (λ (cs : List ℕ). length cs) (commits_are s 0 s.order))

    last_tables : table_at w s.order (length s.order) ≡ table_at w (standing s) (length (standing s))
    last_tables = ap (table_at w s.order) (sym all_committed) ∙ (sym (tables_to (length (places s))) ∙ ap (table_at w (standing s)) (sym as_many))

    begun_at : (before later : List Event) (c : ℕ) → es ≡ before ++ B c ∷ later → IsBegun w before later c s
    begun_at before later c is =
        subst (λ (fs : List Event). IsBegun w before later c (schedule_of w fs)) (sym is)
        (begun_by_events w before later c (subst (AllAllowed w beginning) is free) (subst (λ (fs : List Event). Ended w (schedule_of w fs)) is ended))

    answered_by : (before later : List Event) (c : ℕ) → es ≡ before ++ R c ∷ later → IsAnswered before c s
    answered_by before later c is =
        subst (λ (fs : List Event). IsAnswered before c (schedule_of w fs)) (sym is) (answered_by_events w before later c (subst (AllAllowed w beginning) is free))

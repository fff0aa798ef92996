-- What holds of the calls and commits of a journal of which no event is refused.
use Rattle.std.proofs.Common.{◌≡◌, ◌⊎◌, inl, inr, ℕ, zero, suc, ◌+◌, ◌<◌, ◌≤◌, Bool, true, false, not, List, [], ◌∷◌, ◌++◌, Option, Some, None, length, slice_set, if◌then◌else◌, refl, sym, ap, subst, ◌∙◌, arith, length-append, rules}
use Rattle.std.specs.Prelude.{◌==◌, ◌&&◌, nat_lt, slice_get}
use Rattle.std.proofs.lemmas.Bool.Decides.{eqb_tells}
use Rattle.std.proofs.lemmas.List.{length-set}
use Rattle.mv_lawful.proofs.Serial.{open_done}
use Rattle.mv_journal.specs.declared.event.Event.{Event}
use Rattle.mv_journal.specs.declared.event.Event.TheVariants.{B, S, A, M, C, X, R, G}
use Rattle.mv_journal.specs.declared.outcome.Mark.{Mark}
use Rattle.mv_journal.specs.declared.outcome.Mark.TheVariants.{Plain, Exclusive, Moved}
use Rattle.mv_lawful.specs.declared.fault.EventFault.{EventFault}
use Rattle.mv_lawful.specs.declared.fault.EventFault.TheVariants.{Order}
use Rattle.mv_lawful.specs.Batch.{Batch}
use Rattle.mv_lawful.specs.Lawful.{RoundStart, Live, Schedule, beginning, change_live, with_call, begin, again, finish, unless, of_live, refusal, after, reach, schedule_of, first_open, open_call, AllAllowed}
use Rattle.mv_lawful.specs.Rounds.{WithinRounds}
use Rattle.mv_core.specs.Calls.{IsLive}
use Rattle.mv_lawful.proofs.Lists.{get_last, get_front, get_set, set_there, set_apart}
use Rattle.mv_lawful.proofs.Numbers.{within_more, within_end}

-- Events of a live call

pub live_at : (s : Schedule) (c : ℕ) (f : Live → Option EventFault) → of_live (slice_get s.calls c) f ≡ None → (l : Live) × IsLive s c l × (f l ≡ None)
live_at s c f h = by (slice_get s.calls c) refl h where
  going : (l : Live) (b : Bool) → l.done ≡ b → slice_get s.calls c ≡ Some l → unless (not b) Order (f l) ≡ None → (l : Live) × IsLive s c l × (f l ≡ None)
  going l true is at k = absurd (search (rules, k))
  going l false is at k = (l, record { at = at; live = is }, k)

  by : (o : Option Live) → slice_get s.calls c ≡ o → of_live o f ≡ None → (l : Live) × IsLive s c l × (f l ≡ None)
  by None at k = absurd (search (rules, k))
  by (Some l) at k = going l l.done refl at k

pub changed_at : (ls : List Live) (c : ℕ) (f : Live → Live) (l : Live) → slice_get ls c ≡ Some l → change_live (slice_get ls c) f ls c ≡ slice_set ls c (f l)
changed_at ls c f l at = ap (λ o. change_live o f ls c) at

-- How many are done

abbrev pub done_in : List Live → ℕ
done_in [] = 0
done_in (l ∷ ls) = if l.done then suc (done_in ls) else done_in ls

pub done_within : (ls : List Live) → done_in ls ≤ length ls
done_within [] = omega arith
done_within (l ∷ ls) = by l.done (done_within ls) where
  by : (b : Bool) → done_in ls ≤ length ls → (if b then suc (done_in ls) else done_in ls) ≤ suc (length ls)
  by true le = omega (arith, le)
  by false le = omega (arith, le)

pub done_below : (ls : List Live) (c : ℕ) (l : Live) → slice_get ls c ≡ Some l → l.done ≡ false → done_in ls < length ls
done_below [] c l e d = absurd (search (rules, e))
done_below (x ∷ ls) zero l e d =
    let same : x ≡ l = search (rules, e) in
    let le : done_in ls ≤ length ls = done_within ls in
    let is : done_in (x ∷ ls) ≡ done_in ls = rw (ap (λ (k : Live). k.done) same ∙ d) refl in
    omega (arith, le, is)
done_below (x ∷ ls) (suc c) l e d = by x.done (done_below ls c l e d) where
  by : (b : Bool) → done_in ls < length ls → (if b then suc (done_in ls) else done_in ls) < suc (length ls)
  by true lt = omega (arith, lt)
  by false lt = omega (arith, lt)

done_begun : (ls : List Live) (n : ℕ) → done_in (ls ++ begin n ∷ []) ≡ done_in ls
done_begun [] n = refl
done_begun (l ∷ ls) n = ap (λ k. if l.done then suc k else k) (done_begun ls n)

done_kept : (ls : List Live) (c : ℕ) (l m : Live) → slice_get ls c ≡ Some l → m.done ≡ l.done → done_in (slice_set ls c m) ≡ done_in ls
done_kept [] c l m e d = absurd (search (rules, e))
done_kept (x ∷ ls) zero l m e d =
    let same : x ≡ l = search (rules, e) in
    ap (λ b. if b then suc (done_in ls) else done_in ls) (d ∙ sym (ap (λ (k : Live). k.done) same))
done_kept (x ∷ ls) (suc c) l m e d = ap (λ k. if x.done then suc k else k) (done_kept ls c l m e d)

done_more : (ls : List Live) (c : ℕ) (l m : Live) → slice_get ls c ≡ Some l → l.done ≡ false → m.done ≡ true → done_in (slice_set ls c m) ≡ suc (done_in ls)
done_more [] c l m e f t = absurd (search (rules, e))
done_more (x ∷ ls) zero l m e f t =
    let same : x ≡ l = search (rules, e) in
    rw (t, ap (λ (k : Live). k.done) same ∙ f) refl
done_more (x ∷ ls) (suc c) l m e f t = by x.done (done_more ls c l m e f t) where
  by : (b : Bool) → done_in (slice_set ls c m) ≡ suc (done_in ls) → (if b then suc (done_in (slice_set ls c m)) else done_in (slice_set ls c m)) ≡ suc (if b then suc (done_in ls) else done_in ls)
  by true is = ap suc is
  by false is = is

-- What events keep

-- of one call, after so many events: its rounds began after no more commits than there are, and it has no more steps
-- than there are events
pub record CallFacts (commits events : ℕ) (l : Live) : Type 0 where
  pub first : RoundStart
  pub rest : List RoundStart
  pub round_starts : l.round_starts ≡ first ∷ rest
  pub within : WithinRounds commits l.round_starts
  pub start : l.start ≤ commits
  pub steps : l.steps ≤ events

-- the call is done
abbrev pub IsDoneIn : List Live → ℕ → Type 0
IsDoneIn ls c = (l : Live) × (slice_get ls c ≡ Some l) × (l.done ≡ true)

-- it isn't live
not_live : (ls : List Live) (c d : ℕ) (l : Live) → IsDoneIn ls d → slice_get ls c ≡ Some l → l.done ≡ false → d ≡ c → ⊥
not_live ls c d l h at live is =
    let same : Some h.0 ≡ Some l = sym h.1 ∙ (ap (slice_get ls) is ∙ at) in
    let one : h.0 ≡ l = search (rules, same) in
    let both : true ≡ false = sym h.2 ∙ (ap (λ (x : Live). x.done) one ∙ live) in
    search (rules, both)

-- another call changes
done_set : (ls : List Live) (c d : ℕ) (m : Live) → (d ≡ c → ⊥) → IsDoneIn ls d → IsDoneIn (slice_set ls c m) d
done_set ls c d m other h = (h.0, set_apart ls c d m other ∙ h.1, h.2)

done_here : (ls : List Live) (c d : ℕ) (l m : Live) → slice_get ls c ≡ Some l → m.done ≡ true → d ≡ c → IsDoneIn (slice_set ls c m) d
done_here ls c d l m at ended is = (m, subst (λ n. slice_get (slice_set ls c m) n ≡ Some m) (sym is) (set_there ls c m l at), ended)

pub record Facts (w : Batch) (events : ℕ) (s : Schedule) : Type 0 where
  pub count : length s.calls ≤ w.count
  pub done : done_in s.calls ≡ length s.order + length s.answered
  pub each : (c : ℕ) (l : Live) → slice_get s.calls c ≡ Some l → CallFacts (length s.order) events l
  pub back : (k c : ℕ) → slice_get s.order k ≡ Some c → IsDoneIn s.calls c
  pub replied : (k c : ℕ) → slice_get s.answered k ≡ Some c → IsDoneIn s.calls c

call_more : (n m e f : ℕ) (l : Live) → n ≤ m → e ≤ f → CallFacts n e l → CallFacts m f l
call_more n m e f l le lf h = record {
  first = h.first;
  rest = h.rest;
  round_starts = h.round_starts;
  within = within_more n m l.round_starts le h.within;
  start = let a = h.start in omega (arith, a, le);
  steps = let a = h.steps in omega (arith, a, lf);
}

call_again : (n e m : ℕ) (mark : Mark) (l : Live) → m ≤ n → CallFacts n e l → CallFacts n e (again m mark l)
call_again n e m mark l le h = record {
  first = h.first;
  rest = h.rest ++ record { start = m; mark = mark } ∷ [];
  round_starts = ap (λ ts. ts ++ record { start = m; mark = mark } ∷ []) h.round_starts;
  within = within_end n l.round_starts (record { start = m; mark = mark }) h.within le;
  start = le;
  steps = h.steps;
}

-- one live call changes and stays live
changed : (w : Batch) (e : ℕ) (s : Schedule) (c : ℕ) (l m : Live) → Facts w e s → IsLive s c l → m.done ≡ false → CallFacts (length s.order) (e + 1) m → Facts w (e + 1) (record s { calls = slice_set s.calls c m })
changed w e s c l m k live still fresh = record {
  count = let n = length-set s.calls c m in let h = k.count in omega (arith, n, h);
  done = done_kept s.calls c l m live.at (still ∙ sym live.live) ∙ k.done;
  each = λ d x at. by d x (get_set s.calls c d m x at);
  back = λ i d at. (let h = k.back i d at in done_set s.calls c d m (not_live s.calls c d l h live.at live.live) h);
  replied = λ i d at. (let h = k.replied i d at in done_set s.calls c d m (not_live s.calls c d l h live.at live.live) h);
} where
  by : (d : ℕ) (x : Live) → ((d ≡ c) × (m ≡ x)) ⊎ ((d ≡ c → ⊥) × (slice_get s.calls d ≡ Some x)) → CallFacts (length s.order) (e + 1) x
  by d x (inl h) = subst (CallFacts (length s.order) (e + 1)) h.1 fresh
  by d x (inr h) = call_more (length s.order) (length s.order) e (e + 1) x (omega arith) (omega arith) (k.each d x h.1)

-- one live call commits
committed : (w : Batch) (e : ℕ) (s : Schedule) (c : ℕ) (l m : Live) → Facts w e s → IsLive s c l → m.done ≡ true → CallFacts (length s.order) (e + 1) m
    → Facts w (e + 1) (record s { order = s.order ++ c ∷ []; calls = slice_set s.calls c m })
committed w e s c l m k live ended fresh = record {
  count = let n = length-set s.calls c m in let h = k.count in omega (arith, n, h);
  done = done_more s.calls c l m live.at live.live ended ∙ (ap suc k.done ∙ one_more);
  each = λ d x at. by d x (get_set s.calls c d m x at);
  back = λ i d at. back i d (get_last s.order c i d at);
  replied = λ i d at. (let h = k.replied i d at in done_set s.calls c d m (not_live s.calls c d l h live.at live.live) h);
} where
  longer : length (s.order ++ c ∷ []) ≡ length s.order + 1
  longer = length-append s.order (c ∷ [])

  one_more : suc (length s.order + length s.answered) ≡ length (s.order ++ c ∷ []) + length s.answered
  one_more = omega (arith, longer)

  by : (d : ℕ) (x : Live) → ((d ≡ c) × (m ≡ x)) ⊎ ((d ≡ c → ⊥) × (slice_get s.calls d ≡ Some x)) → CallFacts (length (s.order ++ c ∷ [])) (e + 1) x
  by d x (inl h) = subst (CallFacts (length (s.order ++ c ∷ [])) (e + 1)) h.1 (call_more (length s.order) (length (s.order ++ c ∷ [])) (e + 1) (e + 1) m (omega (arith, longer)) (omega arith) fresh)
  by d x (inr h) = call_more (length s.order) (length (s.order ++ c ∷ [])) e (e + 1) x (omega (arith, longer)) (omega arith) (k.each d x h.1)

  back : (i d : ℕ) → (slice_get s.order i ≡ Some d) ⊎ ((i ≡ length s.order) × (c ≡ d)) → IsDoneIn (slice_set s.calls c m) d
  back i d (inr h) = done_here s.calls c d l m live.at ended (sym h.1)
  back i d (inl at) = let h = k.back i d at in done_set s.calls c d m (not_live s.calls c d l h live.at live.live) h

-- one live call is answered
replied : (w : Batch) (e : ℕ) (s : Schedule) (c : ℕ) (l m : Live) → Facts w e s → IsLive s c l → m.done ≡ true → CallFacts (length s.order) (e + 1) m
    → Facts w (e + 1) (record s { answered = s.answered ++ c ∷ []; calls = slice_set s.calls c m })
replied w e s c l m k live ended fresh = record {
  count = let n = length-set s.calls c m in let h = k.count in omega (arith, n, h);
  done = done_more s.calls c l m live.at live.live ended ∙ (ap suc k.done ∙ one_more);
  each = λ d x at. by d x (get_set s.calls c d m x at);
  back = λ i d at. (let h = k.back i d at in done_set s.calls c d m (not_live s.calls c d l h live.at live.live) h);
  replied = λ i d at. last i d (get_last s.answered c i d at);
} where
  longer : length (s.answered ++ c ∷ []) ≡ length s.answered + 1
  longer = length-append s.answered (c ∷ [])

  one_more : suc (length s.order + length s.answered) ≡ length s.order + length (s.answered ++ c ∷ [])
  one_more = omega (arith, longer)

  by : (d : ℕ) (x : Live) → ((d ≡ c) × (m ≡ x)) ⊎ ((d ≡ c → ⊥) × (slice_get s.calls d ≡ Some x)) → CallFacts (length s.order) (e + 1) x
  by d x (inl h) = subst (CallFacts (length s.order) (e + 1)) h.1 fresh
  by d x (inr h) = call_more (length s.order) (length s.order) e (e + 1) x (omega arith) (omega arith) (k.each d x h.1)

  last : (i d : ℕ) → (slice_get s.answered i ≡ Some d) ⊎ ((i ≡ length s.answered) × (c ≡ d)) → IsDoneIn (slice_set s.calls c m) d
  last i d (inr h) = done_here s.calls c d l m live.at ended (sym h.1)
  last i d (inl at) = let h = k.replied i d at in done_set s.calls c d m (not_live s.calls c d l h live.at live.live) h

-- a call begins
begun : (w : Batch) (e : ℕ) (s : Schedule) → Facts w e s → length s.calls < w.count → Facts w (e + 1) (record s { calls = s.calls ++ begin (length s.order) ∷ [] })
begun w e s k room = record {
  count = let n = length-append s.calls (begin (length s.order) ∷ []) in omega (arith, n, room);
  done = done_begun s.calls (length s.order) ∙ k.done;
  each = λ d x at. by d x (get_last s.calls (begin (length s.order)) d x at);
  back = λ i d at. let h = k.back i d at in (h.0, get_front s.calls (begin (length s.order)) d h.0 h.1, h.2);
  replied = λ i d at. let h = k.replied i d at in (h.0, get_front s.calls (begin (length s.order)) d h.0 h.1, h.2);
} where
  fresh : CallFacts (length s.order) (e + 1) (begin (length s.order))
  fresh = record { first = record { start = length s.order; mark = Plain }; rest = []; round_starts = refl; within = ((omega arith), tt); start = omega arith; steps = omega arith }

  by : (d : ℕ) (x : Live) → (slice_get s.calls d ≡ Some x) ⊎ ((d ≡ length s.calls) × (begin (length s.order) ≡ x)) → CallFacts (length s.order) (e + 1) x
  by d x (inl h) = call_more (length s.order) (length s.order) e (e + 1) x (omega arith) (omega arith) (k.each d x h)
  by d x (inr h) = subst (CallFacts (length s.order) (e + 1)) h.1 fresh

pub room_of : (w : Batch) (n c : ℕ) → unless ((c == n) && nat_lt c w.count) Order None ≡ None → (c ≡ n) × (n < w.count)
room_of w n c h = by (c == n) (nat_lt c w.count) refl refl h where
  same : (c == n) ≡ true → c ≡ n
  same h = grind (arith, eqb_tells, h)

  less : nat_lt c w.count ≡ true → c < w.count
  less h = grind (arith, h)

  by : (a b : Bool) → (c == n) ≡ a → nat_lt c w.count ≡ b → unless (a && b) Order None ≡ None → (c ≡ n) × (n < w.count)
  by true true e k h = (same e, subst (λ x. x < w.count) (same e) (less k))
  by true false e k h = absurd (search (rules, h))
  by false b e k h = absurd (search (rules, h))

facts_on : (w : Batch) (e : ℕ) (s : Schedule) (c : ℕ) (f : Live → Live) (l : Live) → slice_get s.calls c ≡ Some l → Facts w e (record s { calls = slice_set s.calls c (f l) }) → Facts w e (with_call s c f)
facts_on w e s c f l at k = subst (λ ls. Facts w e (record s { calls = ls })) (sym (changed_at s.calls c f l at)) k

pub facts_after : (w : Batch) (e : ℕ) (s : Schedule) (v : Event) → refusal w s v ≡ None → Facts w e s → Facts w (e + 1) (after w s v)
facts_after w e s (B c) h k = let r = room_of w (length s.calls) c h in begun w e s k r.1
facts_after w e s (S c) h k =
    let a = live_at s c _ h in
    let m : Live = record a.0 { steps = a.0.steps + 1 } in
    let f = k.each c a.0 a.1.at in
    facts_on w (e + 1) s c (λ l. record l { steps = l.steps + 1 }) a.0 a.1.at (changed w e s c a.0 m k a.1 a.1.live (record { first = f.first; rest = f.rest; round_starts = f.round_starts; within = f.within; start = f.start; steps = let b = f.steps in omega (arith, b) }))
facts_after w e s (A c) h k =
    let a = live_at s c _ h in
    facts_on w (e + 1) s c (again (length s.order) Plain) a.0 a.1.at (changed w e s c a.0 (again (length s.order) Plain a.0) k a.1 a.1.live
    (call_again (length s.order) (e + 1) (length s.order) Plain a.0 (omega arith) (call_more (length s.order) (length s.order) e (e + 1) a.0 (omega arith) (omega arith) (k.each c a.0 a.1.at))))
facts_after w e s (M c) h k =
    let a = live_at s c _ h in
    facts_on w (e + 1) s c (again (length s.order) Moved) a.0 a.1.at (changed w e s c a.0 (again (length s.order) Moved a.0) k a.1 a.1.live
    (call_again (length s.order) (e + 1) (length s.order) Moved a.0 (omega arith) (call_more (length s.order) (length s.order) e (e + 1) a.0 (omega arith) (omega arith) (k.each c a.0 a.1.at))))
facts_after w e s (C c) h k =
    let a = live_at s c _ h in
    facts_on w (e + 1) (record s { order = s.order ++ c ∷ [] }) c finish a.0 a.1.at (committed w e s c a.0 (finish a.0) k a.1 refl
    (let f = k.each c a.0 a.1.at in record { first = f.first; rest = f.rest; round_starts = f.round_starts; within = f.within; start = f.start; steps = let b = f.steps in omega (arith, b) }))
facts_after w e s (X c) h k =
    let a = live_at s c _ h in
    facts_on w (e + 1) (record s { order = s.order ++ c ∷ [] }) c (λ l. finish (again (length s.order) Exclusive l)) a.0 a.1.at (committed w e s c a.0 (finish (again (length s.order) Exclusive a.0)) k a.1 refl
    (let f = call_again (length s.order) (e + 1) (length s.order) Exclusive a.0 (omega arith) (call_more (length s.order) (length s.order) e (e + 1) a.0 (omega arith) (omega arith) (k.each c a.0 a.1.at)) in
    record { first = f.first; rest = f.rest; round_starts = f.round_starts; within = f.within; start = f.start; steps = f.steps }))
facts_after w e s (R c) h k =
    let a = live_at s c _ h in
    facts_on w (e + 1) (record s { answered = s.answered ++ c ∷ [] }) c finish a.0 a.1.at (replied w e s c a.0 (finish a.0) k a.1 refl
    (let f = k.each c a.0 a.1.at in record { first = f.first; rest = f.rest; round_starts = f.round_starts; within = f.within; start = f.start; steps = let b = f.steps in omega (arith, b) }))
facts_after w e s G h k = record { count = k.count; done = k.done; each = λ c l at. call_more (length s.order) (length s.order) e (e + 1) l (omega arith) (omega arith) (k.each c l at); back = k.back; replied = k.replied }

-- Whole journals

pub reach_more : (w : Batch) (s : Schedule) (es : List Event) (e : Event) → reach w s (es ++ e ∷ []) ≡ after w (reach w s es) e
reach_more w s [] e = refl
reach_more w s (x ∷ es) e = reach_more w (after w s x) es e

pub allowed_more : (w : Batch) (s : Schedule) (es : List Event) (e : Event) → AllAllowed w s es → refusal w (reach w s es) e ≡ None → AllAllowed w s (es ++ e ∷ [])
allowed_more w s [] e all this = (this, tt)
allowed_more w s (x ∷ es) e all this = (all.0, allowed_more w (after w s x) es e all.1 this)

facts_reach : (w : Batch) (n : ℕ) (s : Schedule) (es : List Event) → AllAllowed w s es → Facts w n s → Facts w (n + length es) (reach w s es)
facts_reach w n s [] h k = subst (λ m. Facts w m s) (sym more) k where
  more : n + 0 ≡ n
  more = omega arith
facts_reach w n s (e ∷ es) h k = subst (λ m. Facts w m (reach w (after w s e) es)) (sym more) (facts_reach w (n + 1) (after w s e) es h.1 (facts_after w n s e h.0 k)) where
  more : n + suc (length es) ≡ n + 1 + length es
  more = omega arith

pub facts_of : (w : Batch) (es : List Event) → AllAllowed w beginning es → Facts w (length es) (schedule_of w es)
facts_of w es h = subst (λ m. Facts w m (schedule_of w es)) none (facts_reach w 0 beginning es h start) where
  none : 0 + length es ≡ length es
  none = omega arith

  start : Facts w 0 beginning
  start = record { count = omega arith; done = refl; each = λ c l at. absurd (search (rules, at)); back = λ k c at. absurd (search (rules, at)); replied = λ k c at. absurd (search (rules, at)) }

-- The end

-- no call is open: each is done
pub all_done : (w : Batch) (s : Schedule) → open_call w s ≡ None → (c : ℕ) → c < w.count → (l : Live) × (slice_get s.calls c ≡ Some l) × (l.done ≡ true)
all_done w s h c less = open_done 0 s.calls c (below (first_open 0 s.calls) (shut (first_open 0 s.calls) h)) where
  shut : (n : ℕ) → (if nat_lt n w.count then Some n else None) ≡ None → nat_lt n w.count ≡ false
  shut n k = by (nat_lt n w.count) k where
    by : (b : Bool) → (if b then Some n else None) ≡ None → b ≡ false
    by true k = absurd (search (rules, k))
    by false k = refl

  below : (n : ℕ) → nat_lt n w.count ≡ false → 0 + c < n
  below n k = grind (arith, k, less)

-- Where calls stand

-- a live call isn't in the order
pub live_apart : (w : Batch) (e : ℕ) (s : Schedule) (c : ℕ) (l : Live) → Facts w e s → IsLive s c l → (k : ℕ) → slice_get s.order k ≡ Some c → ⊥
live_apart w e s c l f live k at = not_live s.calls c c l (f.back k c at) live.at live.live refl

-- nor among the answered ones
pub live_unanswered : (w : Batch) (e : ℕ) (s : Schedule) (c : ℕ) (l : Live) → Facts w e s → IsLive s c l → (k : ℕ) → slice_get s.answered k ≡ Some c → ⊥
live_unanswered w e s c l f live k at = not_live s.calls c c l (f.replied k c at) live.at live.live refl

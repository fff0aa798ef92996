-- Each call of a lawful journal commits once, after its begin, or is answered once.
use Rattle.std.proofs.Common.{◌≡◌, ◌≤◌, ◌<◌, inl, inr, ℕ, zero, suc, ◌+◌, Bool, true, false, not, List, [], ◌∷◌, ◌++◌, Option, Some, None, length, slice_set, if◌then◌else◌, refl, sym, ap, subst, ◌∙◌, arith, length-append}
use Rattle.std.specs.Prelude.{◌==◌, ◌||◌, ◌&&◌, ◌⊎◌, nat_lt, slice_get, All, Contains}
use Rattle.std.specs.List.{list_any}
use Rattle.std.specs.Option.{option_map}
use Rattle.std.proofs.lemmas.List.Elements.{All-nil, All-cons}
use Rattle.std.proofs.lemmas.Option.{slice_get_within}
use Rattle.std.proofs.lemmas.Bool.{eqb-true, both_ways, eq-eqb, ne_eqb}
use Rattle.std.proofs.lemmas.List.{length-set}
use Rattle.mv_journal.specs.declared.event.Event.{Event}
use Rattle.mv_journal.specs.declared.event.Event.TheVariants.{B, S, A, M, C, X, R, G}
use Rattle.mv_journal.specs.declared.outcome.Mark.{Mark}
use Rattle.mv_journal.specs.declared.outcome.Mark.TheVariants.{Plain, Exclusive, Moved}
use Rattle.mv_lawful.specs.declared.fault.EventFault.{EventFault}
use Rattle.mv_lawful.specs.declared.fault.EventFault.TheVariants.{Order, Kind, Stale}
use Rattle.mv_lawful.specs.declared.fault.Wrong.TheVariants.{Open}
use Rattle.mv_lawful.specs.Batch.{Batch}
use Rattle.mv_lawful.specs.Lawful.{RoundStart, Live, Schedule, beginning, change_live, begin, again, finish, is_stale, unless, of_live, refusal, after, reach, first_open, open_call, wrong_from, Lawful}
use Rattle.mv_lawful.specs.Laws.{first_start, IsOfCalls}
use Rattle.mv_lawful.specs.Rounds.{WithinRounds, last_round_start}
use Rattle.mv_lawful.proofs.Lists.{get_last, get_set}
use Rattle.mv_lawful.proofs.Numbers.{within_more, within_end, last_end}
use Rattle.mv_lawful.proofs.Repairs.{first_allowed}

-- Numbers in a list

abbrev pub stands : ℕ → List ℕ → Bool
stands c cs = list_any (λ d. d == c) cs

pub stands_same : (c : ℕ) (cs : List ℕ) → stands c (cs ++ c ∷ []) ≡ true
stands_same c [] = ap (λ b. b || false) (eq-eqb c c refl)
stands_same c (d ∷ cs) = by (d == c) (stands_same c cs)
  where
    by : (b : Bool) → stands c (cs ++ c ∷ []) ≡ true → (b || stands c (cs ++ c ∷ [])) ≡ true
    by true h = refl
    by false h = h

pub stands_other : (d c : ℕ) (cs : List ℕ) → (c ≡ d → ⊥) → stands d (cs ++ c ∷ []) ≡ stands d cs
stands_other d c [] h = ap (λ b. b || false) (ne_eqb c d h)
stands_other d c (x ∷ cs) h = ap (λ b. (x == d) || b) (stands_other d c cs h)

pub stands_at : (cs : List ℕ) (k c : ℕ) → slice_get cs k ≡ Some c → stands c cs ≡ true
stands_at [] k c is = cc
stands_at (d ∷ cs) zero c is = let same : d ≡ c = cc in subst (λ x. ((x == c) || stands c cs) ≡ true) (sym same) (ap (λ b. b || stands c cs) (eq-eqb c c refl))
stands_at (d ∷ cs) (suc k) c is = by (d == c) (stands_at cs k c is)
  where
    by : (b : Bool) → stands c cs ≡ true → (b || stands c cs) ≡ true
    by true h = refl
    by false h = h

pub stands_none : (cs : List ℕ) (c : ℕ) → ((k : ℕ) → slice_get cs k ≡ Some c → ⊥) → stands c cs ≡ false
stands_none [] c none = refl
stands_none (x ∷ cs) c none = by (x == c) refl (stands_none cs c (λ k at. none (suc k) at))
  where
    by : (b : Bool) → (x == c) ≡ b → stands c cs ≡ false → (b || stands c cs) ≡ false
    by true e h = absurd (none 0 (ap Some (eqb-true x c e)))
    by false e h = h

-- it is at some place
pub found_in : (c : ℕ) (cs : List ℕ) → stands c cs ≡ true → (k : ℕ) × (slice_get cs k ≡ Some c)
found_in c [] h = cc
found_in c (d ∷ cs) h = by (d == c) refl h (found_in c cs)
  where
    by : (b : Bool) → (d == c) ≡ b → (b || stands c cs) ≡ true → (stands c cs ≡ true → (k : ℕ) × (slice_get cs k ≡ Some c)) → (k : ℕ) × (slice_get (d ∷ cs) k ≡ Some c)
    by true e k go = (0, ap Some (eqb-true d c e))
    by false e k go = let it = go k in (suc it.0, it.1)

pub contains_it : (c : ℕ) (cs : List ℕ) → stands c cs ≡ true → Contains cs c
contains_it c [] h = cc
contains_it c (d ∷ cs) h = by (d == c) refl h (contains_it c cs)
  where
    later : Contains cs c → Contains (d ∷ cs) c
    later k = (suc k.0, omega (arith, k.1), k.2)

    by : (b : Bool) → (d == c) ≡ b → (b || stands c cs) ≡ true → (stands c cs ≡ true → Contains cs c) → Contains (d ∷ cs) c
    by true e h go = (zero, omega arith, eqb-true d c e)
    by false e h go = later (go h)

-- each once
abbrev pub Once : List ℕ → Type 0
Once [] = Unit {0}
Once (c ∷ cs) = (stands c cs ≡ false) × Once cs

once_more : (cs : List ℕ) (c : ℕ) → Once cs → stands c cs ≡ false → Once (cs ++ c ∷ [])
once_more [] c h k = (refl, tt)
once_more (d ∷ cs) c h k = by (d == c) refl k (once_more cs c h.1)
  where
    by : (b : Bool) → (d == c) ≡ b → (b || stands c cs) ≡ false → (stands c cs ≡ false → Once (cs ++ c ∷ [])) → Once (d ∷ (cs ++ c ∷ []))
    by true e k go = cc
    by false e k go = (stands_other d c cs (λ same. both_ways (d == c) e (subst (λ x. (d == x) ≡ true) (sym same) (eq-eqb d d refl))) ∙ h.0, go k)

-- Calls

-- a call that is live
record LiveAt (ls : List Live) (c : ℕ) : Type 0 where
  l : Live
  is : slice_get ls c ≡ Some l
  live : l.done ≡ false

live_at : (ls : List Live) (c : ℕ) (f : Live → Option EventFault) → of_live (slice_get ls c) f ≡ None → LiveAt ls c
live_at ls c f h = by (slice_get ls c) refl h
  where
    live_of : (b : Bool) (later : Option EventFault) → unless (not b) Order later ≡ None → b ≡ false
    live_of true later k = cc
    live_of false later k = refl

    by : (o : Option Live) → slice_get ls c ≡ o → of_live o f ≡ None → LiveAt ls c
    by None e k = cc
    by (Some l) e k = record { l = l; is = e; live = live_of l.done (f l) k }

-- What events keep

pub first_by : (n : ℕ) (ts : List RoundStart) → WithinRounds n ts → first_start ts ≤ n
first_by n [] h = omega arith
first_by n (t ∷ ts) h = h.0

-- no round of a call starts after its last one, whose start is the call's and is at most this number
pub record StartsIn (n : ℕ) (l : Live) : Type 0 where
  pub by : WithinRounds l.start l.round_starts
  pub last : last_round_start l.round_starts ≡ l.start
  pub past : l.start ≤ n

starts_later : (n m : ℕ) (l : Live) → n ≤ m → StartsIn n l → StartsIn m l
starts_later n m l le h = record { by = h.by; last = h.last; past = (let p = h.past in omega (arith, le, p)) }

starts_again : (n : ℕ) (mark : Mark) (l : Live) → StartsIn n l → StartsIn n (again n mark l)
starts_again n mark l h = record {
  by = within_end n l.round_starts (record { start = n; mark = mark }) (within_more l.start n l.round_starts h.past h.by) (omega arith);
  last = last_end l.round_starts (record { start = n; mark = mark });
  past = omega arith;
}

pub record Orderly (w : Batch) (order answered : List ℕ) (calls : List Live) : Type 0 where
  pub count : length calls ≤ w.count
  pub once : Once order
  pub replied : Once answered
  pub apart : (c : ℕ) → stands c order ≡ true → stands c answered ≡ false
  pub done : (c : ℕ) (l : Live) → slice_get calls c ≡ Some l → l.done ≡ (stands c answered || stands c order)
  pub within : (c : ℕ) → length calls ≤ c → (stands c answered || stands c order) ≡ false
  pub starts : (c : ℕ) (l : Live) → slice_get calls c ≡ Some l → StartsIn (length order) l
  pub after_begin : (k c : ℕ) (l : Live) → slice_get order k ≡ Some c → slice_get calls c ≡ Some l → WithinRounds k l.round_starts
  pub readers : (c : ℕ) → stands c answered ≡ true → w.read_only c ≡ true

-- neither of them
pub none_left : (a b : Bool) → (a || b) ≡ false → a ≡ false
none_left true b h = cc
none_left false b h = refl

pub none_right : (a b : Bool) → (a || b) ≡ false → b ≡ false
none_right true b h = cc
none_right false b h = h

pub or_true : (a b : Bool) → b ≡ true → (a || b) ≡ true
or_true true b h = refl
or_true false b h = h

-- one live call changes and stays live
changed : (w : Batch) (order answered : List ℕ) (calls : List Live) (c : ℕ) (l m : Live) → Orderly w order answered calls → slice_get calls c ≡ Some l → l.done ≡ false → m.done ≡ false → StartsIn (length order) m
    → Orderly w order answered (slice_set calls c m)
changed w order answered calls c l m o is live still low = record {
  count = let n = length-set calls c m in let k = o.count in omega (arith, n, k);
  once = o.once;
  replied = o.replied;
  apart = o.apart;
  done = λ d x got. done_by d x (get_set calls c d m x got);
  within = λ d past. o.within d (let n = length-set calls c m in omega (arith, n, past));
  starts = λ d x got. starts_by d x (get_set calls c d m x got);
  after_begin = λ k d x at got. begin_by k d x at (get_set calls c d m x got);
  readers = o.readers;
}
  where
    away : (stands c answered || stands c order) ≡ false
    away = sym (o.done c l is) ∙ live

    done_by : (d : ℕ) (x : Live) → ((d ≡ c) × (m ≡ x)) ⊎ ((d ≡ c → ⊥) × (slice_get calls d ≡ Some x)) → x.done ≡ (stands d answered || stands d order)
    done_by d x (inl h) = subst (λ (y : Live). y.done ≡ (stands d answered || stands d order)) h.1 (still ∙ sym (subst (λ z. (stands z answered || stands z order) ≡ false) (sym h.0) away))
    done_by d x (inr h) = o.done d x h.1

    starts_by : (d : ℕ) (x : Live) → ((d ≡ c) × (m ≡ x)) ⊎ ((d ≡ c → ⊥) × (slice_get calls d ≡ Some x)) → StartsIn (length order) x
    starts_by d x (inl h) = subst (λ (y : Live). StartsIn (length order) y) h.1 low
    starts_by d x (inr h) = o.starts d x h.1

    begin_by : (k d : ℕ) (x : Live) → slice_get order k ≡ Some d → ((d ≡ c) × (m ≡ x)) ⊎ ((d ≡ c → ⊥) × (slice_get calls d ≡ Some x)) → WithinRounds k x.round_starts
    begin_by k d x at (inl h) = absurd (both_ways (stands c order) (none_right (stands c answered) (stands c order) away) (stands_at order k c (at ∙ ap Some h.0)))
    begin_by k d x at (inr h) = o.after_begin k d x at h.1

-- one live call commits
committed : (w : Batch) (order answered : List ℕ) (calls : List Live) (c : ℕ) (l m : Live) → Orderly w order answered calls → slice_get calls c ≡ Some l → l.done ≡ false → m.done ≡ true → StartsIn (length order) m
    → Orderly w (order ++ c ∷ []) answered (slice_set calls c m)
committed w order answered calls c l m o is live finished low = record {
  count = let n = length-set calls c m in let k = o.count in omega (arith, n, k);
  once = once_more order c o.once away;
  replied = o.replied;
  apart = λ d there. apart_by d (d == c) refl there;
  done = λ d x got. done_by d x (get_set calls c d m x got);
  within = λ d past. within_by d (let n = length-set calls c m in omega (arith, n, past));
  starts = λ d x got. starts_later (length order) (length (order ++ c ∷ [])) x (let n = longer in omega (arith, n)) (starts_by d x (get_set calls c d m x got));
  after_begin = λ k d x at got. begin_by k d x (get_last order c k d at) (get_set calls c d m x got);
  readers = o.readers;
}
  where
    neither : (stands c answered || stands c order) ≡ false
    neither = sym (o.done c l is) ∙ live

    away : stands c order ≡ false
    away = none_right (stands c answered) (stands c order) neither

    longer : length (order ++ c ∷ []) ≡ length order + 1
    longer = length-append order (c ∷ [])

    other : (d : ℕ) → (d ≡ c → ⊥) → stands d (order ++ c ∷ []) ≡ stands d order
    other d ne = stands_other d c order (λ e. ne (sym e))

    apart_by : (d : ℕ) (b : Bool) → (d == c) ≡ b → stands d (order ++ c ∷ []) ≡ true → stands d answered ≡ false
    apart_by d true e there = subst (λ x. stands x answered ≡ false) (sym (eqb-true d c e)) (none_left (stands c answered) (stands c order) neither)
    apart_by d false e there = o.apart d (sym (other d (λ same. both_ways (d == c) e (eq-eqb d c same))) ∙ there)

    done_by : (d : ℕ) (x : Live) → ((d ≡ c) × (m ≡ x)) ⊎ ((d ≡ c → ⊥) × (slice_get calls d ≡ Some x)) → x.done ≡ (stands d answered || stands d (order ++ c ∷ []))
    done_by d x (inl h) =
        subst (λ (y : Live). y.done ≡ (stands d answered || stands d (order ++ c ∷ []))) h.1
        (finished ∙ sym (or_true (stands d answered) (stands d (order ++ c ∷ [])) (subst (λ z. stands z (order ++ c ∷ []) ≡ true) (sym h.0) (stands_same c order))))
    done_by d x (inr h) = o.done d x h.1 ∙ ap (λ b. stands d answered || b) (sym (other d h.0))

    in_range : c < length calls
    in_range = slice_get_within calls c l is

    within_by : (d : ℕ) → length calls ≤ d → (stands d answered || stands d (order ++ c ∷ [])) ≡ false
    within_by d past = ap (λ b. stands d answered || b) (other d (λ e. let r = in_range in omega (arith, r, past, e))) ∙ o.within d past

    starts_by : (d : ℕ) (x : Live) → ((d ≡ c) × (m ≡ x)) ⊎ ((d ≡ c → ⊥) × (slice_get calls d ≡ Some x)) → StartsIn (length order) x
    starts_by d x (inl h) = subst (λ (y : Live). StartsIn (length order) y) h.1 low
    starts_by d x (inr h) = o.starts d x h.1

    begin_by : (k d : ℕ) (x : Live) → (slice_get order k ≡ Some d) ⊎ ((k ≡ length order) × (c ≡ d)) → ((d ≡ c) × (m ≡ x)) ⊎ ((d ≡ c → ⊥) × (slice_get calls d ≡ Some x)) → WithinRounds k x.round_starts
    begin_by k d x (inl at) (inl h) = absurd (both_ways (stands c order) away (stands_at order k c (at ∙ ap Some h.0)))
    begin_by k d x (inl at) (inr h) = o.after_begin k d x at h.1
    begin_by k d x (inr at) (inl h) = subst (λ n. WithinRounds n x.round_starts) (sym at.0) (subst (λ (y : Live). WithinRounds (length order) y.round_starts) h.1 (within_more m.start (length order) m.round_starts low.past low.by))
    begin_by k d x (inr at) (inr h) = absurd (h.0 (sym at.1))

-- one live call is answered
replied : (w : Batch) (order answered : List ℕ) (calls : List Live) (c : ℕ) (l m : Live) → Orderly w order answered calls → slice_get calls c ≡ Some l → l.done ≡ false → m.done ≡ true → StartsIn (length order) m
    → w.read_only c ≡ true → Orderly w order (answered ++ c ∷ []) (slice_set calls c m)
replied w order answered calls c l m o is live finished low reads = record {
  count = let n = length-set calls c m in let k = o.count in omega (arith, n, k);
  once = o.once;
  replied = once_more answered c o.replied away;
  apart = λ d there. apart_by d (d == c) refl there;
  done = λ d x got. done_by d x (get_set calls c d m x got);
  within = λ d past. within_by d (let n = length-set calls c m in omega (arith, n, past));
  starts = λ d x got. starts_by d x (get_set calls c d m x got);
  after_begin = λ k d x at got. begin_by k d x at (get_set calls c d m x got);
  readers = λ d there. readers_by d (d == c) refl there;
}
  where
    neither : (stands c answered || stands c order) ≡ false
    neither = sym (o.done c l is) ∙ live

    away : stands c answered ≡ false
    away = none_left (stands c answered) (stands c order) neither

    uncommitted : stands c order ≡ false
    uncommitted = none_right (stands c answered) (stands c order) neither

    other : (d : ℕ) → (d ≡ c → ⊥) → stands d (answered ++ c ∷ []) ≡ stands d answered
    other d ne = stands_other d c answered (λ e. ne (sym e))

    apart_by : (d : ℕ) (b : Bool) → (d == c) ≡ b → stands d order ≡ true → stands d (answered ++ c ∷ []) ≡ false
    apart_by d true e there = absurd (both_ways (stands c order) uncommitted (subst (λ x. stands x order ≡ true) (eqb-true d c e) there))
    apart_by d false e there = other d (λ same. both_ways (d == c) e (eq-eqb d c same)) ∙ o.apart d there

    readers_by : (d : ℕ) (b : Bool) → (d == c) ≡ b → stands d (answered ++ c ∷ []) ≡ true → w.read_only d ≡ true
    readers_by d true e there = subst (λ x. w.read_only x ≡ true) (sym (eqb-true d c e)) reads
    readers_by d false e there = o.readers d (sym (other d (λ same. both_ways (d == c) e (eq-eqb d c same))) ∙ there)

    done_by : (d : ℕ) (x : Live) → ((d ≡ c) × (m ≡ x)) ⊎ ((d ≡ c → ⊥) × (slice_get calls d ≡ Some x)) → x.done ≡ (stands d (answered ++ c ∷ []) || stands d order)
    done_by d x (inl h) =
        subst (λ (y : Live). y.done ≡ (stands d (answered ++ c ∷ []) || stands d order)) h.1
        (finished ∙ sym (ap (λ b. b || stands d order) (subst (λ z. stands z (answered ++ c ∷ []) ≡ true) (sym h.0) (stands_same c answered))))
    done_by d x (inr h) = o.done d x h.1 ∙ ap (λ b. b || stands d order) (sym (other d h.0))

    in_range : c < length calls
    in_range = slice_get_within calls c l is

    within_by : (d : ℕ) → length calls ≤ d → (stands d (answered ++ c ∷ []) || stands d order) ≡ false
    within_by d past = ap (λ b. b || stands d order) (other d (λ e. let r = in_range in omega (arith, r, past, e))) ∙ o.within d past

    starts_by : (d : ℕ) (x : Live) → ((d ≡ c) × (m ≡ x)) ⊎ ((d ≡ c → ⊥) × (slice_get calls d ≡ Some x)) → StartsIn (length order) x
    starts_by d x (inl h) = subst (λ (y : Live). StartsIn (length order) y) h.1 low
    starts_by d x (inr h) = o.starts d x h.1

    begin_by : (k d : ℕ) (x : Live) → slice_get order k ≡ Some d → ((d ≡ c) × (m ≡ x)) ⊎ ((d ≡ c → ⊥) × (slice_get calls d ≡ Some x)) → WithinRounds k x.round_starts
    begin_by k d x at (inl h) = absurd (both_ways (stands c order) uncommitted (stands_at order k c (at ∙ ap Some h.0)))
    begin_by k d x at (inr h) = o.after_begin k d x at h.1

-- a call begins
begun : (w : Batch) (order answered : List ℕ) (calls : List Live) → Orderly w order answered calls → length calls < w.count → Orderly w order answered (calls ++ begin (length order) ∷ [])
begun w order answered calls o room = record {
  count = let n = longer in omega (arith, n, room);
  once = o.once;
  replied = o.replied;
  apart = o.apart;
  done = λ d x got. done_by d x (get_last calls (begin (length order)) d x got);
  within = λ d past. o.within d (let n = longer in omega (arith, n, past));
  starts = λ d x got. starts_by d x (get_last calls (begin (length order)) d x got);
  after_begin = λ k d x at got. begin_by k d x at (get_last calls (begin (length order)) d x got);
  readers = o.readers;
}
  where
    longer : length (calls ++ begin (length order) ∷ []) ≡ length calls + 1
    longer = length-append calls (begin (length order) ∷ [])

    next_away : (d : ℕ) → d ≡ length calls → (stands d answered || stands d order) ≡ false
    next_away d e = o.within d (omega (arith, e))

    done_by : (d : ℕ) (x : Live) → (slice_get calls d ≡ Some x) ⊎ ((d ≡ length calls) × (begin (length order) ≡ x)) → x.done ≡ (stands d answered || stands d order)
    done_by d x (inl h) = o.done d x h
    done_by d x (inr h) = subst (λ (y : Live). y.done ≡ (stands d answered || stands d order)) h.1 (sym (next_away d h.0))

    starts_by : (d : ℕ) (x : Live) → (slice_get calls d ≡ Some x) ⊎ ((d ≡ length calls) × (begin (length order) ≡ x)) → StartsIn (length order) x
    starts_by d x (inl h) = o.starts d x h
    starts_by d x (inr h) = subst (λ (y : Live). StartsIn (length order) y) h.1 (record { by = (omega arith, tt); last = refl; past = omega arith })

    begin_by : (k d : ℕ) (x : Live) → slice_get order k ≡ Some d → (slice_get calls d ≡ Some x) ⊎ ((d ≡ length calls) × (begin (length order) ≡ x)) → WithinRounds k x.round_starts
    begin_by k d x at (inl h) = o.after_begin k d x at h
    begin_by k d x at (inr h) = absurd (both_ways (stands d order) (none_right (stands d answered) (stands d order) (next_away d h.0)) (stands_at order k d at))

abbrev pub OrderlyAt : Batch → Schedule → Type 0
OrderlyAt w s = Orderly w s.order s.answered s.calls

at_call : (w : Batch) (order answered : List ℕ) (calls : List Live) (c : ℕ) (f : Live → Live) (a : LiveAt calls c) → Orderly w order answered (slice_set calls c (f a.l))
    → Orderly w order answered (change_live (slice_get calls c) f calls c)
at_call w order answered calls c f a h = subst (λ o. Orderly w order answered (change_live o f calls c)) (sym a.is) h

-- a call that may be answered is read only
reader_of : (w : Batch) (c : ℕ) (b : Bool) (later : Option EventFault) → unless (not b) Order (unless (w.read_only c) Kind later) ≡ None → w.read_only c ≡ true
reader_of w c b later h = by b (w.read_only c) h
  where
    by : (b r : Bool) → unless (not b) Order (unless r Kind later) ≡ None → r ≡ true
    by true r k = cc
    by false true k = refl
    by false false k = cc

answered_reads : (w : Batch) (s : Schedule) (c : ℕ) → refusal w s (R c) ≡ None → w.read_only c ≡ true
answered_reads w s c h = by (slice_get s.calls c) h
  where
    by : (o : Option Live) → of_live o (λ l. unless (w.read_only c) Kind (unless (not (is_stale s l)) Stale None)) ≡ None → w.read_only c ≡ true
    by None k = cc
    by (Some l) k = reader_of w c l.done (unless (not (is_stale s l)) Stale None) k

room_of : (w : Batch) (n c : ℕ) → unless ((c == n) && nat_lt c w.count) Order None ≡ None → n < w.count
room_of w n c h = by (c == n) (nat_lt c w.count) refl refl h
  where
    less : nat_lt c w.count ≡ true → c < w.count
    less h = grind (arith, h)

    by : (a b : Bool) → (c == n) ≡ a → nat_lt c w.count ≡ b → unless (a && b) Order None ≡ None → n < w.count
    by true true e k h = subst (λ x. x < w.count) (eqb-true c n e) (less k)
    by true false e k h = cc
    by false b e k h = cc

pub orderly_after : (w : Batch) (s : Schedule) (e : Event) → refusal w s e ≡ None → OrderlyAt w s → OrderlyAt w (after w s e)
orderly_after w s (B c) h o = begun w s.order s.answered s.calls o (room_of w (length s.calls) c h)
orderly_after w s (S c) h o =
    let a = live_at s.calls c _ h in
    let t = o.starts c a.l a.is in
    at_call w s.order s.answered s.calls c (λ l. record l { steps = l.steps + 1 }) a
    (changed w s.order s.answered s.calls c a.l (record a.l { steps = a.l.steps + 1 }) o a.is a.live a.live (record { by = t.by; last = t.last; past = t.past }))
orderly_after w s (A c) h o =
    let a = live_at s.calls c _ h in
    at_call w s.order s.answered s.calls c (again (length s.order) Plain) a
    (changed w s.order s.answered s.calls c a.l (again (length s.order) Plain a.l) o a.is a.live a.live (starts_again (length s.order) Plain a.l (o.starts c a.l a.is)))
orderly_after w s (M c) h o =
    let a = live_at s.calls c _ h in
    at_call w s.order s.answered s.calls c (again (length s.order) Moved) a
    (changed w s.order s.answered s.calls c a.l (again (length s.order) Moved a.l) o a.is a.live a.live (starts_again (length s.order) Moved a.l (o.starts c a.l a.is)))
orderly_after w s (C c) h o =
    let a = live_at s.calls c _ h in
    let t = o.starts c a.l a.is in
    at_call w (s.order ++ c ∷ []) s.answered s.calls c finish a
    (committed w s.order s.answered s.calls c a.l (finish a.l) o a.is a.live refl (record { by = t.by; last = t.last; past = t.past }))
orderly_after w s (X c) h o =
    let a = live_at s.calls c _ h in
    let t = starts_again (length s.order) Exclusive a.l (o.starts c a.l a.is) in
    at_call w (s.order ++ c ∷ []) s.answered s.calls c (λ l. finish (again (length s.order) Exclusive l)) a
    (committed w s.order s.answered s.calls c a.l (finish (again (length s.order) Exclusive a.l)) o a.is a.live refl (record { by = t.by; last = t.last; past = t.past }))
orderly_after w s (R c) h o =
    let a = live_at s.calls c _ h in
    let t = o.starts c a.l a.is in
    at_call w s.order (s.answered ++ c ∷ []) s.calls c finish a
    (replied w s.order s.answered s.calls c a.l (finish a.l) o a.is a.live refl (record { by = t.by; last = t.last; past = t.past }) (answered_reads w s c h))
orderly_after w s G h o = o

-- Whole journals

-- orderly, with no call open
pub record Ended (w : Batch) (s : Schedule) : Type 0 where
  pub orderly : OrderlyAt w s
  pub closed : option_map Open (open_call w s) ≡ None

pub ended_from : (w : Batch) (n : ℕ) (s : Schedule) (es : List Event) → wrong_from w n s es ≡ None → OrderlyAt w s → Ended w (reach w s es)
ended_from w n s [] h o = record { orderly = o; closed = h }
ended_from w n s (e ∷ es) h o =
    let parts = first_allowed n (refusal w s e) (wrong_from w (n + 1) (after w s e) es) h in
    ended_from w (n + 1) (after w s e) es parts.1 (orderly_after w s e parts.0 o)

pub open_done : (n : ℕ) (ls : List Live) (i : ℕ) → n + i < first_open n ls → (l : Live) × (slice_get ls i ≡ Some l) × (l.done ≡ true)
open_done n [] i h = absurd (omega (arith, h))
open_done n (l ∷ ls) i h = by l.done i refl h (open_done (n + 1) ls)
  where
    by : (b : Bool) (i : ℕ) → l.done ≡ b → n + i < (if b then first_open (n + 1) ls else n) → ((j : ℕ) → (n + 1) + j < first_open (n + 1) ls → (m : Live) × (slice_get ls j ≡ Some m) × (m.done ≡ true))
        → (m : Live) × (slice_get (l ∷ ls) i ≡ Some m) × (m.done ≡ true)
    by true zero e h go = (l, refl, e)
    by true (suc j) e h go = go j (omega (arith, h))
    by false i e h go = absurd (omega (arith, h))

pub all_done : (w : Batch) (s : Schedule) → option_map Open (open_call w s) ≡ None → (c : ℕ) → c < w.count → (l : Live) × (slice_get s.calls c ≡ Some l) × (l.done ≡ true)
all_done w s h c less = open_done 0 s.calls c (below (first_open 0 s.calls) (closed (first_open 0 s.calls) h))
  where
    closed : (n : ℕ) → option_map Open (if nat_lt n w.count then Some n else None) ≡ None → nat_lt n w.count ≡ false
    closed n k = by (nat_lt n w.count) k
      where
        by : (b : Bool) → option_map Open (if b then Some n else None) ≡ None → b ≡ false
        by true k = cc
        by false k = refl

    below : (n : ℕ) → nat_lt n w.count ≡ false → 0 + c < n
    below n k = grind (arith, k, less)

-- before any event
pub at_beginning : (w : Batch) → OrderlyAt w beginning
at_beginning w = record {
  count = omega arith;
  once = tt;
  replied = tt;
  apart = λ c there. refl;
  done = λ c l is. cc;
  within = λ c past. refl;
  starts = λ c l is. cc;
  after_begin = λ k c l at is. cc;
  readers = λ c there. cc;
}

-- Which calls are named

live_below : (w : Batch) (s : Schedule) (c : ℕ) (f : Live → Option EventFault) → OrderlyAt w s → of_live (slice_get s.calls c) f ≡ None → c < w.count
live_below w s c f o h =
    let a = live_at s.calls c f h in
    let within : c < length s.calls = slice_get_within s.calls c a.l a.is in
    let count = o.count in
    omega (arith, within, count)

pub next_below : (w : Batch) (n c : ℕ) → unless ((c == n) && nat_lt c w.count) Order None ≡ None → c < w.count
next_below w n c h = by (c == n) (nat_lt c w.count) refl h
  where
    less : nat_lt c w.count ≡ true → c < w.count
    less h = grind (arith, h)

    by : (a b : Bool) → nat_lt c w.count ≡ b → unless (a && b) Order None ≡ None → c < w.count
    by true true k h = less k
    by true false k h = cc
    by false b k h = cc

is_of_calls : (w : Batch) (s : Schedule) (e : Event) → refusal w s e ≡ None → OrderlyAt w s → IsOfCalls w.count e
is_of_calls w s (B c) h o = next_below w (length s.calls) c h
is_of_calls w s (S c) h o = live_below w s c _ o h
is_of_calls w s (A c) h o = live_below w s c _ o h
is_of_calls w s (M c) h o = live_below w s c _ o h
is_of_calls w s (C c) h o = live_below w s c _ o h
is_of_calls w s (X c) h o = live_below w s c _ o h
is_of_calls w s (R c) h o = live_below w s c _ o h
is_of_calls w s G h o = tt

named_from : (w : Batch) (n : ℕ) (s : Schedule) (es : List Event) → wrong_from w n s es ≡ None → OrderlyAt w s → All (IsOfCalls w.count) es
named_from w n s [] h o = All-nil (IsOfCalls w.count)
named_from w n s (e ∷ es) h o =
    let parts = first_allowed n (refusal w s e) (wrong_from w (n + 1) (after w s e) es) h in
    All-cons (IsOfCalls w.count) e es (is_of_calls w s e parts.0 o) (named_from w (n + 1) (after w s e) es parts.1 (orderly_after w s e parts.0 o))

pub lawful_names_calls : (w : Batch) (es : List Event) → Lawful w es → All (IsOfCalls w.count) es
lawful_names_calls w es h = named_from w 1 beginning es h (at_beginning w)

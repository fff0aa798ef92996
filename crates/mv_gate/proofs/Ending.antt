-- The end of a run.
use Rattle.std.proofs.Common.{◌≡◌, ◌⊎◌, inl, inr, ℕ, zero, suc, ◌+◌, ◌≤◌, ◌<◌, Bool, true, false, List, [], ◌∷◌, Option, Some, None, length, refl, sym, ap, subst, ◌∙◌, arith, rules}
use Rattle.std.specs.Prelude.{slice_get, nat_lt, if◌then◌else◌, Result, Ok, Err, IfOk}
use Rattle.std.proofs.lemmas.Bool.{ltb-true, cases_eq}
use Rattle.std.proofs.lemmas.List.{length-set}
use mathlib.Core.List.{IsPrefix}
use Rattle.mv_journal.specs.declared.event.Event.{Event}
use Rattle.mv_journal.specs.declared.event.Event.TheVariants.{B, A, M, C, X, R}
use Rattle.mv_journal.specs.declared.outcome.Outcome.{Outcome}
use Rattle.mv_lawful.specs.Batch.{Batch}
use Rattle.mv_journal.specs.declared.outcome.Mark.TheVariants.{Plain, Exclusive, Moved}
use Rattle.mv_lawful.specs.Lawful.{Live, Schedule, begin, again, finish, change_live, first_open, open_call, Lawful}
use Rattle.mv_lawful.specs.Rounds.{IsBounded}
use Rattle.mv_lawful.specs.Outcomes.{outcome_of}
use Rattle.mv_seats.specs.Scripts.{BoardScript}
use Rattle.mv_seats.proofs.Prefixes.{prefix_self, prefix_more}
use Rattle.mv_script.specs.declared.script.CompiledScript.{CompiledScript}
use Rattle.mv_script.specs.Scripts.{batch_of}
use Rattle.mv_core.specs.Calls.{IsLiveCall}
use Rattle.mv_values.specs.declared.memory.NoMemory.{NoMemory}
use Rattle.mv_values.proofs.Deciding.{some_at}
use Rattle.mv_shards.specs.Scripts.{batch}
use Rattle.mv_shards.specs.Ledgers.{Entered}
use Rattle.mv_core.specs.Books.{Booked, batch_in, Made, IsSame}
use Rattle.mv_core.specs.Cores.{HasCommitted, HasMovedAndCommitted}
use Rattle.mv_core.proofs.Moving.{live_moved}
use Rattle.mv_core.proofs.Turning.{many_begun}
use Rattle.mv_lawful.proofs.Lists.{get_front, set_there, set_apart}
use Rattle.mv_core.proofs.Journals.{changed_at}
use Rattle.mv_gate.specs.Gates.{IsScheduler, Waiting, HandsOut, HasMovedAndAnswered, IsOutcome, IsDone, GoesOn}

pub outcome_told : (s : BoardScript) (b : Booked) (ledger : Entered) (starts : List (Option (List ℕ))) (o : Outcome) → IsScheduler s b ledger starts → Lawful (batch_in b) b.journal → o ≡ outcome_of (batch_in b) b.journal → IsOutcome (batch s) o
outcome_told s b ledger starts o d lawful is =
    let events : o.journal ≡ b.journal = ap (λ (x : Outcome). x.journal) is in
    subst (λ (x : CompiledScript). IsOutcome (batch_of x) o) d.script (record {
      lawful = subst (Lawful (batch_in b)) (sym events) lawful;
      bounded = subst (IsBounded (batch_in b)) (sym events) (subst (λ (x : CompiledScript). IsBounded (batch_of x) b.journal) (sym d.script) d.bounded);
      outcome = is ∙ ap (outcome_of (batch_in b)) (sym events);
    })

-- the journal of an outcome
pub journal_told : (now b : Booked) (r : Result Outcome NoMemory) → b ≡ now → IfOk r (λ o. o ≡ outcome_of (batch_in b) b.journal) → IfOk r (λ o. o.journal ≡ now.journal)
journal_told now b (Ok o) same is = ap (λ (x : Outcome). x.journal) is ∙ ap (λ (x : Booked). x.journal) same
journal_told now b (Err e) same is = tt

-- Events that go on

events_made : (e : Event) (old new : Booked) → Made e old new → IsPrefix old.journal new.journal
events_made e old new made = (e ∷ [], sym made.journal)

pub events_both : (a b c : List Event) → IsPrefix a b → IsPrefix b c → IsPrefix a c
events_both a b c p q = subst (IsPrefix a) q.1 (prefix_more a b q.0 p)

-- Calls that are done

done_still : (ls : List Live) (c : ℕ) (f : Live → Live) (l : Live) → slice_get ls c ≡ Some l → l.done ≡ false → (d : ℕ) → (m : Live) × (slice_get ls d ≡ Some m) × (m.done ≡ true)
    → (m : Live) × (slice_get (change_live (slice_get ls c) f ls c) d ≡ Some m) × (m.done ≡ true)
done_still ls c f l at live d h =
    let apart : d ≡ c → ⊥ = λ e.
    let both : Some h.0 ≡ Some l = sym h.1 ∙ (ap (slice_get ls) e ∙ at) in
    let one : h.0 ≡ l = search (rules, both) in
    let no : true ≡ false = sym h.2 ∙ (ap (λ (x : Live). x.done) one ∙ live) in
    search (rules, no) in
    (h.0, ap (λ xs. slice_get xs d) (changed_at ls c f l at) ∙ (set_apart ls c d (f l) apart ∙ h.1), h.2)

done_now : (ls : List Live) (c : ℕ) (f : Live → Live) (l : Live) → slice_get ls c ≡ Some l → (f l).done ≡ true → (m : Live) × (slice_get (change_live (slice_get ls c) f ls c) c ≡ Some m) × (m.done ≡ true)
done_now ls c f l at is = (f l, ap (λ xs. slice_get xs c) (changed_at ls c f l at) ∙ set_there ls c (f l) l at, is)

as_long : (ls : List Live) (c : ℕ) (f : Live → Live) (l : Live) → slice_get ls c ≡ Some l → length (change_live (slice_get ls c) f ls c) ≡ length ls
as_long ls c f l at = ap length (changed_at ls c f l at) ∙ length-set ls c (f l)

keeps_begun : (c : ℕ) (old new : Booked) → Made (B c) old new → GoesOn old new
keeps_begun c old new made = record {
  done = λ d h. subst (λ (s : Schedule). IsDone s d) (sym made.schedule) (h.0, get_front old.schedule.calls (begin (length old.schedule.order)) d h.0 h.1, h.2);
  count = let long = many_begun c old new made in omega (arith, long);
  script = made.script;
  events = events_made (B c) old new made;
}

-- an event that changed one live call
keeps_changed : (e : Event) (c : ℕ) (f : Live → Live) (old new : Booked) → Made e old new → new.schedule.calls ≡ change_live (slice_get old.schedule.calls c) f old.schedule.calls c → IsLiveCall old.schedule c → GoesOn old new
keeps_changed e c f old new made is live = record {
  done = λ d h. let kept = done_still old.schedule.calls c f live.0 live.1.at live.1.live d h in (kept.0, ap (λ ls. slice_get ls d) is ∙ kept.1, kept.2);
  count = let a = as_long old.schedule.calls c f live.0 live.1.at in let b = ap length is in omega (arith, a, b);
  script = made.script;
  events = events_made e old new made;
}

pub keeps_again : (c : ℕ) (old new : Booked) → Made (A c) old new → IsLiveCall old.schedule c → GoesOn old new
keeps_again c old new made live = keeps_changed (A c) c (again (length old.schedule.order) Plain) old new made (ap (λ (s : Schedule). s.calls) made.schedule) live

keeps_moved : (c : ℕ) (old new : Booked) → Made (M c) old new → IsLiveCall old.schedule c → GoesOn old new
keeps_moved c old new made live = keeps_changed (M c) c (again (length old.schedule.order) Moved) old new made (ap (λ (s : Schedule). s.calls) made.schedule) live

keeps_committed : (c : ℕ) (old new : Booked) → Made (C c) old new → IsLiveCall old.schedule c → GoesOn old new
keeps_committed c old new made live = keeps_changed (C c) c finish old new made (ap (λ (s : Schedule). s.calls) made.schedule) live

keeps_decided : (c : ℕ) (old new : Booked) → Made (X c) old new → IsLiveCall old.schedule c → GoesOn old new
keeps_decided c old new made live = keeps_changed (X c) c (λ l. finish (again (length old.schedule.order) Exclusive l)) old new made (ap (λ (s : Schedule). s.calls) made.schedule) live

pub keeps_answered : (c : ℕ) (old new : Booked) → Made (R c) old new → IsLiveCall old.schedule c → GoesOn old new
keeps_answered c old new made live = keeps_changed (R c) c finish old new made (ap (λ (s : Schedule). s.calls) made.schedule) live

-- it is live after it has moved
moved_live : (c : ℕ) (old new : Booked) → Made (M c) old new → IsLiveCall old.schedule c → IsLiveCall new.schedule c
moved_live c old new made live = (again (length old.schedule.order) Moved live.0, live_moved c old new live.0 live.1 made)

pub keeps_same : (old new : Booked) → IsSame old new → GoesOn old new
keeps_same old new same = record {
  done = λ d h. subst (λ (s : Schedule). IsDone s d) (sym same.schedule) h;
  count = let a = ap (λ (s : Schedule). length s.calls) same.schedule in omega (arith, a);
  script = same.script;
  events = subst (IsPrefix old.journal) (sym same.journal) (prefix_self old.journal);
}

pub keeps_both : (a b c : Booked) → GoesOn a b → GoesOn b c → GoesOn a c
keeps_both a b c x y = record {
  done = λ d h. y.done d (x.done d h);
  count = let p = x.count in let q = y.count in omega (arith, p, q);
  script = y.script ∙ x.script;
  events = events_both a.journal b.journal c.journal x.events y.events;
}

-- the next call began, or not
pub keeps_next : (r : Result (Option Waiting) NoMemory) (old new : Booked) → HandsOut r old new → GoesOn old new
keeps_next (Ok (Some w)) old new h = keeps_begun w.call old new h.0
keeps_next (Ok None) old new h = keeps_same old new h.1
keeps_next (Err e) old new h = keeps_same old new h

pub begun_next : (o : Option Waiting) (old new : Booked) (c : ℕ) → HandsOut (Ok o) old new → c ≤ length old.schedule.calls → c < length old.script.calls → c < length new.schedule.calls
begun_next (Some w) old new c h begun there =
    let long = many_begun w.call old new h.0 in
    omega (arith, begun, long)
begun_next None old new c h begun there =
    let all = h.0 in
    let long = ap (λ (s : Schedule). length s.calls) h.1.schedule in
    omega (arith, there, all, long)

-- a call moved and committed
keeps_moved_and_committed : (c : ℕ) (old mid new : Booked) → Made (M c) old mid → Made (C c) mid new → IsLiveCall old.schedule c → GoesOn old new
keeps_moved_and_committed c old mid new moved committed live = keeps_both old mid new (keeps_moved c old mid moved live) (keeps_committed c mid new committed (moved_live c old mid moved live))

pub keeps_late : (r : Result ℕ NoMemory) (c : ℕ) (old new : Booked) → HasMovedAndCommitted c r old new → IsLiveCall old.schedule c → GoesOn old new
keeps_late (Ok n) c old new h live = keeps_moved_and_committed c old h.0.0 new h.0.1 h.0.2 live
keeps_late (Err e) c old new h live = keeps_same old new h

-- a call moved and was answered
pub keeps_read : (r : Result ℕ NoMemory) (c : ℕ) (old new : Booked) → HasMovedAndAnswered c r old new → IsLiveCall old.schedule c → GoesOn old new
keeps_read (Ok n) c old new h live = keeps_both old h.0.0 new (keeps_moved c old h.0.0 h.0.1 live) (keeps_answered c h.0.0 new h.0.2 (moved_live c old h.0.0 h.0.1 live))
keeps_read (Err e) c old new h live = keeps_same old new h

done_by : (c : ℕ) (f : Live → Live) (old new : Booked) → new.schedule.calls ≡ change_live (slice_get old.schedule.calls c) f old.schedule.calls c → IsLiveCall old.schedule c → ((l : Live) → (f l).done ≡ true) → IsDone new.schedule c
done_by c f old new is live ends = let h = done_now old.schedule.calls c f live.0 live.1.at (ends live.0) in (h.0, ap (λ ls. slice_get ls c) is ∙ h.1, h.2)

pub done_committed : (c : ℕ) (old new : Booked) → Made (C c) old new → IsLiveCall old.schedule c → IsDone new.schedule c
done_committed c old new made live = done_by c finish old new (ap (λ (s : Schedule). s.calls) made.schedule) live (λ l. refl)

pub done_late : (c n : ℕ) (old new : Booked) → HasMovedAndCommitted c (Ok n) old new → IsLiveCall old.schedule c → IsDone new.schedule c
done_late c n old new h live = done_committed c h.0.0 new h.0.2 (moved_live c old h.0.0 h.0.1 live)

pub done_answered : (c : ℕ) (old new : Booked) → Made (R c) old new → IsLiveCall old.schedule c → IsDone new.schedule c
done_answered c old new made live = done_by c finish old new (ap (λ (s : Schedule). s.calls) made.schedule) live (λ l. refl)

pub done_read : (c n : ℕ) (old new : Booked) → HasMovedAndAnswered c (Ok n) old new → IsLiveCall old.schedule c → IsDone new.schedule c
done_read c n old new h live = done_answered c h.0.0 new h.0.2 (moved_live c old h.0.0 h.0.1 live)

pub done_decided : (c : ℕ) (old new : Booked) → Made (X c) old new → IsLiveCall old.schedule c → IsDone new.schedule c
done_decided c old new made live = done_by c (λ l. finish (again (length old.schedule.order) Exclusive l)) old new (ap (λ (s : Schedule). s.calls) made.schedule) live (λ l. refl)

-- a call that was decided, or wasn't
pub keeps_decision : (r : Result ℕ NoMemory) (c : ℕ) (old new : Booked) → HasCommitted (X c) r old new → IsLiveCall old.schedule c → GoesOn old new
keeps_decision (Ok n) c old new h live = keeps_decided c old new h.0 live
keeps_decision (Err e) c old new h live = keeps_same old new h

-- a call that was repaired commits, or not
pub keeps_commit : (r : Result ℕ NoMemory) (c : ℕ) (old new : Booked) → HasCommitted (C c) r old new → IsLiveCall old.schedule c → GoesOn old new
keeps_commit (Ok n) c old new h live = keeps_committed c old new h.0 live
keeps_commit (Err e) c old new h live = keeps_same old new h

-- a call that has begun and isn't live is done
pub shut : (s : Schedule) (c : ℕ) → c < length s.calls → (IsLiveCall s c → ⊥) → IsDone s c
shut s c lt never = there (some_at s.calls c lt) where
  ended : (l : Live) → slice_get s.calls c ≡ Some l → (b : Bool) → l.done ≡ b → b ≡ true
  ended l at true is = refl
  ended l at false is = absurd (never (l, record { at = at; live = is }))

  there : (l : Live) × (slice_get s.calls c ≡ Some l) → IsDone s c
  there h = (h.0, h.1, ended h.0 h.1 h.0.done refl)

-- All of them

first_from : (n : ℕ) (ls : List Live) → n ≤ first_open n ls
first_from n [] = omega arith
first_from n (l ∷ ls) = by l.done (first_from (n + 1) ls) where
  by : (b : Bool) → n + 1 ≤ first_open (n + 1) ls → n ≤ (if b then first_open (n + 1) ls else n)
  by true le = omega (arith, le)
  by false le = omega arith

first_is : (n : ℕ) (ls : List Live) (i : ℕ) (l : Live) → first_open n ls ≡ n + i → slice_get ls i ≡ Some l → l.done ≡ true → ⊥
first_is n [] i l is at done = search (rules, at)
first_is n (x ∷ ls) i l is at done = by x.done i refl is at (first_is (n + 1) ls) (first_from (n + 1) ls) where
  by : (b : Bool) (i : ℕ) → x.done ≡ b → (if b then first_open (n + 1) ls else n) ≡ n + i → slice_get (x ∷ ls) i ≡ Some l
      → ((j : ℕ) (m : Live) → first_open (n + 1) ls ≡ n + 1 + j → slice_get ls j ≡ Some m → m.done ≡ true → ⊥) → n + 1 ≤ first_open (n + 1) ls → ⊥
  by true zero e is at go le = omega (arith, is, le)
  by true (suc j) e is at go le = go j l (omega (arith, is)) at done
  by false zero e is at go le =
      let same : x ≡ l = search (rules, at) in
      let no : false ≡ true = sym e ∙ (ap (λ (y : Live). y.done) same ∙ done) in
      search (rules, no)
  by false (suc j) e is at go le = omega (arith, is)

-- no call is open where each is done
all_shut : (w : Batch) (s : Schedule) → ((c : ℕ) → c < w.count → IsDone s c) → open_call w s ≡ None
all_shut w s all = by (nat_lt (first_open 0 s.calls) w.count) refl where
  by : (b : Bool) → nat_lt (first_open 0 s.calls) w.count ≡ b → (if b then Some (first_open 0 s.calls) else None) ≡ None
  by true less = let h = all (first_open 0 s.calls) (ltb-true (first_open 0 s.calls) w.count less) in absurd (first_is 0 s.calls (first_open 0 s.calls) h.0 (omega arith) h.1 h.2)
  by false less = refl

-- one call more is done
pub done_more : (old new : Booked) (k : ℕ) → ((d : ℕ) → d < k → IsDone old.schedule d) → GoesOn old new → IsDone new.schedule k → (d : ℕ) → d < k + 1 → IsDone new.schedule d
done_more old new k all kept now d lt = by (cases_eq d k) where
  below : (d k : ℕ) → d < k + 1 → (d ≡ k → ⊥) → d < k
  below d k lt apart = omega (arith, lt, apart)

  by : (d ≡ k) ⊎ (d ≡ k → ⊥) → IsDone new.schedule d
  by (inl same) = subst (IsDone new.schedule) (sym same) now
  by (inr apart) = kept.done d (all d (below d k lt apart))

pub all_done : (b : Booked) (k : ℕ) → length b.script.calls ≤ k → ((d : ℕ) → d < k → IsDone b.schedule d) → open_call (batch_in b) b.schedule ≡ None
all_done b k le all = all_shut (batch_in b) b.schedule (λ c lt. all c (omega (arith, lt, le)))

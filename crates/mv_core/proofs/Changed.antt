-- What stays of a history where no event is made, and a call after an event.
use Rattle.std.proofs.Common.{◌≡◌, ℕ, ◌+◌, ◌<◌, ◌≤◌, Bool, true, false, List, [], ◌∷◌, ◌++◌, Option, Some, None, Result, length, refl, sym, ap, subst, ◌∙◌, arith, rules}
use Rattle.std.specs.Prelude.{slice_get, ◌==◌, ◌≢◌, Ok, Err, not, IfSome, IsErrAnd, nat_le, nat_lt, nat_eq}
use Rattle.std.specs.Option.{is_some}
use Rattle.std.proofs.lemmas.Bool.Decides.{eqb_tells}
use Rattle.std.proofs.lemmas.Bool.{and_parts, eqb-true, le-ltb, ltb-true, lt-ltb}
use Rattle.mv_values.specs.declared.calls.Call.{Call}
use Rattle.mv_values.specs.declared.memory.NoMemory.{NoMemory}
use Rattle.mv_values.specs.Tables.{Tables}
use Rattle.mv_record.specs.declared.record.Record.{Record}
use Rattle.mv_record.specs.Writes.{AreRising}
use Rattle.mv_graph.specs.declared.graph.Graph.{Graph}
use Rattle.mv_graph.specs.Nodes.{meaning_of}
use Rattle.mv_exec.specs.Running.{IsTaskOf, HasLeft}
use Rattle.mv_journal.specs.declared.event.Event.{Event}
use Rattle.mv_journal.specs.declared.event.Event.TheVariants.{S, A, C, X, R}
use Rattle.mv_journal.specs.declared.outcome.Mark.{Mark}
use Rattle.mv_journal.specs.declared.outcome.Mark.TheVariants.{Exclusive}
use Rattle.mv_journal.specs.declared.outcome.Round.{Round}
use Rattle.mv_lawful.specs.Rounds.{later_run, repair_run, rounds_of, last_number}
use Rattle.mv_lawful.specs.Outcomes.{round_starts_of}
use Rattle.mv_lawful.specs.Batch.{Batch, records_at}
use Rattle.mv_lawful.specs.declared.fault.EventFault.TheVariants.{Idle, Kind, Order, Stale, Rounds}
use Rattle.mv_lawful.specs.Lawful.{Live, Schedule, again, finish, change_live, used, has_step, has_round, is_hit, is_stale, unless, refusal, after}
use Rattle.mv_script.specs.declared.script.CompiledScript.{CompiledScript}
use Rattle.mv_core.specs.Rooms.{Filled}
use Rattle.mv_script.specs.Scripts.{batch_of, IsCompiledScript}
use Rattle.mv_core.specs.declared.tasks.Running.{Running}
use Rattle.mv_core.specs.Calls.{IsLive, IsLiveCall, due_number}
use Rattle.mv_core.specs.Books.{Booked, batch_in, Made, IsSame, IsSettled, IsMissing, HasAnswered, HasRounds, round_event, IsOwnBy, IsOwnNumber, IsAnswer, HasRoom, IsNotStale}
use Rattle.mv_core.specs.declared.book.Check.{Check}
use Rattle.mv_core.specs.declared.engine.Attempt.{Attempt}
use Rattle.mv_view.specs.Viewing.{Sight, MayAnswer}
use Rattle.mv_view.specs.declared.view.Refused.{Refused}
use Rattle.mv_view.specs.declared.view.Refused.TheVariants as refused
use Rattle.mv_core.specs.declared.book.Check.TheVariants as check
use Rattle.mv_core.specs.Drives.{HasMade, HasTaken, TellsRound, of_view}
use Rattle.mv_core.specs.declared.drive.EventRefusal.TheVariants as drive
use Rattle.mv_core.specs.Cores.{Cored, IsAllowedIfFresh, IsHitAt, IsStaleAt, IsLiveTask, IsRunningIn, HasRoundStarts, HasStep, MayStep, HasTried, HasCommitted, HasRefused, HasRepaired, IsStoreOf, IsCore}
use Rattle.mv_lawful.proofs.Numbers.{repair_stays}
use Rattle.mv_lawful.proofs.Lists.{set_there}
use Rattle.mv_core.proofs.Journals.{changed_at}
use Rattle.mv_core.proofs.Keeping.{restart_after}
use Rattle.mv_core.proofs.Numbered.{numbers_same}
use Rattle.mv_core.proofs.Stored.{stored_same}
use Rattle.mv_core.proofs.Taking.{tasks_same, number_again, one_live}
use Rattle.mv_core.proofs.Refusing.{used_rounds, Repairs, repairs_again, repairs_last, step_is, same_made, refused_stale, fresh_allowed, live_is, told_idle, told_stale, told_hit, answer_stale, write_refused}
use Rattle.mv_store.specs.Stored.{Versioned}

-- What contracts see of a core

abbrev pub book_in : Cored → Booked
book_in k = k.book

abbrev pub tasks_in : Cored → List (Option Running)
tasks_in k = k.tasks

-- No event

pub core_same : (old new : Booked) (store : Versioned) (ts : List (Option Running)) → IsCore old store ts → IsSame old new → IsCore new store ts
core_same old new store ts k same = record { stored = stored_same old new store k.stored same; numbers = numbers_same old new same k.numbers; tasks = tasks_same old.script new.script old.schedule new.schedule ts k.tasks same.script same.schedule }

pub made_after : (e : Event) (old mid new : Booked) → IsSame old mid → Made e mid new → Made e old new
made_after e old mid new same m = record {
  allowed = subst (λ (s : CompiledScript). refusal (batch_of s) old.schedule e ≡ None) same.script (subst (λ (s : Schedule). refusal (batch_in mid) s e ≡ None) same.schedule m.allowed);
  schedule = m.schedule ∙ (ap (λ s. after (batch_in mid) s e) same.schedule ∙ ap (λ (s : CompiledScript). after (batch_of s) old.schedule e) same.script);
  settled = λ c live other has. m.settled c (subst (λ (s : Schedule). IsLiveCall s c) (sym same.schedule) live) other (same.settled c has);
  journal = m.journal ∙ ap (λ j. j ++ e ∷ []) same.journal;
  script = m.script ∙ same.script;
}

-- no event after one
pub made_before : (e : Event) (old mid new : Booked) → Made e old mid → IsSame mid new → Made e old new
made_before e old mid new m same = record {
  allowed = m.allowed;
  schedule = same.schedule ∙ m.schedule;
  settled = λ c live other has. same.settled c (m.settled c live other has);
  journal = same.journal ∙ m.journal;
  script = same.script ∙ m.script;
}

-- no event, twice
pub same_both : (old mid new : Booked) → IsSame old mid → IsSame mid new → IsSame old new
same_both old mid new a b = record {
  script = b.script ∙ a.script;
  schedule = b.schedule ∙ a.schedule;
  settled = λ c has. b.settled c (a.settled c has);
  journal = b.journal ∙ a.journal;
}

-- what is said of the script and the schedule is said of the other ones too
pub on_new : (P : CompiledScript → Schedule → Type 0) (old new : Booked) → IsSame old new → P old.script old.schedule → P new.script new.schedule
on_new P old new same p = subst (λ s. P s new.schedule) (sym same.script) (subst (P old.script) (sym same.schedule) p)

pub on_old : (P : CompiledScript → Schedule → Type 0) (old new : Booked) → IsSame old new → P new.script new.schedule → P old.script old.schedule
on_old P old new same p = subst (λ s. P s old.schedule) same.script (subst (P new.script) same.schedule p)

pub running_same : (old new : Booked) (c : ℕ) (t : Running) → IsSame old new → IsRunningIn old c t → IsRunningIn new c t
running_same old new c t same r = record {
  script = on_new (λ s x. IsCompiledScript s) old new same r.script;
  live = on_new (λ s x. IsLiveCall x c) old new same r.live;
  number = on_new (λ s x. c < length s.calls) old new same r.number;
  task = on_new (λ s x. (l : Live) → IsLive x c l → IsLiveTask s x.order c l t) old new same r.task;
}

-- a commit after no event
pub committed_after : (e : Event) (r : Result ℕ NoMemory) (old mid new : Booked) → IsSame old mid → HasCommitted e r mid new → HasCommitted e r old new
committed_after e (Ok n) old mid new same h = (made_after e old mid new same h.0, h.1 ∙ ap (λ (s : Schedule). length s.order + 1) same.schedule)
committed_after e (Err x) old mid new same h = same_both old mid new same h

-- an answer after no event
pub answered_after : (c : ℕ) (r : Result ℕ Refused) (old mid new : Booked) → IsSame old mid → HasAnswered c r mid new → HasAnswered c r old new
answered_after c (Ok n) old mid new same h = (made_after (R c) old mid new same h.0, λ l live. h.1 l (subst (λ (s : Schedule). IsLive s c l) (sym same.schedule) live))
answered_after c (Err refused.NoMemory) old mid new same h = same_both old mid new same h
answered_after c (Err (refused.Stale start low)) old mid new same h =
    let at = h.0 in (
      record {
        live = at.live;
        is_live = subst (λ (s : Schedule). IsLive s c at.live) same.schedule at.is_live;
        start_is = at.start_is;
        low_is = at.low_is ∙ ap (λ (s : Schedule). s.low) same.schedule;
        stale = at.stale;
      },
      same_both old mid new same h.1,
    )

pub refused_is_same : (c : ℕ) (why : Refused) (old new : Booked) → HasRefused c why old new → IsSame old new
refused_is_same c refused.NoMemory old new h = h
refused_is_same c (refused.Stale start low) old new h = h.1

-- where memory ran out
pub try_failed : (Q : NoMemory → Type 0) (c : ℕ) (r : Result Attempt NoMemory) (old new : Booked) → IsErrAnd r Q → IsSame old new → HasTried c r old new
try_failed Q c (Ok a) old new err same = absurd err
try_failed Q c (Err e) old new err same = same

pub repair_failed : (c : ℕ) (r : Result ℕ Refused) (old new : Booked) → IsErrAnd r (λ e. e ≡ refused.NoMemory) → IsSame old new → HasRepaired c r old new
repair_failed c (Ok n) old new err same = absurd err
repair_failed c (Err refused.NoMemory) old new err same = same
repair_failed c (Err (refused.Stale start low)) old new err same = absurd (search (rules, err))

pub due_same : (old new : Booked) (c n : ℕ) → new.script ≡ old.script → new.schedule ≡ old.schedule → due_number (batch_in old) old.schedule c ≡ Some n → due_number (batch_in new) new.schedule c ≡ Some n
due_same old new c n script schedule is =
    ap (λ (s : CompiledScript). due_number (batch_of s) new.schedule c) script ∙ (ap (λ s. due_number (batch_in old) s c) schedule ∙ is)

-- a number that is still missing
pub missing_same : (old new : Booked) (c n : ℕ) → IsSame old new → IsMissing n old c → IsMissing n new c
missing_same old new c n same missing none = due_same old new c n same.script same.schedule (missing (λ settled. none (same.settled c settled)))

pub own_same : (own : Option ℕ) (old new : Booked) (c : ℕ) → new.script ≡ old.script → new.schedule ≡ old.schedule → IsOwnNumber own old c → IsOwnNumber own new c
own_same own old new c script schedule is =
    subst (λ (s : CompiledScript). IsOwnBy own (batch_of s) new.schedule c) (sym script) (subst (λ s. IsOwnBy own (batch_in old) s c) (sym schedule) is)

pub allowed_same : (e : Event) (old new : Booked) → new.script ≡ old.script → new.schedule ≡ old.schedule → refusal (batch_in old) old.schedule e ≡ None → refusal (batch_in new) new.schedule e ≡ None
allowed_same e old new script schedule is =
    ap (λ (s : CompiledScript). refusal (batch_of s) new.schedule e) script ∙ (ap (λ s. refusal (batch_in old) s e) schedule ∙ is)

pub room_less : (b : Booked) (c n m : ℕ) → m ≤ n → HasRoom b c n → HasRoom b c m
room_less b c n m le h = (let a = h.0 in omega (arith, a, le), λ (f : Filled Round) there. let a : n ≤ f.room = h.1 f there in omega (arith, a, le))

-- A statement

pub step_used : (w : Batch) (s : Schedule) (c : ℕ) (l : Live) → has_step w s c l ≡ true → used l ≡ 0
step_used w s c l h = eqb-true (used l) 0 (and_parts (used l == 0) (nat_lt l.steps (length (records_at w s.order l.start c))) h).0

pub live_stepped : (c : ℕ) (old new : Booked) (l : Live) → IsLive old.schedule c l → Made (S c) old new → IsLive new.schedule c (record l { steps = l.steps + 1 })
live_stepped c old new l live made = record {
  at =
      ap (λ (s : Schedule). slice_get s.calls c) made.schedule
      ∙ (ap (λ ls. slice_get ls c) (changed_at old.schedule.calls c (λ x. record x { steps = x.steps + 1 }) l live.at) ∙ set_there old.schedule.calls c (record l { steps = l.steps + 1 }) l live.at);
  live = live.live;
}

-- A repair or a move

pub live_restarted : (m : Mark) (c : ℕ) (old new : Booked) (l : Live) → m ≢ Exclusive → IsLive old.schedule c l → Made (round_event m c) old new → IsLive new.schedule c (again (length old.schedule.order) m l)
live_restarted m c old new l ne live made = record {
  at =
      ap (λ (s : Schedule). slice_get s.calls c) (made.schedule ∙ restart_after (batch_in old) old.schedule m c ne)
      ∙ (ap (λ ls. slice_get ls c) (changed_at old.schedule.calls c (again (length old.schedule.order) m) l live.at) ∙ set_there old.schedule.calls c (again (length old.schedule.order) m l) l live.at);
  live = live.live;
}

-- the number that Runs gives the round that it begins
abbrev pub due_after : Booked → Mark → ℕ → Option ℕ
due_after b mark c = due_number (batch_in b) (after (batch_in b) b.schedule (round_event mark c)) c

pub due_restarted : (m : Mark) (b : Booked) (c : ℕ) (l : Live) → m ≢ Exclusive → IsLive b.schedule c l → HasRoundStarts (length b.schedule.order) l
    → due_after b m c ≡ Some (later_run (batch_in b) b.schedule.order c l.start (length b.schedule.order) m)
due_restarted m b c l ne live round_starts =
    ap (λ (s : Schedule). due_number (batch_in b) s c) (restart_after (batch_in b) b.schedule m c ne)
    ∙ (ap (λ o. last_number (rounds_of (batch_in b) b.schedule.order c (round_starts_of o))) there ∙ number_again (batch_in b) b.schedule.order c (length b.schedule.order) (length b.schedule.order) m l round_starts) where
      there : slice_get (change_live (slice_get b.schedule.calls c) (again (length b.schedule.order) m) b.schedule.calls c) c ≡ Some (again (length b.schedule.order) m l)
      there = ap (λ ls. slice_get ls c) (changed_at b.schedule.calls c (again (length b.schedule.order) m) l live.at) ∙ set_there b.schedule.calls c (again (length b.schedule.order) m l) l live.at

pub due_made : (m : Mark) (old new : Booked) (c n : ℕ) → Made (round_event m c) old new → due_after old m c ≡ Some n → due_number (batch_in new) new.schedule c ≡ Some n
due_made m old new c n made is = ap (λ (s : CompiledScript). due_number (batch_of s) new.schedule c) made.script ∙ (ap (λ (s : Schedule). due_number (batch_in old) s c) made.schedule ∙ is)

pub due_after_same : (m : Mark) (old new : Booked) (c n : ℕ) → new.script ≡ old.script → new.schedule ≡ old.schedule → due_after old m c ≡ Some n → due_after new m c ≡ Some n
due_after_same m old new c n script schedule is =
    ap (λ (s : CompiledScript). due_number (batch_of s) (after (batch_of s) new.schedule (round_event m c)) c) script
    ∙ (ap (λ (s : Schedule). due_number (batch_in old) (after (batch_in old) s (round_event m c)) c) schedule ∙ is)

-- the number of a repair that commits in its own step
pub due_decided : (b : Booked) (c : ℕ) (l : Live) → IsLive b.schedule c l → HasRoundStarts (length b.schedule.order) l
    → due_number (batch_in b) (after (batch_in b) b.schedule (X c)) c ≡ Some (repair_run (batch_in b) b.schedule.order c l.start (length b.schedule.order))
due_decided b c l live round_starts =
    ap (λ o. last_number (rounds_of (batch_in b) longer c (round_starts_of o))) there
    ∙ (number_again (batch_in b) longer c (length b.schedule.order) (length b.schedule.order) Exclusive l round_starts
    ∙ ap Some (repair_stays (batch_in b) b.schedule.order c c l.start (length b.schedule.order) round_starts.past (omega arith))) where
      longer : List ℕ
      longer = b.schedule.order ++ c ∷ []

      f : Live → Live
      f x = finish (again (length b.schedule.order) Exclusive x)

      there : slice_get (after (batch_in b) b.schedule (X c)).calls c ≡ Some (f l)
      there = ap (λ ls. slice_get ls c) (changed_at b.schedule.calls c f l live.at) ∙ set_there b.schedule.calls c (f l) l live.at

-- The history of a core, and the same one with room

pub live_now : (b now new : Booked) (c : ℕ) → b ≡ now → IsLiveCall now.schedule c → IsSame b new → IsLiveCall new.schedule c
live_now b now new c is live same = subst (λ (s : Schedule). IsLiveCall s c) (sym (same.schedule ∙ ap (λ (x : Booked). x.schedule) is)) live

pub step_now : (b now new : Booked) (c : ℕ) → b ≡ now → HasStep now c → IsSame b new → HasStep new c
step_now b now new c is has same =
    subst (λ (s : CompiledScript). (l : Live) → IsLive new.schedule c l → has_step (batch_of s) new.schedule c l ≡ true) (sym (same.script ∙ ap (λ (x : Booked). x.script) is))
    (subst (λ (s : Schedule). (l : Live) → IsLive s c l → has_step (batch_in now) s c l ≡ true) (sym (same.schedule ∙ ap (λ (x : Booked). x.schedule) is)) has)

pub made_now : (e : Event) (b now mid new : Booked) → b ≡ now → IsSame b mid → Made e mid new → Made e now new
made_now e b now mid new is same m = subst (λ (x : Booked). Made e x new) is (made_after e b mid new same m)

-- a start that isn't below low
pub fresh_now : (b : Booked) (c start low : ℕ) → ((l : Live) → IsLive b.schedule c l → start ≡ l.start) → low ≡ b.schedule.low → (start < low → ⊥) → IsNotStale b c
fresh_now b c start low at low_at fresh l live = le-ltb l.start b.schedule.low (let a = at l live in omega (arith, a, low_at, fresh))

pub fresh_with : (b now new : Booked) (c : ℕ) → b ≡ now → IsSame b new → IsNotStale now c → IsNotStale new c
fresh_with b now new c is same fresh = subst (λ (s : Schedule). (l : Live) → IsLive s c l → is_stale s l ≡ false) (sym (same.schedule ∙ ap (λ (x : Booked). x.schedule) is)) fresh

-- what is refused where the view isn't stale
pub refused_same : (c : ℕ) (v w : Sight) (why : Refused) (old new : Booked) → v.may_be_stale ≡ false → MayAnswer {A = ℕ} v w (Err why) → IsSame old new → HasRefused c why old new
refused_same c v w refused.NoMemory old new fresh may same = same
refused_same c v w (refused.Stale start low) old new fresh may same = let both : false ≡ true = sym fresh ∙ may.may_be in absurd (search (rules, both))

-- what is told after a statement
pub step_told : (b new : Booked) (store : Versioned) (c : ℕ) (l : Live) (t : Running) (steps : ℕ) (more : Bool) → IsStoreOf b store → c < length b.script.calls → IsLive b.schedule c l → Made (S c) b new
    → IsLiveTask b.script b.schedule.order c (record l { steps = l.steps + 1 }) t → used l ≡ 0 → ((m : Live) → IsLive new.schedule c m → steps ≡ m.steps)
    → ((n : ℕ) → t.count ≡ Some n → more ≡ nat_lt steps n)
    → (t.count ≡ None → (g : Graph) (call : Call) (db : Tables) (rest : List Record) → IsTaskOf g call t.task → AreRising db → HasLeft g call db t.task rest → more ≡ nat_lt steps (length (meaning_of g call db).records))
    → (m : Live) → IsLive new.schedule c m → has_step (batch_in new) new.schedule c m ≡ more
step_told b new store c l t steps more k lt live made task first counts known told m at =
    let now : Live = record l { steps = l.steps + 1 } in
    let there : IsLive new.schedule c now = live_stepped c b new l live made in
    let one : now ≡ m = one_live new.schedule c now m there at in
    let order : new.schedule.order ≡ b.schedule.order = ap (λ (s : Schedule). s.order) made.schedule in
    subst (λ (x : Live). has_step (batch_in new) new.schedule c x ≡ more) one
    (step_is new.script new.schedule c now t more (subst IsCompiledScript (sym made.script) k.script) (subst (λ (s : CompiledScript). c < length s.calls) (sym made.script) lt)
    (subst (λ (s : CompiledScript). IsLiveTask s new.schedule.order c now t) (sym made.script) (subst (λ (o : List ℕ). IsLiveTask b.script o c now t) (sym order) task)) first
    (λ n is. known n is ∙ ap (λ x. nat_lt x n) (counts now there))
    (λ none g call db rest is rise leaves. told none g call db rest is rise leaves ∙ ap (λ n. nat_lt n (length (meaning_of g call db).records)) (counts now there)))

pub live_in : (b now : Booked) (c : ℕ) → b ≡ now → IsLiveCall now.schedule c → IsLiveCall b.schedule c
live_in b now c is live = subst (λ (x : Booked). IsLiveCall x.schedule c) (sym is) live

-- Whether a call has a step

pub may_by : (b : Booked) (c : ℕ) (more : Bool) (l : Live) → IsLive b.schedule c l → has_step (batch_in b) b.schedule c l ≡ more → MayStep more b c
may_by b c true l live is = ((l, live), λ m at. subst (λ (x : Live). has_step (batch_in b) b.schedule c x ≡ true) (one_live b.schedule c l m live at) is)
may_by b c false l live is = λ m at. subst (λ (x : Live). has_step (batch_in b) b.schedule c x ≡ false) (one_live b.schedule c l m live at) is

-- so its statements have run, or not
pub ended_told : (b : Booked) (c : ℕ) (more : Bool) → MayStep more b c → (l : Live) → IsLive b.schedule c l → not more ≡ not (has_step (batch_in b) b.schedule c l)
ended_told b c true may l live = ap not (sym (may.1 l live))
ended_told b c false may l live = ap not (sym (may l live))

pub not_one : (n : ℕ) → (n ≡ 1 → ⊥) → nat_eq n 1 ≡ false
not_one n h = by (nat_eq n 1) refl where
  same : nat_eq n 1 ≡ true → n ≡ 1
  same e = grind (arith, eqb_tells, e)

  by : (b : Bool) → nat_eq n 1 ≡ b → nat_eq n 1 ≡ false
  by true e = absurd (h (same e))
  by false e = e

-- one round more than were used is within the bound exactly if one more may be used
pub may_more : (n u r : ℕ) → n ≡ u + 1 → nat_le n r ≡ nat_lt u r
may_more n u r is = grind (arith, is)

-- an event that is allowed of a call that isn't stale
pub fresh_now_allowed : (b now : Booked) (c : ℕ) (l : Live) (e : Event) (may : Bool) → b ≡ now → Repairs (batch_in b) b.schedule c l e may → IsAllowedIfFresh now e → is_stale b.schedule l ≡ false → refusal (batch_in b) b.schedule e ≡ None
fresh_now_allowed b now c l e may is r allowed fresh = fresh_allowed b c l e may r (subst (λ (x : Booked). IsAllowedIfFresh x e) (sym is) allowed) fresh

-- What validation tells

pub free_told : (b : Booked) (c : ℕ) (a : Check) (l : Live) → ((m : Live) → IsLive b.schedule c m → IsAnswer a (batch_in b) b.schedule c m) → a ≡ check.Free → IsLive b.schedule c l → refusal (batch_in b) b.schedule (C c) ≡ None
free_told b c a l told is live = subst (λ (x : Check). IsAnswer x (batch_in b) b.schedule c l) is (told l live)

pub hit_told : (b : Booked) (c number commit : ℕ) (a : Check) (l : Live) → ((m : Live) → IsLive b.schedule c m → IsAnswer a (batch_in b) b.schedule c m) → a ≡ check.Hit number commit → IsLive b.schedule c l
    → IsHitAt b c (record { number = number; commit = commit })
hit_told b c number commit a l told is live =
    let h : IsAnswer (check.Hit number commit) (batch_in b) b.schedule c l = subst (λ (x : Check). IsAnswer x (batch_in b) b.schedule c l) is (told l live) in
    record { live = l; is_live = live; refused = h.0; hit_is = h.1 }

pub stale_told : (b : Booked) (c start low : ℕ) (a : Check) (l : Live) → ((m : Live) → IsLive b.schedule c m → IsAnswer a (batch_in b) b.schedule c m) → a ≡ check.Stale start low → (batch_in b).read_only c ≡ false → IsLive b.schedule c l
    → IsStaleAt b c start low
stale_told b c start low a l told is writes live =
    let h : IsAnswer (check.Stale start low) (batch_in b) b.schedule c l = subst (λ (x : Check). IsAnswer x (batch_in b) b.schedule c l) is (told l live) in
    let lt = ltb-true l.start b.schedule.low (refused_stale (batch_in b) b.schedule c l writes live h.0) in
    let at = h.1 in
    let to = h.2 in
    record { live = l; is_live = live; start_is = at; low_is = to; stale = omega (arith, lt, at, to) }

pub same_self : (b : Booked) → IsSame b b
same_self b = record { script = refl; schedule = refl; settled = λ c has. has; journal = refl }

-- Whether a call is repaired

idle_refused : (old new : Booked) (c : ℕ) (a : Check) (l : Live) (e : Event) (may : Bool) → IsSame old new → (batch_in old).read_only c ≡ false → IsLive old.schedule c l → Repairs (batch_in old) old.schedule c l e may
    → ((m : Live) → IsLive old.schedule c m → IsAnswer a (batch_in old) old.schedule c m) → a ≡ check.Free → (refusal (batch_in old) old.schedule e ≡ Some Idle) × HasMade [] old new
idle_refused old new c a l e may same writes live r told is = (
  told_idle (batch_in old) old.schedule c l e may writes live r (subst (λ (x : Check). IsAnswer x (batch_in old) old.schedule c l) is (told l live)),
  same_made old new same,
)

stale_refused : (old new : Booked) (c start low : ℕ) (a : Check) (l : Live) (e : Event) (may : Bool) → IsSame old new → (batch_in old).read_only c ≡ false → IsLive old.schedule c l → Repairs (batch_in old) old.schedule c l e may
    → ((m : Live) → IsLive old.schedule c m → IsAnswer a (batch_in old) old.schedule c m) → a ≡ check.Stale start low → (refusal (batch_in old) old.schedule e ≡ Some Stale) × HasMade [] old new
stale_refused old new c start low a l e may same writes live r told is = (
  told_stale (batch_in old) old.schedule c start low l e may writes live r (subst (λ (x : Check). IsAnswer x (batch_in old) old.schedule c l) is (told l live)),
  same_made old new same,
)

hit_law : (old : Booked) (c number commit : ℕ) (a : Check) (l : Live) (e : Event) (may : Bool) → (batch_in old).read_only c ≡ false → IsLive old.schedule c l → Repairs (batch_in old) old.schedule c l e may
    → ((m : Live) → IsLive old.schedule c m → IsAnswer a (batch_in old) old.schedule c m) → a ≡ check.Hit number commit → refusal (batch_in old) old.schedule e ≡ unless may Rounds None
hit_law old c number commit a l e may writes live r told is =
    told_hit (batch_in old) old.schedule c number commit l e may writes live r (subst (λ (x : Check). IsAnswer x (batch_in old) old.schedule c l) is (told l live))

round_now : (old new : Booked) (c : ℕ) (l : Live) (may : Bool) → IsSame old new → IsLive old.schedule c l → ((m : Live) → IsLive new.schedule c m → may ≡ has_round (batch_in new) m) → has_round (batch_in old) l ≡ may
round_now old new c l may same live told =
    ap (λ (s : CompiledScript). has_round (batch_of s) l) (sym same.script) ∙ sym (told l (subst (λ (s : Schedule). IsLive s c l) (sym same.schedule) live))

again_law : (old : Booked) (c : ℕ) (l : Live) → (batch_in old).read_only c ≡ false → IsLive old.schedule c l → Repairs (batch_in old) old.schedule c l (A c) (has_round (batch_in old) l)
again_law old c l writes live = repairs_again (batch_in old) old.schedule c l writes live

last_law : (old : Booked) (c : ℕ) (l : Live) → (batch_in old).read_only c ≡ false → IsLive old.schedule c l → Repairs (batch_in old) old.schedule c l (X c) (not (has_round (batch_in old) l))
last_law old c l writes live = repairs_last (batch_in old) old.schedule c l writes live

-- no commit hits it
pub idle_told : (old new : Booked) (c : ℕ) (a : Check) (l : Live) → IsSame old new → (batch_in old).read_only c ≡ false → IsLive old.schedule c l → ((m : Live) → IsLive old.schedule c m → IsAnswer a (batch_in old) old.schedule c m) → a ≡ check.Free → TellsRound c (Err (drive.Refused Idle)) old new
idle_told old new c a l same writes live told is = (
  idle_refused old new c a l (A c) (has_round (batch_in old) l) same writes live (again_law old c l writes live) told is,
  idle_refused old new c a l (X c) (not (has_round (batch_in old) l)) same writes live (last_law old c l writes live) told is,
)

-- its start is below low
pub stale_round : (old new : Booked) (c start low : ℕ) (a : Check) (l : Live) → IsSame old new → (batch_in old).read_only c ≡ false → IsLive old.schedule c l → ((m : Live) → IsLive old.schedule c m → IsAnswer a (batch_in old) old.schedule c m) → a ≡ check.Stale start low → TellsRound c (Err (drive.Refused Stale)) old new
stale_round old new c start low a l same writes live told is = (
  stale_refused old new c start low a l (A c) (has_round (batch_in old) l) same writes live (again_law old c l writes live) told is,
  stale_refused old new c start low a l (X c) (not (has_round (batch_in old) l)) same writes live (last_law old c l writes live) told is,
)

-- it is hit
pub round_told : (old new : Booked) (c number commit : ℕ) (a : Check) (l : Live) (more : Bool) → IsSame old new → (batch_in old).read_only c ≡ false → IsLive old.schedule c l → ((m : Live) → IsLive old.schedule c m → IsAnswer a (batch_in old) old.schedule c m) → a ≡ check.Hit number commit
    → ((m : Live) → IsLive new.schedule c m → more ≡ has_round (batch_in new) m) → TellsRound c (Ok more) old new
round_told old new c number commit a l more same writes live told is round =
    let now : has_round (batch_in old) l ≡ more = round_now old new c l more same live round in (
      same,
      (l, live),
      hit_law old c number commit a l (A c) (has_round (batch_in old) l) writes live (again_law old c l writes live) told is ∙ ap (λ b. unless b Rounds None) now,
      hit_law old c number commit a l (X c) (not (has_round (batch_in old) l)) writes live (last_law old c l writes live) told is ∙ ap (λ b. unless (not b) Rounds None) now,
    )

-- it is repaired as its rounds ask
pub round_allowed : (old new : Booked) (e : Event) (may : Bool) → IsSame old new → refusal (batch_in old) old.schedule e ≡ unless may Rounds None → may ≡ true → IsAllowedIfFresh new e
round_allowed old new e may same law can f refused =
    let none = allowed_same e old new same.script same.schedule (law ∙ ap (λ b. unless b Rounds None) can) in
    let both : None ≡ Some f = sym none ∙ refused in
    absurd (search (rules, both))

-- An event whose view refuses

-- nothing happened, and the law calls the call stale if the view does
left_as_is : (e : Event) (c : ℕ) (old mid new : Booked) (why : Refused) → ((l : Live) → IsLive old.schedule c l → is_stale old.schedule l ≡ true → refusal (batch_in old) old.schedule e ≡ Some Stale)
    → IsSame old mid → HasRefused c why mid new → HasTaken e old new (Err (of_view why))
left_as_is e c old mid new refused.NoMemory law same left = same_made old new (same_both old mid new same left)
left_as_is e c old mid new (refused.Stale start low) law same left =
    let at = left.0 in
    let low_is : mid.schedule.low ≡ old.schedule.low = ap (λ (s : Schedule). s.low) same.schedule in (
      law at.live (subst (λ (s : Schedule). IsLive s c at.live) same.schedule at.is_live)
          (lt-ltb at.live.start old.schedule.low (let start_is = at.start_is in let is = at.low_is in let stale = at.stale in omega (arith, start_is, is, stale, low_is))),
      same_made old new (same_both old mid new same left.1),
    )

pub step_refused : (c : ℕ) (old new : Booked) (why : Refused) → HasStep old c → HasRefused c why old new → HasTaken (S c) old new (Err (of_view why))
step_refused c old new why has left =
    left_as_is (S c) c old old new why
    (λ l live stale. live_is old.schedule c (λ x. unless (has_step (batch_in old) old.schedule c x) Order (unless (not (is_stale old.schedule x)) Stale None)) l live
    ∙ (ap (λ b. unless b Order (unless (not (is_stale old.schedule l)) Stale None)) (has l live) ∙ ap (λ b. unless (not b) Stale None) stale))
    (same_self old) left

pub again_refused : (c : ℕ) (old mid new : Booked) (why : Refused) → (batch_in old).read_only c ≡ false → IsSame old mid → HasRefused c why mid new → HasTaken (A c) old new (Err (of_view why))
again_refused c old mid new why writes same left =
    left_as_is (A c) c old mid new why
    (λ l live stale. (again_law old c l writes live).law ∙ ap (λ b. unless (not b) Stale (unless (is_hit (batch_in old) old.schedule c l) Idle (unless (has_round (batch_in old) l) Rounds None))) stale)
    same left

pub last_refused : (c : ℕ) (old mid new : Booked) (why : Refused) → (batch_in old).read_only c ≡ false → IsSame old mid → HasRefused c why mid new → HasTaken (X c) old new (Err (of_view why))
last_refused c old mid new why writes same left =
    left_as_is (X c) c old mid new why
    (λ l live stale. (last_law old c l writes live).law ∙ ap (λ b. unless (not b) Stale (unless (is_hit (batch_in old) old.schedule c l) Idle (unless (not (has_round (batch_in old) l)) Rounds None))) stale)
    same left

pub answer_refused : (c : ℕ) (old new : Booked) (why : Refused) → (batch_in old).read_only c ≡ true → HasRefused c why old new → HasTaken (R c) old new (Err (of_view why))
answer_refused c old new why reads left = left_as_is (R c) c old old new why (λ l live stale. answer_stale (batch_in old) old.schedule c l reads live stale) (same_self old) left

-- a call whose repair the law refuses for its rounds at most isn't read only
pub round_writes : (old : Booked) (c : ℕ) (more : Bool) → IsLiveCall old.schedule c → refusal (batch_in old) old.schedule (A c) ≡ unless more Rounds None → (batch_in old).read_only c ≡ false
round_writes old c more live law = by ((batch_in old).read_only c) refl where
  never : (more : Bool) → Some Kind ≡ unless more Rounds None → ⊥
  never true e = search (rules, e)
  never false e = search (rules, e)

  by : (b : Bool) → (batch_in old).read_only c ≡ b → (batch_in old).read_only c ≡ false
  by false e = e
  by true e =
      absurd (never more (sym (write_refused (batch_in old) old.schedule c (λ x. unless (not (is_stale old.schedule x)) Stale (unless (is_hit (batch_in old) old.schedule c x) Idle (unless (has_round (batch_in old) x) Rounds None))) live.0 e live.1) ∙ law))

-- rounds of a core whose last one lacks its number
pub one_round : (b : Booked) (store : Versioned) (ts : List (Option Running)) (c : ℕ) (rs : List Round) → IsCore b store ts → HasRounds b c rs → last_number rs ≡ None → length rs ≡ 1
one_round b store ts c rs k h none =
    let unsettled : IsSettled b c → ⊥ = λ settled. let no : true ≡ false = sym (settled rs h.kept) ∙ ap is_some none in absurd (search (rules, no)) in
    let first : used h.live ≡ 0 = k.numbers c unsettled h.live h.is_live in
    let many = used_rounds b c (length b.schedule.order) h.live rs h h.is_live (k.tasks.running c h.live h.is_live).2.round_starts in
    omega (arith, many, first)

-- there are rounds
pub some_rounds : {A : Type 0} {P : A → Type 0} {Q : Type 0} (o : Option A) → IfSome o P → is_some o ≡ true → ((x : A) → P x → Q) → Q
some_rounds None p e f = absurd (search (rules, e))
some_rounds (Some x) p e f = f x p

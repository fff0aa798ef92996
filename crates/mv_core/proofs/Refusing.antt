-- When an event is refused, and what it leaves.
use Rattle.std.proofs.Common.{◌≡◌, ℕ, ◌+◌, ◌<◌, Bool, true, false, not, List, [], Option, Some, None, length, drop, get_or, if◌then◌else◌, refl, sym, ap, ◌∙◌, arith, append-nil, eq-eqb, rules}
use Rattle.std.specs.Prelude.{◌==◌, ◌&&◌, nat_lt}
use Rattle.std.specs.Option.{is_some}
use Rattle.std.proofs.lemmas.Bool.Decides.{eqb_tells}
use Rattle.std.proofs.lemmas.List.{drop_more, length-map}
use Rattle.std.proofs.lemmas.Option.{slice_get-get_or, slice_get_within}
use Rattle.std.proofs.lemmas.Bool.{lt-ltb}
use Rattle.mv_record.specs.declared.record.Record.{Record}
use Rattle.mv_record.specs.Runs.{Run}
use Rattle.mv_record.specs.Writes.{AreRising}
use Rattle.mv_values.specs.declared.calls.Call.{Call}
use Rattle.mv_values.specs.Tables.{Tables}
use Rattle.mv_graph.specs.declared.graph.Graph.{Graph}
use Rattle.mv_graph.specs.Nodes.{meaning_of}
use Rattle.mv_exec.specs.Running.{IsTaskOf, HasLeft}
use Rattle.mv_journal.specs.declared.event.Event.{Event}
use Rattle.mv_journal.specs.declared.event.Event.TheVariants.{B, A, C, X, R}
use Rattle.mv_journal.specs.declared.outcome.Round.{Round}
use Rattle.mv_lawful.specs.declared.fault.EventFault.{EventFault}
use Rattle.mv_lawful.specs.declared.fault.EventFault.TheVariants.{Order, Kind, Stale, Conflict, Idle, Rounds}
use Rattle.mv_lawful.specs.Batch.{Batch, table_at, records_at, hit_of}
use Rattle.mv_lawful.specs.Lawful.{Live, Schedule, used, has_step, has_round, is_stale, is_hit, unless, of_live, of_call, refusal, begin, first_open, open_call}
use Rattle.mv_script.specs.declared.script.CompiledScript.{CompiledScript}
use Rattle.mv_script.specs.Scripts.{batch_of, IsCompiledScript}
use Rattle.mv_script.proofs.Databases.{table_database}
use Rattle.mv_lawful.specs.Rounds.{round_start_of}
use Rattle.mv_core.specs.Calls.{IsLive, IsLiveCall}
use Rattle.mv_core.specs.declared.book.Check.TheVariants as check
use Rattle.mv_core.specs.Books.{Booked, batch_in, Made, IsSame, IsAnswer, HasRounds}
use Rattle.mv_core.specs.Drives.{HasMade}
use Rattle.mv_core.specs.declared.tasks.Running.{Running}
use Rattle.mv_core.specs.Cores.{IsLiveTask, HasRoundStarts, count_or, IsAllowedIfFresh}
use Rattle.mv_core.proofs.Stored.{run_is}
use Rattle.mv_core.proofs.Taking.{one_live, first_number}
use Rattle.mv_core.proofs.Journals.{room_of}

-- Refusals

pub live_is : (s : Schedule) (c : ℕ) (f : Live → Option EventFault) (l : Live) → IsLive s c l → of_call s c f ≡ f l
live_is s c f l live = ap (λ o. of_live o f) live.at ∙ ap (λ b. unless (not b) Order (f l)) live.live

pub same_made : (old new : Booked) → IsSame old new → HasMade [] old new
same_made old new s = record { allowed = tt; schedule = s.schedule; journal = s.journal ∙ sym (append-nil old.journal); script = s.script }

-- A begin

pub begun_number : (c : ℕ) (old new : Booked) → Made (B c) old new → c ≡ length old.schedule.calls
begun_number c old new made = (room_of (batch_in old) (length old.schedule.calls) c made.allowed).0

-- A repair

-- what the law says of a repair where a commit is allowed, or refused
abbrev repair_by : Batch → Schedule → ℕ → Live → Bool → Option EventFault
repair_by w s c l may = unless (not (is_stale s l)) Stale (unless (is_hit w s c l) Idle (unless may Rounds None))

abbrev commit_by : Batch → Schedule → ℕ → Live → Option EventFault
commit_by w s c l = unless (not (is_stale s l)) Stale (unless (not (is_hit w s c l)) Conflict None)

free_is_idle : (w : Batch) (s : Schedule) (c : ℕ) (l : Live) (may : Bool) → commit_by w s c l ≡ None → repair_by w s c l may ≡ Some Idle
free_is_idle w s c l may free = by (is_stale s l) (is_hit w s c l) free where
  by : (stale hit : Bool) → unless (not stale) Stale (unless (not hit) Conflict None) ≡ None → unless (not stale) Stale (unless hit Idle (unless may Rounds None)) ≡ Some Idle
  by true hit e = absurd (search (rules, e))
  by false true e = absurd (search (rules, e))
  by false false e = refl

stale_stays : (w : Batch) (s : Schedule) (c : ℕ) (l : Live) (may : Bool) → commit_by w s c l ≡ Some Stale → repair_by w s c l may ≡ Some Stale
stale_stays w s c l may e = by (is_stale s l) (is_hit w s c l) e where
  by : (stale hit : Bool) → unless (not stale) Stale (unless (not hit) Conflict None) ≡ Some Stale → unless (not stale) Stale (unless hit Idle (unless may Rounds None)) ≡ Some Stale
  by true hit e = refl
  by false true e = absurd (search (rules, e))
  by false false e = absurd (search (rules, e))

hit_repairs : (w : Batch) (s : Schedule) (c : ℕ) (l : Live) (may : Bool) → commit_by w s c l ≡ Some Conflict → repair_by w s c l may ≡ unless may Rounds None
hit_repairs w s c l may e = by (is_stale s l) (is_hit w s c l) e where
  by : (stale hit : Bool) → unless (not stale) Stale (unless (not hit) Conflict None) ≡ Some Conflict → unless (not stale) Stale (unless hit Idle (unless may Rounds None)) ≡ unless may Rounds None
  by true hit e = absurd (search (rules, e))
  by false true e = refl
  by false false e = absurd (search (rules, e))

-- whether a live call is repaired in an event of its own: that depends on its rounds
pub record Repairs (w : Batch) (s : Schedule) (c : ℕ) (l : Live) (e : Event) (may : Bool) : Type 0 where
  pub law : refusal w s e ≡ unless (not (is_stale s l)) Stale (unless (is_hit w s c l) Idle (unless may Rounds None))

-- the law asks first whether the call is read only
pub if_writes : (w : Batch) (s : Schedule) (c : ℕ) (f : Live → Option EventFault) (l : Live) → w.read_only c ≡ false → IsLive s c l → of_call s c (λ x. unless (not (w.read_only c)) Kind (f x)) ≡ f l
if_writes w s c f l writes live = live_is s c (λ x. unless (not (w.read_only c)) Kind (f x)) l live ∙ ap (λ r. unless (not r) Kind (f l)) writes

pub repairs_again : (w : Batch) (s : Schedule) (c : ℕ) (l : Live) → w.read_only c ≡ false → IsLive s c l → Repairs w s c l (A c) (has_round w l)
repairs_again w s c l writes live = record { law = if_writes w s c (λ x. repair_by w s c x (has_round w x)) l writes live }

pub repairs_last : (w : Batch) (s : Schedule) (c : ℕ) (l : Live) → w.read_only c ≡ false → IsLive s c l → Repairs w s c l (X c) (not (has_round w l))
repairs_last w s c l writes live = record { law = if_writes w s c (λ x. repair_by w s c x (not (has_round w x))) l writes live }

commit_is : (w : Batch) (s : Schedule) (c : ℕ) (l : Live) → w.read_only c ≡ false → IsLive s c l → refusal w s (C c) ≡ commit_by w s c l
commit_is w s c l writes live = if_writes w s c (commit_by w s c) l writes live

-- a live call may commit if its start isn't below low and no commit after it hits the call
pub may_commit : (w : Batch) (s : Schedule) (c : ℕ) (l : Live) → w.read_only c ≡ false → IsLive s c l → is_stale s l ≡ false → hit_of w s.order l.start c ≡ None → refusal w s (C c) ≡ None
may_commit w s c l writes live fresh free =
    commit_is w s c l writes live ∙ (ap (λ b. unless (not b) Stale (unless (not (is_hit w s c l)) Conflict None)) fresh ∙ ap (λ o. unless (not (is_some o)) Conflict None) free)

-- the law calls a call stale only if it is
pub refused_stale : (w : Batch) (s : Schedule) (c : ℕ) (l : Live) → w.read_only c ≡ false → IsLive s c l → refusal w s (C c) ≡ Some Stale → is_stale s l ≡ true
refused_stale w s c l writes live e = by (is_stale s l) (is_hit w s c l) refl (sym (commit_is w s c l writes live) ∙ e) where
  by : (stale hit : Bool) → is_stale s l ≡ stale → unless (not stale) Stale (unless (not hit) Conflict None) ≡ Some Stale → is_stale s l ≡ true
  by true hit is e = is
  by false true is e = absurd (search (rules, e))
  by false false is e = absurd (search (rules, e))

-- what validation tells of it
pub told_idle : (w : Batch) (s : Schedule) (c : ℕ) (l : Live) (e : Event) (may : Bool) → w.read_only c ≡ false → IsLive s c l → Repairs w s c l e may → IsAnswer check.Free w s c l → refusal w s e ≡ Some Idle
told_idle w s c l e may writes live r free = r.law ∙ free_is_idle w s c l may (sym (commit_is w s c l writes live) ∙ free)

pub told_stale : (w : Batch) (s : Schedule) (c start low : ℕ) (l : Live) (e : Event) (may : Bool) → w.read_only c ≡ false → IsLive s c l → Repairs w s c l e may → IsAnswer (check.Stale start low) w s c l → refusal w s e ≡ Some Stale
told_stale w s c start low l e may writes live r h = r.law ∙ stale_stays w s c l may (sym (commit_is w s c l writes live) ∙ h.0)

pub told_hit : (w : Batch) (s : Schedule) (c number commit : ℕ) (l : Live) (e : Event) (may : Bool) → w.read_only c ≡ false → IsLive s c l → Repairs w s c l e may → IsAnswer (check.Hit number commit) w s c l → refusal w s e ≡ unless may Rounds None
told_hit w s c number commit l e may writes live r h = r.law ∙ hit_repairs w s c l may (sym (commit_is w s c l writes live) ∙ h.0)

-- an event that is refused only since the call is stale, of a call that isn't
pub fresh_allowed : (b : Booked) (c : ℕ) (l : Live) (e : Event) (may : Bool) → Repairs (batch_in b) b.schedule c l e may → IsAllowedIfFresh b e → is_stale b.schedule l ≡ false → refusal (batch_in b) b.schedule e ≡ None
fresh_allowed b c l e may r allowed fresh = by (is_hit (batch_in b) b.schedule c l) may (r.law ∙ ap (λ x. unless (not x) Stale (unless (is_hit (batch_in b) b.schedule c l) Idle (unless may Rounds None))) fresh) where
  by : (hit may : Bool) → refusal (batch_in b) b.schedule e ≡ unless hit Idle (unless may Rounds None) → refusal (batch_in b) b.schedule e ≡ None
  by true true is = is
  by true false is = let same : Rounds ≡ Stale = allowed Rounds is in absurd (search (rules, same))
  by false may is = let same : Idle ≡ Stale = allowed Idle is in absurd (search (rules, same))

-- Whether a statement is left

-- what a task's records and its end tell of the full run
pub step_is : (s : CompiledScript) (schedule : Schedule) (c : ℕ) (l : Live) (t : Running) (more : Bool) → IsCompiledScript s → c < length s.calls → IsLiveTask s schedule.order c l t → used l ≡ 0
    → ((n : ℕ) → t.count ≡ Some n → more ≡ nat_lt l.steps n)
    → (t.count ≡ None → (g : Graph) (call : Call) (db : Tables) (rest : List Record) → IsTaskOf g call t.task → AreRising db → HasLeft g call db t.task rest → more ≡ nat_lt l.steps (length (meaning_of g call db).records))
    → has_step (batch_of s) schedule c l ≡ more
step_is s schedule c l t more k lt task first known told = ap (λ b. b && nat_lt l.steps all) (eq-eqb (used l) 0 first) ∙ by t.count refl where
  all : ℕ
  all = length (records_at (batch_of s) schedule.order l.start c)

  by : (o : Option ℕ) → t.count ≡ o → nat_lt l.steps all ≡ more
  by (Some n) is =
      let same : Some all ≡ Some n = sym (first_number (batch_of s) schedule.order c (length schedule.order) l task.round_starts first) ∙ (task.counted ∙ ap (λ o. Some (count_or o all)) is) in
      let one : all ≡ n = search (rules, same) in
      ap (nat_lt l.steps) one ∙ sym (known n is)
  by None is =
      let has = k.1.there c lt in
      let db : Tables = table_at (batch_of s) schedule.order l.start in
      let way = task.runs has.0 has.1 has.2 in
      ap (λ (r : Run). nat_lt l.steps (length r.records)) (run_is s c has.0 has.1 db has.2)
      ∙ sym (told is has.1 has.0 db way.rest way.is (table_database k.0 s schedule.order l.start k.1).rising way.leaves)

pub step_past : (w : Batch) (s : Schedule) (c : ℕ) (l : Live) → (used l ≡ 0 → ⊥) → has_step w s c l ≡ false
step_past w s c l past = ap (λ b. b && nat_lt l.steps (length (records_at w s.order l.start c))) (apart (used l) past) where
  apart : (n : ℕ) → (n ≡ 0 → ⊥) → (n == 0) ≡ false
  apart n h = by (n == 0) refl where
    same : (n == 0) ≡ true → n ≡ 0
    same e = grind (arith, eqb_tells, e)

    by : (b : Bool) → (n == 0) ≡ b → (n == 0) ≡ false
    by true e = absurd (h (same e))
    by false e = e

-- a call has as many rounds as starts of rounds
pub used_rounds : (b : Booked) (c n : ℕ) (l : Live) (rs : List Round) → HasRounds b c rs → IsLive b.schedule c l → HasRoundStarts n l → length rs ≡ used l + 1
used_rounds b c n l rs h live round_starts =
    let one : h.live ≡ l = one_live b.schedule c h.live l h.is_live live in
    let many = sym (length-map rs round_start_of) ∙ (ap length h.round_starts ∙ (ap (λ (x : Live). length x.round_starts) one ∙ ap length round_starts.round_starts)) in
    let all = ap length round_starts.round_starts in
    omega (arith, many, all)

-- The first call that isn't done

first_at : (w : Batch) (s : Schedule) (k : ℕ) → first_open 0 s.calls ≡ k → k < w.count → Some k ≡ open_call w s
first_at w s k is lt = sym (ap (λ n. if nat_lt n w.count then Some n else None) is ∙ ap (λ b. if b then Some k else None) (lt-ltb k w.count lt))

-- the first open call from here on, if there is a call here
open_by : (ls : List Live) (k : ℕ) → k < length ls → first_open k (drop k ls) ≡ (if (get_or ls k (begin 0)).done then first_open (k + 1) (drop (k + 1) ls) else k)
open_by ls k lt = ap (first_open k) (drop_more ls k (begin 0) lt)

-- all calls before this one are done, and it is live
pub open_at : (b : Booked) (k : ℕ) → first_open 0 b.schedule.calls ≡ first_open k (drop k b.schedule.calls) → IsLiveCall b.schedule k → k < length b.script.calls → Some k ≡ open_call (batch_in b) b.schedule
open_at b k before live lt =
    first_at (batch_in b) b.schedule k (before ∙ (open_by ls k within ∙ ap (λ x. if x then first_open (k + 1) (drop (k + 1) ls) else k) (ap (λ (l : Live). l.done) one ∙ live.1.live))) lt where
      ls : List Live
      ls = b.schedule.calls

      within : k < length ls
      within = slice_get_within ls k live.0 live.1.at

      both : Some (get_or ls k (begin 0)) ≡ Some live.0
      both = sym (slice_get-get_or ls k (begin 0) within) ∙ live.1.at

      one : get_or ls k (begin 0) ≡ live.0
      one = search (rules, both)

-- it isn't live, so it is done too
pub open_next : (s : Schedule) (k : ℕ) → first_open 0 s.calls ≡ first_open k (drop k s.calls) → (IsLiveCall s k → ⊥) → k < length s.calls → first_open 0 s.calls ≡ first_open (k + 1) (drop (k + 1) s.calls)
open_next s k before none lt = before ∙ (open_by s.calls k lt ∙ ap (λ x. if x then first_open (k + 1) (drop (k + 1) s.calls) else k) (done l.done refl)) where
  l : Live
  l = get_or s.calls k (begin 0)

  done : (d : Bool) → l.done ≡ d → l.done ≡ true
  done true e = e
  done false e = absurd (none (l, record { at = slice_get-get_or s.calls k (begin 0) lt; live = e }))

-- An answer

answer_is : (w : Batch) (s : Schedule) (c : ℕ) (l : Live) → w.read_only c ≡ true → IsLive s c l → refusal w s (R c) ≡ unless (not (is_stale s l)) Stale None
answer_is w s c l reads live = live_is s c (λ x. unless (w.read_only c) Kind (unless (not (is_stale s x)) Stale None)) l live ∙ ap (λ r. unless r Kind (unless (not (is_stale s l)) Stale None)) reads

-- a live read only call is answered exactly if it isn't stale
pub may_answer : (w : Batch) (s : Schedule) (c : ℕ) (l : Live) → w.read_only c ≡ true → IsLive s c l → is_stale s l ≡ false → refusal w s (R c) ≡ None
may_answer w s c l reads live fresh = answer_is w s c l reads live ∙ ap (λ b. unless (not b) Stale None) fresh

pub answer_stale : (w : Batch) (s : Schedule) (c : ℕ) (l : Live) → w.read_only c ≡ true → IsLive s c l → is_stale s l ≡ true → refusal w s (R c) ≡ Some Stale
answer_stale w s c l reads live stale = answer_is w s c l reads live ∙ ap (λ b. unless (not b) Stale None) stale

-- an event of the other kind
pub read_refused : (w : Batch) (s : Schedule) (c : ℕ) (l : Live) → w.read_only c ≡ false → IsLive s c l → refusal w s (R c) ≡ Some Kind
read_refused w s c l writes live = live_is s c (λ x. unless (w.read_only c) Kind (unless (not (is_stale s x)) Stale None)) l live ∙ ap (λ r. unless r Kind (unless (not (is_stale s l)) Stale None)) writes

pub write_refused : (w : Batch) (s : Schedule) (c : ℕ) (f : Live → Option EventFault) (l : Live) → w.read_only c ≡ true → IsLive s c l → of_call s c (λ x. unless (not (w.read_only c)) Kind (f x)) ≡ Some Kind
write_refused w s c f l reads live = live_is s c (λ x. unless (not (w.read_only c)) Kind (f x)) l live ∙ ap (λ r. unless (not r) Kind (f l)) reads

-- so a call that may be repaired, if it isn't stale, isn't read only
no_reader : (b : Booked) (c : ℕ) (e : Event) (f : Live → Option EventFault) (l : Live) → IsLive b.schedule c l → refusal (batch_in b) b.schedule e ≡ of_call b.schedule c (λ x. unless (not ((batch_in b).read_only c)) Kind (f x)) → IsAllowedIfFresh b e
    → (batch_in b).read_only c ≡ false
no_reader b c e f l live law allowed = by ((batch_in b).read_only c) refl where
  by : (r : Bool) → (batch_in b).read_only c ≡ r → (batch_in b).read_only c ≡ false
  by false is = is
  by true is = let same : Kind ≡ Stale = allowed Kind (law ∙ write_refused (batch_in b) b.schedule c f l is live) in absurd (search (rules, same))

pub again_writes : (b : Booked) (c : ℕ) (l : Live) → IsLive b.schedule c l → IsAllowedIfFresh b (A c) → (batch_in b).read_only c ≡ false
again_writes b c l live allowed = no_reader b c (A c) (λ x. repair_by (batch_in b) b.schedule c x (has_round (batch_in b) x)) l live refl allowed

pub last_writes : (b : Booked) (c : ℕ) (l : Live) → IsLive b.schedule c l → IsAllowedIfFresh b (X c) → (batch_in b).read_only c ≡ false
last_writes b c l live allowed = no_reader b c (X c) (λ x. repair_by (batch_in b) b.schedule c x (not (has_round (batch_in b) x))) l live refl allowed

-- a call for which an event of other calls isn't refused for its kind isn't read only
pub kind_writes : (b : Booked) (c : ℕ) (e : Event) (f : Live → Option EventFault) (l : Live) (o : Option EventFault) → IsLive b.schedule c l → refusal (batch_in b) b.schedule e ≡ of_call b.schedule c (λ x. unless (not ((batch_in b).read_only c)) Kind (f x))
    → refusal (batch_in b) b.schedule e ≡ o → (Some Kind ≡ o → ⊥) → (batch_in b).read_only c ≡ false
kind_writes b c e f l o live law is other = by ((batch_in b).read_only c) refl where
  by : (r : Bool) → (batch_in b).read_only c ≡ r → (batch_in b).read_only c ≡ false
  by false at = at
  by true at = absurd (other (sym (law ∙ write_refused (batch_in b) b.schedule c f l at live) ∙ is))

pub commit_writes : (b : Booked) (c : ℕ) (l : Live) (o : Option EventFault) → IsLive b.schedule c l → refusal (batch_in b) b.schedule (C c) ≡ o → (Some Kind ≡ o → ⊥) → (batch_in b).read_only c ≡ false
commit_writes b c l o live is other = kind_writes b c (C c) (commit_by (batch_in b) b.schedule c) l o live refl is other

pub repair_writes : (b : Booked) (c : ℕ) (l : Live) (o : Option EventFault) → IsLive b.schedule c l → refusal (batch_in b) b.schedule (A c) ≡ o → (Some Kind ≡ o → ⊥) → (batch_in b).read_only c ≡ false
repair_writes b c l o live is other = kind_writes b c (A c) (λ x. repair_by (batch_in b) b.schedule c x (has_round (batch_in b) x)) l o live refl is other

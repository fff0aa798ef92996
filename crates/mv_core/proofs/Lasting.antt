-- The task of the latest commit, which is kept.
use Rattle.std.proofs.Common.{◌≡◌, ◌<◌, ℕ, List, [], ◌∷◌, ◌++◌, Option, Some, Result, length, refl, sym, ap, subst, ◌∙◌, arith}
use Rattle.std.specs.Prelude.{Ok, Err, OnOk, slice_get, slice_set}
use Rattle.mv_values.specs.declared.memory.NoMemory.{NoMemory}
use Rattle.mv_journal.specs.declared.event.Event.{Event}
use Rattle.mv_journal.specs.declared.event.Event.TheVariants.{G}
use Rattle.mv_lawful.specs.Batch.{records_at}
use Rattle.mv_lawful.specs.Lawful.{Schedule, beginning, after}
use Rattle.mv_exec.proofs.Framing.{same_last}
use Rattle.mv_script.specs.declared.script.CompiledScript.{CompiledScript}
use Rattle.mv_script.specs.Scripts.{batch_of}
use Rattle.mv_core.specs.declared.tasks.Running.{Running}
use Rattle.mv_core.specs.Books.{Booked, batch_in, Made, IsSame, AreLastOf}
use Rattle.mv_core.specs.Cores.{HasTasks, KeepsLast, HasCollected}
use Rattle.mv_core.specs.Calls.{IsLiveCall}
use Rattle.mv_lawful.proofs.Lists.{set_there}

-- the same of the order, in a script
Lasts : CompiledScript → List ℕ → Option Running → Type 0
Lasts s order last =
    0 < length order → (running : Running) × (last ≡ Some running) × ((front : List ℕ) (c : ℕ) → order ≡ front ++ c ∷ [] → running.task.log.records ≡ records_at (batch_of s) front (length front) c)

last_on : (old new : Booked) (last : Option Running) → KeepsLast old last → new.script ≡ old.script → new.schedule.order ≡ old.schedule.order → KeepsLast new last
unfolding Lasts
last_on old new last k script order =
    subst (λ (s : CompiledScript). Lasts s new.schedule.order last) (sym script) (subst (λ o. Lasts old.script o last) (sym order) k)

pub last_same : (old new : Booked) (last : Option Running) → KeepsLast old last → IsSame old new → KeepsLast new last
last_same old new last k same = last_on old new last k same.script (ap (λ (s : Schedule). s.order) same.schedule)

-- an event that is no commit
pub last_other : (e : Event) (old new : Booked) (last : Option Running) → KeepsLast old last → Made e old new → (after (batch_in old) old.schedule e).order ≡ old.schedule.order → KeepsLast new last
last_other e old new last k made stays = last_on old new last k made.script (ap (λ (s : Schedule). s.order) made.schedule ∙ stays)

pub last_collected : (r : Result (Unit {0}) NoMemory) (old new : Booked) (last : Option Running) → KeepsLast old last → HasCollected r old new → KeepsLast new last
last_collected (Ok x) old new last k made = last_other G old new last k made refl
last_collected (Err e) old new last k same = last_same old new last k same

-- none has committed yet
pub last_none : (b : Booked) (last : Option Running) → b.schedule ≡ beginning → KeepsLast b last
last_none b last is some = let none = ap (λ (s : Schedule). length s.order) is in absurd (omega (arith, some, none))

-- a commit of the call with these records
pub last_committed : (e : Event) (c : ℕ) (old new : Booked) (running : Running) (last : Option Running) → Made e old new → (after (batch_in old) old.schedule e).order ≡ old.schedule.order ++ c ∷ []
    → AreLastOf old c running.task.log.records → last ≡ Some running → KeepsLast new last
last_committed e c old new running last made adds records is some = (
  running,
  is,
  λ order d so.
      let same = same_last old.schedule.order order c d (sym (ap (λ (s : Schedule). s.order) made.schedule ∙ adds) ∙ so) in
      subst (λ (s : CompiledScript). running.task.log.records ≡ records_at (batch_of s) order (length order) d) (sym made.script)
      (subst (λ d. running.task.log.records ≡ records_at (batch_in old) order (length order) d) same.1
      (subst (λ (o : List ℕ). running.task.log.records ≡ records_at (batch_in old) o (length o) c) same.0 records)),
)

-- the task of the call that has ended
pub last_ended : (s : CompiledScript) (schedule : Schedule) (ts : List (Option Running)) (c : ℕ) (t : Running) (last : Option Running) → HasTasks s schedule ts → IsLiveCall schedule c → slice_get (slice_set ts c (Some t)) c ≡ Some last → last ≡ Some t
last_ended s schedule ts c t last k live is = let had = k.running c live.0 live.1 in one last (Some t) (sym is ∙ set_there ts c (Some t) (Some had.0) had.1) where
  one : (x y : Option Running) → Some x ≡ Some y → x ≡ y
  one x y e = cc

pub always_ok : {A E : Type 0} (r : Result A E) (P : Type 0) → P → OnOk r P
always_ok (Ok a) P h = h
always_ok (Err e) P h = tt

-- The records of running calls, as contracts see them.
use Rattle.std.proofs.Common.{◌≡◌, ℕ, zero, suc, ◌<◌, ◌≤◌, List, [], ◌∷◌, ◌++◌, Option, Some, length, get_or, slice_set, refl, sym, ap, subst, ◌∙◌}
use Rattle.std.specs.Prelude.{slice_get, ◌≢◌}
use Rattle.std.proofs.lemmas.Option.{slice_get_read}
use mathlib.Core.List.{IsPrefix}
use Rattle.mv_values.specs.declared.calls.Call.{Call}
use Rattle.mv_values.specs.Tables.{Tables}
use Rattle.mv_record.specs.declared.record.Record.{Record}
use Rattle.mv_record.specs.Runs.{Run}
use Rattle.mv_graph.specs.declared.graph.Graph.{Graph}
use Rattle.mv_exec.specs.Running.{IsTaskOn}
use Rattle.mv_journal.specs.declared.outcome.Mark.{Mark}
use Rattle.mv_journal.specs.declared.outcome.Mark.TheVariants.{Exclusive}
use Rattle.mv_lawful.specs.Batch.{table_at, records_at}
use Rattle.mv_lawful.specs.Lawful.{Live, Schedule, again}
use Rattle.mv_script.specs.declared.script.CompiledScript.{CompiledScript}
use Rattle.mv_core.specs.declared.tasks.Running.{Running}
use Rattle.mv_script.specs.Scripts.{batch_of, IsCallOf, IsCompiledScript}
use Rattle.mv_core.specs.Calls.{IsLive, IsLiveCall}
use Rattle.mv_core.specs.Books.{Booked, batch_in, Made, round_event, AreRecordsOf}
use Rattle.mv_core.specs.Cores.{Cored, HasTasks, IsLiveTask, HasRunOne, RunsOne, AreFirstOf, records_by}
use Rattle.mv_core.proofs.Stored.{run_is}
use Rattle.mv_lawful.proofs.Lists.{set_there, set_apart, get_end}
use Rattle.mv_core.proofs.Keeping.{restart_after}
use Rattle.mv_core.proofs.Taking.{task_within, one_live}
use Rattle.mv_core.proofs.Changed.{live_restarted}

-- The tasks of other calls

pub others_kept : (c : ℕ) (ts : List (Option Running)) (now : Cored) → ts ≡ now.tasks → (d : ℕ) → (d ≡ c → ⊥) → slice_get ts d ≡ slice_get now.tasks d
others_kept c ts now is d ne = ap (λ (xs : List (Option Running)). slice_get xs d) is

pub others_set : (c : ℕ) (ts : List (Option Running)) (o : Option Running) (now : Cored) → ts ≡ now.tasks → (d : ℕ) → (d ≡ c → ⊥) → slice_get (slice_set ts c o) d ≡ slice_get now.tasks d
others_set c ts o now is d ne = set_apart ts c d o ne ∙ others_kept c ts now is d ne

pub others_twice : (c : ℕ) (ts : List (Option Running)) (o p : Option Running) (now : Cored) → ts ≡ now.tasks → (d : ℕ) → (d ≡ c → ⊥) → slice_get (slice_set (slice_set ts c o) c p) d ≡ slice_get now.tasks d
others_twice c ts o p now is d ne = set_apart (slice_set ts c o) c d p ne ∙ others_set c ts o now is d ne

get_apart : {A : Type 0} (xs : List A) (y : A) (n : ℕ) → (n ≡ length xs → ⊥) → slice_get (xs ++ y ∷ []) n ≡ slice_get xs n
get_apart [] y zero ne = absurd (ne refl)
get_apart [] y (suc n) ne = refl
get_apart (x ∷ xs) y zero ne = refl
get_apart (x ∷ xs) y (suc n) ne = get_apart xs y n (λ e. ne (ap suc e))

-- the next call begins
pub others_begun : (c : ℕ) (ts : List (Option Running)) (o : Option Running) (now : Cored) → ts ≡ now.tasks → c ≡ length ts → (d : ℕ) → (d ≡ c → ⊥) → slice_get (ts ++ o ∷ []) d ≡ slice_get now.tasks d
others_begun c ts o now is last d ne = get_apart ts o d (λ e. ne (e ∙ sym last)) ∙ others_kept c ts now is d ne

pub begun_records : (c : ℕ) (ts : List (Option Running)) (t : Running) → c ≡ length ts → t.task.log.records ≡ [] → records_by (slice_get (ts ++ Some t ∷ []) c) ≡ []
begun_records c ts t last none = ap records_by (get_end ts (Some t) c last) ∙ none

-- The task at a number

pub task_at : (s : CompiledScript) (schedule : Schedule) (ts : List (Option Running)) (c : ℕ) (o : Option Running) (t : Running) → HasTasks s schedule ts → IsLiveCall schedule c → o ≡ get_or ts c o → o ≡ Some t → slice_get ts c ≡ Some (Some t)
task_at s schedule ts c o t k live read some = slice_get_read ts (length ts) c o refl (task_within s schedule ts c k live) read ∙ ap Some some

-- a statement was executed
pub runs_one : (s : CompiledScript) (schedule : Schedule) (ts : List (Option Running)) (c : ℕ) (o : Option Running) (t u : Running) (now : Cored) (new : Booked) → HasTasks s schedule ts → IsLiveCall schedule c → o ≡ get_or ts c o → o ≡ Some t
    → ts ≡ now.tasks → schedule ≡ now.book.schedule → ((l : Live) → IsLive schedule c l → length t.task.log.records ≤ l.steps → HasRunOne t.task u.task) → ((l : Live) → IsLive schedule c l → l.steps < length t.task.log.records → u ≡ t)
    → RunsOne c now (record { book = new; tasks = slice_set ts c (Some u) })
runs_one s schedule ts c o t u now new k live read some tasks is one named = record {
  before = t;
  after = u;
  had = sym (ap (λ (xs : List (Option Running)). slice_get xs c) tasks) ∙ at;
  has = set_there ts c (Some u) (Some t) at;
  one = λ l here. one l (subst (λ (x : Schedule). IsLive x c l) (sym is) here);
  named = λ l here. named l (subst (λ (x : Schedule). IsLive x c l) (sym is) here);
} where
  at : slice_get ts c ≡ Some (Some t)
  at = task_at s schedule ts c o t k live read some

-- All records

pub whole_set : (s : CompiledScript) (schedule : Schedule) (b : Booked) (ts : List (Option Running)) (c : ℕ) (t : Running) → HasTasks s schedule ts → IsLiveCall schedule c → AreRecordsOf b c t.task.log.records → AreRecordsOf b c (records_by (slice_get (slice_set ts c (Some t)) c))
whole_set s schedule b ts c t k live are l here = let had = k.running c live.0 live.1 in ap records_by (set_there ts c (Some t) (Some had.0) had.1) ∙ are l here

-- after a repair or a move
pub whole_again : (m : Mark) (old new : Booked) (c : ℕ) (l : Live) (rs : List Record) → m ≢ Exclusive → IsLive old.schedule c l → Made (round_event m c) old new → rs ≡ records_at (batch_in old) old.schedule.order (length old.schedule.order) c → AreRecordsOf new c rs
whole_again m old new c l rs ne live made are x at =
    let one : again (length old.schedule.order) m l ≡ x = one_live new.schedule c (again (length old.schedule.order) m l) x (live_restarted m c old new l ne live made) at in
    let order : new.schedule.order ≡ old.schedule.order = ap (λ (s : Schedule). s.order) (made.schedule ∙ restart_after (batch_in old) old.schedule m c ne) in
    are
    ∙ (ap (λ (y : Live). records_at (batch_in old) old.schedule.order y.start c) one
    ∙ (ap (λ (o : List ℕ). records_at (batch_in old) o x.start c) (sym order) ∙ ap (λ (s : CompiledScript). records_at (batch_of s) new.schedule.order x.start c) (sym made.script)))

-- The first records of a full run

first_of : (s : CompiledScript) (order : List ℕ) (c : ℕ) (l : Live) (t : Running) → IsCompiledScript s → c < length s.calls → IsLiveTask s order c l t → IsPrefix t.task.log.records (records_at (batch_of s) order l.start c)
first_of s order c l t k lt task =
    let call : (call : Call) × (g : Graph) × IsCallOf s c call g = k.1.there c lt in
    let db : Tables = table_at (batch_of s) order l.start in
    let way : IsTaskOn call.1 call.0 db t.task = task.runs call.0 call.1 call.2 in
    (way.rest, sym (ap (λ (r : Run). r.records) (run_is s c call.0 call.1 db call.2) ∙ way.leaves))

pub first_told : (b : Booked) (c : ℕ) (t : Running) → IsCompiledScript b.script → c < length b.script.calls → ((l : Live) → IsLive b.schedule c l → IsLiveTask b.script b.schedule.order c l t) → AreFirstOf b c t.task.log.records
first_told b c t k lt task l live = first_of b.script b.schedule.order c l t k lt (task l live)

-- The tasks of live calls, and what events leave of them.
use Rattle.std.proofs.Common.{◌≡◌, ◌⊎◌, inl, inr, ℕ, ◌+◌, ◌<◌, ◌≤◌, Bool, true, false, List, [], ◌∷◌, ◌++◌, Option, Some, None, length, get_or, slice_set, refl, sym, ap, subst, ◌∙◌, arith, eq-eqb, append-nil, length-append, rules}
use Rattle.std.specs.Prelude.{slice_get, ◌==◌, ◌&&◌, ◌↔◌, ◌≢◌, nat_lt, not}
use Rattle.std.specs.List.{flat_map}
use Rattle.std.proofs.lemmas.Option.{slice_get_within, slice_get_read}
use Rattle.std.proofs.lemmas.Bool.{and_parts, cases_eq, ltb-false, lt-ltb}
use Rattle.std.proofs.lemmas.List.{length-set, set-set}
use Rattle.mv_values.specs.declared.calls.Call.{Call}
use Rattle.mv_values.specs.Tables.{Tables}
use Rattle.mv_record.specs.declared.record.Record.{Record}
use Rattle.mv_record.specs.Runs.{Run}
use Rattle.mv_record.specs.Writes.{AreRising}
use Rattle.mv_graph.specs.declared.graph.Graph.{Graph}
use Rattle.mv_graph.specs.Nodes.{meaning_of}
use Rattle.mv_exec.specs.declared.task.Task.{Task}
use Rattle.mv_exec.specs.Running.{IsTaskOf, IsTaskOn, IsUnchanged, HasLeft}
use Rattle.mv_exec.proofs.Fronts.{ends_exactly}
use Rattle.mv_journal.specs.declared.outcome.Mark.{Mark}
use Rattle.mv_journal.specs.declared.outcome.Mark.TheVariants.{Plain, Exclusive, Moved}
use Rattle.mv_journal.specs.declared.event.Event.TheVariants.{B, S, X, R, G}
use Rattle.mv_history.specs.declared.change.Change.{Change}
use Rattle.mv_history.specs.Kept.{executions}
use Rattle.mv_lawful.specs.Batch.{Batch, table_at, records_at, since}
use Rattle.mv_lawful.specs.Lawful.{RoundStart, Live, Schedule, begin, again, finish, used, has_step}
use Rattle.mv_lawful.specs.Rounds.{whole_run, later_run, round, rounds_of, closed, last_number, last_round_start, last_turn_or}
use Rattle.mv_lawful.specs.Outcomes.{round_starts_of}
use Rattle.mv_script.specs.declared.script.CompiledScript.{CompiledScript}
use Rattle.mv_script.specs.Scripts.{batch_of, IsCallOf, IsCompiledScript}
use Rattle.mv_script.proofs.Databases.{table_database}
use Rattle.mv_core.specs.declared.tasks.Running.{Running}
use Rattle.mv_core.specs.Calls.{IsLive, IsLiveCall, committed, due_number}
use Rattle.mv_core.specs.Books.{Booked, batch_in, Made, round_event, commit_event, IsMissing, HasNumber, AreRecordsOf}
use Rattle.mv_store.specs.Stored.{Versioned}
use Rattle.mv_view.specs.Viewing.{Sight}
use Rattle.mv_core.specs.Cores.{RunsOn, IsTaskFor, HasRunOne, CountsAll, HasRoundStarts, count_or, IsLiveTask, IsTaskIn, IsRunningIn, IsRepaired, HasTasks, HasStep, IsCore, Shows, ShowsLast}
use Rattle.mv_lawful.proofs.Numbers.{last_end, last_is_or, last_of_end, rounds_more, rounds_stay, table_stays, within_more, within_end}
use Rattle.mv_core.proofs.Stored.{run_is, changes_to_last}
use Rattle.mv_core.proofs.Keeping.{commit_after, restart_after}
use Rattle.mv_lawful.proofs.Lists.{get_last, get_front, get_set, set_there, set_apart, get_end}
use Rattle.mv_core.proofs.Journals.{changed_at}

-- The call of a number

only_call : (s : CompiledScript) (c : ℕ) (call other : Call) (g h : Graph) → IsCallOf s c call g → IsCallOf s c other h → (call ≡ other) × (g ≡ h)
only_call s c call other g h a b =
    let calls : Some call ≡ Some other = sym a.call_is ∙ b.call_is in
    let one : call ≡ other = search (rules, calls) in
    let graphs : Some g ≡ Some h = sym a.graph_is ∙ (ap (λ (x : Call). slice_get s.graphs x.procedure) one ∙ b.graph_is) in
    (one, search (rules, graphs))

pub call_there : (s : CompiledScript) (c : ℕ) → IsCompiledScript s → c < length s.calls → slice_get s.calls c ≡ None → ⊥
call_there s c k lt e = let has = k.1.there c lt in let both : Some has.0 ≡ None = sym has.2.call_is ∙ e in search (rules, both)

pub graph_there : (s : CompiledScript) (c : ℕ) (call : Call) → IsCompiledScript s → c < length s.calls → slice_get s.calls c ≡ Some call → slice_get s.graphs call.procedure ≡ None → ⊥
graph_there s c call k lt at e =
    let has = k.1.there c lt in
    let both : Some has.0 ≡ Some call = sym has.2.call_is ∙ at in
    let same : has.0 ≡ call = search (rules, both) in
    let there : Some has.1 ≡ None = sym has.2.graph_is ∙ (ap (λ (x : Call). slice_get s.graphs x.procedure) same ∙ e) in
    search (rules, there)

pub here_call : (s : CompiledScript) (c : ℕ) (call : Call) (g : Graph) → Some call ≡ slice_get s.calls c → Some g ≡ slice_get s.graphs call.procedure → IsCallOf s c call g
here_call s c call g at there = record { call_is = sym at; graph_is = sym there }

-- Tasks

-- a task that runs on a database as the call of its graph
pub runs_on : (s : CompiledScript) (c : ℕ) (call : Call) (g : Graph) (db : Tables) (task : Task) → IsCallOf s c call g → IsTaskOn g call db task → RunsOn s c db task
runs_on s c call g db task here is other h there =
    let one = only_call s c call other g h here there in
    subst (λ x. IsTaskOn x other db task) one.1 (subst (λ x. IsTaskOn g x db task) one.0 is)

-- a task that is the call of its graph
pub task_for : (s : CompiledScript) (c : ℕ) (call : Call) (g : Graph) (task : Task) → IsCallOf s c call g → IsTaskOf g call task → IsTaskFor s c task
task_for s c call g task here is other h there =
    let one = only_call s c call other g h here there in
    subst (λ x. IsTaskOf x other task) one.1 (subst (λ x. IsTaskOf g x task) one.0 is)

-- a task that runs on a database is the call
pub task_runs : (s : CompiledScript) (c : ℕ) (db : Tables) (task : Task) → RunsOn s c db task → IsTaskFor s c task
task_runs s c db task runs call g here = (runs call g here).is

-- it runs on each database again, from its first statement on
pub task_back : (s : CompiledScript) (c : ℕ) (db : Tables) (old new : Task) → IsTaskFor s c old → ((g : Graph) (call : Call) (x : Tables) → IsTaskOf g call old → IsTaskOn g call x new) → RunsOn s c db new
task_back s c db old new is begins call g here = begins g call db (is call g here)

-- Rounds

pub round_starts_begin : (n : ℕ) → HasRoundStarts n (begin n)
round_starts_begin n = record { first = record { start = n; mark = Plain }; rest = []; round_starts = refl; last = refl; within = (omega arith, tt); past = omega arith }

pub round_starts_again : (n : ℕ) (m : Mark) (l : Live) → HasRoundStarts n l → HasRoundStarts n (again n m l)
round_starts_again n m l h = record {
  first = h.first;
  rest = h.rest ++ record { start = n; mark = m } ∷ [];
  round_starts = ap (λ ts. ts ++ record { start = n; mark = m } ∷ []) h.round_starts;
  last = ap (λ ts. last_round_start (ts ++ record { start = n; mark = m } ∷ [])) h.round_starts ∙ last_end (h.first ∷ h.rest) (record { start = n; mark = m });
  within = within_end n l.round_starts (record { start = n; mark = m }) h.within (omega arith);
  past = omega arith;
}

round_starts_stepped : (n k : ℕ) (l : Live) → HasRoundStarts n l → HasRoundStarts n (record l { steps = k })
round_starts_stepped n k l h = record { first = h.first; rest = h.rest; round_starts = h.round_starts; last = h.last; within = h.within; past = h.past }

pub round_starts_grown : (n m : ℕ) (l : Live) → n ≤ m → HasRoundStarts n l → HasRoundStarts m l
round_starts_grown n m l le h = record { first = h.first; rest = h.rest; round_starts = h.round_starts; last = h.last; within = within_more n m l.round_starts le h.within; past = let a = h.past in omega (arith, a, le) }

-- a round more is no first one
not_first : (n k : ℕ) (m : Mark) (l : Live) → HasRoundStarts k l → used (again n m l) ≡ 0 → ⊥
not_first n k m l h first =
    let a = ap length h.round_starts in
    let b = length-append l.round_starts (record { start = n; mark = m } ∷ []) in
    omega (arith, first, a, b)

-- Their numbers

-- the number of the first round
pub first_number : (w : Batch) (order : List ℕ) (c n : ℕ) (l : Live) → HasRoundStarts n l → used l ≡ 0 → last_number (rounds_of w order c l.round_starts) ≡ Some (length (records_at w order l.start c))
first_number w order c n l h first = by h.rest refl where
  by : (ts : List RoundStart) → h.rest ≡ ts → last_number (rounds_of w order c l.round_starts) ≡ Some (length (records_at w order l.start c))
  by [] none =
      let all : l.round_starts ≡ h.first ∷ [] = h.round_starts ∙ ap (λ ts. h.first ∷ ts) none in
      ap (λ ts. last_number (rounds_of w order c ts)) all ∙ ap (λ k. Some (whole_run w order c k)) (sym (ap last_round_start all) ∙ h.last)
  by (t ∷ ts) some =
      let a = ap length h.round_starts in
      let b = ap length some in
      absurd (omega (arith, first, a, b))

-- the number of a round more
pub number_again : (w : Batch) (order : List ℕ) (c n k : ℕ) (m : Mark) (l : Live) → HasRoundStarts k l
    → last_number (rounds_of w order c (l.round_starts ++ record { start = n; mark = m } ∷ [])) ≡ Some (later_run w order c l.start n m)
number_again w order c n k m l h =
    ap (λ ts. last_number (rounds_of w order c (ts ++ u ∷ []))) h.round_starts
    ∙ (ap last_number (rounds_more w order c h.first u h.rest)
    ∙ (last_of_end (closed m (rounds_of w order c (h.first ∷ h.rest))) (round u (Some (later_run w order c (last_turn_or h.first.start h.rest) n m)))
    ∙ ap (λ x. Some (later_run w order c x n m)) (sym (last_is_or h.first h.rest) ∙ (sym (ap last_round_start h.round_starts) ∙ h.last)))) where
      u : RoundStart
      u = record { start = n; mark = m }

pub due_live : (w : Batch) (s : Schedule) (c : ℕ) (l : Live) → IsLive s c l → due_number w s c ≡ last_number (rounds_of w s.order c l.round_starts)
due_live w s c l live = ap (λ o. last_number (rounds_of w s.order c (round_starts_of o))) live.at

-- the number of a live call whose task has run whole
pub due_now : (b : Booked) (c n : ℕ) (running : Running) → IsLiveCall b.schedule c → IsTaskIn b c running → AreRecordsOf b c running.task.log.records → n ≡ count_or running.count (length running.task.log.records)
    → due_number (batch_in b) b.schedule c ≡ Some n
due_now b c n running live taken are is =
    due_live (batch_in b) b.schedule c live.0 live.1
    ∙ ((taken live.0 live.1).counted ∙ ap Some (ap (λ (rs : List Record). count_or running.count (length rs)) (sym (are live.0 live.1)) ∙ sym is))

-- if its round has none yet, that is what the task executed
pub due_first : (b : Booked) (c : ℕ) (running : Running) → IsLiveCall b.schedule c → HasNumber b c → IsTaskIn b c running → AreRecordsOf b c running.task.log.records → IsMissing running.task.executed b c
due_first b c running live number taken are none =
    let l : Live = live.0 in
    let first : used l ≡ 0 = number none l live.1 in
    due_live (batch_in b) b.schedule c l live.1
    ∙ (first_number (batch_in b) b.schedule.order c (length b.schedule.order) l (taken l live.1).round_starts first ∙ ap Some (sym (ap length (are l live.1)) ∙ sym ((taken l live.1).executed first)))

-- What was counted

pub counts_same : (old new : Task) → IsUnchanged old new → CountsAll old new
counts_same old new same =
    let long = ap length same.records in
    let executed = same.executed in
    record { executed = omega (arith, long, executed); more = omega (arith, long) }

pub counts_one : (old new : Task) → HasRunOne old new → CountsAll old new
counts_one old new one =
    let records = one.records in
    let executed = one.executed in
    record { executed = omega (arith, records, executed); more = omega (arith, records) }

-- The task of a live call

-- it was run on, or not
pub task_kept : (s : CompiledScript) (order : List ℕ) (c : ℕ) (l : Live) (old : Running) (task : Task) → IsLiveTask s order c l old → RunsOn s c (table_at (batch_of s) order l.start) task
    → CountsAll old.task task → IsLiveTask s order c l (record { task = task; count = old.count })
task_kept s order c l old task t runs all = record {
  runs = runs;
  counted = t.counted;
  executed = λ first. let counts = all.executed in let was = t.executed first in omega (arith, counts, was);
  steps = λ none first. let le = t.steps none first in let more = all.more in omega (arith, le, more);
  round_starts = t.round_starts;
}

-- it has one more record
pub task_ran : (s : CompiledScript) (order : List ℕ) (c : ℕ) (l : Live) (old : Running) (task : Task) → IsLiveTask s order c l old → RunsOn s c (table_at (batch_of s) order l.start) task
    → HasRunOne old.task task → IsLiveTask s order c (record l { steps = l.steps + 1 }) (record { task = task; count = old.count })
task_ran s order c l old task t runs one = record {
  runs = runs;
  counted = t.counted;
  executed = λ first. let all = t.executed first in let a = one.records in let b = one.executed in omega (arith, all, a, b);
  steps = λ none first. let le = t.steps none first in let a = one.records in omega (arith, le, a);
  round_starts = round_starts_stepped (length order) (l.steps + 1) l t.round_starts;
}

-- it has records that the journal doesn't name, and the next one is named
pub task_named : (s : CompiledScript) (order : List ℕ) (c : ℕ) (l : Live) (running : Running) → IsLiveTask s order c l running → (length running.task.log.records ≤ l.steps → ⊥) → IsLiveTask s order c (record l { steps = l.steps + 1 }) running
task_named s order c l running t more = record {
  runs = t.runs;
  counted = t.counted;
  executed = t.executed;
  steps = λ none first. omega (arith, more);
  round_starts = round_starts_stepped (length order) (l.steps + 1) l t.round_starts;
}

-- its number is known
pub task_given : (s : CompiledScript) (order : List ℕ) (c n : ℕ) (l : Live) (running : Running) → HasRoundStarts (length order) l → last_number (rounds_of (batch_of s) order c l.round_starts) ≡ Some n → running.count ≡ Some n
    → running.task.executed ≡ length running.task.log.records → RunsOn s c (table_at (batch_of s) order l.start) running.task → IsLiveTask s order c l running
task_given s order c n l running h number count all runs = record {
  runs = runs;
  counted = number ∙ ap (λ o. Some (count_or o (length (records_at (batch_of s) order l.start c)))) (sym count);
  executed = λ first. all;
  steps = λ none first. let both : Some n ≡ None = sym count ∙ none in absurd (search (rules, both));
  round_starts = h;
}

-- it has lost its records
pub task_spent : (s : CompiledScript) (order : List ℕ) (c n : ℕ) (l : Live) (old new : Running) → IsLiveTask s order c l old → old.task.log.records ≡ records_at (batch_of s) order l.start c
    → n ≡ count_or old.count (length old.task.log.records) → new.count ≡ Some n → new.task.executed ≡ length new.task.log.records → RunsOn s c (table_at (batch_of s) order l.start) new.task → IsLiveTask s order c l new
task_spent s order c n l old new t are is count all runs =
    task_given s order c n l new t.round_starts (t.counted ∙ ap Some (ap (λ (rs : List Record). count_or old.count (length rs)) (sym are) ∙ sym is)) count all runs

-- it moved
pub task_moved : (s : CompiledScript) (order : List ℕ) (c : ℕ) (l : Live) (task : Task) → HasRoundStarts (length order) l → RunsOn s c (table_at (batch_of s) order (length order)) task
    → IsLiveTask s order c (again (length order) Moved l) (record { task = task; count = None })
task_moved s order c l task h runs = record {
  runs = runs;
  counted = number_again (batch_of s) order c (length order) (length order) Moved l h;
  executed = λ first. absurd (not_first (length order) (length order) Moved l h first);
  steps = λ none first. absurd (not_first (length order) (length order) Moved l h first);
  round_starts = round_starts_again (length order) Moved l h;
}

-- it was repaired
pub task_again : (s : CompiledScript) (order : List ℕ) (c : ℕ) (l : Live) (running : Running) → HasRoundStarts (length order) l → IsRepaired s order c l running → IsLiveTask s order c (again (length order) Plain l) running
task_again s order c l running h r = record {
  runs = r.runs;
  counted =
      number_again (batch_of s) order c (length order) (length order) Plain l h
      ∙ ap Some (sym r.executed ∙ sym (ap (λ o. count_or o (length (records_at (batch_of s) order (length order) c))) r.count));
  executed = λ first. absurd (not_first (length order) (length order) Plain l h first);
  steps = λ none first. absurd (not_first (length order) (length order) Plain l h first);
  round_starts = round_starts_again (length order) Plain l h;
}

task_begun : (s : CompiledScript) (order : List ℕ) (c : ℕ) (task : Task) → ((db : Tables) → RunsOn s c db task) → task.executed ≡ length task.log.records → IsLiveTask s order c (begin (length order)) (record { task = task; count = None })
task_begun s order c task runs all = record {
  runs = runs (table_at (batch_of s) order (length order));
  counted = refl;
  executed = λ first. all;
  steps = λ none first. omega arith;
  round_starts = round_starts_begin (length order);
}

-- another call commits
task_grows : (s : CompiledScript) (order : List ℕ) (d c : ℕ) (l : Live) (running : Running) → IsLiveTask s order c l running → IsLiveTask s (order ++ d ∷ []) c l running
task_grows s order d c l running t = record {
  runs = subst (λ db. RunsOn s c db running.task) (sym (table_stays (batch_of s) order d l.start t.round_starts.past)) t.runs;
  counted =
      ap last_number (rounds_stay (batch_of s) order d c l.round_starts t.round_starts.within)
      ∙ (t.counted ∙ ap (λ db. Some (count_or running.count (length ((batch_of s).run c db).records))) (sym (table_stays (batch_of s) order d l.start t.round_starts.past)));
  executed = t.executed;
  steps = t.steps;
  round_starts = let n = length-append order (d ∷ []) in round_starts_grown (length order) (length (order ++ d ∷ [])) l (omega (arith, n)) t.round_starts;
}

-- Tasks of all live calls

pub tasks_same : (s t : CompiledScript) (schedule new : Schedule) (ts : List (Option Running)) → HasTasks s schedule ts → t ≡ s → new ≡ schedule → HasTasks t new ts
tasks_same s t schedule new ts k a b = subst (λ (x : CompiledScript). HasTasks x new ts) (sym a) (subst (λ (x : Schedule). HasTasks s x ts) (sym b) k)

-- the next call begins
tasks_begun : (s : CompiledScript) (schedule : Schedule) (ts : List (Option Running)) (t : Running) → HasTasks s schedule ts → length schedule.calls < length s.calls
    → IsLiveTask s schedule.order (length schedule.calls) (begin (length schedule.order)) t
    → HasTasks s (record schedule { calls = schedule.calls ++ begin (length schedule.order) ∷ [] }) (ts ++ Some t ∷ [])
tasks_begun s schedule ts t k room fresh = record {
  few = let n = length-append schedule.calls (begin (length schedule.order) ∷ []) in omega (arith, n, room);
  count = let a = length-append ts (Some t ∷ []) in let b = length-append schedule.calls (begin (length schedule.order) ∷ []) in let n = k.count in omega (arith, a, b, n);
  running = λ c l live. by c l (get_last schedule.calls (begin (length schedule.order)) c l live.at) live.live;
} where
  by : (c : ℕ) (l : Live) → (slice_get schedule.calls c ≡ Some l) ⊎ ((c ≡ length schedule.calls) × (begin (length schedule.order) ≡ l)) → l.done ≡ false
      → (u : Running) × (slice_get (ts ++ Some t ∷ []) c ≡ Some (Some u)) × IsLiveTask s schedule.order c l u
  by c l (inl at) live = let h = k.running c l (record { at = at; live = live }) in (h.0, get_front ts (Some t) c (Some h.0) h.1, h.2)
  by c l (inr h) live =
      (t, get_end ts (Some t) c (h.0 ∙ sym k.count), subst (λ n. IsLiveTask s schedule.order n l t) (sym h.0) (subst (λ (x : Live). IsLiveTask s schedule.order (length schedule.calls) x t) h.1 fresh))

-- one call changes and stays live
tasks_changed : (s : CompiledScript) (schedule : Schedule) (ts : List (Option Running)) (c : ℕ) (l m : Live) (t : Running) → HasTasks s schedule ts → IsLive schedule c l → m.done ≡ false → IsLiveTask s schedule.order c m t
    → HasTasks s (record schedule { calls = slice_set schedule.calls c m }) (slice_set ts c (Some t))
tasks_changed s schedule ts c l m t k live still fresh = record {
  few = let n = length-set schedule.calls c m in let h = k.few in omega (arith, n, h);
  count = let a = length-set ts c (Some t) in let b = length-set schedule.calls c m in let n = k.count in omega (arith, a, b, n);
  running = λ d x alive. by d x (get_set schedule.calls c d m x alive.at) alive.live;
} where
  by : (d : ℕ) (x : Live) → ((d ≡ c) × (m ≡ x)) ⊎ ((d ≡ c → ⊥) × (slice_get schedule.calls d ≡ Some x)) → x.done ≡ false
      → (u : Running) × (slice_get (slice_set ts c (Some t)) d ≡ Some (Some u)) × IsLiveTask s schedule.order d x u
  by d x (inl h) alive =
      let had = k.running c l live in (
        t,
        subst (λ n. slice_get (slice_set ts c (Some t)) n ≡ Some (Some t)) (sym h.0) (set_there ts c (Some t) (Some had.0) had.1),
        subst (λ n. IsLiveTask s schedule.order n x t) (sym h.0) (subst (λ (y : Live). IsLiveTask s schedule.order c y t) h.1 fresh),
      )
  by d x (inr h) alive = let had = k.running d x (record { at = h.1; live = alive }) in (had.0, set_apart ts c d (Some t) h.0 ∙ had.1, had.2)

-- one call has another task
pub tasks_set : (s : CompiledScript) (schedule : Schedule) (ts : List (Option Running)) (c : ℕ) (t : Running) → HasTasks s schedule ts → IsLiveCall schedule c → ((l : Live) → IsLive schedule c l → IsLiveTask s schedule.order c l t)
    → HasTasks s schedule (slice_set ts c (Some t))
tasks_set s schedule ts c t k live task = record {
  few = k.few;
  count = length-set ts c (Some t) ∙ k.count;
  running = λ d x alive. by d x alive (cases_eq d c);
} where
  by : (d : ℕ) (x : Live) → IsLive schedule d x → (d ≡ c) ⊎ (d ≡ c → ⊥) → (u : Running) × (slice_get (slice_set ts c (Some t)) d ≡ Some (Some u)) × IsLiveTask s schedule.order d x u
  by d x alive (inl e) =
      let had = k.running c live.0 live.1 in (
        t,
        subst (λ n. slice_get (slice_set ts c (Some t)) n ≡ Some (Some t)) (sym e) (set_there ts c (Some t) (Some had.0) had.1),
        subst (λ n. IsLiveTask s schedule.order n x t) (sym e) (task x (subst (λ n. IsLive schedule n x) e alive)),
      )
  by d x alive (inr ne) = let had = k.running d x alive in (had.0, set_apart ts c d (Some t) ne ∙ had.1, had.2)

-- one call commits
tasks_committed : (s : CompiledScript) (schedule : Schedule) (ts : List (Option Running)) (c : ℕ) (l m : Live) → HasTasks s schedule ts → IsLive schedule c l → m.done ≡ true
    → HasTasks s (record schedule { order = schedule.order ++ c ∷ []; calls = slice_set schedule.calls c m }) (slice_set ts c None)
tasks_committed s schedule ts c l m k live ended = record {
  few = let n = length-set schedule.calls c m in let h = k.few in omega (arith, n, h);
  count = let a = length-set ts c None in let b = length-set schedule.calls c m in let n = k.count in omega (arith, a, b, n);
  running = λ d x alive. by d x (get_set schedule.calls c d m x alive.at) alive.live;
} where
  by : (d : ℕ) (x : Live) → ((d ≡ c) × (m ≡ x)) ⊎ ((d ≡ c → ⊥) × (slice_get schedule.calls d ≡ Some x)) → x.done ≡ false
      → (u : Running) × (slice_get (slice_set ts c None) d ≡ Some (Some u)) × IsLiveTask s (schedule.order ++ c ∷ []) d x u
  by d x (inl h) alive = let both : true ≡ false = sym ended ∙ (ap (λ (y : Live). y.done) h.1 ∙ alive) in absurd (search (rules, both))
  by d x (inr h) alive =
      let had = k.running d x (record { at = h.1; live = alive }) in
      (had.0, set_apart ts c d None h.0 ∙ had.1, task_grows s schedule.order c d x had.0 had.2)

-- one call is answered
tasks_answered : (s : CompiledScript) (schedule : Schedule) (ts : List (Option Running)) (c : ℕ) (l m : Live) → HasTasks s schedule ts → IsLive schedule c l → m.done ≡ true
    → HasTasks s (record schedule { answered = schedule.answered ++ c ∷ []; calls = slice_set schedule.calls c m }) (slice_set ts c None)
tasks_answered s schedule ts c l m k live ended = record {
  few = let n = length-set schedule.calls c m in let h = k.few in omega (arith, n, h);
  count = let a = length-set ts c None in let b = length-set schedule.calls c m in let n = k.count in omega (arith, a, b, n);
  running = λ d x alive. by d x (get_set schedule.calls c d m x alive.at) alive.live;
} where
  by : (d : ℕ) (x : Live) → ((d ≡ c) × (m ≡ x)) ⊎ ((d ≡ c → ⊥) × (slice_get schedule.calls d ≡ Some x)) → x.done ≡ false
      → (u : Running) × (slice_get (slice_set ts c None) d ≡ Some (Some u)) × IsLiveTask s schedule.order d x u
  by d x (inl h) alive = let both : true ≡ false = sym ended ∙ (ap (λ (y : Live). y.done) h.1 ∙ alive) in absurd (search (rules, both))
  by d x (inr h) alive = let had = k.running d x (record { at = h.1; live = alive }) in (had.0, set_apart ts c d None h.0 ∙ had.1, had.2)

-- Events of a book

pub begun_on : (old new : Booked) (ts : List (Option Running)) (c : ℕ) (t : Task) → HasTasks old.script old.schedule ts → Made (B c) old new → c ≡ length old.schedule.calls → c < length old.script.calls
    → ((db : Tables) → RunsOn old.script c db t) → t.executed ≡ length t.log.records → HasTasks new.script new.schedule (ts ++ Some (record { task = t; count = None }) ∷ [])
begun_on old new ts c t k made is room runs all =
    tasks_same old.script new.script _ new.schedule (ts ++ Some (record { task = t; count = None }) ∷ [])
    (tasks_begun old.script old.schedule ts (record { task = t; count = None }) k (omega (arith, is, room))
    (task_begun old.script old.schedule.order (length old.schedule.calls) t (subst (λ n. (db : Tables) → RunsOn old.script n db t) is runs) all)) made.script made.schedule

pub stepped_on : (old new : Booked) (ts : List (Option Running)) (c : ℕ) (l : Live) (t : Running) → HasTasks old.script old.schedule ts → IsLive old.schedule c l → Made (S c) old new
    → IsLiveTask old.script old.schedule.order c (record l { steps = l.steps + 1 }) t → HasTasks new.script new.schedule (slice_set ts c (Some t))
stepped_on old new ts c l t k live made task =
    let m : Live = record l { steps = l.steps + 1 } in
    tasks_same old.script new.script _ new.schedule (slice_set ts c (Some t)) (tasks_changed old.script old.schedule ts c l m t k live live.live task) made.script
    (made.schedule ∙ ap (λ ls. record old.schedule { calls = ls }) (changed_at old.schedule.calls c (λ x. record x { steps = x.steps + 1 }) l live.at))

-- a repair or a move
pub restarted_on : (m : Mark) (old new : Booked) (ts : List (Option Running)) (c : ℕ) (l : Live) (t : Running) → m ≢ Exclusive → HasTasks old.script old.schedule ts → IsLive old.schedule c l → Made (round_event m c) old new
    → IsLiveTask old.script old.schedule.order c (again (length old.schedule.order) m l) t → HasTasks new.script new.schedule (slice_set ts c (Some t))
restarted_on m old new ts c l t ne k live made task =
    tasks_same old.script new.script _ new.schedule (slice_set ts c (Some t)) (tasks_changed old.script old.schedule ts c l (again (length old.schedule.order) m l) t k live live.live task) made.script
    (made.schedule ∙ (restart_after (batch_in old) old.schedule m c ne ∙ ap (λ ls. record old.schedule { calls = ls }) (changed_at old.schedule.calls c (again (length old.schedule.order) m) l live.at)))

-- a commit, with a round of its own or without
pub committed_on : (own : Option ℕ) (old new : Booked) (ts : List (Option Running)) (c : ℕ) (l : Live) → HasTasks old.script old.schedule ts → IsLive old.schedule c l → Made (commit_event own c) old new → HasTasks new.script new.schedule (slice_set ts c None)
committed_on own old new ts c l k live made =
    tasks_same old.script new.script _ new.schedule (slice_set ts c None) (tasks_committed old.script old.schedule ts c l (committed (length old.schedule.order) own l) k live (done own)) made.script
    (made.schedule ∙ (commit_after (batch_in old) old.schedule.order old.schedule.low old.schedule.answered old.schedule.calls own c
    ∙ ap (λ ls. record old.schedule { order = old.schedule.order ++ c ∷ []; calls = ls }) (changed_at old.schedule.calls c (committed (length old.schedule.order) own) l live.at))) where
      done : (o : Option ℕ) → (committed (length old.schedule.order) o l).done ≡ true
      done None = refl
      done (Some n) = refl

-- an answer
pub answered_on : (old new : Booked) (ts : List (Option Running)) (c : ℕ) (l : Live) → HasTasks old.script old.schedule ts → IsLive old.schedule c l → Made (R c) old new → HasTasks new.script new.schedule (slice_set ts c None)
answered_on old new ts c l k live made =
    tasks_same old.script new.script _ new.schedule (slice_set ts c None) (tasks_answered old.script old.schedule ts c l (finish l) k live refl) made.script
    (made.schedule ∙ ap (λ ls. record old.schedule { answered = old.schedule.answered ++ c ∷ []; calls = ls }) (changed_at old.schedule.calls c finish l live.at))

-- a commit in a round of its own, after which the task is dropped
pub decided_on : (old new : Booked) (ts : List (Option Running)) (c : ℕ) (l : Live) (r : Running) → HasTasks old.script old.schedule ts → IsLive old.schedule c l → Made (X c) old new
    → HasTasks new.script new.schedule (slice_set (slice_set ts c (Some r)) c None)
decided_on old new ts c l r k live made = subst (λ (xs : List (Option Running)). HasTasks new.script new.schedule xs) (sym (set-set ts c (Some r) None)) (committed_on (Some 0) old new ts c l k live made)

-- a collection
pub collected_on : (old new : Booked) (ts : List (Option Running)) → HasTasks old.script old.schedule ts → Made G old new → HasTasks new.script new.schedule ts
collected_on old new ts k made =
    tasks_same old.script new.script _ new.schedule ts (record {
      few = k.few;
      count = k.count;
      running = λ c l live. k.running c l (record { at = live.at; live = live.live });
    }) made.script made.schedule

-- The task at a number

pub task_within : (s : CompiledScript) (schedule : Schedule) (ts : List (Option Running)) (c : ℕ) → HasTasks s schedule ts → IsLiveCall schedule c → c < length ts
task_within s schedule ts c k live = let had = k.running c live.0 live.1 in slice_get_within ts c (Some had.0) had.1

pub task_there : (s : CompiledScript) (schedule : Schedule) (ts : List (Option Running)) (c : ℕ) (o : Option Running) → HasTasks s schedule ts → IsLiveCall schedule c → o ≡ get_or ts c o → o ≡ None → ⊥
task_there s schedule ts c o k live read none =
    let had = k.running c live.0 live.1 in
    let both : Some (Some had.0) ≡ Some o = sym had.1 ∙ slice_get_read ts (length ts) c o refl (slice_get_within ts c (Some had.0) had.1) read in
    let some : Some had.0 ≡ None = search (rules, both, none) in
    search (rules, some)

pub task_read : (s : CompiledScript) (schedule : Schedule) (ts : List (Option Running)) (c : ℕ) (o : Option Running) (t : Running) → HasTasks s schedule ts → o ≡ get_or ts c o → o ≡ Some t
    → (l : Live) → IsLive schedule c l → IsLiveTask s schedule.order c l t
task_read s schedule ts c o t k read some l live =
    let had = k.running c l live in
    let both : Some (Some had.0) ≡ Some o = sym had.1 ∙ slice_get_read ts (length ts) c o refl (slice_get_within ts c (Some had.0) had.1) read in
    let one : Some had.0 ≡ Some t = search (rules, both, some) in
    let same : had.0 ≡ t = search (rules, one) in
    subst (λ (u : Running). IsLiveTask s schedule.order c l u) same had.2

pub call_within : (s : CompiledScript) (schedule : Schedule) (ts : List (Option Running)) (c : ℕ) → HasTasks s schedule ts → IsLiveCall schedule c → c < length s.calls
call_within s schedule ts c k live =
    let a = slice_get_within schedule.calls c live.0 live.1.at in
    let b = k.few in
    omega (arith, a, b)

-- a live call of a core, and its task
pub running_in : (b : Booked) (store : Versioned) (ts : List (Option Running)) (c : ℕ) (o : Option Running) (t : Running) → IsCore b store ts → IsLiveCall b.schedule c → o ≡ get_or ts c o → o ≡ Some t → IsRunningIn b c t
running_in b store ts c o t k live read some = record {
  script = k.stored.script;
  live = live;
  number = call_within b.script b.schedule ts c k.tasks live;
  task = task_read b.script b.schedule ts c o t k.tasks read some;
}

-- a core in which one call has another task
pub core_set : (b : Booked) (store : Versioned) (ts : List (Option Running)) (c : ℕ) (t : Running) → IsCore b store ts → IsLiveCall b.schedule c → IsTaskIn b c t → IsCore b store (slice_set ts c (Some t))
core_set b store ts c t k live task = record { stored = k.stored; numbers = k.numbers; tasks = tasks_set b.script b.schedule ts c t k.tasks live task }

pub one_live : (s : Schedule) (c : ℕ) (l m : Live) → IsLive s c l → IsLive s c m → l ≡ m
one_live s c l m a b = let both : Some l ≡ Some m = sym a.at ∙ b.at in search (rules, both)

-- Views

pub runs_shown : (b : Booked) (c n : ℕ) (s : CompiledScript) (v : Sight) (task : Task) → s ≡ b.script → Shows b n v → RunsOn b.script c (table_at (batch_in b) b.schedule.order n) task → RunsOn s c v.database task
runs_shown b c n s v task is shows runs = subst (λ (x : CompiledScript). RunsOn x c v.database task) (sym is) (subst (λ db. RunsOn b.script c db task) (sym shows) runs)

pub runs_back : (b : Booked) (c n : ℕ) (s : CompiledScript) (v : Sight) (task : Task) → s ≡ b.script → Shows b n v → RunsOn s c v.database task → RunsOn b.script c (table_at (batch_in b) b.schedule.order n) task
runs_back b c n s v task is shows runs = subst (λ db. RunsOn b.script c db task) shows (subst (λ (x : CompiledScript). RunsOn x c v.database task) is runs)

pub records_back : (b : Booked) (c n : ℕ) (s : CompiledScript) (v : Sight) (rs : List Record) → s ≡ b.script → Shows b n v → rs ≡ ((batch_of s).run c v.database).records → rs ≡ records_at (batch_in b) b.schedule.order n c
records_back b c n s v rs is shows are = are ∙ (ap (λ (x : CompiledScript). ((batch_of x).run c v.database).records) is ∙ ap (λ db. ((batch_in b).run c db).records) shows)

-- a call that has a step, and no record that the journal doesn't name, hasn't ended
pub goes_on : (s : CompiledScript) (schedule : Schedule) (c : ℕ) (l : Live) (t : Task) → IsCompiledScript s → c < length s.calls → RunsOn s c (table_at (batch_of s) schedule.order l.start) t → length t.log.records ≤ l.steps → has_step (batch_of s) schedule c l ≡ true → t.ended ≡ false
goes_on s schedule c l t k lt runs here has = by t.ended refl where
  call : (call : Call) × (g : Graph) × IsCallOf s c call g
  call = k.1.there c lt

  db : Tables
  db = table_at (batch_of s) schedule.order l.start

  way : IsTaskOn call.1 call.0 db t
  way = runs call.0 call.1 call.2

  all : records_at (batch_of s) schedule.order l.start c ≡ t.log.records ++ way.rest
  all = ap (λ (r : Run). r.records) (run_is s c call.0 call.1 db call.2) ∙ way.leaves

  less : nat_lt l.steps (length (records_at (batch_of s) schedule.order l.start c)) ≡ true
  less = (and_parts (used l == 0) (nat_lt l.steps (length (records_at (batch_of s) schedule.order l.start c))) has).1

  past : (n m : ℕ) → m ≤ n → nat_lt n m ≡ true → ⊥
  past n m le h = grind (arith, le, h)

  by : (b : Bool) → t.ended ≡ b → t.ended ≡ false
  by false e = e
  by true e =
      let none : way.rest ≡ [] = (ends_exactly call.1 call.0 db t way.rest way.is (table_database k.0 s schedule.order l.start k.1).rising way.leaves).0 e in
      let many : length (records_at (batch_of s) schedule.order l.start c) ≡ length t.log.records = ap length (all ∙ (ap (λ rs. t.log.records ++ rs) none ∙ append-nil t.log.records)) in
      absurd (past l.steps (length t.log.records) here (subst (λ n. nat_lt l.steps n ≡ true) many less))

-- so it runs one more
pub ran_one : (b : Booked) (c : ℕ) (l : Live) (running : Running) (new : Task) → IsRunningIn b c running → HasStep b c → IsLive b.schedule c l → length running.task.log.records ≤ l.steps → (running.task.ended ≡ false → HasRunOne running.task new)
    → HasRunOne running.task new
ran_one b c l running new k left live few ran = ran (goes_on b.script b.schedule c l running.task k.script k.number (k.task l live).runs few (left l live))

-- the number of a call that is in its first round and has no step: it has all its records, or their number is known
pub number_ran : (s : CompiledScript) (schedule : Schedule) (c : ℕ) (l : Live) (t : Running) → IsCompiledScript s → c < length s.calls → IsLive schedule c l → IsLiveTask s schedule.order c l t → used l ≡ 0 → has_step (batch_of s) schedule c l ≡ false
    → due_number (batch_of s) schedule c ≡ Some (count_or t.count (length t.task.log.records))
number_ran s schedule c l t k lt live task first none = due_live (batch_of s) schedule c l live ∙ (task.counted ∙ ap Some (by t.count refl)) where
  call : (call : Call) × (g : Graph) × IsCallOf s c call g
  call = k.1.there c lt

  db : Tables
  db = table_at (batch_of s) schedule.order l.start

  way : IsTaskOn call.1 call.0 db t.task
  way = task.runs call.0 call.1 call.2

  all : List Record
  all = records_at (batch_of s) schedule.order l.start c

  many : length all ≡ length t.task.log.records + length way.rest
  many = ap length (ap (λ (r : Run). r.records) (run_is s c call.0 call.1 db call.2) ∙ way.leaves) ∙ length-append t.task.log.records way.rest

  past : length all ≤ l.steps
  past = ltb-false l.steps (length all) (sym (ap (λ b. b && nat_lt l.steps (length all)) (eq-eqb (used l) 0 first)) ∙ none)

  by : (o : Option ℕ) → t.count ≡ o → count_or o (length all) ≡ count_or o (length t.task.log.records)
  by (Some n) is = refl
  by None is = let ran = task.steps is first in let le = past in let both = many in omega (arith, ran, le, both)

-- what is left of a call all of whose records are counted
pub left_told : (g : Graph) (call : Call) (db : Tables) (t : Task) (rest : List Record) (steps : ℕ) → IsTaskOf g call t → AreRising db → HasLeft g call db t rest → steps ≡ length t.log.records → not t.ended ≡ nat_lt steps (length (meaning_of g call db).records)
left_told g call db t rest steps is rise leaves here = by t.ended refl where
  exact : (t.ended ≡ true) ↔ (rest ≡ [])
  exact = ends_exactly g call db t rest is rise leaves

  many : length (meaning_of g call db).records ≡ length t.log.records + length rest
  many = ap length leaves ∙ length-append t.log.records rest

  not_less : (n m : ℕ) → m ≡ n → nat_lt n m ≡ false
  not_less n m e = grind (arith, e)

  more : (rs : List Record) → rest ≡ rs → (rs ≡ [] → ⊥) → 0 < length rest
  more [] e none = absurd (none refl)
  more (r ∷ rs) e none = let l = ap length e in omega (arith, l)

  by : (b : Bool) → t.ended ≡ b → not t.ended ≡ nat_lt steps (length (meaning_of g call db).records)
  by true e =
      let none = ap length (exact.0 e) in
      ap not e ∙ sym (not_less steps (length (meaning_of g call db).records) (omega (arith, many, none, here)))
  by false e =
      let both : rest ≡ [] → ⊥ = λ none. let h : true ≡ false = sym (exact.1 none) ∙ e in search (rules, h) in
      let some = more rest refl both in
      ap not e ∙ sym (lt-ltb steps (length (meaning_of g call db).records) (omega (arith, many, some, here)))

-- a repair has run on the last tables, and executed as many records as Runs says
pub task_repaired : (b : Booked) (c n : ℕ) (s : CompiledScript) (v : Sight) (l : Live) (old new : Task) (commits : List (List Change)) → s ≡ b.script → ShowsLast b v
    → commits ≡ since (batch_in b) b.schedule.order l.start → old.log.records ≡ records_at (batch_in b) b.schedule.order l.start c → RunsOn s c v.database new → new.log.records ≡ ((batch_of s).run c v.database).records
    → new.executed ≡ executions old.log.records new.log.records (flat_map (λ changes. changes) commits) → n ≡ new.executed → IsRepaired b.script b.schedule.order c l (record { task = new; count = Some n })
task_repaired b c n s v l old new commits is shows all was runs records executed number = record {
  runs = runs_back b c (length b.schedule.order) s v new is shows runs;
  records = now;
  executed =
      executed
      ∙ (ap (λ rs. executions rs new.log.records (flat_map (λ changes. changes) commits)) was
      ∙ (ap (λ rs. executions (records_at (batch_in b) b.schedule.order l.start c) rs (flat_map (λ changes. changes) commits)) now
      ∙ ap (executions (records_at (batch_in b) b.schedule.order l.start c) (records_at (batch_in b) b.schedule.order (length b.schedule.order) c))
      (ap (flat_map (λ (changes : List Change). changes)) all ∙ sym (changes_to_last (batch_in b) b.schedule.order l.start))));
  count = ap Some number;
} where
  now : new.log.records ≡ records_at (batch_in b) b.schedule.order (length b.schedule.order) c
  now = records_back b c (length b.schedule.order) s v new.log.records is shows records

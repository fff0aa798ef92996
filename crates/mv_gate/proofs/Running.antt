-- A call that runs outside of the lock, over the tables of a history that its pass has seen.
use Rattle.std.proofs.Common.{◌≡◌, ℕ, ◌≤◌, ◌<◌, true, false, List, [], ◌∷◌, ◌++◌, Option, Some, None, length, refl, sym, ap, subst, ◌∙◌, arith, rules, append-nil, length-append}
use Rattle.std.specs.List.{flat_map}
use mathlib.Core.List.{IsPrefix}
use Rattle.mv_values.specs.Tables.{Tables}
use Rattle.mv_record.specs.declared.record.Record.{Record}
use Rattle.mv_record.specs.Runs.{Run}
use Rattle.mv_record.specs.Writes.{AreRising}
use Rattle.mv_graph.specs.Nodes.{meaning_of}
use Rattle.mv_exec.specs.declared.task.Task.{Task}
use Rattle.mv_exec.specs.Running.{IsTaskOn, IsUnchanged}
use Rattle.mv_exec.proofs.Fronts.{ends_exactly}
use Rattle.mv_history.specs.declared.change.Change.{Change}
use Rattle.mv_history.specs.Kept.{executions}
use Rattle.mv_changes.specs.declared.recent.Committed.{Committed}
use Rattle.mv_changes.specs.Commits.{changes_in}
use Rattle.mv_repair.specs.Repairing.{changes_since}
use Rattle.mv_lawful.specs.Batch.{Batch, table_at, records_at, since}
use Rattle.mv_lawful.specs.Rounds.{repair_run, IsPast}
use Rattle.mv_seats.specs.Scripts.{BoardScript}
use Rattle.mv_seats.proofs.Prefixes.{prefix_length}
use Rattle.mv_script.specs.declared.script.CompiledScript.{CompiledScript}
use Rattle.mv_script.specs.Scripts.{IsCompiledScript, batch_of}
use Rattle.mv_script.proofs.Databases.{tables_rise}
use Rattle.mv_shards.specs.Scripts.{script_in, batch}
use Rattle.mv_shards.specs.Reads.{Started}
use Rattle.mv_core.specs.Cores.{RunsOn, HasRunOne, CountsAll, CanRepair}
use Rattle.mv_core.proofs.Stored.{run_is, can_repair, changes_to_last}
use Rattle.mv_gate.specs.Gates.{IsLate, Holding, Repairing, IsExecuted, IsHeld, IsRepairing}
use Rattle.mv_gate.proofs.Prefixes.{table_prefix, repair_prefix}

-- A task that has run whole

-- its records are all
pub ended_records : (s : CompiledScript) (c : ℕ) (db : Tables) (task : Task) → IsCompiledScript s → c < length s.calls → AreRising db → RunsOn s c db task → task.ended ≡ true → task.log.records ≡ ((batch_of s).run c db).records
ended_records s c db task k lt rise runs ended =
    let has = k.1.there c lt in
    let on : IsTaskOn has.1 has.0 db task = runs has.0 has.1 has.2 in
    let none : on.rest ≡ [] = (ends_exactly has.1 has.0 db task on.rest on.is rise on.leaves).0 ended in
    let all : (meaning_of has.1 has.0 db).records ≡ task.log.records = on.leaves ∙ (ap (λ (rs : List Record). task.log.records ++ rs) none ∙ append-nil task.log.records) in
    sym all ∙ ap (λ (r : Run). r.records) (sym (run_is s c has.0 has.1 db has.2))

-- with all records it has ended
pub records_ended : (s : CompiledScript) (c : ℕ) (db : Tables) (task : Task) → IsCompiledScript s → c < length s.calls → AreRising db → RunsOn s c db task → task.log.records ≡ ((batch_of s).run c db).records → task.ended ≡ true
records_ended s c db task k lt rise runs are =
    let has = k.1.there c lt in
    let on : IsTaskOn has.1 has.0 db task = runs has.0 has.1 has.2 in
    let all : task.log.records ≡ task.log.records ++ on.rest = are ∙ (ap (λ (r : Run). r.records) (run_is s c has.0 has.1 db has.2) ∙ on.leaves) in
    (ends_exactly has.1 has.0 db task on.rest on.is rise on.leaves).1 (none_more task.log.records on.rest all)
  where
    none_more : (xs ys : List Record) → xs ≡ xs ++ ys → ys ≡ []
    none_more xs [] e = refl
    none_more xs (y ∷ ys) e = let long = ap length e in let both = length-append xs (y ∷ ys) in absurd (omega (arith, long, both))

-- Held calls

-- its pass has seen more
pub executed_more : (w : Batch) (seen order : List ℕ) (c n : ℕ) (from : Option ℕ) (t : Task) → IsPrefix seen order → n ≤ length seen → IsExecuted w seen c from n t → IsExecuted w order c from n t
executed_more w seen order c n None t p le e = e
executed_more w seen order c n (Some from) t p le e = (e.0, e.1, e.2 ∙ sym (repair_prefix w seen order c from n p e.0 le))

pub held_learns : (s : BoardScript) (h : Holding) (start : Started) → IsHeld s h → start.number ≡ h.start.number → IsPrefix h.start.knows.seen start.knows.seen → IsHeld s (record h { start = start })
held_learns s h start k number p =
    let longer = prefix_length h.start.knows.seen start.knows.seen p in
    record {
      there = k.there;
      sound = k.sound;
      past = let past = k.past in omega (arith, number, longer, past);
      runs =
          subst (λ n. RunsOn (script_in s) h.call (table_at (batch s) start.knows.seen n) h.task) (sym number)
          (subst (λ (db : Tables). RunsOn (script_in s) h.call db h.task) (sym (table_prefix (batch s) h.start.knows.seen start.knows.seen h.start.number p k.past)) k.runs);
      executed =
          subst (λ n. IsExecuted (batch s) start.knows.seen h.call h.from n h.task) (sym number)
          (executed_more (batch s) h.start.knows.seen start.knows.seen h.call h.start.number h.from h.task p k.past k.executed);
    }

-- a whole run goes on
executed_on : (w : Batch) (seen : List ℕ) (c n : ℕ) (from : Option ℕ) (old new : Task) → old.ended ≡ false → CountsAll old new → IsExecuted w seen c from n old → IsExecuted w seen c from n new
executed_on w seen c n None old new left counts e = let all = counts.executed in omega (arith, all, e)
executed_on w seen c n (Some from) old new left counts e = let no : false ≡ true = sym left ∙ e.1 in absurd (search (rules, no))

pub held_ran : (s : BoardScript) (h : Holding) (task : Task) → IsHeld s h → h.task.ended ≡ false → CountsAll h.task task → RunsOn (script_in s) h.call (table_at (batch s) h.start.knows.seen h.start.number) task → IsHeld s (record h { task = task })
held_ran s h task k left counts runs = record {
  there = k.there;
  sound = k.sound;
  past = k.past;
  runs = runs;
  executed = executed_on (batch s) h.start.knows.seen h.call h.start.number h.from h.task task left counts k.executed;
}

pub counts_unchanged : (old new : Task) → IsUnchanged old new → CountsAll old new
counts_unchanged old new same =
    let long = ap length same.records in
    let executed = same.executed in
    record { executed = omega (arith, long, executed); more = omega (arith, long) }

pub counts_one : (old new : Task) → HasRunOne old new → CountsAll old new
counts_one old new one =
    let records = one.records in
    let executed = one.executed in
    record { executed = omega (arith, records, executed); more = omega (arith, records) }

-- a call before its first statement
pub held_new : (s : BoardScript) (c : ℕ) (start : Started) (task : Task) (script : CompiledScript) → c < length s.calls → IsCompiledScript (script_in s) → start.number ≤ length start.knows.seen → script ≡ script_in s → ((db : Tables) → RunsOn script c db task)
    → task.log.records ≡ [] → task.executed ≡ 0 → IsHeld s (record { call = c; start = start; from = None; task = task })
held_new s c start task script there sound past is runs none zero = record {
  there = there;
  sound = sound;
  past = past;
  runs = subst (λ (x : CompiledScript). RunsOn x c (table_at (batch s) start.knows.seen start.number) task) is (runs (table_at (batch s) start.knows.seen start.number));
  executed = zero ∙ sym (ap length none);
}

-- a call that was run whole from nothing
pub held_whole : (s : BoardScript) (c : ℕ) (start : Started) (old task : Task) → c < length s.calls → IsCompiledScript (script_in s) → start.number ≤ length start.knows.seen → old.log.records ≡ [] → old.executed ≡ 0 → CountsAll old task
    → RunsOn (script_in s) c (table_at (batch s) start.knows.seen start.number) task → IsHeld s (record { call = c; start = start; from = None; task = task })
held_whole s c start old task there sound past none zero counts runs = record {
  there = there;
  sound = sound;
  past = past;
  runs = runs;
  executed = let all = counts.executed in let long = ap length none in omega (arith, all, long, zero);
}

-- Repairs

pub may_repair : (s : BoardScript) (r : Repairing) (db : Tables) → IsRepairing s r → db ≡ table_at (batch s) r.start.knows.seen r.start.number → CanRepair (script_in s) r.call r.task (changes_since r.since) db
may_repair s r db k is =
    can_repair (script_in s) r.start.knows.seen r.call r.from r.task (changes_in r.since) db k.sound k.runs k.ended k.since (is ∙ ap (λ n. table_at (batch s) r.start.knows.seen n) k.last)

-- what it executes
pub repaired_count : (w : Batch) (c from : ℕ) (seen : List ℕ) (cs : List Committed) (old new : List Record) → changes_in cs ≡ since w seen from → old ≡ records_at w seen from c → new ≡ records_at w seen (length seen) c
    → executions old new (changes_since cs) ≡ repair_run w seen c from (length seen)
repaired_count w c from seen cs old new are is now =
    ap (λ (rs : List Record). executions rs new (changes_since cs)) is
    ∙ (ap (λ (rs : List Record). executions (records_at w seen from c) rs (changes_since cs)) now
    ∙ ap (executions (records_at w seen from c) (records_at w seen (length seen) c)) (ap (flat_map (λ (changes : List Change). changes)) are ∙ sym (changes_to_last w seen from)))

pub held_repaired : (s : BoardScript) (r : Repairing) (task : Task) → IsRepairing s r → RunsOn (script_in s) r.call (table_at (batch s) r.start.knows.seen r.start.number) task
    → task.log.records ≡ records_at (batch s) r.start.knows.seen r.start.number r.call → task.executed ≡ executions r.task.log.records task.log.records (changes_since r.since)
    → IsHeld s (record { call = r.call; start = r.start; from = Some r.from; task = task }) × (task.ended ≡ true)
held_repaired s r task k runs are executed = (
  record {
    there = k.there;
    sound = k.sound;
    past = let last = k.last in omega (arith, last);
    runs = runs;
    executed = (
      k.before,
      ended,
      executed
          ∙ (repaired_count (batch s) r.call r.from r.start.knows.seen r.since r.task.log.records task.log.records k.since
          (ended_records (script_in s) r.call (table_at (batch s) r.start.knows.seen r.from) r.task k.sound k.there (tables_rise (script_in s) r.start.knows.seen r.from k.sound) k.runs k.ended)
          (are ∙ ap (λ n. records_at (batch s) r.start.knows.seen n r.call) k.last)
          ∙ ap (repair_run (batch s) r.start.knows.seen r.call r.from) (sym k.last)),
    );
  },
  ended,
) where
  ended : task.ended ≡ true
  ended = records_ended (script_in s) r.call (table_at (batch s) r.start.knows.seen r.start.number) task k.sound k.there (tables_rise (script_in s) r.start.knows.seen r.start.number k.sound) runs are

-- A call that runs on

-- a run on the tables that a view shows
pub runs_here : (s : BoardScript) (script : CompiledScript) (c : ℕ) (shown db : Tables) (t : Task) → script ≡ script_in s → shown ≡ db → RunsOn script c shown t → RunsOn (script_in s) c db t
runs_here s script c shown db t is shows runs = subst (λ (x : CompiledScript). RunsOn x c db t) is (subst (λ (d : Tables). RunsOn script c d t) shows runs)

-- a statement more
pub held_stepped : (s : BoardScript) (h : Holding) (start : Started) (task : Task) → IsHeld s h → start ≡ h.start → h.task.ended ≡ false → HasRunOne h.task task → RunsOn (script_in s) h.call (table_at (batch s) h.start.knows.seen h.start.number) task
    → IsHeld s (record { call = h.call; start = start; from = h.from; task = task })
held_stepped s h start task k same left one runs =
    subst (λ (x : Started). IsHeld s (record { call = h.call; start = x; from = h.from; task = task })) (sym same) (held_ran s h task k left (counts_one h.task task one) runs)

-- none, and its pass has seen more
pub held_refused : (s : BoardScript) (h : Holding) (mid start : Started) (task : Task) → IsHeld s h → mid ≡ h.start → start.number ≡ mid.number → IsPrefix mid.knows.seen start.knows.seen → h.task.ended ≡ false → IsUnchanged h.task task
    → RunsOn (script_in s) h.call (table_at (batch s) h.start.knows.seen h.start.number) task → IsHeld s (record { call = h.call; start = start; from = h.from; task = task })
held_refused s h mid start task k same number p left unchanged runs =
    held_learns s (record h { task = task }) start (held_ran s h task k left (counts_unchanged h.task task unchanged) runs) (number ∙ ap (λ (x : Started). x.number) same)
    (subst (λ (x : Started). IsPrefix x.knows.seen start.knows.seen) same p)

-- Late calls

pub late_made : (s : BoardScript) (c n : ℕ) (start : Started) → c < length s.calls → IsCompiledScript (script_in s) → start.number ≡ n → IsPast s.options.horizon n (length start.knows.seen) → IsLate s (record { call = c; start = start })
late_made s c n start there sound number past = record {
  waits = record { there = there; sound = sound };
  past = subst (λ k. IsPast s.options.horizon k (length start.knows.seen)) (sym number) past;
}

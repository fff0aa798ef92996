-- A commit in the history, after the shards have it.
use Rattle.std.proofs.Common.{Bool, true, false, not, ◌≡◌, ◌≤◌, ◌<◌, ℕ, List, Some, None, length, refl, sym, ap, subst, ◌∙◌, arith, rules}
use Rattle.std.proofs.lemmas.Bool.{le-ltb, lt-ltb}
use Rattle.mv_values.specs.Tables.{Tables}
use Rattle.mv_record.specs.declared.record.Record.{Record}
use Rattle.mv_record.specs.Runs.{Run}
use Rattle.mv_history.specs.Changes.{changes_between}
use Rattle.mv_history.specs.Kept.{executions}
use Rattle.mv_changes.specs.declared.recent.Committed.{Committed}
use Rattle.mv_changes.specs.Commits.{changes_in}
use Rattle.mv_repair.specs.Repairing.{changes_since}
use Rattle.mv_exec.specs.declared.task.Task.{Task}
use Rattle.mv_view.specs.declared.view.Refused.{Refused}
use Rattle.mv_view.specs.declared.view.Refused.TheVariants as refused
use Rattle.mv_journal.specs.declared.event.Event.TheVariants.{A, M, C, X}
use Rattle.mv_journal.specs.declared.outcome.Mark.TheVariants.{Plain, Exclusive, Moved}
use Rattle.mv_lawful.specs.Batch.{table_at, records_at, hit_of, since}
use Rattle.mv_lawful.specs.declared.fault.EventFault.TheVariants.{Stale, Conflict, Idle, Rounds}
use Rattle.mv_lawful.specs.Lawful.{Live, Schedule, beginning, again, is_stale, is_hit, has_round, unless, refusal, schedule_of, AllAllowed}
use Rattle.mv_lawful.specs.Rounds.{repair_run}
use Rattle.mv_seats.specs.Scripts.{BoardScript}
use Rattle.mv_script.specs.declared.script.CompiledScript.{CompiledScript}
use Rattle.mv_script.specs.Scripts.{IsCompiledScript, batch_of}
use Rattle.mv_script.proofs.Databases.{tables_rise}
use Rattle.mv_shards.specs.Scripts.{script_in, batch}
use Rattle.mv_shards.specs.Histories.{tables_at}
use Rattle.mv_shards.specs.Ledgers.{Entered}
use Rattle.mv_core.specs.Calls.{IsLive, IsLiveCall, due_number}
use Rattle.mv_core.specs.Books.{Booked, batch_in, last_tables, last_run, last_changes, start_run, Made, IsSame, IsNotStale, IsNoReader, AreRecordsOf, IsOwnNumber, IsStaleAt, HasRefused}
use Rattle.mv_core.specs.Cores.{RunsOn, HasRoundStarts}
use Rattle.mv_core.proofs.Stored.{unhit_records, commit_free}
use Rattle.mv_core.proofs.Taking.{one_live}
use Rattle.mv_core.proofs.Turning.{none_hit}
use Rattle.mv_core.proofs.Refusing.{may_commit, live_is, refused_stale, if_writes, commit_writes, repair_writes}
use Rattle.mv_core.proofs.Changed.{live_restarted, due_decided, due_made, due_restarted}
use Rattle.mv_core.proofs.Moving.{live_moved, due_moved}
use Rattle.mv_gate.specs.Gates.{IsWhole, IsLatest, HasRepaired, MayMove}
use Rattle.mv_gate.proofs.Schedulers.{HasSeen, stale_past}
use Rattle.mv_gate.proofs.Running.{records_ended, repaired_count}

-- What the ledger's history tells of the book's

-- a run after all commits
pub run_here : (s : BoardScript) (b : Booked) (ledger : Entered) (c : ℕ) → b.script ≡ script_in s → HasSeen ledger b.schedule.order → (batch s).run c (tables_at s ledger.knows.seen ledger.commits) ≡ last_run b c
run_here s b ledger c script h =
    ap (λ (x : CompiledScript). (batch_of x).run c (table_at (batch_of x) ledger.knows.seen ledger.commits)) (sym script)
    ∙ (ap (λ (xs : List ℕ). (batch_in b).run c (table_at (batch_in b) xs ledger.commits)) h.seen ∙ ap (λ n. (batch_in b).run c (table_at (batch_in b) b.schedule.order n)) h.commits)

pub reply_here : (s : BoardScript) (b : Booked) (ledger : Entered) (c : ℕ) → b.script ≡ script_in s → HasSeen ledger b.schedule.order → ((batch s).run c (tables_at s ledger.knows.seen ledger.commits)).reply ≡ (last_run b c).reply
reply_here s b ledger c script h = ap (λ (r : Run). r.reply) (run_here s b ledger c script h)

pub tables_here : (s : BoardScript) (b : Booked) (ledger : Entered) → b.script ≡ script_in s → HasSeen ledger b.schedule.order → tables_at s ledger.knows.seen ledger.commits ≡ last_tables b
tables_here s b ledger script h =
    ap (λ (x : CompiledScript). table_at (batch_of x) ledger.knows.seen ledger.commits) (sym script)
    ∙ (ap (λ (xs : List ℕ). table_at (batch_in b) xs ledger.commits) h.seen ∙ ap (table_at (batch_in b) b.schedule.order) h.commits)

pub changes_here : (s : BoardScript) (b : Booked) (ledger : Entered) (c : ℕ) → b.script ≡ script_in s → HasSeen ledger b.schedule.order
    → changes_between (tables_at s ledger.knows.seen ledger.commits) ((batch s).run c (tables_at s ledger.knows.seen ledger.commits)).tables ≡ last_changes b c
changes_here s b ledger c script h =
    ap (λ db. changes_between db ((batch s).run c (tables_at s ledger.knows.seen ledger.commits)).tables) (tables_here s b ledger script h)
    ∙ ap (λ (r : Run). changes_between (last_tables b) r.tables) (run_here s b ledger c script h)

pub records_here : (s : BoardScript) (b : Booked) (ledger : Entered) (c : ℕ) (rs : List Record) → b.script ≡ script_in s → HasSeen ledger b.schedule.order → rs ≡ records_at (batch_in b) b.schedule.order (length b.schedule.order) c
    → rs ≡ records_at (batch s) ledger.knows.seen ledger.commits c
records_here s b ledger c rs script h are = are ∙ ap (λ (r : Run). r.records) (sym (run_here s b ledger c script h))

-- A call that may commit

-- the records at its start are those after all commits
pub free_last : (b : Booked) (c : ℕ) (rs : List Record) → IsCompiledScript b.script → c < length b.script.calls → IsLiveCall b.schedule c → AreRecordsOf b c rs → refusal (batch_in b) b.schedule (C c) ≡ None → rs ≡ records_at (batch_in b) b.schedule.order (length b.schedule.order) c
free_last b c rs sound there live are free =
    are live.0 live.1 ∙ sym (unhit_records b.script b.schedule.order c live.0.start sound there (commit_free (batch_in b) b.schedule c live.0 live.1 free).1)

-- the same records, of a history with the same commits
pub last_on : (old new : Booked) (c : ℕ) (rs : List Record) → IsSame old new → rs ≡ records_at (batch_in old) old.schedule.order (length old.schedule.order) c → rs ≡ records_at (batch_in new) new.schedule.order (length new.schedule.order) c
last_on old new c rs same are =
    are
    ∙ (ap (λ (s : Schedule). records_at (batch_in old) s.order (length s.order) c) (sym same.schedule) ∙ ap (λ (s : CompiledScript). records_at (batch_of s) new.schedule.order (length new.schedule.order) c) (sym same.script))

pub fresh_free : (b : Booked) (c : ℕ) → refusal (batch_in b) b.schedule (C c) ≡ None → IsNotStale b c
fresh_free b c free l live = (commit_free (batch_in b) b.schedule c l live free).0

-- A repair in the step of its commit

pub own_decided : (b : Booked) (c : ℕ) (t : Task) → IsLiveCall b.schedule c → ((l : Live) → IsLive b.schedule c l → HasRoundStarts (length b.schedule.order) l) → HasRepaired b c t → IsOwnNumber (Some t.executed) b c
own_decided b c t live round_starts repaired = due_decided b c live.0 live.1 (round_starts live.0 live.1) ∙ ap Some (sym (repaired live.0 live.1))

-- A repair or a move

pub apart : Plain ≡ Exclusive → ⊥
apart e = search (rules, e)

-- the law of journals refuses no move of a live call
pub move_allowed : (b : Booked) (c : ℕ) → IsLiveCall b.schedule c → refusal (batch_in b) b.schedule (M c) ≡ None
move_allowed b c live = live_is b.schedule c (λ l. None) live.0 live.1

-- after a repair the call starts after all commits
pub again_last : (b new : Booked) (c : ℕ) → IsLiveCall b.schedule c → Made (A c) b new → (m : Live) → IsLive new.schedule c m → m.start ≡ length new.schedule.order
again_last b new c live made m at =
    let next : Live = again (length b.schedule.order) Plain live.0 in
    let order : new.schedule.order ≡ b.schedule.order = ap (λ (s : Schedule). s.order) made.schedule in
    sym (ap (λ (x : Live). x.start) (one_live new.schedule c next m (live_restarted Plain c b new live.0 apart live.1 made) at)) ∙ ap length (sym order)

-- so no commit hits it, and its task has run whole
pub again_free : (b new : Booked) (c : ℕ) → new.schedule.low ≤ length new.schedule.order → IsLiveCall b.schedule c → Made (A c) b new → refusal (batch_in new) new.schedule (C c) ≡ None
again_free b new c below live made =
    let next : Live = again (length b.schedule.order) Plain live.0 in
    let here : IsLive new.schedule c next = live_restarted Plain c b new live.0 apart live.1 made in
    let last = again_last b new c live made next here in
    let writes : (batch_in b).read_only c ≡ false = repair_writes b c live.0 None live.1 made.allowed (λ e. search (rules, e)) in
    may_commit (batch_in new) new.schedule c next (ap (λ (s : CompiledScript). (batch_of s).read_only c) made.script ∙ writes) here (le-ltb next.start new.schedule.low (omega (arith, last, below))) (ap (λ n. hit_of (batch_in new) new.schedule.order n c) last ∙ none_hit (batch_in new) new.schedule.order c)

pub again_whole : (b new : Booked) (c : ℕ) (t : Task) → IsLiveCall b.schedule c → c < length b.script.calls → ((l : Live) → IsLive b.schedule c l → HasRoundStarts (length b.schedule.order) l) → Made (A c) b new → IsLatest b c t → HasRepaired b c t → IsWhole new c t
again_whole b new c t live there round_starts made latest repaired =
    let next : Live = again (length b.schedule.order) Plain live.0 in
    let order : new.schedule.order ≡ b.schedule.order = ap (λ (s : Schedule). s.order) made.schedule in
    let last = again_last b new c live made in
    record {
      live = (next, live_restarted Plain c b new live.0 apart live.1 made);
      there = subst (λ (s : CompiledScript). c < length s.calls) (sym made.script) there;
      runs = λ l at.
          subst (λ (s : CompiledScript). RunsOn s c (table_at (batch_of s) new.schedule.order l.start) t) (sym made.script)
          (subst (λ n. RunsOn b.script c (table_at (batch_in b) new.schedule.order n) t) (sym (last l at)) (subst (λ (o : List ℕ). RunsOn b.script c (table_at (batch_in b) o (length o)) t) (sym order) latest.runs));
      ended = latest.ended;
      records = λ l at.
          latest.records
          ∙ (ap (λ (s : CompiledScript). records_at (batch_of s) b.schedule.order (length b.schedule.order) c) (sym made.script)
          ∙ (ap (λ (o : List ℕ). records_at (batch_in new) o (length o) c) (sym order) ∙ ap (λ n. records_at (batch_in new) new.schedule.order n c) (sym (last l at))));
      number = λ none. due_made Plain b new c t.executed made (due_restarted Plain b c live.0 apart live.1 (round_starts live.0 live.1) ∙ ap Some (sym (repaired live.0 live.1)));
    }

-- after a move no commit hits the call
pub moved_free : (b new : Booked) (c : ℕ) → IsNoReader b c → b.schedule.low ≤ length b.schedule.order → IsLiveCall b.schedule c → Made (M c) b new → refusal (batch_in new) new.schedule (C c) ≡ None
moved_free b new c writes below live made =
    let n : ℕ = length b.schedule.order in
    let order : n ≡ length new.schedule.order = sym (ap (λ (s : Schedule). length s.order) made.schedule) in
    may_commit (batch_in new) new.schedule c (again n Moved live.0) (ap (λ (s : CompiledScript). (batch_of s).read_only c) made.script ∙ writes) (live_moved c b new live.0 live.1 made) (le-ltb n new.schedule.low (let low = ap (λ (s : Schedule). s.low) made.schedule in omega (arith, low, below)))
    (ap (λ m. hit_of (batch_in new) new.schedule.order m c) order ∙ none_hit (batch_in new) new.schedule.order c)

-- the number of its round is that of a whole run
pub moved_number : (b new : Booked) (c : ℕ) (t : Task) → IsLiveCall b.schedule c → Made (M c) b new → IsLatest b c t → t.executed ≡ length t.log.records → due_number (batch_in new) new.schedule c ≡ Some t.executed
moved_number b new c t live made latest all = due_made Moved b new c t.executed made (due_moved b c live.0 live.1 ∙ ap Some (sym (all ∙ ap length latest.records)))

-- it starts after all commits
pub moved_last : (b new : Booked) (c : ℕ) → IsLiveCall b.schedule c → Made (M c) b new → (m : Live) → IsLive new.schedule c m → m.start ≡ length new.schedule.order
moved_last b new c live made m at =
    let next : Live = again (length b.schedule.order) Moved live.0 in
    let order : new.schedule.order ≡ b.schedule.order = ap (λ (s : Schedule). s.order) made.schedule in
    sym (ap (λ (x : Live). x.start) (one_live new.schedule c next m (live_moved c b new live.0 live.1 made) at)) ∙ ap length (sym order)

-- so it isn't stale, and its reply is that of a run after all commits
pub moved_fresh : (b new : Booked) (c : ℕ) → b.schedule.low ≤ length b.schedule.order → IsLiveCall b.schedule c → Made (M c) b new → IsNotStale new c
moved_fresh b new c below live made m at =
    let last = moved_last b new c live made m at in
    let order : length new.schedule.order ≡ length b.schedule.order = ap (λ (s : Schedule). length s.order) made.schedule in
    let low : new.schedule.low ≡ b.schedule.low = ap (λ (s : Schedule). s.low) made.schedule in
    le-ltb m.start new.schedule.low (omega (arith, last, order, low, below))

pub moved_reply : (b new : Booked) (c : ℕ) → IsLiveCall b.schedule c → Made (M c) b new → (m : Live) → IsLive new.schedule c m → (last_run new c).reply ≡ (start_run new c m).reply
moved_reply b new c live made m at = ap (λ n. ((batch_in new).run c (table_at (batch_in new) new.schedule.order n)).reply) (sym (moved_last b new c live made m at))

-- An answer

-- a call that isn't stale isn't refused as one
not_refused : (b : Booked) (c start low : ℕ) → IsNotStale b c → IsStaleAt b c start low → ⊥
not_refused b c start low fresh h =
    let at = h.start_is in
    let is = h.low_is in
    let less = h.stale in
    let both : true ≡ false = sym (lt-ltb h.live.start b.schedule.low (omega (arith, at, is, less))) ∙ fresh h.live h.is_live in
    search (rules, both)

pub must_answer : (c : ℕ) (why : Refused) (old new : Booked) → (why ≡ refused.NoMemory → ⊥) → IsNotStale old c → HasRefused c why old new → ⊥
must_answer c refused.NoMemory old new never fresh h = never refl
must_answer c (refused.Stale start low) old new never fresh h = not_refused old c start low fresh h.0

-- A task after all commits

pub latest_of : (b : Booked) (c : ℕ) (t : Task) (script : CompiledScript) (db : Tables) → IsCompiledScript b.script → c < length b.script.calls → script ≡ b.script → db ≡ last_tables b → RunsOn script c db t → t.log.records ≡ ((batch_of script).run c db).records → IsLatest b c t
latest_of b c t script db sound there is last runs are =
    let here : RunsOn b.script c (last_tables b) t = subst (λ (x : Tables). RunsOn b.script c x t) last (subst (λ (x : CompiledScript). RunsOn x c db t) is runs) in
    let all : t.log.records ≡ records_at (batch_in b) b.schedule.order (length b.schedule.order) c =
    are ∙ (ap (λ (x : CompiledScript). ((batch_of x).run c db).records) is ∙ ap (λ (x : Tables). ((batch_in b).run c x).records) last) in
    record {
      runs = here;
      ended = records_ended b.script c (last_tables b) t sound there (tables_rise b.script b.schedule.order (length b.schedule.order) sound) here all;
      records = all;
    }

pub repaired_of : (b : Booked) (c : ℕ) (l : Live) (old new : Task) (cs : List Committed) → IsLive b.schedule c l → changes_in cs ≡ since (batch_in b) b.schedule.order l.start → old.log.records ≡ records_at (batch_in b) b.schedule.order l.start c
    → new.log.records ≡ records_at (batch_in b) b.schedule.order (length b.schedule.order) c → new.executed ≡ executions old.log.records new.log.records (changes_since cs) → HasRepaired b c new
repaired_of b c l old new cs live are was now executed m at =
    executed
    ∙ (repaired_count (batch_in b) c l.start b.schedule.order cs old.log.records new.log.records are was now
    ∙ ap (λ (x : Live). repair_run (batch_in b) b.schedule.order c x.start (length b.schedule.order)) (one_live b.schedule c l m live at))

-- what a whole run within a hold leaves
pub latest_here : (s : BoardScript) (b : Booked) (ledger : Entered) (c : ℕ) (t : Task) → b.script ≡ script_in s → HasSeen ledger b.schedule.order → RunsOn (script_in s) c (tables_at s ledger.knows.seen ledger.commits) t → t.ended ≡ true
    → t.log.records ≡ records_at (batch s) ledger.knows.seen ledger.commits c → IsLatest b c t
latest_here s b ledger c t script h runs ended are = record {
  runs = subst (λ (x : CompiledScript). RunsOn x c (last_tables b) t) (sym script) (subst (λ (x : Tables). RunsOn (script_in s) c x t) (tables_here s b ledger script h) runs);
  ended = ended;
  records = are ∙ ap (λ (r : Run). r.records) (run_here s b ledger c script h);
}

-- the same records, of a ledger that has seen no more
pub last_kept : (s : BoardScript) (old new : Entered) (c : ℕ) (rs : List Record) → rs ≡ records_at (batch s) old.knows.seen old.commits c → new.knows.seen ≡ old.knows.seen → new.commits ≡ old.commits → rs ≡ records_at (batch s) new.knows.seen new.commits c
last_kept s old new c rs are seen commits = are ∙ (ap (λ (xs : List ℕ). records_at (batch s) xs old.commits c) (sym seen) ∙ ap (λ n. records_at (batch s) new.knows.seen n c) (sym commits))

-- What the law of journals tells of a call that has run whole

hit_writes : (b : Booked) (c : ℕ) (l : Live) → IsLive b.schedule c l → refusal (batch_in b) b.schedule (C c) ≡ Some Conflict → (batch_in b).read_only c ≡ false
hit_writes b c l live hit = commit_writes b c l (Some Conflict) live hit (λ e. search (rules, e))

pub hit_fresh : (b : Booked) (c : ℕ) → refusal (batch_in b) b.schedule (C c) ≡ Some Conflict → IsNotStale b c
hit_fresh b c hit l live = by (is_stale b.schedule l) refl where
  by : (r : Bool) → is_stale b.schedule l ≡ r → is_stale b.schedule l ≡ false
  by false is = is
  by true is =
      let law : refusal (batch_in b) b.schedule (C c) ≡ unless (not true) Stale (unless (not (is_hit (batch_in b) b.schedule c l)) Conflict None) =
      if_writes (batch_in b) b.schedule c (λ x. unless (not (is_stale b.schedule x)) Stale (unless (not (is_hit (batch_in b) b.schedule c x)) Conflict None)) l (hit_writes b c l live hit) live
      ∙ ap (λ r. unless (not r) Stale (unless (not (is_hit (batch_in b) b.schedule c l)) Conflict None)) is in
      let both : Some Stale ≡ Some Conflict = sym law ∙ hit in
      absurd (search (rules, both))

hit_is : (b : Booked) (c : ℕ) (l : Live) → IsLive b.schedule c l → refusal (batch_in b) b.schedule (C c) ≡ Some Conflict → is_hit (batch_in b) b.schedule c l ≡ true
hit_is b c l live hit = by (is_stale b.schedule l) (is_hit (batch_in b) b.schedule c l) refl (sym (if_writes (batch_in b) b.schedule c (λ x. unless (not (is_stale b.schedule x)) Stale (unless (not (is_hit (batch_in b) b.schedule c x)) Conflict None)) l (hit_writes b c l live hit) live) ∙ hit) where
  by : (s h : Bool) → is_hit (batch_in b) b.schedule c l ≡ h → unless (not s) Stale (unless (not h) Conflict None) ≡ Some Conflict → is_hit (batch_in b) b.schedule c l ≡ true
  by s true is e = is
  by false false is e = absurd (search (rules, e))
  by true false is e = absurd (search (rules, e))

pub may_repair : (b : Booked) (c : ℕ) (l : Live) → IsLive b.schedule c l → refusal (batch_in b) b.schedule (C c) ≡ Some Conflict → has_round (batch_in b) l ≡ true → refusal (batch_in b) b.schedule (A c) ≡ None
may_repair b c l live hit left =
    if_writes (batch_in b) b.schedule c (λ x. unless (not (is_stale b.schedule x)) Stale (unless (is_hit (batch_in b) b.schedule c x) Idle (unless (has_round (batch_in b) x) Rounds None))) l (hit_writes b c l live hit) live
    ∙ (ap (λ r. unless (not r) Stale (unless (is_hit (batch_in b) b.schedule c l) Idle (unless (has_round (batch_in b) l) Rounds None))) (hit_fresh b c hit l live)
    ∙ (ap (λ r. unless r Idle (unless (has_round (batch_in b) l) Rounds None)) (hit_is b c l live hit) ∙ ap (λ r. unless r Rounds None) left))

pub may_decide : (b : Booked) (c : ℕ) (l : Live) → IsLive b.schedule c l → refusal (batch_in b) b.schedule (C c) ≡ Some Conflict → has_round (batch_in b) l ≡ false → refusal (batch_in b) b.schedule (X c) ≡ None
may_decide b c l live hit none =
    if_writes (batch_in b) b.schedule c (λ x. unless (not (is_stale b.schedule x)) Stale (unless (is_hit (batch_in b) b.schedule c x) Idle (unless (not (has_round (batch_in b) x)) Rounds None))) l (hit_writes b c l live hit) live
    ∙ (ap (λ r. unless (not r) Stale (unless (is_hit (batch_in b) b.schedule c l) Idle (unless (not (has_round (batch_in b) l)) Rounds None))) (hit_fresh b c hit l live)
    ∙ (ap (λ r. unless r Idle (unless (not (has_round (batch_in b) l)) Rounds None)) (hit_is b c l live hit) ∙ ap (λ r. unless (not r) Rounds None) none))

-- a stale call may move
pub stale_moves : (b : Booked) (c : ℕ) → AllAllowed (batch_in b) beginning b.journal → b.schedule ≡ schedule_of (batch_in b) b.journal → IsLiveCall b.schedule c → c < length b.script.calls
    → ((l : Live) → IsLive b.schedule c l → refusal (batch_in b) b.schedule (C c) ≡ Some Stale) → MayMove b c
stale_moves b c allowed reaches live there stale = record {
  live = live;
  there = there;
  past = λ l at. stale_past b c l allowed reaches at (refused_stale (batch_in b) b.schedule c l (commit_writes b c l (Some Stale) at (stale l at) (λ e. search (rules, e))) at (stale l at));
}

-- a call that isn't stale isn't told so
pub not_stale : (b : Booked) (c : ℕ) → IsNotStale b c → IsLiveCall b.schedule c → refusal (batch_in b) b.schedule (C c) ≡ Some Stale → ⊥
not_stale b c fresh live stale =
    let both : true ≡ false = sym (refused_stale (batch_in b) b.schedule c live.0 (commit_writes b c live.0 (Some Stale) live.1 stale (λ e. search (rules, e))) live.1 stale) ∙ fresh live.0 live.1 in
    search (rules, both)

pub told_moves : (b : Booked) (c : ℕ) → AllAllowed (batch_in b) beginning b.journal → b.schedule ≡ schedule_of (batch_in b) b.journal → IsLiveCall b.schedule c → c < length b.script.calls → ((l : Live) → IsLive b.schedule c l → is_stale b.schedule l ≡ true) → MayMove b c
told_moves b c allowed reaches live there stale = record { live = live; there = there; past = λ l at. stale_past b c l allowed reaches at (stale l at) }

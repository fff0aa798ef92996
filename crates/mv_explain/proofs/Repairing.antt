-- The two runs of a repair, and its lines.
use Rattle.std.proofs.Common.{◌≡◌, ℕ, ◌+◌, ◌<◌, Bool, true, false, List, [], ◌∷◌, ◌++◌, Option, None, length, refl, sym, ap, subst, ◌∙◌, arith, rules, length-append}
use Rattle.std.specs.Prelude.{◌≢◌, not, slice_get}
use Rattle.std.proofs.lemmas.Bool.{lt-ltb}
use Rattle.mv_values.specs.declared.calls.Call.{Call}
use Rattle.mv_values.specs.declared.schema.TableInfo.{TableInfo}
use Rattle.mv_values.specs.Tables.{Tables}
use Rattle.mv_record.specs.declared.record.Record.{Record}
use Rattle.mv_record.specs.Runs.{Run}
use Rattle.mv_graph.specs.declared.graph.Graph.{Graph}
use Rattle.mv_history.specs.declared.change.Change.{Change}
use Rattle.mv_history.proofs.Judging.{all_of}
use Rattle.mv_soundness.specs.Laws.{AreRuns}
use Rattle.mv_changes.specs.declared.recent.Committed.{Committed}
use Rattle.mv_changes.specs.Commits.{changes_in, AreNumbered}
use Rattle.mv_why.specs.Causes.{changes_since}
use Rattle.mv_why.specs.Laws.{AreFullRuns}
use Rattle.mv_why.specs.Text.{repair_text}
use Rattle.mv_journal.specs.declared.event.Event.{Event}
use Rattle.mv_journal.specs.declared.event.Event.TheVariants.{B, S, A, M, C, X, R, G}
use Rattle.mv_journal.specs.declared.outcome.Mark.TheVariants.{Plain, Exclusive}
use Rattle.mv_lawful.specs.declared.fault.EventFault.{EventFault}
use Rattle.mv_lawful.specs.declared.fault.EventFault.TheVariants.{Kind, Stale, Idle, Rounds}
use Rattle.mv_lawful.specs.Batch.{Batch, table_at, records_at, since}
use Rattle.mv_lawful.specs.Lawful.{Live, Schedule, is_stale, is_hit, has_round, unless, refusal, again}
use Rattle.mv_script.specs.declared.script.CompiledScript.{CompiledScript}
use Rattle.mv_script.specs.Scripts.{IsCompiledScript, batch_of}
use Rattle.mv_core.specs.Calls.{IsLive, IsLiveCall}
use Rattle.mv_core.specs.Books.{Booked, batch_in, Made}
use Rattle.mv_core.specs.Cores.{Cored, IsStaleAt, AreOfLast, HasAllRecords, records_in}
use Rattle.mv_core.proofs.Stored.{are_runs, run_is}
use Rattle.mv_core.proofs.Journals.{live_at}
use Rattle.mv_core.proofs.Changed.{live_restarted}
use Rattle.mv_core.proofs.Taking.{one_live}
use Rattle.mv_explain.specs.Text.{commits_from, lines_of, event_lines}
use Rattle.mv_explain.specs.Explained.{AreBefore, IsRepair, IsPast}

-- The runs

pub full_runs : (b : Booked) (c : ℕ) (rs fresh : List Record) (commits : List Committed) → IsCompiledScript b.script → AreBefore b c rs commits → fresh ≡ records_at (batch_in b) b.schedule.order (length b.schedule.order) c
    → AreFullRuns rs fresh (changes_since commits)
full_runs b c rs fresh commits k before new =
    let w : Batch = batch_in b in
    let has = k.1.there c before.number in
    let call : Call = has.0 in
    let g : Graph = has.1 in
    let was : Tables = table_at w b.schedule.order before.live.start in
    let now : Tables = table_at w b.schedule.order (length b.schedule.order) in
    record {
      tables = g.tables;
      procedure = g.procedure;
      call = call;
      was = was;
      now = now;
      runs = subst (λ (cs : List (List Change)). AreRuns g.tables g.procedure call was now (all_of cs)) (sym before.changes) (are_runs b.script b.schedule.order c before.live.start call g k has.2);
      olds = before.records ∙ ap (λ (r : Run). r.records) (run_is b.script c call g was has.2);
      news = new ∙ ap (λ (r : Run). r.records) (run_is b.script c call g now has.2);
    }

-- Calls that may not be repaired

pub past_none : (b : Booked) (c : ℕ) → (IsLiveCall b.schedule c → ⊥) → IsPast b c
past_none b c dead l live = absurd (dead (l, live))

pub past_stale : (b : Booked) (c start low : ℕ) → IsStaleAt b c start low → IsPast b c
past_stale b c start low at l live =
    let one : at.live.start ≡ l.start = ap (λ (x : Live). x.start) (one_live b.schedule c at.live l at.is_live live) in
    let start_is = at.start_is in
    let low_is = at.low_is in
    let stale = at.stale in
    lt-ltb l.start b.schedule.low (omega (arith, one, start_is, low_is, stale))

-- The new records

-- it isn't read only
writes : (b : Bool) (o : Option EventFault) → unless b Kind o ≡ None → o ≡ None
writes true o e = e
writes false o e = absurd (search (rules, e))

not_stale : (stale : Bool) (o : Option EventFault) → unless (not stale) Stale o ≡ None → stale ≡ false
not_stale false o e = refl
not_stale true o e = absurd (search (rules, e))

-- a call that may be repaired is live, and isn't stale
pub may_repair : (w : Batch) (s : Schedule) (e : Event) (c : ℕ) → IsRepair e c → refusal w s e ≡ None → (l : Live) × IsLive s c l × (is_stale s l ≡ false)
may_repair w s (A d) c is free =
    let at = live_at s d (λ l. unless (not (w.read_only d)) Kind (unless (not (is_stale s l)) Stale (unless (is_hit w s d l) Idle (unless (has_round w l) Rounds None)))) free in
    subst (λ n. (l : Live) × IsLive s n l × (is_stale s l ≡ false)) is
    (at.0, at.1, not_stale (is_stale s at.0) (unless (is_hit w s d at.0) Idle (unless (has_round w at.0) Rounds None)) (writes (not (w.read_only d)) _ at.2))
may_repair w s (X d) c is free =
    let at = live_at s d (λ l. unless (not (w.read_only d)) Kind (unless (not (is_stale s l)) Stale (unless (is_hit w s d l) Idle (unless (not (has_round w l)) Rounds None)))) free in
    subst (λ n. (l : Live) × IsLive s n l × (is_stale s l ≡ false)) is
    (at.0, at.1, not_stale (is_stale s at.0) (unless (is_hit w s d at.0) Idle (unless (not (has_round w at.0)) Rounds None)) (writes (not (w.read_only d)) _ at.2))
may_repair w s (B d) c is free = absurd is
may_repair w s (S d) c is free = absurd is
may_repair w s (M d) c is free = absurd is
may_repair w s (C d) c is free = absurd is
may_repair w s (R d) c is free = absurd is
may_repair w s G c is free = absurd is

apart : Plain ≢ Exclusive
apart e = search (rules, e)

-- a call that was repaired is live
pub repaired_live : (old new : Booked) (c : ℕ) → Made (A c) old new → (l : Live) × IsLive new.schedule c l × (l.start ≡ length old.schedule.order)
repaired_live old new c made =
    let has = may_repair (batch_in old) old.schedule (A c) c refl made.allowed in
    (again (length old.schedule.order) Plain has.0, live_restarted Plain c old new has.0 apart has.1 made, refl)

pub repaired_records : (old : Booked) (new : Cored) (c : ℕ) → Made (A c) old new.book → HasAllRecords new c → records_in new c ≡ records_at (batch_in old) old.schedule.order (length old.schedule.order) c
repaired_records old new c made are =
    let live = repaired_live old new.book c made in
    are live.0 live.1
    ∙ (ap (λ n. records_at (batch_in new.book) new.book.schedule.order n c) live.2
    ∙ (ap (λ (s : Schedule). records_at (batch_in new.book) s.order (length old.schedule.order) c) made.schedule
    ∙ ap (λ (s : CompiledScript). records_at (batch_of s) old.schedule.order (length old.schedule.order) c) made.script))

pub decided_order : (old new : Booked) (c : ℕ) → Made (X c) old new → new.schedule.order ≡ old.schedule.order ++ c ∷ []
decided_order old new c made = ap (λ (s : Schedule). s.order) made.schedule

pub decided_some : (old new : Booked) (c : ℕ) → Made (X c) old new → 0 < length new.schedule.order
decided_some old new c made =
    let long = ap length (decided_order old new c made) in
    let more = length-append old.schedule.order (c ∷ []) in
    omega (arith, long, more)

pub decided_records : (old new : Booked) (c : ℕ) (rs : List Record) → Made (X c) old new → AreOfLast new rs → rs ≡ records_at (batch_in old) old.schedule.order (length old.schedule.order) c
decided_records old new c rs made are =
    are old.schedule.order c (decided_order old new c made) ∙ ap (λ (s : CompiledScript). records_at (batch_of s) old.schedule.order (length old.schedule.order) c) made.script

-- The event

pub made_decided : (e : Event) (d c : ℕ) (old new : Booked) → e ≡ X d → IsRepair e c → Made e old new → Made (X c) old new
made_decided e d c old new is repair made = subst (λ k. Made (X k) old new) (subst (λ x. IsRepair x c) is repair) (subst (λ x. Made x old new) is made)

pub is_again : (e : Event) (c : ℕ) → IsRepair e c → ((d : ℕ) → e ≡ X d → ⊥) → e ≡ A c
is_again (A d) c is other = ap A is
is_again (X d) c is other = absurd (other d refl)
is_again (B d) c is other = absurd is
is_again (S d) c is other = absurd is
is_again (M d) c is other = absurd is
is_again (C d) c is other = absurd is
is_again (R d) c is other = absurd is
is_again G c is other = absurd is

-- The lines

numbered_are : (n : ℕ) (cs : List Committed) → AreNumbered n cs → cs ≡ commits_from n (changes_in cs)
numbered_are n [] h = refl
numbered_are n (c ∷ cs) h =
    ap (λ m. record { commit = m; changes = c.changes } ∷ cs) h.0
    ∙ ap (λ (l : List Committed). record { commit = n; changes = c.changes } ∷ l) (numbered_are (n + 1) cs h.1)

live_lines : (tables : List TableInfo) (b : Booked) (c n : ℕ) (rs fresh : List Record) (commits : List Committed) → AreBefore b c rs commits → n ≡ length b.schedule.order
    → fresh ≡ records_at (batch_in b) b.schedule.order (length b.schedule.order) c
    → repair_text tables c n rs fresh commits ≡ lines_of tables (batch_in b) b.schedule.order c (slice_get b.schedule.calls c)
live_lines tables b c n rs fresh commits before is new =
    let w : Batch = batch_in b in
    let order : List ℕ = b.schedule.order in
    let told : commits ≡ commits_from (before.live.start + 1) (since w order before.live.start) =
    numbered_are (before.live.start + 1) commits before.numbers ∙ ap (commits_from (before.live.start + 1)) before.changes in
    ap (λ m. repair_text tables c m rs fresh commits) is
    ∙ (ap (λ (os : List Record). repair_text tables c (length order) os fresh commits) before.records
    ∙ (ap (λ (ns : List Record). repair_text tables c (length order) (records_at w order before.live.start c) ns commits) new
    ∙ (ap (repair_text tables c (length order) (records_at w order before.live.start c) (records_at w order (length order) c)) told
    ∙ ap (lines_of tables w order c) (sym before.is_live.at))))

pub repair_lines : (tables : List TableInfo) (e : Event) (b : Booked) (c n : ℕ) (rs fresh : List Record) (commits : List Committed) → IsRepair e c → AreBefore b c rs commits → n ≡ length b.schedule.order
    → fresh ≡ records_at (batch_in b) b.schedule.order (length b.schedule.order) c
    → repair_text tables c n rs fresh commits ≡ event_lines tables (batch_in b) b.schedule e
repair_lines tables (A d) b c n rs fresh commits is before at new =
    live_lines tables b c n rs fresh commits before at new ∙ ap (λ m. lines_of tables (batch_in b) b.schedule.order m (slice_get b.schedule.calls m)) (sym is)
repair_lines tables (X d) b c n rs fresh commits is before at new =
    live_lines tables b c n rs fresh commits before at new ∙ ap (λ m. lines_of tables (batch_in b) b.schedule.order m (slice_get b.schedule.calls m)) (sym is)
repair_lines tables (B d) b c n rs fresh commits is before at new = absurd is
repair_lines tables (S d) b c n rs fresh commits is before at new = absurd is
repair_lines tables (M d) b c n rs fresh commits is before at new = absurd is
repair_lines tables (C d) b c n rs fresh commits is before at new = absurd is
repair_lines tables (R d) b c n rs fresh commits is before at new = absurd is
repair_lines tables G b c n rs fresh commits is before at new = absurd is

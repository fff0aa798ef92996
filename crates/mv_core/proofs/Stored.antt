-- The tables of a history, and what a store keeps of them.
use Rattle.std.proofs.Common.{◌≡◌, ◌⊎◌, inl, inr, ℕ, zero, suc, ◌+◌, ◌-◌, ◌<◌, ◌≤◌, Bool, true, false, not, List, [], ◌∷◌, ◌++◌, All, Option, Some, None, length, take, drop, is_some, refl, sym, ap, subst, ◌∙◌, arith, length-append, rules}
use Rattle.std.specs.Prelude.{nat_lt, Err}
use Rattle.std.proofs.lemmas.List.{take_all, length-drop}
use Rattle.std.proofs.lemmas.Bool.{le-ltb, ltb-false, cases_eq}
use Rattle.mv_values.specs.declared.calls.Call.{Call}
use Rattle.mv_values.specs.declared.schema.TableInfo.{TableInfo}
use Rattle.mv_values.specs.Patching.{applied}
use Rattle.mv_values.specs.Tables.{Tables}
use Rattle.mv_record.specs.declared.record.Record.{Record}
use Rattle.mv_record.specs.Runs.{Run}
use Rattle.mv_record.specs.Databases.{IsDatabaseOf}
use Rattle.mv_record.specs.Writes.{AreRising}
use Rattle.mv_graph.specs.declared.graph.Graph.{Graph}
use Rattle.mv_graph.specs.Nodes.{meaning_of}
use Rattle.mv_history.specs.declared.change.Change.{Change}
use Rattle.mv_history.specs.declared.change.Hit.{Hit}
use Rattle.mv_history.specs.Changes.{changes_between, Covers}
use Rattle.mv_history.specs.Hits.{is_unhit}
use Rattle.mv_history.proofs.Covering.{changes_cover}
use Rattle.mv_history.proofs.Joining.{covers_join}
use Rattle.mv_history.proofs.Judging.{all_of, no_hit_is_unhit}
use Rattle.mv_changes.specs.Admitting.{AreAdmitted}
use Rattle.mv_repair.proofs.Repairing.{all_of as ended_all}
use Rattle.mv_soundness.specs.Laws.{AreRuns}
use Rattle.mv_soundness.proofs.Unhit.{unhit_same}
use Rattle.mv_lawful.specs.declared.fault.EventFault.TheVariants.{Kind, Stale, Conflict}
use Rattle.mv_exec.specs.declared.task.Task.{Task}
use Rattle.mv_lawful.specs.Batch.{Batch, tables_after, table_at, records_at, changes_after, changes_up_to, since, hit_of}
use Rattle.mv_lawful.specs.Lawful.{Live, Schedule, unless, refusal, after, next_low, is_stale}
use Rattle.mv_lawful.proofs.Turns.{tables_more, length_changes}
use Rattle.mv_journal.specs.declared.event.Event.{Event}
use Rattle.mv_journal.specs.declared.event.Event.TheVariants.{C, G}
use Rattle.mv_view.specs.Viewing.{Sight, MayAnswer}
use Rattle.mv_view.specs.declared.view.Refused.{Refused}
use Rattle.mv_view.specs.declared.view.Refused.TheVariants as refused
use Rattle.mv_store.specs.Stored.{Versioned, database_at, newest, own_writes, IsLike}
use Rattle.mv_store.specs.Changes.{HasPut, HasDropped, HasStamped, HasRaised}
use Rattle.mv_script.specs.declared.script.CompiledScript.{CompiledScript}
use Rattle.mv_script.specs.Scripts.{batch_of, run_in, run_by, IsCallOf, CanRun, IsScriptOf, IsCompiledScript}
use Rattle.mv_script.proofs.Databases.{run_database, table_database}
use Rattle.mv_core.specs.Output.{reply_told, writes_told}
use Rattle.mv_core.specs.Calls.{IsLive, IsLiveCall}
use Rattle.mv_core.specs.Books.{Booked, batch_in, last_tables, last_run, last_changes, start_run, Made, IsSame, commit_event, IsNotStale, AreRecordsOf}
use Rattle.mv_core.specs.Cores.{RunsOn, CanRepair, IsDatabaseIn, IsStored, IsStoreOf, Shows, ShowsStart, ShowsLast}
use Rattle.mv_core.proofs.Admitting.{flat_admitted}
use Rattle.mv_core.proofs.Telling.{told_reply, told_tables}
use Rattle.mv_core.proofs.Lows.{low_within}
use Rattle.mv_lawful.proofs.Numbers.{table_stays}
use Rattle.mv_core.proofs.Journals.{live_at}

-- Databases

-- one more call
pub table_more : (w : Batch) (order : List ℕ) (c n : ℕ) → n ≡ length order + 1 → table_at w (order ++ c ∷ []) n ≡ (w.run c (table_at w order (length order))).tables
table_more w order c n is =
    let len = length-append order (c ∷ []) in
    ap (tables_after w w.opening) (take_all n (order ++ c ∷ []) (omega (arith, is, len)))
    ∙ (tables_more w w.opening order c ∙ ap (λ cs. (w.run c (tables_after w w.opening cs)).tables) (sym (take_all (length order) order (omega arith))))

pub database_in : (s : CompiledScript) (order : List ℕ) (c n : ℕ) (db : Tables) → IsCompiledScript s → db ≡ table_at (batch_of s) order n → IsDatabaseIn s c db
database_in s order c n db k is call g here =
    subst (λ ts. IsDatabaseOf ts db) (sym (k.1.runs c call g here).over) (subst (IsDatabaseOf k.0) (sym is) (table_database k.0 s order n k.1))

-- A call runs by its graph

pub run_is : (s : CompiledScript) (c : ℕ) (call : Call) (g : Graph) (db : Tables) → IsCallOf s c call g → (batch_of s).run c db ≡ meaning_of g call db
run_is s c call g db is = ap (λ o. run_in s.graphs o db) is.call_is ∙ ap (λ o. run_by o call db) is.graph_is

-- What full records tell

pub told_run : (s : CompiledScript) (order : List ℕ) (c n : ℕ) (rs : List Record) → IsCompiledScript s → c < length s.calls → rs ≡ records_at (batch_of s) order n c
    → (reply_told rs ≡ ((batch_of s).run c (table_at (batch_of s) order n)).reply) × (applied (writes_told rs) (table_at (batch_of s) order n) ≡ ((batch_of s).run c (table_at (batch_of s) order n)).tables)
told_run s order c n rs k lt is =
    let db : Tables = table_at (batch_of s) order n in
    let has = k.1.there c lt in
    let rise = (table_database k.0 s order n k.1).rising in
    let run : (batch_of s).run c db ≡ meaning_of has.1 has.0 db = run_is s c has.0 has.1 db has.2 in
    let same : rs ≡ (meaning_of has.1 has.0 db).records = is ∙ ap (λ (r : Run). r.records) run in
    (told_reply has.1 has.0 db rs rise same ∙ sym (ap (λ (r : Run). r.reply) run), told_tables has.1 has.0 db rs rise same ∙ sym (ap (λ (r : Run). r.tables) run))

-- Records that no commit hits

covers_after : (tables : List TableInfo) (s : CompiledScript) (cs : List ℕ) (db : Tables) → IsScriptOf tables s → IsDatabaseOf tables db
    → Covers (all_of (changes_after (batch_of s) db cs)) db (tables_after (batch_of s) db cs)
covers_after tables s [] db k d = λ t key. refl
covers_after tables s (c ∷ cs) db k d =
    let new : Tables = ((batch_of s).run c db).tables in
    let next : IsDatabaseOf tables new = run_database tables s c db k d in
    covers_join (changes_between db new) (all_of (changes_after (batch_of s) new cs)) db new (tables_after (batch_of s) new cs)
    (changes_cover db new d.rising next.rising (d.size ∙ sym next.size)) (covers_after tables s cs new k next)

-- the changes after the first n commits are those of the commits after them, from the tables that these left
changes_past : (w : Batch) (db : Tables) (cs : List ℕ) (n : ℕ) → drop n (changes_after w db cs) ≡ changes_after w (tables_after w db (take n cs)) (drop n cs)
changes_past w db [] zero = refl
changes_past w db [] (suc n) = refl
changes_past w db (c ∷ cs) zero = refl
changes_past w db (c ∷ cs) (suc n) = changes_past w (w.run c db).tables cs n

tables_past : (w : Batch) (db : Tables) (cs : List ℕ) (n : ℕ) → tables_after w (tables_after w db (take n cs)) (drop n cs) ≡ tables_after w db cs
tables_past w db [] zero = refl
tables_past w db [] (suc n) = refl
tables_past w db (c ∷ cs) zero = refl
tables_past w db (c ∷ cs) (suc n) = tables_past w (w.run c db).tables cs n

covers_since : (tables : List TableInfo) (s : CompiledScript) (order : List ℕ) (start : ℕ) → IsScriptOf tables s
    → Covers (all_of (since (batch_of s) order start)) (table_at (batch_of s) order start) (table_at (batch_of s) order (length order))
covers_since tables s order start k =
    let w : Batch = batch_of s in
    let old : Tables = table_at w order start in
    let end : tables_after w old (drop start order) ≡ table_at w order (length order) = tables_past w s.opening order start ∙ sym (ap (tables_after w s.opening) (take_all (length order) order (omega arith))) in
    subst (λ (commits : List (List Change)). Covers (all_of commits) old (table_at w order (length order))) (sym (changes_past w s.opening order start))
    (subst (Covers (all_of (changes_after w old (drop start order))) old) end (covers_after tables s (drop start order) old k (table_database tables s order start k)))

-- the runs of a call at its start and after all commits
pub are_runs : (s : CompiledScript) (order : List ℕ) (c start : ℕ) (call : Call) (g : Graph) → IsCompiledScript s → IsCallOf s c call g
    → AreRuns g.tables g.procedure call (table_at (batch_of s) order start) (table_at (batch_of s) order (length order)) (all_of (since (batch_of s) order start))
are_runs s order c start call g k here =
    let w : Batch = batch_of s in
    let can : CanRun k.0 call g = k.1.runs c call g here in
    record {
      procedure = can.sound.procedure;
      arguments = can.suits;
      old_is = subst (λ ts. IsDatabaseOf ts (table_at w order start)) (sym can.over) (table_database k.0 s order start k.1);
      new_is = subst (λ ts. IsDatabaseOf ts (table_at w order (length order))) (sym can.over) (table_database k.0 s order (length order) k.1);
      covers = covers_since k.0 s order start k.1;
    }

-- a call that has run whole at its start can be repaired after all commits
pub can_repair : (s : CompiledScript) (order : List ℕ) (c start : ℕ) (task : Task) (changes : List (List Change)) (db : Tables) → IsCompiledScript s → RunsOn s c (table_at (batch_of s) order start) task → task.ended ≡ true
    → changes ≡ since (batch_of s) order start → db ≡ table_at (batch_of s) order (length order) → CanRepair s c task (all_of changes) db
can_repair s order c start task changes db k runs ended all new call g here = record {
  call = call;
  old = table_at (batch_of s) order start;
  on = runs call g here;
  ended = ended;
  admitted =
      subst (λ (cs : List (List Change)). All (AreAdmitted (all_of cs)) task.log.records) (sym all)
      (subst (λ (rs : List Record). All (AreAdmitted (all_of (since (batch_of s) order start))) rs) (sym whole) (flat_admitted s order c start start k));
  runs =
      subst (λ (cs : List (List Change)). AreRuns g.tables g.procedure call (table_at (batch_of s) order start) db (all_of cs)) (sym all)
      (subst (λ x. AreRuns g.tables g.procedure call (table_at (batch_of s) order start) x (all_of (since (batch_of s) order start))) (sym new) (are_runs s order c start call g k here));
}
  where
    old : Tables
    old = table_at (batch_of s) order start

    whole : task.log.records ≡ records_at (batch_of s) order start c
    whole = ended_all g call old task (table_database k.0 s order start k.1).rising (runs call g here) ended ∙ sym (ap (λ (r : Run). r.records) (run_is s c call g old here))

-- the changes up to the last commit are all changes since
pub changes_to_last : (w : Batch) (order : List ℕ) (start : ℕ) → changes_up_to w order start (length order) ≡ all_of (since w order start)
changes_to_last w order start =
    let long = length_changes w w.opening order in
    let less = length-drop start (changes_after w w.opening order) in
    ap all_of (take_all (length order - start) (since w order start) (omega (arith, long, less)))

-- a call that no commit after its start hits has the same records after all commits
pub unhit_records : (s : CompiledScript) (order : List ℕ) (c start : ℕ) → IsCompiledScript s → c < length s.calls → hit_of (batch_of s) order start c ≡ None
    → records_at (batch_of s) order (length order) c ≡ records_at (batch_of s) order start c
unhit_records s order c start k lt none =
    let w : Batch = batch_of s in
    let has = k.1.there c lt in
    let call : Call = has.0 in
    let g : Graph = has.1 in
    let old : Tables = table_at w order start in
    let new : Tables = table_at w order (length order) in
    let at_old : records_at w order start c ≡ (meaning_of g call old).records = ap (λ (r : Run). r.records) (run_is s c call g old has.2) in
    let at_new : records_at w order (length order) c ≡ (meaning_of g call new).records = ap (λ (r : Run). r.records) (run_is s c call g new has.2) in
    let unhit = no_hit_is_unhit (start + 1) (since w order start) (records_at w order start c) none in
    at_new ∙ (unhit_same g.tables g.procedure call old new (all_of (since w order start)) (are_runs s order c start call g k has.2) (subst (λ (rs : List Record). is_unhit (all_of (since w order start)) [] rs ≡ true) at_old unhit) ∙ sym at_old)

-- a call that may commit isn't stale and isn't hit
pub commit_free : (w : Batch) (s : Schedule) (c : ℕ) (l : Live) → IsLive s c l → refusal w s (C c) ≡ None → (is_stale s l ≡ false) × (hit_of w s.order l.start c ≡ None)
commit_free w s c l live free = by (live_at s c (λ x. unless (not (w.read_only c)) Kind (unless (not (is_stale s x)) Stale (unless (not (is_some (hit_of w s.order x.start c))) Conflict None))) free) where
  parts : (writes stale : Bool) (hit : Option Hit) → unless writes Kind (unless (not stale) Stale (unless (not (is_some hit)) Conflict None)) ≡ None → (stale ≡ false) × (hit ≡ None)
  parts true false None e = (refl, refl)
  parts true false (Some h) e = absurd (search (rules, e))
  parts true true hit e = absurd (search (rules, e))
  parts false stale hit e = absurd (search (rules, e))

  by : (x : Live) × IsLive s c x × (unless (not (w.read_only c)) Kind (unless (not (is_stale s x)) Stale (unless (not (is_some (hit_of w s.order x.start c))) Conflict None)) ≡ None) → (is_stale s l ≡ false) × (hit_of w s.order l.start c ≡ None)
  by h =
      let both : Some h.0 ≡ Some l = sym h.1.at ∙ live.at in
      let one : h.0 ≡ l = search (rules, both) in
      subst (λ (x : Live). (is_stale s x ≡ false) × (hit_of w s.order x.start c ≡ None)) one (parts (not (w.read_only c)) (is_stale s h.0) (hit_of w s.order h.0.start c) h.2)

-- Stores

-- a history with the same order and low
pub stored_on : (old new : Booked) (store : Versioned) → IsStoreOf old store → new.script ≡ old.script → new.schedule.order ≡ old.schedule.order → new.schedule.low ≡ old.schedule.low → IsStoreOf new store
stored_on old new store k script order low =
    subst (λ (s : CompiledScript). IsStored s new.schedule.order new.schedule.low store) (sym script)
    (subst (λ (o : List ℕ). IsStored old.script o new.schedule.low store) (sym order) (subst (λ n. IsStored old.script old.schedule.order n store) (sym low) k))

pub stored_same : (old new : Booked) (store : Versioned) → IsStoreOf old store → IsSame old new → IsStoreOf new store
stored_same old new store k same = stored_on old new store k same.script (ap (λ (s : Schedule). s.order) same.schedule) (ap (λ (s : Schedule). s.low) same.schedule)

pub stored_made : (e : Event) (old new : Booked) (store : Versioned) → IsStoreOf old store → Made e old new → (after (batch_in old) old.schedule e).order ≡ old.schedule.order → (after (batch_in old) old.schedule e).low ≡ old.schedule.low → IsStoreOf new store
stored_made e old new store k made order low = stored_on old new store k made.script (ap (λ (s : Schedule). s.order) made.schedule ∙ order) (ap (λ (s : Schedule). s.low) made.schedule ∙ low)

-- the writes of a call were dropped
pub stored_dropped : (b : Booked) (store new : Versioned) (c : ℕ) → IsStoreOf b store → HasDropped c store new → IsStoreOf b new
stored_dropped b store new c k drops = record {
  script = k.script;
  last = drops.reads.last ∙ k.last;
  low_is = drops.reads.low ∙ k.low_is;
  below = k.below;
  reads = λ n from le. drops.reads.database n ∙ k.reads n from le;
  own = λ call. by call (cases_eq c call);
} where
  by : (call : ℕ) → (c ≡ call) ⊎ (c ≡ call → ⊥) → own_writes new call ≡ []
  by call (inl e) = subst (λ d. own_writes new d ≡ []) e drops.own
  by call (inr ne) = drops.others call ne ∙ k.own call

at_or_before : (n m : ℕ) → n ≤ m + 1 → (n ≤ m) ⊎ (n ≡ m + 1)
at_or_before zero m le = inl (omega arith)
at_or_before (suc n) zero le = inr (omega (arith, le))
at_or_before (suc n) (suc m) le = by (at_or_before n m (omega (arith, le))) where
  by : (n ≤ m) ⊎ (n ≡ m + 1) → (suc n ≤ suc m) ⊎ (suc n ≡ suc m + 1)
  by (inl h) = inl (omega (arith, h))
  by (inr h) = inr (omega (arith, h))

-- a call commits, and its writes were stamped
pub stored_stamped : (s : CompiledScript) (order : List ℕ) (low c n : ℕ) (rs : List Record) (store mid new : Versioned) → IsStored s order low store → c < length s.calls → n ≡ length order + 1
    → IsLike store (table_at (batch_of s) order (length order)) → HasPut c (writes_told rs) store mid → HasStamped c n mid new → rs ≡ records_at (batch_of s) order (length order) c
    → IsStored s (order ++ c ∷ []) low new
stored_stamped s order low c n rs store mid new k lt is like put stamp full = record {
  script = k.script;
  last = let len = longer in let a = stamp.last in omega (arith, len, a, is);
  low_is = stamp.low ∙ (put.reads.low ∙ k.low_is);
  below = let len = longer in let b = k.below in omega (arith, len, b);
  reads = reads;
  own = λ call. by call (cases_eq c call);
} where
  longer : length (order ++ c ∷ []) ≡ length order + 1
  longer = length-append order (c ∷ [])

  db : Tables
  db = table_at (batch_of s) order (length order)

  read : database_at store (length order) ≡ db
  read = k.reads (length order) k.below (omega arith)

  newest_is : newest mid ≡ db
  newest_is = ap (database_at mid) (put.reads.last ∙ k.last) ∙ (put.reads.database (length order) ∙ read)

  writes_are : applied (own_writes mid c) db ≡ applied (writes_told rs) db
  writes_are = put.own db like ∙ ap (λ ws. applied (writes_told rs) (applied ws db)) (k.own c)

  after_it : database_at new (length order + 1) ≡ ((batch_of s).run c db).tables
  after_it = stamp.after (length order + 1) (omega (arith, is)) ∙ (ap (applied (own_writes mid c)) newest_is ∙ (writes_are ∙ (told_run s order c (length order) rs k.script lt full).1))

  reads : (m : ℕ) → low ≤ m → m ≤ length (order ++ c ∷ []) → database_at new m ≡ table_at (batch_of s) (order ++ c ∷ []) m
  reads m from le = at_one (at_or_before m (length order) (let len = longer in omega (arith, len, le))) where
    at_one : (m ≤ length order) ⊎ (m ≡ length order + 1) → database_at new m ≡ table_at (batch_of s) (order ++ c ∷ []) m
    at_one (inl h) = stamp.before m (omega (arith, h, is)) ∙ (put.reads.database m ∙ (k.reads m from h ∙ sym (table_stays (batch_of s) order c m h)))
    at_one (inr h) = ap (database_at new) h ∙ (after_it ∙ (sym (table_more (batch_of s) order c (length order + 1) refl) ∙ ap (table_at (batch_of s) (order ++ c ∷ [])) (sym h)))

  by : (call : ℕ) → (c ≡ call) ⊎ (c ≡ call → ⊥) → own_writes new call ≡ []
  by call (inl e) = subst (λ d. own_writes new d ≡ []) e stamp.own
  by call (inr ne) = stamp.others call ne ∙ (put.others call ne ∙ k.own call)

pub stored_committed : (own : Option ℕ) (c : ℕ) (old new : Booked) (store : Versioned) → IsStored old.script (old.schedule.order ++ c ∷ []) old.schedule.low store → Made (commit_event own c) old new → IsStoreOf new store
stored_committed own c old new store k made =
    subst (λ (s : CompiledScript). IsStored s new.schedule.order new.schedule.low store) (sym made.script)
    (subst (λ (o : List ℕ). IsStored old.script o new.schedule.low store) (sym (ap (λ (s : Schedule). s.order) made.schedule ∙ order own))
    (subst (λ n. IsStored old.script (old.schedule.order ++ c ∷ []) n store) (sym (ap (λ (s : Schedule). s.low) made.schedule ∙ low own)) k)) where
      order : (o : Option ℕ) → (after (batch_in old) old.schedule (commit_event o c)).order ≡ old.schedule.order ++ c ∷ []
      order None = refl
      order (Some n) = refl

      low : (o : Option ℕ) → (after (batch_in old) old.schedule (commit_event o c)).low ≡ old.schedule.low
      low None = refl
      low (Some n) = refl

-- the same history after an event that is no commit and no collection
pub stamped_on : (old new : Booked) (c : ℕ) (store : Versioned) → IsStored old.script (old.schedule.order ++ c ∷ []) old.schedule.low store → new.script ≡ old.script → new.schedule.order ≡ old.schedule.order → new.schedule.low ≡ old.schedule.low
    → IsStored new.script (new.schedule.order ++ c ∷ []) new.schedule.low store
stamped_on old new c store k script order low =
    stored_on (record old { schedule = record old.schedule { order = old.schedule.order ++ c ∷ [] } }) (record new { schedule = record new.schedule { order = new.schedule.order ++ c ∷ [] } }) store k script (ap (λ (o : List ℕ). o ++ c ∷ []) order) low

-- tables below a new low were dropped
pub stored_raised : (old new : Booked) (store raised : Versioned) (low : ℕ) → IsStoreOf old store → Made G old new → low ≡ new.schedule.low → HasRaised low store raised → IsStoreOf new raised
stored_raised old new store raised low k made is raise =
    stored_on (record old { schedule = record old.schedule { low = low } }) new raised (record {
      script = k.script;
      last = raise.last ∙ k.last;
      low_is = raise.low;
      below = within.1;
      reads = λ n from le. raise.database n from ∙ k.reads n (let rises = within.0 in omega (arith, rises, from)) le;
      own = λ call. raise.own call ∙ k.own call;
    }) made.script (ap (λ (s : Schedule). s.order) made.schedule) (sym is) where
      next : low ≡ next_low (batch_in old) old.schedule
      next = is ∙ ap (λ (s : Schedule). s.low) made.schedule

      within : (old.schedule.low ≤ low) × (low ≤ length old.schedule.order)
      within = low_within (batch_in old) old.schedule low k.below next

-- Views

-- a view of the tables after n commits
abbrev pub sight_of : Versioned → ℕ → Sight
sight_of store n = record { database = database_at store n; start = n; may_be_stale = nat_lt n store.low; stale_answers = 0; last_low = 0; rows_calls = 0; row_calls = 0 }

-- it shows the tables of a history, from low on
shows : (b : Booked) (store : Versioned) (n : ℕ) (v : Sight) → IsStoreOf b store → b.schedule.low ≤ n → n ≤ length b.schedule.order → v ≡ sight_of store n → Shows b n v
shows b store n v k from past is = ap (λ (w : Sight). w.database) is ∙ k.reads n from past

-- and there it isn't stale
is_fresh : (b : Booked) (store : Versioned) (n : ℕ) (v : Sight) → IsStoreOf b store → b.schedule.low ≤ n → v ≡ sight_of store n → v.may_be_stale ≡ false
is_fresh b store n v k from is = ap (λ (w : Sight). w.may_be_stale) is ∙ (ap (nat_lt n) k.low_is ∙ le-ltb n b.schedule.low from)

from_low : (b : Booked) (c : ℕ) (l : Live) → IsNotStale b c → IsLive b.schedule c l → b.schedule.low ≤ l.start
from_low b c l fresh live = ltb-false l.start b.schedule.low (fresh l live)

-- a view at the start of a live call that isn't stale
pub shows_start : (b : Booked) (store : Versioned) (c start : ℕ) (v : Sight) → IsStoreOf b store → IsNotStale b c → ((l : Live) → IsLive b.schedule c l → start ≡ l.start) → start ≤ length b.schedule.order → v ≡ sight_of store start
    → ShowsStart b c v
shows_start b store c start v k fresh at past is l live =
    let same = at l live in
    shows b store l.start v k (from_low b c l fresh live) (omega (arith, same, past)) (is ∙ ap (sight_of store) same)

pub fresh_start : (b : Booked) (store : Versioned) (c start : ℕ) (v : Sight) → IsStoreOf b store → IsNotStale b c → IsLiveCall b.schedule c → ((l : Live) → IsLive b.schedule c l → start ≡ l.start) → v ≡ sight_of store start
    → v.may_be_stale ≡ false
fresh_start b store c start v k fresh live at is = is_fresh b store live.0.start v k (from_low b c live.0 fresh live.1) (is ∙ ap (sight_of store) (at live.0 live.1))

-- a view of the last tables
pub shows_last : (b : Booked) (store : Versioned) (n : ℕ) (v : Sight) → IsStoreOf b store → n ≡ length b.schedule.order → v ≡ sight_of store n → ShowsLast b v
shows_last b store n v k at is = shows b store (length b.schedule.order) v k k.below (omega arith) (is ∙ ap (sight_of store) at)

pub fresh_last : (b : Booked) (store : Versioned) (n : ℕ) (v : Sight) → IsStoreOf b store → n ≡ length b.schedule.order → v ≡ sight_of store n → v.may_be_stale ≡ false
fresh_last b store n v k at is = is_fresh b store (length b.schedule.order) v k k.below (is ∙ ap (sight_of store) at)

-- the error of a view that isn't stale is want of memory; what an answer would be doesn't matter
pub only_memory : (v w : Sight) (why : Refused) → v.may_be_stale ≡ false → MayAnswer {A = ℕ} v w (Err why) → why ≡ refused.NoMemory
only_memory v w refused.NoMemory fresh may = refl
only_memory v w (refused.Stale start low) fresh may = let both : false ≡ true = sym fresh ∙ may.may_be in absurd (search (rules, both))

-- What a view shows

pub database_shown : (b : Booked) (c n : ℕ) (s : CompiledScript) (v : Sight) → IsCompiledScript b.script → s ≡ b.script → Shows b n v → IsDatabaseIn s c v.database
database_shown b c n s v k is shows = subst (λ (x : CompiledScript). IsDatabaseIn x c v.database) (sym is) (database_in b.script b.schedule.order c n v.database k shows)

pub rising_shown : (b : Booked) (n : ℕ) (v : Sight) → IsCompiledScript b.script → Shows b n v → AreRising v.database
rising_shown b n v k shows = subst AreRising (sym shows) (table_database k.0 b.script b.schedule.order n k.1).rising

pub size_shown : (b : Booked) (n : ℕ) (s : CompiledScript) (v : Sight) → IsCompiledScript b.script → s ≡ b.script → Shows b n v → length s.opening ≡ length v.database
size_shown b n s v k is shows =
    ap (λ (x : CompiledScript). length x.opening) is ∙ (k.1.opening.size ∙ (sym (table_database k.0 b.script b.schedule.order n k.1).size ∙ sym (ap length shows)))

-- A commit

-- the records of a call that may commit, run at its start, are those of its full run after all commits
pub last_records : (b : Booked) (c : ℕ) (rs : List Record) → IsCompiledScript b.script → c < length b.script.calls → IsLiveCall b.schedule c → AreRecordsOf b c rs → refusal (batch_in b) b.schedule (C c) ≡ None
    → rs ≡ records_at (batch_in b) b.schedule.order (length b.schedule.order) c
last_records b c rs k lt live are free =
    are live.0 live.1 ∙ sym (unhit_records b.script b.schedule.order c live.0.start k lt (commit_free (batch_in b) b.schedule c live.0 live.1 free).1)

-- the reply of a live call at its start
pub start_reply : (b : Booked) (c : ℕ) (l : Live) (rs : List Record) → IsCompiledScript b.script → c < length b.script.calls → rs ≡ records_at (batch_in b) b.schedule.order l.start c → reply_told rs ≡ (start_run b c l).reply
start_reply b c l rs k lt are = (told_run b.script b.schedule.order c l.start rs k lt are).0

pub last_reply : (b : Booked) (c : ℕ) (rs : List Record) → IsCompiledScript b.script → c < length b.script.calls → rs ≡ records_at (batch_in b) b.schedule.order (length b.schedule.order) c → reply_told rs ≡ (last_run b c).reply
last_reply b c rs k lt are = (told_run b.script b.schedule.order c (length b.schedule.order) rs k lt are).0

pub last_made : (b : Booked) (c : ℕ) (rs : List Record) (changes : List Change) → IsCompiledScript b.script → c < length b.script.calls → rs ≡ records_at (batch_in b) b.schedule.order (length b.schedule.order) c
    → changes ≡ changes_between (last_tables b) (applied (writes_told rs) (last_tables b)) → changes ≡ last_changes b c
last_made b c rs changes k lt are is = is ∙ ap (changes_between (last_tables b)) (told_run b.script b.schedule.order c (length b.schedule.order) rs k lt are).1

-- the same after an event that is no commit
pub last_run_on : (old new : Booked) (c : ℕ) → new.script ≡ old.script → new.schedule.order ≡ old.schedule.order → last_run new c ≡ last_run old c
last_run_on old new c script order =
    ap (λ (s : CompiledScript). (batch_of s).run c (table_at (batch_of s) new.schedule.order (length new.schedule.order))) script ∙ ap (λ (o : List ℕ). (batch_in old).run c (table_at (batch_in old) o (length o))) order

pub last_changes_on : (old new : Booked) (c : ℕ) → new.script ≡ old.script → new.schedule.order ≡ old.schedule.order → last_changes new c ≡ last_changes old c
last_changes_on old new c script order =
    ap (λ (r : Run). changes_between (last_tables new) r.tables) (last_run_on old new c script order)
    ∙ (ap (λ (s : CompiledScript). changes_between (table_at (batch_of s) new.schedule.order (length new.schedule.order)) (last_run old c).tables) script
    ∙ ap (λ (o : List ℕ). changes_between (table_at (batch_in old) o (length o)) (last_run old c).tables) order)

pub last_records_on : (old new : Booked) (c : ℕ) (rs : List Record) → new.script ≡ old.script → new.schedule.order ≡ old.schedule.order → rs ≡ records_at (batch_in old) old.schedule.order (length old.schedule.order) c
    → rs ≡ records_at (batch_in new) new.schedule.order (length new.schedule.order) c
last_records_on old new c rs script order are = are ∙ sym (ap (λ (r : Run). r.records) (last_run_on old new c script order))

-- the last tables are like those of the store
pub like_last : (b : Booked) (store : Versioned) → IsStoreOf b store → ((n : ℕ) → IsLike store (database_at store n)) → IsLike store (last_tables b)
like_last b store k like = subst (IsLike store) (k.reads (length b.schedule.order) k.below (omega arith)) (like (length b.schedule.order))

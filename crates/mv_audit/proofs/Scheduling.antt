-- What events do to what is kept.
use Rattle.std.proofs.Common.{◌≡◌, ◌⊎◌, inl, inr, ℕ, ◌+◌, ◌<◌, ◌≤◌, Bool, true, false, List, [], ◌∷◌, ◌++◌, Option, Some, None, Result, Ok, Err, map, length, drop, get_or, slice_set, ◌^◌, refl, sym, ap, subst, ◌∙◌, arith, rules, length-append}
use Rattle.std.specs.Prelude.{◌||◌, slice_get, IfOk}
use Rattle.std.specs.Option.{is_some}
use Rattle.std.proofs.lemmas.List.{map-append, map-set, length-map, length-set, take_all, drop-append-le}
use Rattle.std.proofs.lemmas.Option.{slice_get_within, slice_get_read, same_Some}
use Rattle.mv_values.specs.declared.calls.Call.{Call}
use Rattle.mv_values.specs.declared.calls.End.{End}
use Rattle.mv_values.specs.declared.calls.Reply.{Reply}
use Rattle.mv_values.specs.declared.memory.NoMemory.{NoMemory}
use Rattle.mv_values.specs.declared.schema.TableInfo.{TableInfo}
use Rattle.mv_values.specs.Tables.{Tables}
use Rattle.mv_catalog.specs.declared.resolved.ProcInfo.{ProcInfo}
use Rattle.mv_catalog.specs.declared.resolved.Program.{Program}
use Rattle.mv_catalog.specs.Text.{IsProcedure, IsCall}
use Rattle.mv_eval.specs.TableAfter.{result_of, result_at, result_in, reply_in, tables_left}
use Rattle.mv_record.specs.declared.record.Record.{Record}
use Rattle.mv_record.specs.Databases.{IsDatabaseOf, IsProgram}
use Rattle.mv_record.specs.Paths.{PathsRise}
use Rattle.mv_record.specs.Runs.{HasEnd}
use Rattle.mv_recorded.specs.Recorded.{recorded, records, records_in, records_at as records_by}
use Rattle.mv_recorded.proofs.RowsTyped.{all_get}
use Rattle.mv_recorded.proofs.Fronts.{left_is}
use Rattle.mv_recorded.proofs.Meant.{meaning_tells}
use Rattle.mv_recorded.proofs.Rising.{recorded_rises}
use Rattle.mv_history.specs.declared.change.Change.{Change}
use Rattle.mv_history.specs.Changes.{changes_between}
use Rattle.mv_journal.specs.declared.event.Event.{Event}
use Rattle.mv_journal.specs.declared.event.Event.TheVariants.{B, S, A, M, C, X, R, G}
use Rattle.mv_journal.specs.declared.outcome.Mark.{Mark}
use Rattle.mv_journal.specs.declared.outcome.Mark.TheVariants.{Plain, Exclusive, Moved}
use Rattle.mv_lawful.proofs.Serial.{OrderlyAt, orderly_after, stands, stands_at, at_beginning, none_left, none_right}
use Rattle.mv_lawful.proofs.Turns.{tables_more, length_changes}
use Rattle.mv_lawful.specs.Batch.{Batch, tables_after, table_at, records_at, changes_after}
use Rattle.mv_lawful.specs.Lawful.{RoundStart, Live, Schedule, beginning, change_live, with_call, begin, again, finish, refusal, after}
use Rattle.mv_audit.specs.declared.schedule.Live.{Live as Kept}
use Rattle.mv_audit.specs.declared.schedule.Schedule.{Schedule as State}
use Rattle.mv_lawful.specs.Rounds.{round_starts_in}
use Rattle.mv_audit.specs.Schedules.{audited, live_of, schedule_of, fresh, restarted, finished, answered, round_event, mark_of, commit_event, begun_state, again_state, committed_state, answered_state, left_by, TellsRun, TellsCall, IsTrimmed, IsLive, IsLiveCall, IsSchedule}
use Rattle.mv_lawful.proofs.Numbers.{changes_more}
use Rattle.mv_lawful.proofs.Lists.{get_last, get_set}
use Rattle.mv_audit.proofs.Standing.{tells_more, tells_other, fresh_tells, again_tells, finished_tells, answered_tells, round_starts_more}
use Rattle.mv_audit.proofs.Refusing.{live_seen, drop_later, since_kept}

many_commits : (infos : List TableInfo) (w : Batch) (s : State) → IsSchedule infos w s → length s.commits ≡ length s.order
many_commits infos w s k = k.many

-- The beginning

pub opened_seen : (s : State) → s.order ≡ [] → s.answered ≡ [] → s.calls ≡ [] → schedule_of s ≡ beginning
opened_seen s order answers calls =
    ap (λ (o : List ℕ). record { order = o; calls = map live_of s.calls; low = 0; answered = s.answered }) order
    ∙ (ap (λ (cs : List ℕ). record { order = []; calls = map live_of s.calls; low = 0; answered = cs }) answers
    ∙ ap (λ (ls : List Kept). record { order = []; calls = map live_of ls; low = 0; answered = [] }) calls)

pub opened_kept : (p : Program) (rounds : ℕ) (s : State) → IsProgram p → s.order ≡ [] → s.answered ≡ [] → s.commits ≡ [] → s.calls ≡ [] → s.tables ≡ p.opening → s.low ≡ 0 → IsSchedule p.resolved.tables (audited p rounds) s
opened_kept p rounds s whole order answers commits calls tables low = record {
  database = subst (IsDatabaseOf p.resolved.tables) (sym tables) whole.opening;
  tables = tables ∙ sym (ap (λ o. table_at (audited p rounds) o (length o)) order);
  many = ap length commits ∙ sym (ap length order);
  wide = omega (arith, low);
  changes = ap (drop s.low) (commits ∙ sym (ap (changes_after (audited p rounds) p.opening) order));
  needed = λ c l at live. omega (arith, low);
  orderly = subst (OrderlyAt (audited p rounds)) (sym (opened_seen s order answers calls)) (at_beginning (audited p rounds));
  tells = λ c l at. absurd (none c l (sym (ap (λ ls. slice_get ls c) calls) ∙ at));
} where
  none : (c : ℕ) (l : Kept) → slice_get [] c ≡ Some l → ⊥
  none c l is = search (rules, is)

-- A call begins

pub begun_seen : (w : Batch) (s : State) (new : List Record) (given : Reply) → schedule_of (begun_state s new given) ≡ after w (schedule_of s) (B (length s.calls))
begun_seen w s new given = ap (λ (ls : List Live). record { order = s.order; calls = ls; low = 0; answered = s.answered }) (map-append live_of s.calls (fresh (length s.order) new given ∷ []))

pub begun_kept : (infos : List TableInfo) (w : Batch) (s : State) (new : List Record) (given : Reply) → IsSchedule infos w s → refusal w (schedule_of s) (B (length s.calls)) ≡ None → new ≡ records_at w s.order (length s.order) (length s.calls)
    → given ≡ (w.run (length s.calls) (table_at w s.order (length s.order))).reply → IsSchedule infos w (begun_state s new given)
begun_kept infos w s new given k free is told = record {
  database = k.database;
  tables = k.tables;
  many = k.many;
  wide = k.wide;
  changes = k.changes;
  needed = λ c l at live. first c l live (get_last s.calls (fresh (length s.order) new given) c l at);
  orderly = subst (OrderlyAt w) (sym (begun_seen w s new given)) (orderly_after w (schedule_of s) (B (length s.calls)) free k.orderly);
  tells = λ c l at. by c l (get_last s.calls (fresh (length s.order) new given) c l at);
} where
  by : (c : ℕ) (l : Kept) → (slice_get s.calls c ≡ Some l) ⊎ ((c ≡ length s.calls) × (fresh (length s.order) new given ≡ l)) → TellsCall w s.order s.answered c l
  by c l (inl at) = k.tells c l at
  by c l (inr h) =
      subst (TellsCall w s.order s.answered c) h.1
      (fresh_tells w s.order s.answered c new given (is ∙ ap (records_at w s.order (length s.order)) (sym h.0)) (told ∙ ap (λ n. (w.run n (table_at w s.order (length s.order))).reply) (sym h.0)))

  first : (c : ℕ) (l : Kept) → l.reply ≡ None → (slice_get s.calls c ≡ Some l) ⊎ ((c ≡ length s.calls) × (fresh (length s.order) new given ≡ l)) → s.low ≤ l.start
  first c l live (inl at) = k.needed c l at live
  first c l live (inr h) = subst (λ (x : Kept). s.low ≤ x.start) h.1 k.wide

-- A call is repaired or moved

restarted_seen : (m : Mark) (l : Kept) (new : List Record) (given : Reply) (commits : List (List Change)) → l.reply ≡ None → live_of (restarted l m new given commits) ≡ again (length commits) m (live_of l)
restarted_seen m l new given commits live =
    ap (λ (ts : List RoundStart). record { start = length commits; round_starts = ts; steps = 0; done = false }) (round_starts_more m l (length commits) new commits)
    ∙ ap (λ o. record { start = length commits; round_starts = round_starts_in l.rounds ++ record { start = length commits; mark = m } ∷ []; steps = 0; done = is_some o }) (sym live)

call_seen : (s : State) (c : ℕ) (l x : Kept) (f : Live → Live) → IsLive s c l → live_of x ≡ f (live_of l) → map live_of (slice_set s.calls c x) ≡ change_live (slice_get (map live_of s.calls) c) f (map live_of s.calls) c
call_seen s c l x f live is =
    map-set live_of s.calls c x
    ∙ (ap (slice_set (map live_of s.calls) c) is
    ∙ sym (ap (λ o. change_live o f (map live_of s.calls) c) (live_seen s c l live)))

again_by : (infos : List TableInfo) (w : Batch) (s : State) (c : ℕ) (l : Kept) (m : Mark) (new : List Record) (given : Reply) → IsSchedule infos w s → IsLive s c l
    → schedule_of (again_state s c l m new given) ≡ with_call (schedule_of s) c (again (length s.order) m)
again_by infos w s c l m new given k live =
    ap (λ (ls : List Live). record { order = s.order; calls = ls; low = 0; answered = s.answered })
    (call_seen s c l (restarted l m new given s.commits) (again (length s.order) m) live (restarted_seen m l new given s.commits live.live ∙ ap (λ n. again n m (live_of l)) (many_commits infos w s k)))

pub again_seen : (infos : List TableInfo) (w : Batch) (s : State) (c : ℕ) (l : Kept) (moved : Bool) (new : List Record) (given : Reply) → IsSchedule infos w s → IsLive s c l
    → schedule_of (again_state s c l (mark_of moved) new given) ≡ after w (schedule_of s) (round_event moved c)
again_seen infos w s c l false new given k live = again_by infos w s c l Plain new given k live
again_seen infos w s c l true new given k live = again_by infos w s c l Moved new given k live

pub again_kept : (infos : List TableInfo) (w : Batch) (s : State) (c : ℕ) (l : Kept) (moved : Bool) (new : List Record) (given : Reply) → IsSchedule infos w s → IsLive s c l → refusal w (schedule_of s) (round_event moved c) ≡ None
    → new ≡ records_at w s.order (length s.order) c → given ≡ (w.run c (table_at w s.order (length s.order))).reply → IsSchedule infos w (again_state s c l (mark_of moved) new given)
again_kept infos w s c l moved new given k live free is told = record {
  database = k.database;
  tables = k.tables;
  many = k.many;
  wide = k.wide;
  changes = k.changes;
  needed = λ d x at still. first d x still (get_set s.calls c d next x at);
  orderly = subst (OrderlyAt w) (sym (again_seen infos w s c l moved new given k live)) (orderly_after w (schedule_of s) (round_event moved c) free k.orderly);
  tells = λ d x at. by d x (get_set s.calls c d next x at);
} where
  next : Kept
  next = restarted l (mark_of moved) new given s.commits

  this : TellsCall w s.order s.answered c next
  this = again_tells w s.order s.answered c (mark_of moved) l new given s.commits (k.tells c l live.at) live.live is told (since_kept infos w s c l k live)

  by : (d : ℕ) (x : Kept) → ((d ≡ c) × (next ≡ x)) ⊎ ((d ≡ c → ⊥) × (slice_get s.calls d ≡ Some x)) → TellsCall w s.order s.answered d x
  by d x (inl h) = subst (TellsCall w s.order s.answered d) h.1 (subst (λ n. TellsCall w s.order s.answered n next) (sym h.0) this)
  by d x (inr h) = k.tells d x h.1

  first : (d : ℕ) (x : Kept) → x.reply ≡ None → ((d ≡ c) × (next ≡ x)) ⊎ ((d ≡ c → ⊥) × (slice_get s.calls d ≡ Some x)) → s.low ≤ x.start
  first d x still (inl h) = subst (λ (y : Kept). s.low ≤ y.start) h.1 (let wide = k.wide in let many = k.many in omega (arith, wide, many))
  first d x still (inr h) = k.needed d x h.1 still

-- A call is answered

pub answered_seen : (w : Batch) (s : State) (c : ℕ) (l : Kept) → IsLive s c l → schedule_of (answered_state s c l) ≡ after w (schedule_of s) (R c)
answered_seen w s c l live = ap (λ (ls : List Live). record { order = s.order; calls = ls; low = 0; answered = s.answered ++ c ∷ [] }) (call_seen s c l (answered l) finish live refl)

pub answered_kept : (infos : List TableInfo) (w : Batch) (s : State) (c : ℕ) (l : Kept) → IsSchedule infos w s → IsLive s c l → refusal w (schedule_of s) (R c) ≡ None → IsSchedule infos w (answered_state s c l)
answered_kept infos w s c l k live free = record {
  database = k.database;
  tables = k.tables;
  many = k.many;
  wide = k.wide;
  changes = k.changes;
  needed = λ d x at still. first d x still (get_set s.calls c d (answered l) x at);
  orderly = subst (OrderlyAt w) (sym (answered_seen w s c l live)) (orderly_after w (schedule_of s) (R c) free k.orderly);
  tells = λ d x at. by d x (get_set s.calls c d (answered l) x at);
} where
  this : TellsCall w s.order (s.answered ++ c ∷ []) c (answered l)
  this = answered_tells w s.order s.answered c l (k.tells c l live.at) live.live

  by : (d : ℕ) (x : Kept) → ((d ≡ c) × (answered l ≡ x)) ⊎ ((d ≡ c → ⊥) × (slice_get s.calls d ≡ Some x)) → TellsCall w s.order (s.answered ++ c ∷ []) d x
  by d x (inl h) = subst (TellsCall w s.order (s.answered ++ c ∷ []) d) h.1 (subst (λ n. TellsCall w s.order (s.answered ++ c ∷ []) n (answered l)) (sym h.0) this)
  by d x (inr h) = tells_other w s.order s.answered c d x (λ same. h.0 (sym same)) (k.tells d x h.1)

  first : (d : ℕ) (x : Kept) → x.reply ≡ None → ((d ≡ c) × (answered l ≡ x)) ⊎ ((d ≡ c → ⊥) × (slice_get s.calls d ≡ Some x)) → s.low ≤ x.start
  first d x still (inl h) = let some : Some l.given ≡ None = ap (λ (y : Kept). y.reply) h.1 ∙ still in absurd (search (rules, some))
  first d x still (inr h) = k.needed d x h.1 still

-- A call commits

pub committed_seen : (infos : List TableInfo) (w : Batch) (s : State) (c : ℕ) (l : Kept) (own : Bool) (new : List Record) (reply : Reply) (db : Tables) → IsSchedule infos w s → IsLive s c l
    → schedule_of (committed_state s c l own new reply db) ≡ after w (schedule_of s) (commit_event own c)
committed_seen infos w s c l false new reply db k live =
    ap (λ (ls : List Live). record { order = s.order ++ c ∷ []; calls = ls; low = 0; answered = s.answered }) (call_seen s c l (finished false l new s.commits reply) finish live refl)
committed_seen infos w s c l true new reply db k live =
    ap (λ (ls : List Live). record { order = s.order ++ c ∷ []; calls = ls; low = 0; answered = s.answered })
    (call_seen s c l (finished true l new s.commits reply) (λ x. finish (again (length s.order) Exclusive x)) live
    (ap finish (restarted_seen Exclusive l new reply s.commits live.live ∙ ap (λ n. again n Exclusive (live_of l)) (many_commits infos w s k))))

pub committed_kept : (infos : List TableInfo) (w : Batch) (s : State) (c : ℕ) (l : Kept) (own : Bool) (new : List Record) (reply : Reply) (db : Tables) → IsSchedule infos w s → IsLive s c l → refusal w (schedule_of s) (commit_event own c) ≡ None
    → new ≡ records_at w s.order (length s.order) c → reply ≡ (w.run c s.tables).reply → db ≡ (w.run c s.tables).tables → IsDatabaseOf infos db → IsSchedule infos w (committed_state s c l own new reply db)
committed_kept infos w s c l own new reply db k live free is told left sound = record {
  database = sound;
  tables = left ∙ (ap (λ x. (w.run c x).tables) here ∙ (sym (tables_more w w.opening s.order c) ∙ ap (tables_after w w.opening) (sym (take_all (length (s.order ++ c ∷ [])) (s.order ++ c ∷ []) (omega arith)))));
  many = (let many = k.many in let m = length-append s.commits (changes_between s.tables db ∷ []) in let n = length-append s.order (c ∷ []) in omega (arith, many, m, n));
  wide = (let wide = k.wide in let n = length-append s.order (c ∷ []) in omega (arith, wide, n));
  changes = drop-append-le s.low s.commits (changes_between s.tables db ∷ []) (let wide = k.wide in let many = k.many in omega (arith, wide, many))
      ∙ (ap (λ cs. cs ++ changes_between s.tables db ∷ []) k.changes
      ∙ (ap (λ x. drop s.low all ++ changes_between x db ∷ []) here
      ∙ (ap (λ x. drop s.low all ++ changes_between (tables_after w w.opening s.order) x ∷ []) (left ∙ ap (λ x. (w.run c x).tables) here)
      ∙ (sym (drop-append-le s.low all (changes_between (tables_after w w.opening s.order) (w.run c (tables_after w w.opening s.order)).tables ∷ []) (let wide = k.wide in let n = length_changes w w.opening s.order in omega (arith, wide, n)))
      ∙ ap (drop s.low) (sym (changes_more w w.opening s.order c))))));
  needed = λ d x at still. first d x still (get_set s.calls c d (finished own l new s.commits reply) x at);
  orderly = subst (OrderlyAt w) (sym (committed_seen infos w s c l own new reply db k live)) (orderly_after w (schedule_of s) (commit_event own c) free k.orderly);
  tells = λ d x at. by d x (get_set s.calls c d (finished own l new s.commits reply) x at);
} where
  all : List (List Change)
  all = changes_after w w.opening s.order

  here : s.tables ≡ tables_after w w.opening s.order
  here = k.tables ∙ ap (tables_after w w.opening) (take_all (length s.order) s.order (omega arith))

  neither : (stands c s.answered || stands c s.order) ≡ false
  neither = sym (k.orderly.done c (live_of l) (live_seen s c l live)) ∙ ap is_some live.live

  apart : (n : ℕ) → slice_get s.order n ≡ Some c → ⊥
  apart n at = let both : false ≡ true = sym (none_right (stands c s.answered) (stands c s.order) neither) ∙ stands_at s.order n c at in search (rules, both)

  this : TellsCall w (s.order ++ c ∷ []) s.answered c (finished own l new s.commits reply)
  this =
      finished_tells w s.order s.answered c own l new s.commits reply (k.tells c l live.at) live.live (none_left (stands c s.answered) (stands c s.order) neither) apart is (since_kept infos w s c l k live)
      (told ∙ ap (λ x. (w.run c x).reply) k.tables)

  by : (d : ℕ) (x : Kept) → ((d ≡ c) × (finished own l new s.commits reply ≡ x)) ⊎ ((d ≡ c → ⊥) × (slice_get s.calls d ≡ Some x)) → TellsCall w (s.order ++ c ∷ []) s.answered d x
  by d x (inl h) = subst (TellsCall w (s.order ++ c ∷ []) s.answered d) h.1 (subst (λ n. TellsCall w (s.order ++ c ∷ []) s.answered n (finished own l new s.commits reply)) (sym h.0) this)
  by d x (inr h) = tells_more w s.order s.answered c d x (k.tells d x h.1)

  ended : (own : Bool) (x : Kept) → x.reply ≡ None → finished own l new s.commits reply ≡ x → s.low ≤ x.start
  ended false x still h = let some : Some reply ≡ None = ap (λ (y : Kept). y.reply) h ∙ still in absurd (search (rules, some))
  ended true x still h = let some : Some reply ≡ None = ap (λ (y : Kept). y.reply) h ∙ still in absurd (search (rules, some))

  first : (d : ℕ) (x : Kept) → x.reply ≡ None → ((d ≡ c) × (finished own l new s.commits reply ≡ x)) ⊎ ((d ≡ c → ⊥) × (slice_get s.calls d ≡ Some x)) → s.low ≤ x.start
  first d x still (inl h) = ended own x still h.1
  first d x still (inr h) = k.needed d x h.1 still

-- Changes of old commits are dropped

pub trimmed_seen : (s next : State) → IsTrimmed s next → schedule_of next ≡ schedule_of s
trimmed_seen s next t =
    ap (λ (o : List ℕ). record { order = o; calls = map live_of next.calls; low = 0; answered = next.answered }) t.order
    ∙ (ap (λ (cs : List ℕ). record { order = s.order; calls = map live_of next.calls; low = 0; answered = cs }) t.answered
    ∙ ap (λ (ls : List Kept). record { order = s.order; calls = map live_of ls; low = 0; answered = s.answered }) t.calls)

pub trimmed_kept : (infos : List TableInfo) (w : Batch) (s next : State) → IsTrimmed s next → IsSchedule infos w s → IsSchedule infos w next
trimmed_kept infos w s next t k = record {
  database = subst (IsDatabaseOf infos) (sym t.tables) k.database;
  tables = t.tables ∙ (k.tables ∙ ap (λ o. table_at w o (length o)) (sym t.order));
  many = t.many ∙ (k.many ∙ ap length (sym t.order));
  wide = subst (λ o. next.low ≤ length o) (sym t.order) (let wide = t.wide (let a = k.wide in let b = k.many in omega (arith, a, b)) in let many = k.many in omega (arith, wide, many));
  changes = t.changes
      ∙ (drop_later s.commits (changes_after w w.opening s.order) s.low next.low t.later k.changes ∙ ap (λ o. drop next.low (changes_after w w.opening o)) (sym t.order));
  needed = λ c l at live. t.needed k.needed c l (sym (ap (λ ls. slice_get ls c) t.calls) ∙ at) live;
  orderly = subst (OrderlyAt w) (sym (trimmed_seen s next t)) k.orderly;
  tells = λ c l at. subst (λ o. TellsCall w o next.answered c l) (sym t.order) (subst (λ cs. TellsCall w s.order cs c l) (sym t.answered) (k.tells c l (sym (ap (λ ls. slice_get ls c) t.calls) ∙ at)));
}

-- What the calls of a program leave

left_told : (db : Tables) (rs : List Record) (reply : Reply) (left : Tables) → HasEnd reply.end db (record { records = rs; reply = reply; tables = left }) → left_by rs reply.end db ≡ left
left_told db rs reply left h = by reply.end h where
  by : (e : Option End) → HasEnd e db (record { records = rs; reply = reply; tables = left }) → left_by rs e db ≡ left
  by None g = sym g.tables
  by (Some e) g = sym g.tables

-- a call of a procedure on a database
procedure_left : (p : Program) (proc : ProcInfo) (call : Call) (db : Tables) → IsDatabaseOf p.resolved.tables db → left_by (records_in p (Some proc) call db) (reply_in (result_in p (Some proc) call db)).end db ≡ tables_left db (result_in p (Some proc) call db)
procedure_left p proc call db h =
    left_told db (recorded p.resolved.tables proc call db) (reply_in (result_in p (Some proc) call db)) (tables_left db (result_in p (Some proc) call db)) (meaning_tells p.resolved.tables proc call db h.rising)

abbrev LeavesBy : Program → Option Call → Tables → Type 0
LeavesBy p o db = (left_by (records_by p o db) (reply_in (result_at p o db)).end db ≡ tables_left db (result_at p o db)) × IsDatabaseOf p.resolved.tables (tables_left db (result_at p o db))

pub leaves_by : (p : Program) (c : ℕ) (db : Tables) → IsProgram p → IsDatabaseOf p.resolved.tables db
    → (left_by (records p c db) (reply_in (result_of p c db)).end db ≡ tables_left db (result_of p c db)) × IsDatabaseOf p.resolved.tables (tables_left db (result_of p c db))
leaves_by p c db whole h = by (slice_get p.resolved.calls c) refl where
  called : (call : Call) → IsCall p.resolved.procedures call → LeavesBy p (Some call) db
  called call is =
      let proc : IsProcedure p.resolved.tables is.0 = all_get (IsProcedure p.resolved.tables) p.resolved.procedures call.procedure is.0 whole.text.procedures is.1 in
      subst (λ o. (left_by (records_in p o call db) (reply_in (result_in p o call db)).end db ≡ tables_left db (result_in p o call db)) × IsDatabaseOf p.resolved.tables (tables_left db (result_in p o call db))) (sym is.1)
      (procedure_left p is.0 call db h, left_is p.resolved.tables is.0 call db proc is.2 h)

  by : (o : Option Call) → slice_get p.resolved.calls c ≡ o → LeavesBy p o db
  by None at = (refl, h)
  by (Some call) at = called call (all_get (IsCall p.resolved.procedures) p.resolved.calls c call whole.text.calls at)

-- the records of a call are in the order of their paths
no_paths : PathsRise []
no_paths i j d lt within = absurd (omega (arith, within))

rises_in : (p : Program) (o : Option ProcInfo) (call : Call) (db : Tables) → PathsRise (records_in p o call db)
rises_in p None call db = no_paths
rises_in p (Some proc) call db = recorded_rises p.resolved.tables proc call db

pub rises : (p : Program) (c : ℕ) (db : Tables) → PathsRise (records p c db)
rises p c db = by (slice_get p.resolved.calls c) where
  by : (o : Option Call) → PathsRise (records_by p o db)
  by None = no_paths
  by (Some call) = rises_in p (slice_get p.resolved.procedures call.procedure) call db

pub live_rises : (p : Program) (rounds : ℕ) (s : State) (c : ℕ) (l : Kept) → IsSchedule p.resolved.tables (audited p rounds) s → IsLiveCall s c → slice_get s.calls c ≡ Some l → PathsRise l.records
live_rises p rounds s c l k live at =
    let same : live.0 ≡ l = same_Some live.0 l (sym live.1.at ∙ at) in
    let its : live.0.records ≡ records_at (audited p rounds) s.order live.0.start c = (subst (TellsRun (audited p rounds) s.order s.answered c live.0) live.1.live (k.tells c live.0 live.1.at).run).0 in
    subst (λ (x : Kept). PathsRise x.records) same (subst PathsRise (sym its) (rises p c (table_at (audited p rounds) s.order live.0.start)))

-- What a fallible call gives

pub ok_is : {A E : Type 0} (r : Result A E) (s : A) (P : A → Type 0) → IfOk r (λ x. x ≡ s) → P s → IfOk r P
ok_is (Ok x) s P h p = subst P (sym h) p
ok_is (Err e) s P h p = tt

pub ok_by : {A E : Type 0} (r : Result A E) (P Q : A → Type 0) → ((x : A) → P x → Q x) → IfOk r P → IfOk r Q
ok_by (Ok x) P Q f h = f x h
ok_by (Err e) P Q f h = tt

-- How many calls there are after an event

change_few : (o : Option Live) (f : Live → Live) (ls : List Live) (c : ℕ) → length (change_live o f ls c) ≡ length ls
change_few None f ls c = refl
change_few (Some l) f ls c = length-set ls c (f l)

after_few : (w : Batch) (s : Schedule) (e : Event) → length (after w s e).calls ≤ length s.calls + 1
after_few w s (B c) = let n = length-append s.calls (begin (length s.order) ∷ []) in omega (arith, n)
after_few w s (S c) = let n = change_few (slice_get s.calls c) (λ l. record l { steps = l.steps + 1 }) s.calls c in omega (arith, n)
after_few w s (A c) = let n = change_few (slice_get s.calls c) (again (length s.order) Plain) s.calls c in omega (arith, n)
after_few w s (M c) = let n = change_few (slice_get s.calls c) (again (length s.order) Moved) s.calls c in omega (arith, n)
after_few w s (C c) = let n = change_few (slice_get s.calls c) finish s.calls c in omega (arith, n)
after_few w s (X c) = let n = change_few (slice_get s.calls c) (λ l. finish (again (length s.order) Exclusive l)) s.calls c in omega (arith, n)
after_few w s (R c) = let n = change_few (slice_get s.calls c) finish s.calls c in omega (arith, n)
after_few w s G = omega arith

pub calls_few : (w : Batch) (s next : State) (e : Event) → schedule_of next ≡ after w (schedule_of s) e → length next.calls ≤ length s.calls + 1
calls_few w s next e is =
    let few = after_few w (schedule_of s) e in
    let same : length (map live_of next.calls) ≡ length (after w (schedule_of s) e).calls = ap (λ (x : Schedule). length x.calls) is in
    let here = length-map s.calls live_of in
    let there = length-map next.calls live_of in
    omega (arith, few, same, here, there)

-- What a live call's round and commit ask

pub call_within : (s : State) (c : ℕ) → IsLiveCall s c → c < length s.calls
call_within s c live = slice_get_within s.calls c live.0 live.1.at

pub starts_within : (infos : List TableInfo) (w : Batch) (s : State) (c : ℕ) (l : Kept) → IsSchedule infos w s → slice_get s.calls c ≡ Some l → l.start ≤ length s.commits
starts_within infos w s c l k at = let p = (k.tells c l at).past in let n = many_commits infos w s k in omega (arith, p, n)

pub few_commits : (infos : List TableInfo) (w : Batch) (s : State) → IsSchedule infos w s → length s.order < 2 ^ 32 → length s.commits < 2 ^ 32
few_commits infos w s k few = let n = many_commits infos w s k in omega (arith, n, few)

-- the item at a place, as code reads it
pub same_at : {A : Type 0} (xs : List A) (n : ℕ) (x y : A) → n < length xs → y ≡ get_or xs n y → slice_get xs n ≡ Some x → y ≡ x
same_at xs n x y lt is at = same_Some y x (sym (slice_get_read xs (length xs) n y refl lt is) ∙ at)

-- The calls that lead from state to state

pub begun_is : (w : Batch) (s t : State) (new : List Record) (given : Reply) (r : Result State NoMemory) → t ≡ s → IfOk r (λ next. next ≡ begun_state t new given)
    → IfOk r (λ next. schedule_of next ≡ after w (schedule_of s) (B (length s.calls)))
begun_is w s t new given r same h =
    ok_is r (begun_state s new given) (λ next. schedule_of next ≡ after w (schedule_of s) (B (length s.calls))) (subst (λ x. IfOk r (λ next. next ≡ begun_state x new given)) same h) (begun_seen w s new given)

pub begun_right : (infos : List TableInfo) (w : Batch) (s t : State) (new : List Record) (given : Reply) (r : Result State NoMemory) → t ≡ s → IsSchedule infos w s → refusal w (schedule_of s) (B (length s.calls)) ≡ None
    → new ≡ records_at w s.order (length s.order) (length s.calls) → given ≡ (w.run (length s.calls) (table_at w s.order (length s.order))).reply → IfOk r (λ next. next ≡ begun_state t new given) → IfOk r (IsSchedule infos w)
begun_right infos w s t new given r same k free is told h =
    ok_is r (begun_state s new given) (IsSchedule infos w) (subst (λ x. IfOk r (λ next. next ≡ begun_state x new given)) same h) (begun_kept infos w s new given k free is told)

abbrev AgainBy : State → ℕ → Bool → List Record → Reply → State → Type 0
AgainBy s c moved new given next = (l : Kept) → slice_get s.calls c ≡ Some l → next ≡ again_state s c l (mark_of moved) new given

pub again_is : (infos : List TableInfo) (w : Batch) (s t : State) (c : ℕ) (moved : Bool) (new : List Record) (given : Reply) (r : Result State NoMemory) → t ≡ s → IsSchedule infos w s → IsLiveCall s c
    → IfOk r (λ next. (l : Kept) → slice_get t.calls c ≡ Some l → next ≡ again_state t c l (mark_of moved) new given) → IfOk r (λ next. schedule_of next ≡ after w (schedule_of s) (round_event moved c))
again_is infos w s t c moved new given r same k live h =
    ok_by r (AgainBy s c moved new given) (λ next. schedule_of next ≡ after w (schedule_of s) (round_event moved c))
    (λ next is. ap schedule_of (is live.0 live.1.at) ∙ again_seen infos w s c live.0 moved new given k live.1) (subst (λ x. IfOk r (AgainBy x c moved new given)) same h)

pub again_right : (infos : List TableInfo) (w : Batch) (s t : State) (c : ℕ) (moved : Bool) (new : List Record) (given : Reply) (r : Result State NoMemory) → t ≡ s → IsSchedule infos w s → IsLiveCall s c
    → refusal w (schedule_of s) (round_event moved c) ≡ None → new ≡ records_at w s.order (length s.order) c → given ≡ (w.run c (table_at w s.order (length s.order))).reply
    → IfOk r (λ next. (l : Kept) → slice_get t.calls c ≡ Some l → next ≡ again_state t c l (mark_of moved) new given) → IfOk r (IsSchedule infos w)
again_right infos w s t c moved new given r same k live free are told h =
    ok_by r (AgainBy s c moved new given) (IsSchedule infos w)
    (λ next is. subst (IsSchedule infos w) (sym (is live.0 live.1.at)) (again_kept infos w s c live.0 moved new given k live.1 free are told)) (subst (λ x. IfOk r (AgainBy x c moved new given)) same h)

abbrev AnsweredBy : State → ℕ → State → Type 0
AnsweredBy s c next = (l : Kept) → slice_get s.calls c ≡ Some l → next ≡ answered_state s c l

pub answered_is : (w : Batch) (s : State) (c : ℕ) (r : Result State NoMemory) → IsLiveCall s c → IfOk r (λ next. (l : Kept) → slice_get s.calls c ≡ Some l → next ≡ answered_state s c l)
    → IfOk r (λ next. schedule_of next ≡ after w (schedule_of s) (R c))
answered_is w s c r live h =
    ok_by r (AnsweredBy s c) (λ next. schedule_of next ≡ after w (schedule_of s) (R c)) (λ next is. ap schedule_of (is live.0 live.1.at) ∙ answered_seen w s c live.0 live.1) h

pub answered_right : (infos : List TableInfo) (w : Batch) (s : State) (c : ℕ) (r : Result State NoMemory) → IsSchedule infos w s → IsLiveCall s c → refusal w (schedule_of s) (R c) ≡ None
    → IfOk r (λ next. (l : Kept) → slice_get s.calls c ≡ Some l → next ≡ answered_state s c l) → IfOk r (IsSchedule infos w)
answered_right infos w s c r k live free h =
    ok_by r (AnsweredBy s c) (IsSchedule infos w) (λ next is. subst (IsSchedule infos w) (sym (is live.0 live.1.at)) (answered_kept infos w s c live.0 k live.1 free)) h

abbrev CommittedBy : State → ℕ → Bool → List Record → Reply → State → Type 0
CommittedBy s c own new reply next = (l : Kept) → slice_get s.calls c ≡ Some l → next ≡ committed_state s c l own new reply (left_by new reply.end s.tables)

pub committed_is : (infos : List TableInfo) (w : Batch) (s t : State) (c : ℕ) (own : Bool) (new : List Record) (reply : Reply) (r : Result State NoMemory) → t ≡ s → IsSchedule infos w s → IsLiveCall s c
    → IfOk r (λ next. (l : Kept) → slice_get t.calls c ≡ Some l → next ≡ committed_state t c l own new reply (left_by new reply.end t.tables)) → IfOk r (λ next. schedule_of next ≡ after w (schedule_of s) (commit_event own c))
committed_is infos w s t c own new reply r same k live h =
    ok_by r (CommittedBy s c own new reply) (λ next. schedule_of next ≡ after w (schedule_of s) (commit_event own c))
    (λ next is. ap schedule_of (is live.0 live.1.at) ∙ committed_seen infos w s c live.0 own new reply (left_by new reply.end s.tables) k live.1) (subst (λ x. IfOk r (CommittedBy x c own new reply)) same h)

pub committed_right : (p : Program) (rounds : ℕ) (s t : State) (c : ℕ) (own : Bool) (new : List Record) (reply : Reply) (r : Result State NoMemory) → IsProgram p → t ≡ s → IsSchedule p.resolved.tables (audited p rounds) s → IsLiveCall s c
    → refusal (audited p rounds) (schedule_of s) (commit_event own c) ≡ None → new ≡ records p c s.tables → reply ≡ reply_in (result_of p c s.tables)
    → IfOk r (λ next. (l : Kept) → slice_get t.calls c ≡ Some l → next ≡ committed_state t c l own new reply (left_by new reply.end t.tables)) → IfOk r (IsSchedule p.resolved.tables (audited p rounds))
committed_right p rounds s t c own new reply r whole same k live free are told h =
    ok_by r (CommittedBy s c own new reply) (IsSchedule p.resolved.tables w)
    (λ next is. subst (IsSchedule p.resolved.tables w) (sym (is live.0 live.1.at))
    (committed_kept p.resolved.tables w s c live.0 own new reply (left_by new reply.end s.tables) k live.1 free (are ∙ ap (records p c) k.tables) told left_is_its (subst (IsDatabaseOf p.resolved.tables) (sym left_is_its) by.1)))
    (subst (λ x. IfOk r (CommittedBy x c own new reply)) same h) where
      w : Batch
      w = audited p rounds

      by : (left_by (records p c s.tables) (reply_in (result_of p c s.tables)).end s.tables ≡ tables_left s.tables (result_of p c s.tables)) × IsDatabaseOf p.resolved.tables (tables_left s.tables (result_of p c s.tables))
      by = leaves_by p c s.tables whole k.database

      left_is_its : left_by new reply.end s.tables ≡ tables_left s.tables (result_of p c s.tables)
      left_is_its =
          ap (λ rs. left_by rs reply.end s.tables) are
          ∙ (ap (λ (x : Reply). left_by (records p c s.tables) x.end s.tables) told ∙ by.0)

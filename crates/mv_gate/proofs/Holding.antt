-- What a holder knows of its call, and what the history has of it.
use Rattle.std.proofs.Common.{◌≡◌, ◌↔◌, ℕ, ◌≤◌, ◌<◌, Bool, true, false, List, Option, Some, None, length, sym, ap, subst, ◌∙◌, arith, rules}
use Rattle.std.specs.Prelude.{IsTrue}
use mathlib.Core.List.{IsPrefix}
use Rattle.mv_values.specs.Tables.{Tables}
use Rattle.mv_exec.specs.declared.task.Task.{Task}
use Rattle.mv_journal.specs.declared.outcome.Round.{Round}
use Rattle.mv_changes.specs.declared.recent.Committed.{Committed}
use Rattle.mv_changes.specs.Commits.{changes_in}
use Rattle.mv_lawful.specs.Batch.{Batch, table_at, records_at, since}
use Rattle.mv_lawful.specs.Lawful.{Live, Schedule, is_stale}
use Rattle.mv_lawful.specs.Rounds.{whole_run, round_starts_in}
use Rattle.mv_seats.specs.Scripts.{BoardScript}
use Rattle.mv_script.specs.declared.script.CompiledScript.{CompiledScript}
use Rattle.mv_script.specs.Scripts.{IsCompiledScript, batch_of}
use Rattle.mv_script.proofs.Databases.{tables_rise}
use Rattle.mv_shards.specs.Scripts.{script_in, batch}
use Rattle.mv_shards.specs.Reads.{Started}
use Rattle.mv_shards.specs.Ledgers.{Entered}
use Rattle.mv_core.specs.Calls.{IsLive, IsLiveCall, due_number}
use Rattle.mv_core.specs.Books.{Booked, batch_in, HasRounds, IsSame, IsNotStale, AreRecordsOf}
use Rattle.mv_core.specs.Cores.{RunsOn, HasRoundStarts, count_or}
use Rattle.mv_core.proofs.Taking.{one_live, due_live}
use Rattle.mv_gate.specs.Gates.{HaveRoundStarts, IsScheduler, Holding, IsExecuted, IsHeld, IsRepairing, IsWhole, StartsAt, IsKnown, IsSettledOrWhole, repaired_from}
use Rattle.mv_gate.proofs.Prefixes.{number_by, table_prefix, number_prefix}
use Rattle.mv_gate.proofs.Numbers.{number_came}
use Rattle.mv_gate.proofs.Running.{ended_records}

-- The number of the last round

within : (w : Batch) (seen : List ℕ) (c n : ℕ) (from : Option ℕ) (t : Task) → IsExecuted w seen c from n t → count_or from 0 ≤ n
within w seen c n None t e = omega arith
within w seen c n (Some from) t e = e.0

counted : (w : Batch) (seen : List ℕ) (c n : ℕ) (from : Option ℕ) (t : Task) → IsExecuted w seen c from n t → length t.log.records ≡ whole_run w seen c n → t.executed ≡ number_by w seen c from n
counted w seen c n None t e long = e ∙ long
counted w seen c n (Some from) t e long = e.2

-- A call that the history has

-- its task, where that has ended
pub known_whole : (s : BoardScript) (b : Booked) (ledger : Entered) (starts : List (Option (List ℕ))) (h : Holding) → IsScheduler s b ledger starts → IsHeld s h → IsPrefix h.start.knows.seen b.schedule.order → IsKnown b h → h.task.ended ≡ true → IsWhole b h.call h.task
known_whole s b ledger starts h d k p known ended =
    let w : Batch = batch s in
    let seen : List ℕ = h.start.knows.seen in
    let order : List ℕ = b.schedule.order in
    let live : Live = known.live in
    let round_starts : HasRoundStarts (length order) live = d.round_starts h.call live known.is_live.at in
    let db : table_at w order live.start ≡ table_at w seen h.start.number = ap (table_at w order) known.start ∙ table_prefix w seen order h.start.number p k.past in
    let all : h.task.log.records ≡ records_at w seen h.start.number h.call =
    ended_records (script_in s) h.call (table_at w seen h.start.number) h.task k.sound k.there (tables_rise (script_in s) seen h.start.number k.sound) k.runs ended in
    let due : due_number w b.schedule h.call ≡ Some h.task.executed =
    due_live w b.schedule h.call live known.is_live
    ∙ (number_came w order h.call (length order) live round_starts
    ∙ ap Some
    (ap (λ o. number_by w order h.call o live.start) known.from
    ∙ (ap (number_by w order h.call h.from) known.start
    ∙ (number_prefix w seen order h.call h.from h.start.number p (within w seen h.call h.start.number h.from h.task k.executed) k.past
    ∙ sym (counted w seen h.call h.start.number h.from h.task k.executed (ap length all)))))) in
    record {
      live = (live, known.is_live);
      there = subst (λ (x : CompiledScript). h.call < length x.calls) (sym d.script) k.there;
      runs = λ l at.
          subst (λ (x : CompiledScript). RunsOn x h.call (table_at (batch_of x) order l.start) h.task) (sym d.script)
          (subst (λ (y : Live). RunsOn (script_in s) h.call (table_at w order y.start) h.task) (one_live b.schedule h.call live l known.is_live at)
          (subst (λ (x : Tables). RunsOn (script_in s) h.call x h.task) (sym db) k.runs));
      ended = ended;
      records = λ l at.
          all
          ∙ (ap (λ (x : Tables). (w.run h.call x).records) (sym db)
          ∙ (ap (λ (y : Live). records_at w order y.start h.call) (one_live b.schedule h.call live l known.is_live at)
          ∙ ap (λ (x : CompiledScript). records_at (batch_of x) order l.start h.call) (sym d.script)));
      number = λ none. subst (λ (x : CompiledScript). due_number (batch_of x) b.schedule h.call ≡ Some h.task.executed) (sym d.script) due;
    }

-- its start
pub known_start : (b : Booked) (h : Holding) → IsKnown b h → (l : Live) → IsLive b.schedule h.call l → l.start ≡ h.start.number
known_start b h k l at = sym (ap (λ (x : Live). x.start) (one_live b.schedule h.call k.live l k.is_live at)) ∙ k.start

-- Whether a call is known

pub known_by : (b : Booked) (h : Holding) (rs : List Round) (start : ℕ) → HasRounds b h.call rs → ((l : Live) → IsLive b.schedule h.call l → start ≡ l.start) → start ≡ h.start.number → repaired_from (round_starts_in rs) ≡ h.from → IsKnown b h
known_by b h rs start has starts same from = record {
  live = has.live;
  is_live = has.is_live;
  start = sym (starts has.live has.is_live) ∙ same;
  from = sym (ap repaired_from has.round_starts) ∙ from;
}

-- a call with another start, or another repair, isn't known
pub other_start : (b : Booked) (h : Holding) (start : ℕ) → ((l : Live) → IsLive b.schedule h.call l → start ≡ l.start) → (start ≡ h.start.number → ⊥) → IsKnown b h → ⊥
other_start b h start starts apart k = apart (starts k.live k.is_live ∙ k.start)

pub other_from : (b : Booked) (h : Holding) (rs : List Round) → HasRounds b h.call rs → (repaired_from (round_starts_in rs) ≡ h.from → ⊥) → IsKnown b h → ⊥
other_from b h rs has apart k = apart (ap repaired_from (has.round_starts ∙ ap (λ (x : Live). x.round_starts) (one_live b.schedule h.call has.live k.live has.is_live k.is_live)) ∙ k.from)

-- a test that fails
pub not_known : (b : Booked) (h : Holding) → (IsKnown b h → ⊥) → IsTrue false ↔ IsKnown b h
not_known b h away = (λ t. absurd (search (rules, t)), λ k. absurd (away k))

-- the history and the call as contracts see them
pub known_seen : (now b : Booked) (held h : Holding) (r : Bool) → b ≡ now → h ≡ held → IsTrue r ↔ IsKnown b h → IsTrue r ↔ IsKnown now held
known_seen now b held h r scheduler one both = subst (λ (x : Holding). IsTrue r ↔ IsKnown now x) one (subst (λ (x : Booked). IsTrue r ↔ IsKnown x h) scheduler both)

-- whether the history has a live call with this start
pub starts_by : (b : Booked) (c start at : ℕ) (rs : List Round) → HasRounds b c rs → ((l : Live) → IsLive b.schedule c l → at ≡ l.start) → at ≡ start → StartsAt b c start
starts_by b c start at rs has starts same = record { live = has.live; is_live = has.is_live; start_is = sym (starts has.live has.is_live) ∙ same }

pub starts_not : (b : Booked) (c start at : ℕ) → ((l : Live) → IsLive b.schedule c l → at ≡ l.start) → (at ≡ start → ⊥) → StartsAt b c start → ⊥
starts_not b c start at starts apart k = apart (starts k.live k.is_live ∙ k.start_is)

-- Where nothing was changed

pub whole_same : (old new : Booked) (c : ℕ) (t : Task) → IsSame old new → IsWhole old c t → IsWhole new c t
whole_same old new c t same h = record {
  live = subst (λ (s : Schedule). IsLiveCall s c) (sym same.schedule) h.live;
  there = subst (λ (s : CompiledScript). c < length s.calls) (sym same.script) h.there;
  runs = λ l live.
      subst (λ (s : CompiledScript). RunsOn s c (table_at (batch_of s) new.schedule.order l.start) t) (sym same.script)
      (subst (λ (s : Schedule). RunsOn old.script c (table_at (batch_in old) s.order l.start) t) (sym same.schedule) (h.runs l (subst (λ (s : Schedule). IsLive s c l) same.schedule live)));
  ended = h.ended;
  records = λ l live.
      h.records l (subst (λ (s : Schedule). IsLive s c l) same.schedule live)
      ∙ (ap (λ (s : Schedule). records_at (batch_in old) s.order l.start c) (sym same.schedule) ∙ ap (λ (s : CompiledScript). records_at (batch_of s) new.schedule.order l.start c) (sym same.script));
  number = λ none.
      ap (λ (s : CompiledScript). due_number (batch_of s) new.schedule c) same.script ∙ (ap (λ (s : Schedule). due_number (batch_in old) s c) same.schedule ∙ h.number (λ had. none (same.settled c had)));
}

pub fresh_same : (old new : Booked) (c : ℕ) → IsSame old new → IsNotStale old c → IsNotStale new c
fresh_same old new c same fresh = subst (λ (s : Schedule). (l : Live) → IsLive s c l → is_stale s l ≡ false) (sym same.schedule) fresh

-- a call that is known was repaired from the start that its rounds tell
pub known_from : (b : Booked) (h : Holding) (rs : List Round) → HasRounds b h.call rs → IsKnown b h → repaired_from (round_starts_in rs) ≡ h.from
known_from b h rs has k = ap repaired_from (has.round_starts ∙ ap (λ (x : Live). x.round_starts) (one_live b.schedule h.call has.live k.live has.is_live k.is_live)) ∙ k.from

-- each live call has its rounds
pub round_starts_same : (old new : Booked) (c : ℕ) → IsSame old new → HaveRoundStarts old.schedule → (l : Live) → IsLive new.schedule c l → HasRoundStarts (length new.schedule.order) l
round_starts_same old new c same round_starts l live = subst (λ (s : Schedule). (x : Live) → IsLive s c x → HasRoundStarts (length s.order) x) (sym same.schedule) (λ x at. round_starts c x at.at) l live

-- A call that is to be repaired

pub repair_made : (s : BoardScript) (b : Booked) (c from : ℕ) (start : Started) (t : Task) (cs : List Committed) → b.script ≡ script_in s → IsCompiledScript (script_in s) → HaveRoundStarts b.schedule → IsWhole b c t → ((l : Live) → IsLive b.schedule c l → l.start ≡ from)
    → start.number ≡ length b.schedule.order → start.knows.seen ≡ b.schedule.order → ((l : Live) → IsLive b.schedule c l → changes_in cs ≡ since (batch_in b) b.schedule.order l.start)
    → IsRepairing s (record { call = c; start = start; from = from; task = t; since = cs })
repair_made s b c from start t cs script sound round_starts whole starts number seen changes =
    let live = whole.live in
    let at : (live.0).start ≡ from = starts live.0 live.1 in
    record {
      there = subst (λ (x : CompiledScript). c < length x.calls) script whole.there;
      sound = sound;
      before = let past = (round_starts c live.0 live.1.at).past in omega (arith, past, at, number);
      last = number ∙ ap length (sym seen);
      runs =
          subst (λ (xs : List ℕ). RunsOn (script_in s) c (table_at (batch s) xs from) t) (sym seen)
          (subst (λ n. RunsOn (script_in s) c (table_at (batch s) b.schedule.order n) t) at (subst (λ (x : CompiledScript). RunsOn x c (table_at (batch_of x) b.schedule.order (live.0).start) t) script (whole.runs live.0 live.1)));
      ended = whole.ended;
      since =
          changes live.0 live.1
          ∙ (ap (λ (x : CompiledScript). since (batch_of x) b.schedule.order (live.0).start) script ∙ (ap (since (batch s) b.schedule.order) at ∙ ap (λ (xs : List ℕ). since (batch s) xs from) (sym seen)));
    }

-- A call that was run whole anew

pub renewed : (s : BoardScript) (b : Booked) (c n : ℕ) (seen : List ℕ) (t : Task) → b.script ≡ script_in s → IsCompiledScript (script_in s) → HaveRoundStarts b.schedule → IsLiveCall b.schedule c → c < length b.script.calls → IsSettledOrWhole b c → ((l : Live) → IsLive b.schedule c l → n ≡ l.start)
    → seen ≡ b.schedule.order → RunsOn (script_in s) c (table_at (batch s) seen n) t → t.ended ≡ true → t.log.records ≡ records_at (batch s) seen n c → t.executed ≡ length t.log.records → IsWhole b c t
renewed s b c n seen t script sound round_starts live there number starts same runs ended are all = record {
  live = live;
  there = there;
  runs = λ l at.
      subst (λ (x : CompiledScript). RunsOn x c (table_at (batch_of x) b.schedule.order l.start) t) (sym script)
      (subst (λ (xs : List ℕ). RunsOn (script_in s) c (table_at (batch s) xs l.start) t) same (subst (λ k. RunsOn (script_in s) c (table_at (batch s) seen k) t) (starts l at) runs));
  ended = ended;
  records = records;
  number = λ none.
      let l : Live = live.0 in
      let at : IsLive b.schedule c l = live.1 in
      due_live (batch_in b) b.schedule c l at
      ∙ (number_came (batch_in b) b.schedule.order c (length b.schedule.order) l (round_starts c l at.at)
      ∙ ap Some (ap (λ o. number_by (batch_in b) b.schedule.order c o l.start) (number none l at) ∙ (sym (ap length (records l at)) ∙ sym all)));
} where
  records : AreRecordsOf b c t.log.records
  records l at =
      are
      ∙ (ap (λ k. records_at (batch s) seen k c) (starts l at)
      ∙ (ap (λ (xs : List ℕ). records_at (batch s) xs l.start c) same ∙ ap (λ (x : CompiledScript). records_at (batch_of x) b.schedule.order l.start c) (sym script)))

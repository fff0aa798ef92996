-- Calls that stand as before, and logs that have the same records.
use Rattle.std.proofs.Common.{◌≡◌, ◌<◌, ◌≤◌, ℕ, zero, suc, ◌+◌, Bool, true, false, List, [], ◌∷◌, ◌++◌, Some, length, slice_get, take, refl, sym, ap, subst, ◌∙◌, arith}
use Rattle.std.specs.Prelude.{slice_index_or}
use Rattle.std.proofs.lemmas.List.{take_all}
use Rattle.mv_values.specs.Patching.{applied}
use Rattle.mv_catalog.specs.declared.resolved.ProcInfo.{ProcInfo}
use Rattle.mv_eval.specs.declared.state.State.{State}
use Rattle.mv_record.specs.declared.record.Record.{Record}
use Rattle.mv_record.specs.Effects.{record_of}
use Rattle.mv_record.specs.Runs.{lines_in, writes_in}
use Rattle.mv_recorded.specs.Reading.{last_place, sets_variable}
use Rattle.mv_recorded.specs.Recorded.{Site, outside}
use Rattle.mv_log.specs.Logged.{Logged, empty as no_records}
use Rattle.mv_effect.specs.Logging.{IsBlank}
use Rattle.mv_exec.specs.declared.frames.Frame.{Frame}
use Rattle.mv_exec.specs.declared.recording.OpenStatement.{OpenStatement}
use Rattle.mv_exec.specs.declared.recording.Origin.{Origin}
use Rattle.mv_exec.specs.declared.recording.Origin.TheVariants.{Executed, Kept}
use Rattle.mv_exec.specs.declared.task.Task.{Task}
use Rattle.mv_exec.specs.Left.{left}
use Rattle.mv_exec.specs.Frames.{EndsLeft, jobs_left, site_in, site_of}
use Rattle.mv_exec.specs.Recording.{IsAtRest, MayCome, IsRecordOf, opened, kept_after, closed, cut}
use Rattle.mv_exec.specs.Steps.{with_log}
use Rattle.mv_exec.specs.Tasks.{frames_of, IsTask, AreHeldBefore, StandsAsBefore, task_at}
use Rattle.mv_exec.proofs.Framing.{site_step}

-- a call stands as before where it does so twice
pub before_both : (proc : ProcInfo) (old mid new : Task) → StandsAsBefore proc old mid → StandsAsBefore proc mid new → StandsAsBefore proc old new
before_both proc old mid new a b = record {
  parameters = b.parameters ∙ a.parameters;
  records = b.records ∙ a.records;
  executed = b.executed ∙ a.executed;
  beginning = b.beginning ∙ a.beginning;
  left = λ tables db. b.left tables db ∙ a.left tables db;
}

-- Logs

-- a call whose log has the same records
pub logged_task : (proc : ProcInfo) (task : Task) (log : Logged) → log.records ≡ task.log.records → IsTask proc task → IsTask proc (with_log task log)
logged_task proc task log same t = record {
  filled = t.filled;
  numbers = t.numbers;
  ends = subst (λ rs. EndsLeft proc rs (frames_of task)) (sym same) t.ends;
  holders = subst (λ (rs : List Record). AreHeldBefore (length rs) (frames_of task)) (sym same) t.holders;
  some = t.some;
  empty = t.empty;
  definers = λ x. t.definers x ∙ ap (last_place (sets_variable x) 0) (sym same);
  counted = omega (arith, t.counted, ap length same);
}

pub logged_before : (proc : ProcInfo) (task : Task) (log : Logged) → log.records ≡ task.log.records → StandsAsBefore proc task (with_log task log)
logged_before proc task log same = record {
  parameters = refl;
  records = same;
  executed = refl;
  beginning = refl;
  left = λ tables db. ap (λ (rs : List Record). left tables task.parameters (jobs_left proc rs (frames_of task)) rs (let st : State = record { env = task.variables.env; tables = applied (writes_in rs) db; lines = lines_in rs } in st)) same;
}

-- the first items of two lists are those of the first one
pub take_front : {A : Type 0} (xs ys : List A) → take (length xs) (xs ++ ys) ≡ xs
take_front [] ys = refl
take_front (x ∷ xs) ys = ap (λ l. x ∷ l) (take_front xs ys)

-- the records up to the last one are all of them
pub cut_records : (rs : List Record) (n : ℕ) (log new : Logged) → new ≡ cut n log → n ≡ length rs → log.records ≡ rs → new.records ≡ rs
cut_records rs n log new is num same =
    ap (λ (l : Logged). l.records) is ∙ (ap (λ k. take k log.records) num ∙ (ap (take (length rs)) same ∙ take_all (length rs) rs (omega arith)))

pub empty_rests : (log : Logged) → log ≡ no_records → IsAtRest log
empty_rests log is = subst IsAtRest (sym is) (record { turns = refl; reads = refl; blank = record { effect = refl; tests = refl; columns = refl } })

pub repair_rests : (log new : Logged) → new ≡ record log { records = []; past = log.records; kept = 0 } → IsAtRest log → IsAtRest new
repair_rests log new is rest =
    subst IsAtRest (sym is) (record { turns = rest.turns; reads = rest.reads; blank = record { effect = rest.blank.effect; tests = rest.blank.tests; columns = rest.blank.columns } })

pub cut_rests : (n : ℕ) (log new : Logged) → new ≡ cut n log → IsAtRest new
cut_rests n log new is = subst IsAtRest (sym is) (record { turns = refl; reads = refl; blank = record { effect = refl; tests = refl; columns = refl } })

-- a turn changes no log
pub turned_log : (task : Task) (outer : List Frame) (last frame : Frame) (turn : Bool) → (task_at task outer last frame turn).log ≡ task.log
turned_log task outer last frame true = refl
turned_log task outer last frame false = refl

-- a call that fell, once its log is cut to the records that it had
pub record IsCleaned (proc : ProcInfo) (old new : Task) : Type 0 where
  pub whole : IsTask proc new
  pub before : StandsAsBefore proc old new
  pub rest : IsAtRest new.log

pub cleaned : (proc : ProcInfo) (old mid : Task) (log : Logged) (n : ℕ) → IsTask proc mid → StandsAsBefore proc old mid → log ≡ cut n mid.log → n ≡ length old.log.records → IsCleaned proc old (with_log mid log)
cleaned proc old mid log n t before is num =
    let same : log.records ≡ mid.log.records = cut_records mid.log.records n mid.log log is (num ∙ ap length (sym before.records)) refl in
    record {
      whole = logged_task proc mid log same t;
      before = before_both proc old mid (with_log mid log) before (logged_before proc mid log same);
      rest = cut_rests n mid.log log is;
    }

-- The record of the open statement

-- with one turn more
pub turns_step : (first log new : Logged) (ps : List Frame) (i : ℕ) (d : Frame) → i < length ps → log ≡ opened first (site_of outside (take i ps)).turns first.reads
    → new ≡ opened log (site_in (slice_index_or ps i d).holder (site_of outside (take i ps))).turns log.reads → new ≡ opened first (site_of outside (take (i + 1) ps)).turns first.reads
turns_step first log new ps i d lt h is =
    is
    ∙ (ap (λ (l : Logged). opened l (site_in (slice_index_or ps i d).holder (site_of outside (take i ps))).turns l.reads) h
    ∙ ap (λ (s : Site). opened first s.turns first.reads) (sym (site_step ps i d lt)))

-- with reads after its turns
pub opened_twice : (first log new : Logged) (turns : List ℕ) → log ≡ opened first turns first.reads → new ≡ opened log log.turns new.reads → new ≡ opened first new.turns new.reads
opened_twice first log new turns h is =
    let e : new ≡ opened first turns new.reads = is ∙ ap (λ (l : Logged). opened l l.turns new.reads) h in
    e ∙ ap (λ ts. opened first ts new.reads) (sym (ap (λ (l : Logged). l.turns) e))

pub opened_blank : (log new : Logged) → new ≡ opened log new.turns new.reads → IsBlank log → IsBlank new
opened_blank log new is blank = subst IsBlank (sym is) (record { effect = blank.effect; tests = blank.tests; columns = blank.columns })

-- a past record may be kept after the statement was begun
pub opened_may : (log new : Logged) (n : ℕ) → new ≡ opened log new.turns new.reads → IsBlank log → n < length log.past → log.kept ≤ n → MayCome new (Kept n)
opened_may log new n is blank lt le =
    let past : length new.past ≡ length log.past = ap (λ (l : Logged). length l.past) is in
    let kept : new.kept ≡ log.kept = ap (λ (l : Logged). l.kept) is in
    (omega (arith, lt, past), (omega (arith, le, kept), opened_blank log new is blank))

pub closed_rests : (log new : Logged) (origin : Origin) (r : Record) → new ≡ closed log origin r → IsAtRest new
closed_rests log new origin r is = subst IsAtRest (sym is) (record { turns = refl; reads = refl; blank = record { effect = refl; tests = refl; columns = refl } })

pub get_in : (rs : List Record) (n : ℕ) → n < length rs → (given : Record) × (slice_get rs n ≡ Some given)
get_in [] n lt = absurd (omega (arith, lt))
get_in (r ∷ rs) zero lt = (r, refl)
get_in (r ∷ rs) (suc n) lt = get_in rs n (omega (arith, lt))

-- there is one
pub some_record : (log : Logged) (at : OpenStatement) (origin : Origin) → MayCome log origin → (r : Record) × IsRecordOf log at origin r
some_record log at Executed may = (record_of (record { statement = at.statement; turns = log.turns }) at.parent log.reads log.effect, refl)
some_record log at (Kept n) may =
    let past : (given : Record) × (slice_get log.past n ≡ Some given) = get_in log.past n may.0 in
    (let given = past.0 in record given { spot = record { statement = at.statement; turns = log.turns }; parent = at.parent; reads = log.reads }, (past.0, (past.1, refl)))

-- without it the log has the records that it had
pub cut_closed : (log first new : Logged) (origin : Origin) (r : Record) (n : ℕ) → first ≡ closed log origin r → new ≡ cut n first → n ≡ length log.records → new.records ≡ log.records
cut_closed log first new origin r n is less num =
    ap (λ (l : Logged). l.records) less ∙ (ap (λ (l : Logged). take n l.records) is ∙ (ap (λ k. take k (log.records ++ r ∷ [])) num ∙ take_front log.records (r ∷ [])))

pub cut_kept : (log first new : Logged) (origin : Origin) (r : Record) (n : ℕ) → first ≡ closed log origin r → new ≡ cut n first → origin ≡ Executed → new.kept ≡ log.kept
cut_kept log first new origin r n is less none = ap (λ (l : Logged). l.kept) less ∙ (ap (λ (l : Logged). l.kept) is ∙ ap (kept_after log.kept) none)

pub cut_past : (log first new : Logged) (origin : Origin) (r : Record) (n : ℕ) → first ≡ closed log origin r → new ≡ cut n first → new.past ≡ log.past
cut_past log first new origin r n is less = ap (λ (l : Logged). l.past) less ∙ ap (λ (l : Logged). l.past) is

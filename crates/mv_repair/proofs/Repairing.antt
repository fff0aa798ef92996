-- The beginning and the end of a repair.
use Rattle.std.proofs.Common.{◌≡◌, ℕ, ◌+◌, ◌*◌, Bool, true, Option, List, [], ◌++◌, length, refl, sym, ap, subst, ◌∙◌, arith, append-nil}
use Rattle.mv_values.specs.declared.calls.Call.{Call}
use Rattle.mv_values.specs.Tables.{Tables}
use Rattle.mv_values.specs.declared.pred.Pred.{Pred}
use Rattle.mv_record.specs.declared.record.Record.{Record}
use Rattle.mv_record.specs.Runs.{writes_in}
use Rattle.mv_record.specs.Writes.{AreRising}
use Rattle.mv_view.specs.Viewing.{Sight}
use Rattle.mv_effect.specs.Looking.{AskedFor}
use Rattle.mv_graph.specs.declared.graph.Graph.{Graph}
use Rattle.mv_graph.specs.Nodes.{meaning_of}
use Rattle.mv_exec.specs.declared.task.Task.{Task}
use Rattle.mv_exec.specs.Running.{IsTaskOf, IsTaskOn, IsSameCall, IsUnchanged}
use Rattle.mv_exec.proofs.Fronts.{ends_exactly, one_run}
use Rattle.mv_history.specs.declared.change.Change.{Change}
use Rattle.mv_history.specs.Kept.{Placed, with_paths, executions, kept_paths}
use Rattle.mv_soundness.proofs.Placing.{its_all}
use Rattle.mv_repair.specs.declared.walk.OldRun.{OldRun}
use Rattle.mv_repair.specs.declared.walk.NewRun.{NewRun}
use Rattle.mv_repair.specs.Keys.{TableKeys}
use Rattle.mv_repair.specs.Repairing.{IsRepairable, queried, HasQueried}
use Rattle.mv_repair.specs.Walking.{hits_in, IsOld, IsNew, IsUnderway}
use Rattle.mv_effect.proofs.Asked.{asked_both, none_asked}
use Rattle.mv_repair.proofs.Asking.{keys_within, still_queried}

-- A call that has ended has all records of its full run

pub all_of : (g : Graph) (call : Call) (db : Tables) (task : Task) → AreRising db → IsTaskOn g call db task → task.ended ≡ true → task.log.records ≡ (meaning_of g call db).records
all_of g call db task rise on ended =
    let none : on.rest ≡ [] = (ends_exactly g call db task on.rest on.is rise on.leaves).0 ended in
    sym (append-nil task.log.records) ∙ (ap (λ rs. task.log.records ++ rs) (sym none) ∙ sym on.leaves)

-- The beginning

pub begins : (g : Graph) (changes : List Change) (db : Tables) (was task : Task) (old : OldRun) (new : NewRun) → IsRepairable g was changes db → IsSameCall g was task → task.log.records ≡ [] → task.executed ≡ 0 → task.log.past ≡ was.log.records → task.log.kept ≡ 0
    → old ≡ record { hits = hits_in changes [] was.log.records; at = 0; others = []; keys = []; known = 0 } → new ≡ record { kept = []; others = []; keys = []; known = 0 }
    → IsUnderway g changes db was.log.records task old new
begins g changes db was task old new r same none zero past kept old_is new_is = record {
  call = r.call;
  was = r.old;
  runs = r.runs;
  olds = all_of g r.call r.old was r.runs.old_is.rising r.on r.ended;
  past = past;
  rises = omega (arith, kept);
  is = same r.call r.on.is;
  left = (meaning_of g r.call db).records;
  leaves = ap (λ l. l ++ (meaning_of g r.call db).records) (sym none);
  rest = rest;
  split = ap (λ l. with_paths l ++ rest) (sym none);
  beside =
      subst (λ (rs : List Record). IsOld changes was.log.records (kept_paths was.log.records rs changes) rest old) (sym none)
      (subst (IsOld changes was.log.records [] rest) (sym old_is) (record {
        passed = [];
        coming = with_paths was.log.records;
        split = refl;
        at = refl;
        hits = ap (hits_in changes []) (sym (its_all was.log.records));
        others = refl;
        within = omega arith;
        known = tt;
        below = tt;
        behind = tt;
      }));
  along =
      subst (λ (rs : List Record). IsNew was.log.records (kept_paths was.log.records rs changes) rest rs new) (sym none)
      (subst (IsNew was.log.records [] rest []) (sym new_is) (record { marks = tt; others = refl; numbers = tt; within = omega arith; known = tt; behind = tt }));
  count = subst (λ (rs : List Record). task.executed + length (kept_paths was.log.records rs changes) ≡ length rs) (sym none) (omega (arith, zero));
}
  where
    rest : List Placed
    rest = with_paths (meaning_of g r.call db).records

same_old : (hs is : List Bool) (ns : List ℕ) (ks : List TableKeys) → hs ≡ is → ns ≡ [] → ks ≡ []
    → ◌≡◌ {A = OldRun} (record { hits = hs; at = 0; others = ns; keys = ks; known = 0 }) (record { hits = is; at = 0; others = []; keys = []; known = 0 })
same_old hs is ns ks l m n =
    ap (λ x. (let o : OldRun = record { hits = x; at = 0; others = ns; keys = ks; known = 0 } in o)) l
    ∙ (ap (λ x. (let o : OldRun = record { hits = is; at = 0; others = x; keys = ks; known = 0 } in o)) m
    ∙ ap (λ x. (let o : OldRun = record { hits = is; at = 0; others = []; keys = x; known = 0 } in o)) n)

same_new : (ks : List (Option ℕ)) (ns : List ℕ) (ms : List TableKeys) → ks ≡ [] → ns ≡ [] → ms ≡ []
    → ◌≡◌ {A = NewRun} (record { kept = ks; others = ns; keys = ms; known = 0 }) (record { kept = []; others = []; keys = []; known = 0 })
same_new ks ns ms k l m =
    ap (λ x. (let o : NewRun = record { kept = x; others = ns; keys = ms; known = 0 } in o)) k
    ∙ (ap (λ x. (let o : NewRun = record { kept = []; others = x; keys = ms; known = 0 } in o)) l
    ∙ ap (λ x. (let o : NewRun = record { kept = []; others = []; keys = x; known = 0 } in o)) m)

-- what `repair` makes
pub begun : (g : Graph) (changes : List Change) (db : Tables) (was task : Task) (hs : List Bool) (ns : List ℕ) (us : List TableKeys) (ks : List (Option ℕ)) (ms : List ℕ) (vs : List TableKeys)
    → IsRepairable g was changes db → IsSameCall g was task → task.log.records ≡ [] → task.executed ≡ 0 → task.log.past ≡ was.log.records → task.log.kept ≡ 0
    → hs ≡ hits_in changes [] was.log.records → ns ≡ [] → us ≡ [] → ks ≡ [] → ms ≡ [] → vs ≡ []
    → IsUnderway g changes db was.log.records task (record { hits = hs; at = 0; others = ns; keys = us; known = 0 }) (record { kept = ks; others = ms; keys = vs; known = 0 })
begun g changes db was task hs ns us ks ms vs r same none zero past kept c d u f h v =
    begins g changes db was task _ _ r same none zero past kept (same_old hs (hits_in changes [] was.log.records) ns us c d u) (same_new ks ms vs f h v)

-- nothing was queried yet
pub none_queried : (os ns : List Record) (changes : List Change) (vain : List Pred) (now : Sight) → HasQueried os ns changes vain now now
none_queried os ns changes vain now = none_asked (queried os ns changes ++ vain) (writes_in (os ++ ns)) now

-- The end

pub all_there : (g : Graph) (changes : List Change) (db : Tables) (os : List Record) (task : Task) (old : OldRun) (new : NewRun) → IsUnderway g changes db os task old new → task.ended ≡ true
    → (call : Call) → IsTaskOf g call task → task.log.records ≡ (meaning_of g call db).records
all_there g changes db os task old new u ended call is =
    all_of g u.call db task u.runs.new_is.rising (record { is = u.is; rest = u.left; leaves = u.leaves }) ended ∙ one_run g u.call call task db u.is is

-- the call is on the new database
pub is_on : (g : Graph) (call : Call) (db : Tables) (task : Task) → IsTaskOf g call task → task.log.records ≡ (meaning_of g call db).records → IsTaskOn g call db task
is_on g call db task is all = record { is = is; rest = []; leaves = sym all ∙ sym (append-nil task.log.records) }

pub all_counted : (g : Graph) (changes : List Change) (db : Tables) (os : List Record) (task : Task) (old : OldRun) (new : NewRun) → IsUnderway g changes db os task old new → task.executed ≡ executions os task.log.records changes
all_counted g changes db os task old new u = omega (arith, u.count)

-- A record that was tried in vain

pub tried : (os : List Record) (task task' : Task) (changes : List Change) (ps : List Pred) (start now after : Sight) → HasQueried os task.log.records changes [] start now → IsUnchanged task task' → AskedFor ps (writes_in task'.log.records) now after
    → HasQueried os task'.log.records changes ps start after
tried os task task' changes ps start now after q same last =
    let rs : List Record = task'.log.records in
    let before : HasQueried os rs changes [] start now = subst (λ (l : List Record). HasQueried os l changes [] start now) (sym same.records) q in
    subst (λ qs. AskedFor (qs ++ ps) (writes_in (os ++ rs)) start after) (append-nil (queried os rs changes))
    (asked_both (queried os rs changes ++ []) ps (writes_in (os ++ rs)) (writes_in (os ++ rs)) start now after (omega arith) before (still_queried ps (writes_in rs) (writes_in (os ++ rs)) now after (keys_within os rs) last))

-- A record for the next statement, which a call first comes to.
use Rattle.std.proofs.Common.{◌≡◌, Bool, true, false, List, [], ◌∷◌, ◌++◌, None, refl, sym, ap, subst, ◌∙◌}
use Rattle.mv_catalog.specs.declared.resolved.ProcInfo.{ProcInfo}
use Rattle.mv_values.specs.Patching.{applied}
use Rattle.mv_values.specs.Tables.{KeysStand}
use Rattle.mv_record.specs.declared.record.Record.{Record}
use Rattle.mv_record.specs.Runs.{writes_in}
use Rattle.mv_exec.specs.declared.task.Task.{Task}
use Rattle.mv_exec.specs.Tasks.{left_of, IsTask, StandsAsBefore}
use Rattle.mv_exec.specs.Ahead.{PeeksLeft}
use Rattle.mv_exec.specs.Steps.{HasAddedRecord}
use Rattle.mv_exec.proofs.Stepping.{some_left}

-- something is ahead of a call that hasn't ended
pub some_ahead : (proc : ProcInfo) (task : Task) → IsTask proc task → task.ended ≡ false → PeeksLeft proc task None → ⊥
some_ahead proc task t live none = some_left proc task t live [] [] (none [] [])

pub none_ended : (proc : ProcInfo) (task : Task) → task.ended ≡ true → PeeksLeft proc task None
none_ended proc task e tables db = subst (λ b. left_of proc tables (record task { ended = b }) db ≡ []) (sym e) refl

-- a call that stands as before one that hasn't ended hasn't either
pub still_live : (proc : ProcInfo) (old new : Task) → IsTask proc old → old.ended ≡ false → StandsAsBefore proc old new → new.ended ≡ false
still_live proc old new t live before = by new.ended refl
  where
    by : (b : Bool) → new.ended ≡ b → new.ended ≡ false
    by true e = absurd (some_left proc old t live [] [] (sym (before.left [] []) ∙ none_ended proc new e [] []))
    by false e = e

pub added_before : (proc : ProcInfo) (old mid : Task) (r : Record) (new : Task) → StandsAsBefore proc old mid → HasAddedRecord proc mid r new → HasAddedRecord proc old r new
added_before proc old mid r new before added = record {
  parameters = added.parameters ∙ before.parameters;
  records = added.records ∙ ap (λ rs. rs ++ r ∷ []) before.records;
  beginning = added.beginning ∙ before.beginning;
  left = λ tables db tail rise leaves. added.left tables db tail rise (before.left tables db ∙ leaves);
  keys = λ tables db tail rise leaves keys.
      added.keys tables db tail rise (before.left tables db ∙ leaves) (subst (λ (rs : List Record). KeysStand tables (applied (writes_in rs) db)) (sym before.records) keys);
}

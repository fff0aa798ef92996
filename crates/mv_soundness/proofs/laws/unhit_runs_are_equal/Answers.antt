use Rattle.std.proofs.Common.{true, ◌≡◌, List, [], subst}
use Rattle.mv_values.specs.declared.schema.TableInfo.{TableInfo}
use Rattle.mv_values.specs.declared.calls.Call.{Call}
use Rattle.mv_values.specs.Tables.{Tables}
use Rattle.mv_catalog.specs.declared.resolved.ProcInfo.{ProcInfo}
use Rattle.mv_record.specs.declared.record.Record.{Record}
use Rattle.mv_record.specs.Runs.{TellsAll}
use Rattle.mv_recorded.specs.Recorded.{recorded, meaning}
use Rattle.mv_recorded.proofs.Meant.{meaning_tells}
use Rattle.mv_history.specs.declared.change.Change.{Change}
use Rattle.mv_history.specs.Hits.{is_unhit}
use Rattle.mv_soundness.specs.Laws.{AreRuns, RunsAsBefore}
use Rattle.mv_soundness.proofs.Unhit.{unhit_same}
use Rattle.mv_soundness.proofs.laws.unhit_runs_are_equal.Goals as goal

as_before : (tables : List TableInfo) (proc : ProcInfo) (call : Call) (db new : Tables) (changes : List Change) → AreRuns tables proc call db new changes
    → is_unhit changes [] (recorded tables proc call db) ≡ true → RunsAsBefore tables proc call db new
as_before tables proc call db new changes r unhit =
    let same = unhit_same tables proc call db new changes r unhit in
    record {
      records = same;
      tells = subst (λ (rs : List Record). TellsAll new (record (meaning tables proc call new) { records = rs })) same (meaning_tells tables proc call new r.new_is.rising);
    }

pub returns : goal.returns
returns c = as_before

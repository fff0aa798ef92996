-- The calls of READ ONLY procedures change nothing.
use Rattle.std.proofs.Common.{◌≡◌, ℕ, true, List, Option, Some, None, refl}
use Rattle.std.specs.Prelude.{slice_get}
use Rattle.mv_values.specs.declared.calls.Call.{Call}
use Rattle.mv_values.specs.declared.schema.TableInfo.{TableInfo}
use Rattle.mv_values.specs.Tables.{Tables}
use Rattle.mv_recorded.proofs.Quiet.{readers_change_nothing}
use Rattle.mv_graph.specs.declared.graph.Graph.{Graph}
use Rattle.mv_lawful.specs.Batch.{ReadersKeepTables}
use Rattle.mv_script.specs.declared.script.CompiledScript.{CompiledScript}
use Rattle.mv_script.specs.Scripts.{batch_of, run_in, run_by, reads_in, reads_by, CanRun, IsScriptOf, IsCompiledScript}
use Rattle.mv_script.specs.Laws.{ReadersAreQuiet}

pub readers_are_quiet : ReadersAreQuiet
readers_are_quiet tables s k c db reads = by (slice_get s.calls c) refl reads where
  graph : (call : Call) (o : Option Graph) → slice_get s.calls c ≡ Some call → slice_get s.graphs call.procedure ≡ o → reads_by o ≡ true → (run_by o call db).tables ≡ db
  graph call None at there is = refl
  graph call (Some g) at there is =
      let can : CanRun tables call g = k.runs c call g (record { call_is = at; graph_is = there }) in
      readers_change_nothing g.tables g.procedure call db can.sound.procedure is

  by : (o : Option Call) → slice_get s.calls c ≡ o → reads_in s.graphs o ≡ true → (run_in s.graphs o db).tables ≡ db
  by None at is = refl
  by (Some call) at is = graph call (slice_get s.graphs call.procedure) at refl is

-- so in any script of one piece
pub keeps_tables : (s : CompiledScript) → IsCompiledScript s → ReadersKeepTables (batch_of s)
keeps_tables s k = readers_are_quiet k.0 s k.1

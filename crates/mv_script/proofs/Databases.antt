-- The calls of a script keep databases of its tables.
use Rattle.std.proofs.Common.{◌≡◌, ℕ, List, [], ◌∷◌, Option, Some, None, length, take, refl, sym, subst, ◌∙◌}
use Rattle.std.specs.Prelude.{slice_get}
use Rattle.mv_values.specs.declared.calls.Call.{Call}
use Rattle.mv_values.specs.declared.schema.TableInfo.{TableInfo}
use Rattle.mv_values.specs.Tables.{Tables}
use Rattle.mv_record.specs.Databases.{IsDatabaseOf}
use Rattle.mv_record.specs.Writes.{AreRising}
use Rattle.mv_recorded.proofs.Fronts.{left_is}
use Rattle.mv_graph.specs.declared.graph.Graph.{Graph}
use Rattle.mv_graph.specs.Nodes.{meaning_of}
use Rattle.mv_lawful.specs.Batch.{tables_after, table_at}
use Rattle.mv_script.specs.declared.script.CompiledScript.{CompiledScript}
use Rattle.mv_script.specs.Scripts.{batch_of, run_in, run_by, CanRun, IsScriptOf, IsCompiledScript}
use Rattle.mv_script.specs.Laws.{CallsKeepDatabases, TablesAreDatabases}

-- a call leaves a database of the same tables
pub run_database : CallsKeepDatabases
run_database tables s c db k d = by (slice_get s.calls c) refl where
  graph : (call : Call) (o : Option Graph) → slice_get s.calls c ≡ Some call → slice_get s.graphs call.procedure ≡ o → IsDatabaseOf tables (run_by o call db).tables
  graph call None at there = d
  graph call (Some g) at there =
      let can : CanRun tables call g = k.runs c call g (record { call_is = at; graph_is = there }) in
      subst (λ ts. IsDatabaseOf ts (meaning_of g call db).tables) can.over
      (left_is g.tables g.procedure call db can.sound.procedure can.suits (subst (λ ts. IsDatabaseOf ts db) (sym can.over) d))

  by : (o : Option Call) → slice_get s.calls c ≡ o → IsDatabaseOf tables (run_in s.graphs o db).tables
  by None at = d
  by (Some call) at = graph call (slice_get s.graphs call.procedure) at refl

after_database : (tables : List TableInfo) (s : CompiledScript) (cs : List ℕ) (db : Tables) → IsScriptOf tables s → IsDatabaseOf tables db → IsDatabaseOf tables (tables_after (batch_of s) db cs)
after_database tables s [] db k d = d
after_database tables s (c ∷ cs) db k d = after_database tables s cs ((batch_of s).run c db).tables k (run_database tables s c db k d)

pub table_database : TablesAreDatabases
table_database tables s order n k = after_database tables s (take n order) s.opening k k.opening

-- the keys of the tables rise after any calls
pub tables_rise : (s : CompiledScript) (order : List ℕ) (n : ℕ) → IsCompiledScript s → AreRising (table_at (batch_of s) order n)
tables_rise s order n k = (table_database k.0 s order n k.1).rising

-- there are as many after any calls
pub same_count : (s : CompiledScript) (order : List ℕ) (m n : ℕ) → IsCompiledScript s → length (table_at (batch_of s) order m) ≡ length (table_at (batch_of s) order n)
same_count s order m n k = (table_database k.0 s order m k.1).size ∙ sym (table_database k.0 s order n k.1).size

-- Defines how the calls of a script run, by the graphs of their procedures. This project's own.
use Rattle.std.specs.Prelude.{◌≡◌, ◌≤◌, ◌<◌, ◌^◌, ℕ, Bool, false, List, [], Option, Some, None, length, slice_get}
use Rattle.std.specs.List.{AllZip}
use Rattle.mv_values.specs.declared.calls.Call.{Call}
use Rattle.mv_values.specs.declared.schema.TableInfo.{TableInfo}
use Rattle.mv_values.specs.Tables.{Tables}
use Rattle.mv_catalog.specs.Text.{Suits}
use Rattle.mv_record.specs.Databases.{IsDatabaseOf}
use Rattle.mv_record.specs.Runs.{Run}
use Rattle.mv_graph.specs.declared.graph.Graph.{Graph}
use Rattle.mv_graph.specs.Nodes.{IsSound, is_read_only, meaning_of}
use Rattle.mv_lawful.specs.Batch.{Batch}
use Rattle.mv_script.specs.declared.script.CompiledScript.{CompiledScript}

-- Its batch

-- no records, no lines, and the same tables
abbrev pub idle : Tables → Run
idle db = record { records = []; reply = record { lines = []; end = None }; tables = db }

-- a call whose procedure doesn't exist executes nothing
abbrev pub run_by : Option Graph → Call → Tables → Run
run_by None call db = idle db
run_by (Some g) call db = meaning_of g call db

-- a call that doesn't exist executes nothing
abbrev pub run_in : List Graph → Option Call → Tables → Run
run_in graphs None db = idle db
run_in graphs (Some call) db = run_by (slice_get graphs call.procedure) call db

-- whether a call is of a READ ONLY procedure
abbrev pub reads_by : Option Graph → Bool
reads_by None = false
reads_by (Some g) = is_read_only g

abbrev pub reads_in : List Graph → Option Call → Bool
reads_in graphs None = false
reads_in graphs (Some call) = reads_by (slice_get graphs call.procedure)

-- what a script is to the law of journals: each call runs by its graph
abbrev pub batch_of : CompiledScript → Batch
batch_of s = record {
  run = λ c. run_in s.graphs (slice_get s.calls c);
  read_only = λ c. reads_in s.graphs (slice_get s.calls c);
  count = length s.calls;
  opening = s.opening;
  options = s.options;
}

-- Scripts of one piece

-- the call of a number, and its graph
pub record IsCallOf (s : CompiledScript) (c : ℕ) (call : Call) (g : Graph) : Type 0 where
  pub call_is : slice_get s.calls c ≡ Some call
  pub graph_is : slice_get s.graphs call.procedure ≡ Some g

-- a call can run on databases of these tables: its graph is sound and over them, its arguments suit its parameters
pub record CanRun (tables : List TableInfo) (call : Call) (g : Graph) : Type 0 where
  pub sound : IsSound g
  pub over : g.tables ≡ tables
  pub few : length call.arguments ≤ 16
  pub suits : AllZip Suits g.procedure.params call.arguments

-- each call has a graph by which it can run on databases of these tables, and the opening database is one of them
pub record IsScriptOf (tables : List TableInfo) (s : CompiledScript) : Type 0 where
  pub there : (c : ℕ) → c < length s.calls → (call : Call) × (g : Graph) × IsCallOf s c call g
  pub runs : (c : ℕ) (call : Call) (g : Graph) → IsCallOf s c call g → CanRun tables call g
  pub few : length s.calls < 2 ^ 32
  pub opening : IsDatabaseOf tables s.opening

-- so for some tables
abbrev pub IsCompiledScript : CompiledScript → Type 0
IsCompiledScript s = (tables : List TableInfo) × IsScriptOf tables s

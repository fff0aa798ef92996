-- A program's script: its calls run by the graphs of their procedures.
use Rattle.std.proofs.Common.{◌≡◌, ◌≤◌, ◌<◌, ℕ, List, Option, Some, None, length, slice_get, refl, sym, ap, subst, ◌∙◌, arith}
use Rattle.std.specs.List.{AllZip}
use Rattle.std.proofs.lemmas.Slice.Zip.{AllZip-long}
use Rattle.std.proofs.lemmas.Option.{slice_get-map}
use Rattle.std.specs.Option.{option_map}
use Rattle.mv_values.specs.declared.calls.Call.{Call}
use Rattle.mv_values.specs.declared.calls.Options.{Options}
use Rattle.mv_values.specs.Tables.{Tables}
use Rattle.mv_values.proofs.Deciding.{some_at}
use Rattle.mv_catalog.specs.declared.resolved.ProcInfo.{ProcInfo}
use Rattle.mv_catalog.specs.declared.resolved.Program.{Program}
use Rattle.mv_catalog.specs.Text.{FitsText, IsCall, IsProcedure, Suits}
use Rattle.mv_accept.specs.Accepting.{most_calls}
use Rattle.mv_eval.specs.TableAfter.{result_of, result_in, result_at, tables_left, reply_in}
use Rattle.mv_record.specs.Runs.{Run}
use Rattle.mv_record.specs.Databases.{IsProgram}
use Rattle.mv_recorded.specs.Recorded.{records, records_in, records_at}
use Rattle.mv_recorded.proofs.RowsTyped.{all_get}
use Rattle.mv_graph.specs.declared.graph.Graph.{Graph}
use Rattle.mv_compile.specs.Compiled.{graph_of, graphs_of}
use Rattle.mv_script.specs.declared.script.CompiledScript.{CompiledScript}
use Rattle.mv_script.specs.Scripts.{run_by, run_in, reads_by, reads_in, IsCallOf, CanRun, IsCompiledScript, batch_of as script_batch}
use Rattle.mv_report.specs.History.{batch_of, reads_by as proc_reads, reads_in as program_reads}

-- What a list has at a place

-- The script

-- the script of a program
abbrev pub script_of : Program → Options → CompiledScript
script_of p options = record { graphs = graphs_of p.resolved; calls = p.resolved.calls; opening = p.opening; options = options }

graph_by : (p : Program) (call : Call) (o : Option ProcInfo) → slice_get p.resolved.procedures call.procedure ≡ o → slice_get (graphs_of p.resolved) call.procedure ≡ option_map (graph_of p.resolved.tables) o
graph_by p call o h = slice_get-map (graph_of p.resolved.tables) p.resolved.procedures call.procedure ∙ ap (option_map (graph_of p.resolved.tables)) h

graph_at : (p : Program) (call : Call) (proc : ProcInfo) → slice_get p.resolved.procedures call.procedure ≡ Some proc → slice_get (graphs_of p.resolved) call.procedure ≡ Some (graph_of p.resolved.tables proc)
graph_at p call proc h = graph_by p call (Some proc) h

can_run : (p : Program) (call : Call) (proc : ProcInfo) → FitsText p.resolved → slice_get p.resolved.procedures call.procedure ≡ Some proc → AllZip Suits proc.params call.arguments
    → CanRun p.resolved.tables call (graph_of p.resolved.tables proc)
can_run p call proc fits k suits =
    let whole : IsProcedure p.resolved.tables proc = all_get (IsProcedure p.resolved.tables) p.resolved.procedures call.procedure proc fits.procedures k in
    record {
      sound = record { few = fits.few; tables = fits.tables; parents = fits.parents; procedure = whole; nodes = record { nodes = refl; steps = refl; tested = refl } };
      over = refl;
      few = let same = AllZip-long Suits proc.params call.arguments suits in omega (arith, same, whole.few);
      suits = suits;
    }

called : (p : Program) (n : ℕ) (call : Call) → FitsText p.resolved → slice_get p.resolved.calls n ≡ Some call → IsCall p.resolved.procedures call
called p n call fits h = all_get (IsCall p.resolved.procedures) p.resolved.calls n call fits.calls h

can : (p : Program) (options : Options) (n : ℕ) (call : Call) (g : Graph) → FitsText p.resolved → IsCallOf (script_of p options) n call g → CanRun p.resolved.tables call g
can p options n call g fits is =
    let it : IsCall p.resolved.procedures call = called p n call fits is.call_is in
    let same : g ≡ graph_of p.resolved.tables it.0 = (let a = graph_at p call it.0 it.1 in let b = is.graph_is in cc) in
    subst (CanRun p.resolved.tables call) (sym same) (can_run p call it.0 fits it.1 it.2)

has : (p : Program) (options : Options) (n : ℕ) → FitsText p.resolved → n < length p.resolved.calls → (call : Call) × (g : Graph) × IsCallOf (script_of p options) n call g
has p options n fits lt =
    let c = some_at p.resolved.calls n lt in
    let it : IsCall p.resolved.procedures c.0 = called p n c.0 fits c.1 in
    (c.0, graph_of p.resolved.tables it.0, record { call_is = c.1; graph_is = graph_at p c.0 it.0 it.1 })

pub script_is : (p : Program) (options : Options) → IsProgram p → length p.resolved.calls ≤ most_calls → IsCompiledScript (script_of p options)
script_is p options whole few = (
  p.resolved.tables,
  record {
    there = λ n lt. has p options n whole.text lt;
    runs = λ n call g is. can p options n call g whole.text is;
    few = omega (arith, few);
    opening = whole.opening;
  },
)

-- a script of these parts is that of its program
pub script_by : (p : Program) (options : Options) (graphs : List Graph) (calls : List Call) → graphs ≡ graphs_of p.resolved → calls ≡ p.resolved.calls
    → ◌≡◌ {A = CompiledScript} (record { graphs = graphs; calls = calls; opening = p.opening; options = options }) (script_of p options)
script_by p options graphs calls g c = λ i. record { graphs = g i; calls = c i; opening = p.opening; options = options }

-- Its batch

abbrev run_of : Program → ℕ → Tables → Run
run_of p c db = record { records = records p c db; reply = reply_in (result_of p c db); tables = tables_left db (result_of p c db) }

abbrev run_at : Program → Option Call → Tables → Run
run_at p o db = record { records = records_at p o db; reply = reply_in (result_at p o db); tables = tables_left db (result_at p o db) }

-- the same, where the call's procedure is known
abbrev run_for : Program → Call → Tables → Option ProcInfo → Run
run_for p call db o = record { records = records_in p o call db; reply = reply_in (result_in p o call db); tables = tables_left db (result_in p o call db) }

by_procedure : (p : Program) (call : Call) (db : Tables) (o : Option ProcInfo) → slice_get p.resolved.procedures call.procedure ≡ o → run_by (slice_get (graphs_of p.resolved) call.procedure) call db ≡ run_at p (Some call) db
by_procedure p call db None h = ap (λ g. run_by g call db) (graph_by p call None h) ∙ sym (ap (run_for p call db) h)
by_procedure p call db (Some proc) h = ap (λ g. run_by g call db) (graph_by p call (Some proc) h) ∙ sym (ap (run_for p call db) h)

run_is : (p : Program) (db : Tables) (o : Option Call) → run_in (graphs_of p.resolved) o db ≡ run_at p o db
run_is p db None = refl
run_is p db (Some call) = by_procedure p call db (slice_get p.resolved.procedures call.procedure) refl

-- a graph tells whether its procedure is read only
reads_at : (p : Program) (call : Call) (o : Option ProcInfo) → slice_get p.resolved.procedures call.procedure ≡ o → reads_by (slice_get (graphs_of p.resolved) call.procedure) ≡ proc_reads o
reads_at p call None h = ap reads_by (graph_by p call None h)
reads_at p call (Some proc) h = ap reads_by (graph_by p call (Some proc) h)

reads_is : (p : Program) (o : Option Call) → reads_in (graphs_of p.resolved) o ≡ program_reads p.resolved.procedures o
reads_is p None = refl
reads_is p (Some call) = reads_at p call (slice_get p.resolved.procedures call.procedure) refl

-- a script's batch is that of its program
pub batch_is : (p : Program) (options : Options) → script_batch (script_of p options) ≡ batch_of p options
batch_is p options = λ i. record {
  run = λ c db. run_is p db (slice_get p.resolved.calls c) i;
  read_only = λ c. reads_is p (slice_get p.resolved.calls c) i;
  count = length p.resolved.calls;
  opening = p.opening;
  options = options;
}

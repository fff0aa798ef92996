-- The graphs of a script's procedures, and what they mean.
use Rattle.std.specs.Prelude.{◌≡◌, List, map}
use Rattle.mv_values.specs.declared.schema.TableInfo.{TableInfo}
use Rattle.mv_values.specs.declared.calls.Call.{Call}
use Rattle.mv_values.specs.Tables.{Tables}
use Rattle.mv_catalog.specs.declared.resolved.ProcInfo.{ProcInfo}
use Rattle.mv_catalog.specs.declared.resolved.Resolved.{Resolved}
use Rattle.mv_recorded.specs.Recorded.{meaning}
use Rattle.mv_graph.specs.declared.graph.Graph.{Graph}
use Rattle.mv_graph.specs.Nodes.{nodes_in, meaning_of}
use Rattle.mv_graph.specs.Steps.{steps_in}
use Rattle.mv_graph.specs.Tests.{tested_in}

-- the graph of a procedure over these tables, with a node for each statement and the columns that it tests with `=`
abbrev pub graph_of : List TableInfo → ProcInfo → Graph
graph_of tables proc = record { tables = tables; procedure = proc; nodes = nodes_in tables proc; steps = steps_in proc; tested = tested_in proc }

-- the graph of each procedure, in order
abbrev pub graphs_of : Resolved → List Graph
graphs_of resolved = map (graph_of resolved.tables) resolved.procedures

-- on every call and every database the graph means what the procedure's text means over these tables: the records of a
-- full run, and the reply and the database of the machine that runs the call alone
abbrev pub MeansText : List TableInfo → Graph → ProcInfo → Type 0
MeansText tables graph proc = (call : Call) (db : Tables) → meaning_of graph call db ≡ meaning tables proc call db

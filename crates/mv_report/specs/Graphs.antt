-- The text of graphs: which statements each statement may depend on. Its form is this project's own.
use Rattle.std.specs.Prelude.{ℕ, Bool, true, false, List, [], ◌++◌, codes, decimal}
use Rattle.std.specs.List.{flat_map, enumerate_from, zip}
use Rattle.mv_values.specs.Texts.{line}
use Rattle.mv_catalog.specs.declared.resolved.ProcInfo.{ProcInfo}
use Rattle.mv_catalog.specs.declared.resolved.Resolved.{Resolved}
use Rattle.mv_graph.specs.declared.graph.Graph.{Graph}
use Rattle.mv_graph.specs.declared.graph.Node.{Node}
use Rattle.mv_graph.specs.declared.graph.Edges.{Edges}
use Rattle.mv_graph.specs.declared.graph.Keyword.{Keyword}
use Rattle.mv_graph.specs.declared.graph.Keyword.TheVariants as keyword
use Rattle.mv_graph.specs.Edges.{edges}
use Rattle.mv_report.specs.declared.render_graphs.Kind.{Kind}
use Rattle.mv_report.specs.declared.render_graphs.Kind.TheVariants.{Control, Variable, Table}

-- a keyword in lower case
abbrev pub keyword_text : Keyword → List ℕ
keyword_text keyword.Set = codes "set"
keyword_text keyword.Select = codes "select"
keyword_text keyword.For = codes "for"
keyword_text keyword.If = codes "if"
keyword_text keyword.Insert = codes "insert"
keyword_text keyword.Update = codes "update"
keyword_text keyword.Delete = codes "delete"
keyword_text keyword.Print = codes "print"
keyword_text keyword.Rollback = codes "rollback"

-- an edge from the statement with this number, if there is one
abbrev pub edge_text : List ℕ → ℕ → Bool → List ℕ
edge_text letter from true = codes " " ++ letter ++ decimal from
edge_text letter from false = []

-- the letter of each kind of edge
abbrev pub letter_of : Kind → List ℕ
letter_of Control = codes "c"
letter_of Variable = codes "v"
letter_of Table = codes "t"

abbrev pub has_edge : Kind → Edges → Bool
has_edge Control e = e.control
has_edge Variable e = e.variable
has_edge Table e = e.table

-- the edges of a kind to a statement. Each is named by the number of the statement that it comes from, counted from 1
abbrev pub kind_text : Graph → ℕ → Kind → List Node → List ℕ
kind_text graph to kind nodes = flat_map (λ numbered. edge_text (letter_of kind) numbered.0 (has_edge kind (edges graph numbered.0 to))) (enumerate_from 1 nodes)

-- the edges to a statement, kind by kind
abbrev pub edges_text : Graph → ℕ → List ℕ
edges_text graph to = kind_text graph to Control graph.nodes ++ kind_text graph to Variable graph.nodes ++ kind_text graph to Table graph.nodes

-- a statement on its line: its number, its keyword, and its edges
abbrev pub statement_text : Graph → ℕ → Node → List ℕ
statement_text graph to node = line (decimal to ++ codes " " ++ keyword_text node.keyword ++ edges_text graph to)

-- the statements, counted from 1
abbrev pub statements_text : Graph → List Node → List ℕ
statements_text graph nodes = flat_map (λ numbered. statement_text graph numbered.0 numbered.1) (enumerate_from 1 nodes)

-- a procedure: its name, and its statements in the order of the text
abbrev pub graph_text : ProcInfo → Graph → List ℕ
graph_text proc graph = line (codes "procedure " ++ proc.name) ++ statements_text graph graph.nodes

-- the procedures in declared order
abbrev pub procedures_text : List ProcInfo → List Graph → List ℕ
procedures_text procs graphs = flat_map (λ both. graph_text both.0 both.1) (zip procs graphs)

abbrev pub graphs_text : Resolved → List Graph → List ℕ
graphs_text resolved graphs = procedures_text resolved.procedures graphs ++ line (codes "end")

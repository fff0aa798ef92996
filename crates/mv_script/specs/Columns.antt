-- Defines which columns of a script are indexed.
use Rattle.std.specs.Prelude.{◌==◌, ◌&&◌, ◌||◌, ℕ, Bool, true, false, not, List, [], ◌∷◌, Option, Some, None, slice_get}
use Rattle.std.specs.List.{list_any}
use Rattle.mv_values.specs.declared.schema.TableInfo.{TableInfo}
use Rattle.mv_values.specs.declared.tested.Tested.{Tested}
use Rattle.mv_values.specs.References.{parent_of}
use Rattle.mv_graph.specs.declared.graph.Graph.{Graph}
use Rattle.mv_graph.specs.declared.graph.Keyword.{Keyword}
use Rattle.mv_graph.specs.declared.graph.Keyword.TheVariants.{Delete}
use Rattle.mv_graph.specs.declared.graph.Node.{Node}
use Rattle.mv_graph.specs.Edges.{is_number}
use Rattle.mv_script.specs.declared.script.CompiledScript.{CompiledScript}

-- whether a column is the first of a key
abbrev pub leads : ℕ → List ℕ → Bool
leads c [] = false
leads c (first ∷ rest) = first == c

abbrev pub leads_of : ℕ → Option TableInfo → Bool
leads_of c None = false
leads_of c (Some table) = leads c table.key

-- whether a column is the first of its table's key
abbrev pub leads_key : List TableInfo → ℕ → ℕ → Bool
leads_key tables t c = leads_of c (slice_get tables t)

-- whether it is this column, and doesn't lead its table's key
abbrev pub is_indexed_by : List TableInfo → ℕ → ℕ → Tested → Bool
is_indexed_by tables t c x = ((x.table == t) && (x.column == c)) && not (leads_key tables t c)

abbrev pub is_delete : Keyword → Bool
is_delete Delete = true
is_delete keyword = false

-- whether a statement deletes rows of a table
abbrev pub deletes : ℕ → Node → Bool
deletes t node = is_delete node.keyword && is_number node.changes t

abbrev pub delete_any : List Node → Option ℕ → Bool
delete_any nodes None = false
delete_any nodes (Some t) = list_any (deletes t) nodes

-- whether a procedure deletes rows of the table that a column refers to, so that it looks for their children by the column
abbrev pub finds_children : Graph → ℕ → ℕ → Bool
finds_children g t c = delete_any g.nodes (parent_of g.tables t c)

-- whether it does so, and the column doesn't lead its table's key
abbrev pub is_for_children : Graph → ℕ → ℕ → Bool
is_for_children g t c = finds_children g t c && not (leads_key g.tables t c)

-- whether a procedure tests the column with `=` or looks for children by it, and it doesn't lead its table's key
abbrev pub is_looked_up : ℕ → ℕ → Graph → Bool
is_looked_up t c g = list_any (is_indexed_by g.tables t c) g.tested || is_for_children g t c

abbrev pub are_indexed : CompiledScript → ℕ → ℕ → Bool
are_indexed script t c = list_any (is_looked_up t c) script.graphs

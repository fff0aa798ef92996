-- The edges of a graph: how a statement may depend on another one. The paper's graph (Dashti, Basil John, Shaikhha and
-- Koch, SIGMOD 2017) has edges between closures; edges between statements are this project's own.
use Rattle.std.specs.Prelude.{ℕ, zero, suc, Bool, false, ◌&&◌, ◌||◌, ◌==◌, nat_lt, List, Option, Some, None, slice_get}
use Rattle.std.specs.List.{list_any}
use Rattle.mv_graph.specs.declared.graph.Node.{Node}
use Rattle.mv_graph.specs.declared.graph.Graph.{Graph}
use Rattle.mv_graph.specs.declared.graph.Edges.{Edges}

abbrev pub is_number : Option ℕ → ℕ → Bool
is_number None n = false
is_number (Some m) n = m == n

-- there is a number, and it is one of these
abbrev pub is_one_of : Option ℕ → List ℕ → Bool
is_one_of None ns = false
is_one_of (Some n) ns = list_any (λ m. m == n) ns

-- the lists have a number in common
abbrev pub has_common : List ℕ → List ℕ → Bool
has_common ms ns = list_any (λ m. list_any (λ n. n == m) ns) ms

-- what statement `from` does can reach statement `to`: `from` is earlier in the text, or one FOR holds both
abbrev pub comes_to : ℕ → Node → ℕ → Node → Bool
comes_to from a to b = nat_lt from to || has_common a.loops b.loops

-- `from` directly holds `to`; it sets a variable that `to` reads; it changes the table of a predicate of `to`
abbrev pub edges_of : ℕ → Node → ℕ → Node → Edges
edges_of from a to b = record {
  control = is_number b.parent from;
  variable = comes_to from a to b && has_common a.sets b.reads;
  table = comes_to from a to b && is_one_of a.changes b.asks;
}

-- the statement with the number, counted from 1
abbrev pub node_at : Graph → ℕ → Option Node
node_at g zero = None
node_at g (suc n) = slice_get g.nodes n

abbrev pub edges_in : ℕ → Option Node → ℕ → Option Node → Edges
edges_in from (Some a) to (Some b) = edges_of from a to b
edges_in from None to b = record { control = false; variable = false; table = false }
edges_in from (Some a) to None = record { control = false; variable = false; table = false }

-- the edges from one statement to another, by their numbers
abbrev pub edges : Graph → ℕ → ℕ → Edges
edges g from to = edges_in from (node_at g from) to (node_at g to)

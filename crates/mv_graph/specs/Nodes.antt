-- What is known of the statements of a procedure before it runs: a node for each, in the order of the text, and what a
-- graph means.
use Rattle.std.specs.Prelude.{◌≡◌, ◌≤◌, ℕ, ◌+◌, Bool, List, [], ◌∷◌, ◌++◌, Option, Some, None, option_to_list, All, map, length}
use Rattle.std.specs.List.{flat_map}
use Rattle.mv_values.specs.declared.schema.TableInfo.{TableInfo}
use Rattle.mv_values.specs.References.{parent_of, references_to}
use Rattle.mv_values.specs.Tables.{columns_at}
use Rattle.mv_catalog.specs.Statements.{size, total_size}
use Rattle.mv_catalog.specs.Text.{IsTable, HaveParents, IsProcedure}
use Rattle.mv_catalog.specs.declared.resolved.ProcInfo.{ProcInfo}
use Rattle.mv_catalog.specs.declared.resolved.RStmt.{RStmt, out-RStmt}
use Rattle.mv_catalog.specs.declared.resolved.RStmt.TheOpen.{RStmt-F, Assign, Select, Total, ForSelect, ForRows, Branch, Insert, Update, Delete, Print, Rollback}
use Rattle.mv_catalog.specs.declared.resolved.RStmt.TheFolds.{fold-RStmt, map-RStmt}
use Rattle.mv_record.specs.Runs.{Behavior}
use Rattle.mv_recorded.specs.Reading.{expressions, each_once, read_variables}
use Rattle.mv_recorded.specs.Recorded.{meaning}
use Rattle.mv_graph.specs.declared.graph.Graph.{Graph}
use Rattle.mv_graph.specs.declared.graph.Node.{Node}
use Rattle.mv_graph.specs.Steps.{steps_in}
use Rattle.mv_graph.specs.Tests.{wheres_of, tested_in, AreNarrow}
use Rattle.mv_graph.specs.declared.graph.Keyword.{Keyword}
use Rattle.mv_graph.specs.declared.graph.Keyword.TheVariants as keyword

-- One statement

-- the keyword that it begins with
abbrev pub keyword_of : {X : Type 0} → RStmt-F X → Keyword
keyword_of (Assign x e) = keyword.Set
keyword_of (Select cs xs t conds sorts offset) = keyword.Select
keyword_of (Total agg x t conds) = keyword.Select
keyword_of (ForSelect x once cs t conds sorts body) = keyword.For
keyword_of (ForRows x y body) = keyword.For
keyword_of (Branch e ys ns) = keyword.If
keyword_of (Insert t es) = keyword.Insert
keyword_of (Update t items conds) = keyword.Update
keyword_of (Delete t conds) = keyword.Delete
keyword_of (Print es) = keyword.Print
keyword_of (Rollback reason) = keyword.Rollback

-- the variables that it may set, where `:found` has this number; a FOR sets its row too
abbrev pub may_set : {X : Type 0} → ℕ → RStmt-F X → List ℕ
may_set found (Assign x e) = x ∷ []
may_set found (Select cs xs t conds sorts offset) = each_once xs ++ found ∷ []
may_set found (Total agg x t conds) = x ∷ found ∷ []
may_set found (ForSelect x once cs t conds sorts body) = x ∷ found ∷ []
may_set found (ForRows x y body) = x ∷ found ∷ []
may_set found (Branch e ys ns) = []
may_set found (Insert t es) = found ∷ []
may_set found (Update t items conds) = found ∷ []
may_set found (Delete t conds) = found ∷ []
may_set found (Print es) = []
may_set found (Rollback reason) = []

-- the table that it changes
abbrev pub changed_table : {X : Type 0} → RStmt-F X → Option ℕ
changed_table (Insert t es) = Some t
changed_table (Update t items conds) = Some t
changed_table (Delete t conds) = Some t
changed_table (Assign x e) = None
changed_table (Select cs xs t conds sorts offset) = None
changed_table (Total agg x t conds) = None
changed_table (ForSelect x once cs t conds sorts body) = None
changed_table (ForRows x y body) = None
changed_table (Branch e ys ns) = None
changed_table (Print es) = None
changed_table (Rollback reason) = None

-- the table that it queries first
abbrev pub own_table : {X : Type 0} → RStmt-F X → List ℕ
own_table (Select cs xs t conds sorts offset) = t ∷ []
own_table (Total agg x t conds) = t ∷ []
own_table (ForSelect x once cs t conds sorts body) = t ∷ []
own_table (Insert t es) = t ∷ []
own_table (Update t items conds) = t ∷ []
own_table (Delete t conds) = t ∷ []
own_table s = []

-- the tables of parents that INSERT and UPDATE look for, and of children that DELETE looks for
abbrev pub referring_tables : {X : Type 0} → List TableInfo → RStmt-F X → List ℕ
referring_tables tables (Insert t es) = flat_map (λ column. option_to_list column.refers) (columns_at tables t)
referring_tables tables (Update t items conds) = flat_map (λ i. option_to_list (parent_of tables t i.column)) items
referring_tables tables (Delete t conds) = map (λ r. r.table) (references_to tables t)
referring_tables tables s = []

-- the tables of its predicates
abbrev pub asked_tables : {X : Type 0} → List TableInfo → RStmt-F X → List ℕ
asked_tables tables s = own_table s ++ referring_tables tables s

-- Statements in the order of the text

-- the nodes of statements, by the number of the first, the statement that holds them, and the FORs that hold them
abbrev pub Nodes : Type 0
Nodes = ℕ → Option ℕ → List ℕ → List Node

abbrev pub all_nodes : List Nodes → Nodes
all_nodes [] n holder loops = []
all_nodes (s ∷ ss) n holder loops =
    let these : List Node = s n holder loops in
    these ++ all_nodes ss (n + length these) holder loops

-- the nodes of what a statement with this number holds
abbrev pub inner_nodes : RStmt-F Nodes → ℕ → List ℕ → List Node
inner_nodes (ForSelect x once cs t conds sorts body) n loops = all_nodes body (n + 1) (Some n) (loops ++ n ∷ [])
inner_nodes (ForRows x y body) n loops = all_nodes body (n + 1) (Some n) (loops ++ n ∷ [])
inner_nodes (Branch e ys ns) n loops =
    let first : List Node = all_nodes ys (n + 1) (Some n) loops in
    first ++ all_nodes ns (n + 1 + length first) (Some n) loops
inner_nodes (Assign x e) n loops = []
inner_nodes (Select cs xs t conds sorts offset) n loops = []
inner_nodes (Total agg x t conds) n loops = []
inner_nodes (Insert t es) n loops = []
inner_nodes (Update t items conds) n loops = []
inner_nodes (Delete t conds) n loops = []
inner_nodes (Print es) n loops = []
inner_nodes (Rollback reason) n loops = []

-- a statement's own node. The first `params` variables are parameters, `:found` has the number `found`, and `whole`
-- counts the statement with those that it holds
abbrev pub own_node : {X : Type 0} → List TableInfo → ℕ → ℕ → RStmt-F X → Option ℕ → List ℕ → ℕ → Node
own_node tables params found s holder loops whole = record {
  keyword = keyword_of s;
  parent = holder;
  loops = loops;
  reads = read_variables params (expressions s);
  sets = may_set found s;
  changes = changed_table s;
  asks = asked_tables tables s;
  size = whole;
}

abbrev pub node_step : List TableInfo → ℕ → ℕ → RStmt-F Nodes → Nodes
node_step tables params found s n holder loops =
    let inner : List Node = inner_nodes s n loops in
    own_node tables params found s holder loops (1 + length inner) ∷ inner

abbrev pub nodes_of : List TableInfo → ℕ → ℕ → RStmt → Nodes
nodes_of tables params found = fold-RStmt Nodes (node_step tables params found)

-- the nodes of what a statement with this number holds
abbrev pub nodes_inside : List TableInfo → ℕ → ℕ → RStmt-F RStmt → ℕ → List ℕ → List Node
nodes_inside tables params found s n loops = inner_nodes (map-RStmt RStmt Nodes (nodes_of tables params found) s) n loops

-- the nodes of statements in order
abbrev pub body_nodes : List TableInfo → ℕ → ℕ → List RStmt → Nodes
body_nodes tables params found ss = all_nodes (map (nodes_of tables params found) ss)

-- the nodes of a procedure over these tables. Parameters come first, then the declared variables, then `:found`
abbrev pub nodes_in : List TableInfo → ProcInfo → List Node
nodes_in tables proc =
    let params : ℕ = length proc.params in
    body_nodes tables params (params + length proc.defaults) proc.body 1 None []

-- Graphs

-- its nodes, its steps and its tested columns are those of its procedure
pub record IsGraph (g : Graph) : Type 0 where
  pub nodes : g.nodes ≡ nodes_in g.tables g.procedure
  pub steps : g.steps ≡ steps_in g.procedure
  pub tested : g.tested ≡ tested_in g.procedure

-- its meaning is its procedure's
abbrev pub meaning_of : Graph → Behavior
meaning_of g = meaning g.tables g.procedure

-- no call of it changes a table: its procedure is READ ONLY
abbrev pub is_read_only : Graph → Bool
is_read_only g = g.procedure.read_only

-- its tables and its procedure fit together, as those of a program do, and its nodes, its steps and its
-- tested columns are those of its procedure
pub record IsSound (g : Graph) : Type 0 where
  pub few : length g.tables ≤ 64
  pub tables : All IsTable g.tables
  pub parents : HaveParents g.tables
  pub procedure : IsProcedure g.tables g.procedure
  pub nodes : IsGraph g

-- The limits of a script

-- the most statements of a procedure, and the most parameters and declared variables
abbrev pub most_statements : ℕ
most_statements = 1000

abbrev pub most_variables : ℕ
most_variables = 80

pub record IsSmall (proc : ProcInfo) : Type 0 where
  pub statements : total_size (map size proc.body) ≤ most_statements
  pub variables : length proc.params + length proc.defaults ≤ most_variables
  pub tables : AreNarrow (wheres_of proc.body)

-- there are no more nodes than a procedure may have statements
abbrev pub HasFewNodes : Graph → Type 0
HasFewNodes g = length g.nodes ≤ most_statements

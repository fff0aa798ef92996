-- What the graphs of a program run on.
use Rattle.std.proofs.Common.{◌≡◌, List, All, sym, subst}
use Rattle.std.proofs.lemmas.List.Elements.{All-map}
use Rattle.mv_catalog.specs.declared.resolved.Program.{Program}
use Rattle.mv_record.specs.Databases.{IsDatabaseOf}
use Rattle.mv_graph.specs.declared.graph.Graph.{Graph}
use Rattle.mv_compile.specs.Compiled.{graph_of, graphs_of}

-- the opening database is one of each graph of a program
pub graphs_on : (p : Program) (graphs : List Graph) → graphs ≡ graphs_of p.resolved → IsDatabaseOf p.resolved.tables p.opening → All (λ (g : Graph). IsDatabaseOf g.tables p.opening) graphs
graphs_on p graphs is h =
    subst (All (λ (g : Graph). IsDatabaseOf g.tables p.opening)) (sym is)
    (All-map (λ (g : Graph). IsDatabaseOf g.tables p.opening) (graph_of p.resolved.tables) p.resolved.procedures (λ k d lt. h))

-- The graphs of a script's procedures mean what the procedures mean.
use Rattle.std.proofs.Common.{◌≡◌, List, [], ◌∷◌, map, refl, sym, subst}
use Rattle.std.specs.List.{All, AllZip}
use Rattle.std.proofs.lemmas.List.Elements.{All-map}
use Rattle.mv_values.specs.declared.schema.TableInfo.{TableInfo}
use Rattle.mv_catalog.specs.declared.resolved.ProcInfo.{ProcInfo}
use Rattle.mv_catalog.specs.declared.resolved.Resolved.{Resolved}
use Rattle.mv_graph.specs.declared.graph.Graph.{Graph}
use Rattle.mv_graph.specs.Nodes.{IsGraph}
use Rattle.mv_compile.specs.Compiled.{graph_of, graphs_of, MeansText}

pub are_graphs : (resolved : Resolved) (graphs : List Graph) → graphs ≡ graphs_of resolved → All IsGraph graphs
are_graphs resolved graphs is = subst (All IsGraph) (sym is) (All-map IsGraph (graph_of resolved.tables) resolved.procedures (λ k d lt. record { nodes = refl; steps = refl; tested = refl }))

each_means : (tables : List TableInfo) (procs : List ProcInfo) → AllZip (MeansText tables) (map (graph_of tables) procs) procs
each_means tables [] = tt
each_means tables (proc ∷ procs) = (λ call db. refl, each_means tables procs)

pub mean_text : (resolved : Resolved) (graphs : List Graph) → graphs ≡ graphs_of resolved → AllZip (MeansText resolved.tables) graphs resolved.procedures
mean_text resolved graphs is = subst (λ gs. AllZip (MeansText resolved.tables) gs resolved.procedures) (sym is) (each_means resolved.tables resolved.procedures)

-- The procedures of a text of one piece keep within the limits of a script, and so do their graphs, which are of one piece too.
use Rattle.std.proofs.Common.{◌+◌, ◌≤◌, List, [], None, length, refl, arith}
use Rattle.std.specs.List.{All}
use Rattle.std.proofs.lemmas.List.Elements.{All-map}
use Rattle.mv_values.specs.declared.schema.TableInfo.{TableInfo}
use Rattle.mv_catalog.specs.declared.resolved.ProcInfo.{ProcInfo}
use Rattle.mv_catalog.specs.declared.resolved.Resolved.{Resolved}
use Rattle.mv_catalog.specs.Text.{FitsText, IsProcedure, vars_of}
use Rattle.mv_graph.specs.Nodes.{IsSmall, IsSound, HasFewNodes}
use Rattle.mv_graph.proofs.Sizes.{body_counts}
use Rattle.mv_compile.specs.Compiled.{graph_of, graphs_of}
use Rattle.mv_compile.proofs.Equalities.{body_narrow}

small : (tables : List TableInfo) (p : ProcInfo) → length tables ≤ 64 → IsProcedure tables p → IsSmall p
small tables p few h = record { statements = h.short; variables = omega (arith, h.few, h.declared); tables = body_narrow tables p.body (vars_of p) few h.body }

pub all_small : (r : Resolved) → FitsText r → All IsSmall r.procedures
all_small r h = λ k d within. small r.tables _ h.few (h.procedures k d within)

few_nodes : (tables : List TableInfo) (p : ProcInfo) → IsProcedure tables p → HasFewNodes (graph_of tables p)
few_nodes tables p h =
    let counts = body_counts tables (length p.params) (length p.params + length p.defaults) p.body 1 None [] in
    omega (arith, h.short, counts)

pub all_few_nodes : (r : Resolved) → FitsText r → All HasFewNodes (graphs_of r)
all_few_nodes r h = All-map HasFewNodes (graph_of r.tables) r.procedures (λ k d within. few_nodes r.tables _ (h.procedures k d within))

pub all_sound : (r : Resolved) → FitsText r → All IsSound (graphs_of r)
all_sound r h = All-map IsSound (graph_of r.tables) r.procedures (λ k d within. record { few = h.few; tables = h.tables; parents = h.parents; procedure = h.procedures k d within; nodes = record { nodes = refl; steps = refl; tested = refl } })

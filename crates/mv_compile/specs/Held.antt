-- The steps and the WHEREs of what a statement holds.
use Rattle.std.specs.Prelude.{ℕ, List, All}
use Rattle.mv_catalog.specs.declared.resolved.RStmt.{RStmt}
use Rattle.mv_catalog.specs.declared.resolved.RStmt.TheOpen.{RStmt-F, ForSelect, ForRows, Branch}
use Rattle.mv_catalog.specs.declared.resolved.RStmt.TheFolds.{map-RStmt}
use Rattle.mv_graph.specs.declared.graph.Step.{Step}
use Rattle.mv_graph.specs.Steps.{Steps, inner_steps, steps_of}
use Rattle.mv_graph.specs.Tests.{Where, held_wheres, wheres_in, AreNarrow}

abbrev pub steps_held : ℕ → RStmt-F RStmt → List Step
steps_held params y = inner_steps (map-RStmt RStmt Steps (steps_of params) y)

abbrev pub wheres_held : RStmt-F RStmt → List Where
wheres_held y = held_wheres (map-RStmt RStmt (List Where) wheres_in y)

-- the number of each table of its WHEREs, and of those that it holds, has one byte
abbrev pub IsNarrow : RStmt → Type 0
IsNarrow s = AreNarrow (wheres_in s)

-- so have those of the statements that it holds
abbrev pub HoldsNarrow : RStmt-F RStmt → Type 0
HoldsNarrow (ForSelect x once cs t conds sorts body) = All IsNarrow body
HoldsNarrow (ForRows x y body) = All IsNarrow body
HoldsNarrow (Branch e ys ns) = All IsNarrow ys × All IsNarrow ns
HoldsNarrow s = Unit {0}

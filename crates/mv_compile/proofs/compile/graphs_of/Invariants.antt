use Rattle.std.proofs.Common.{◌≡◌, map, take}
use Rattle.mv_compile.specs.Compiled.{graph_of}
use Rattle.mv_compile.proofs.compile.graphs_of.Given as goal

abbrev pub invariant-loop-procedure : goal.invariant-loop-procedure
invariant-loop-procedure l = l.graphs ≡ map (graph_of l.tables) (take l.procedure-index l.procedures)

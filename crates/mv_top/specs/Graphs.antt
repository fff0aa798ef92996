-- The text of the graphs of a program's procedures.
use Rattle.std.specs.Prelude.{ℕ, List}
use Rattle.mv_catalog.specs.declared.resolved.Program.{Program}
use Rattle.mv_compile.specs.Compiled.{graphs_of}
use Rattle.mv_report.specs.Graphs.{graphs_text}

-- a line for each statement, with the edges that lead to it
abbrev pub graphs : Program → List ℕ
graphs p = graphs_text p.resolved (graphs_of p.resolved)

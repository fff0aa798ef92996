use Rattle.std.proofs.Common.{◌+◌}
use Rattle.std.specs.Prelude.{◌==◌, ◌&&◌}
use Rattle.mv_tpccgen.specs.Calls.{order_line}
use Rattle.mv_tpccgen.specs.Draws.{IsDrawn, each}
use Rattle.mv_tpccgen.proofs.requests.draw_lines.Given as goal

abbrev pub invariant-loop-j : goal.invariant-loop-j
invariant-loop-j l = IsDrawn (each (λ j. order_line l.warehouses l.w ((l.z == 1) && (j + 1 == l.count))) l.j) l.lines l.fn.words l.words

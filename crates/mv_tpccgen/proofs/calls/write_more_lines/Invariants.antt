use Rattle.std.proofs.Common.{◌≡◌, ◌++◌, codes, take}
use Rattle.std.specs.List.{flat_map}
use Rattle.mv_tpccgen.specs.Calls.{line_text}
use Rattle.mv_tpccgen.proofs.calls.write_more_lines.Given as goal

abbrev pub invariant-loop-line : goal.invariant-loop-line
invariant-loop-line l = l.text ≡ l.fn.text ++ flat_map (λ line. codes ", " ++ line_text line) (take l.line-index l.lines)

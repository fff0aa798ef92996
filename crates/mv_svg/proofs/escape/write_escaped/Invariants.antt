use Rattle.std.proofs.Common.{◌≡◌, ◌++◌, take}
use Rattle.mv_svg.specs.Escapes.{escaped}
use Rattle.mv_svg.proofs.escape.write_escaped.Given as goal

abbrev pub invariant-loop-byte : goal.invariant-loop-byte
invariant-loop-byte l = l.text ≡ l.fn.text ++ escaped (take l.byte-index l.words)

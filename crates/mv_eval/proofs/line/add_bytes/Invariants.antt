use Rattle.std.proofs.Common.{◌≡◌, ◌++◌, drop}
use Rattle.mv_values.specs.Texts.{doubled}
use Rattle.mv_eval.proofs.line.add_bytes.Given as goal

abbrev pub invariant-loop-byte : goal.invariant-loop-byte
invariant-loop-byte l = l.text ++ doubled (drop l.byte-index l.bytes) ≡ l.fn.text ++ doubled l.bytes

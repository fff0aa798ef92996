use Rattle.std.proofs.Common.{◌≡◌, drop, true}
use Rattle.mv_lex.specs.Reading.{past, block_len}
use Rattle.mv_lex.proofs.piece.block_len.Given as goal

abbrev pub invariant-loop-i : goal.invariant-loop-i
invariant-loop-i l = past l.i (block_len l.fresh (drop l.i l.bytes)) ≡ block_len true l.bytes

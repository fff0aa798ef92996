use Rattle.std.proofs.Common.{◌≡◌, ◌≤◌, drop, false}
use Rattle.std.specs.Prelude.{IfSome}
use Rattle.mv_lex.specs.Reading.{past, either, text_len}
use Rattle.mv_lex.proofs.piece.text_len.Given as goal

abbrev pub invariant-loop-i : goal.invariant-loop-i
invariant-loop-i l = record {
  rest : either (past l.i (text_len l.closed (drop l.i l.bytes))) l.end ≡ text_len false l.bytes;
  within : IfSome l.end (λ len. len ≤ l.i);
}

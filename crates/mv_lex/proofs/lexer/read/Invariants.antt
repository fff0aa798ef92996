use Rattle.std.proofs.Common.{◌≤◌, ◌-◌, drop, length}
use Rattle.mv_lex.specs.Tokens.{AreAllowed, Lexes}
use Rattle.mv_lex.proofs.lexer.read.Given as goal

abbrev pub invariant-loop-at : goal.invariant-loop-at
invariant-loop-at l = record {
  within : l.at ≤ length l.bytes;
  allowed : AreAllowed l.bytes;
  so_far : Lexes 0 l.bytes l.tokens l.at (drop l.at l.bytes);
}

abbrev pub decreases-loop-at : goal.decreases-loop-at
decreases-loop-at l = length l.bytes - l.at

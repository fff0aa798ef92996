use Rattle.std.proofs.Common.{◌≡◌, ◌≤◌, drop, take, reverse}
use Rattle.mv_ast.specs.Limits.{depth, stretch, is_behind_end, first_behind, first_early}
use Rattle.mv_limits.proofs.early.first_early.Given as goal

abbrev pub invariant-loop-lexeme : goal.invariant-loop-lexeme
invariant-loop-lexeme l = record {
  depth : l.counts.depth ≡ depth (reverse (take l.lexeme-index l.lexemes));
  stretch : l.counts.stretch ≡ stretch (reverse (take l.lexeme-index l.lexemes));
  behind : l.counts.behind_end ≡ is_behind_end (reverse (take l.lexeme-index l.lexemes));
  shallow : l.counts.depth ≤ 32;
  short : l.counts.stretch ≤ 1000;
  rest : first_behind (reverse (take l.lexeme-index l.lexemes)) (drop l.lexeme-index l.lexemes) ≡ first_early l.lexemes;
}

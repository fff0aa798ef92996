use Rattle.std.proofs.Common.{◌≡◌, drop, None}
use Rattle.mv_ast.specs.Limits.{soonest, token_passes}
use Rattle.mv_limits.proofs.tokens.in_tokens.Given as goal

abbrev pub invariant-loop-at : goal.invariant-loop-at
invariant-loop-at l = soonest l.best (token_passes l.bytes (drop l.at l.lexemes)) ≡ soonest None (token_passes l.bytes l.lexemes)

-- There are no more tokens than bytes.
use Rattle.std.proofs.Common.{ℕ, ◌≤◌, List, length, arith, length-append}
use Rattle.mv_lex.proofs.Pieces.{some_bytes}
use Rattle.mv_lex.specs.Tokens.{Lexes, stop, blank, comment, token, AreTokens}
use Rattle.mv_lex.specs.declared.token.Token.{Token}

few : {place end : ℕ} {bytes rest : List ℕ} {tokens : List Token} → Lexes place bytes tokens end rest → length tokens ≤ length bytes
few stop = omega arith
few (blank h r) = let k = few r in omega arith
few (comment line bytes h k r) = let n = few r in omega (arith, length-append line bytes)
few (token k text bytes l r) = let n = few r in let one = some_bytes k text bytes l.spelled in omega (arith, length-append text bytes)

pub few_tokens : (bytes : List ℕ) (tokens : List Token) → AreTokens bytes tokens → length tokens ≤ length bytes
few_tokens bytes tokens are = few are.1

-- The grammar sees each token once.
use Rattle.std.proofs.Common.{◌≡◌, ℕ, suc, ◌+◌, List, [], ◌∷◌, length, refl, ap}
use Rattle.mv_lex.specs.declared.token.Token.{Token}
use Rattle.mv_ast.specs.Lexemes.{lexemes_from}

pub length_lexemes : (n : ℕ) (bytes : List ℕ) (ts : List Token) → length (lexemes_from n bytes ts) ≡ length ts
length_lexemes n bytes [] = refl
length_lexemes n bytes (t ∷ ts) = ap suc (length_lexemes (n + 1) bytes ts)

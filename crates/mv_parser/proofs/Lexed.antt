-- One more token as the grammar sees it.
use Rattle.std.proofs.Common.{◌≡◌, ℕ, ◌+◌, ◌<◌, List, [], ◌∷◌, ◌++◌, length, drop, get_or, sym, ap, ◌∙◌, append_assoc}
use Rattle.std.proofs.lemmas.List.{drop_more}
use Rattle.mv_lex.specs.declared.token.Token.{Token}
use Rattle.mv_ast.specs.declared.lexeme.Lexeme.{Lexeme}
use Rattle.mv_ast.specs.Lexemes.{lexeme_of, lexemes_from}

pub lexed_more : (bytes : List ℕ) (tokens : List Token) (i : ℕ) (all new whole : List Lexeme) (t d : Token) (l : Lexeme) → i < length tokens → t ≡ get_or tokens i d → l ≡ lexeme_of (i + 1) bytes t
    → new ≡ all ++ l ∷ [] → all ++ lexemes_from (i + 1) bytes (drop i tokens) ≡ whole → new ++ lexemes_from (i + 1 + 1) bytes (drop (i + 1) tokens) ≡ whole
lexed_more bytes tokens i all new whole t d l lt is made added so_far =
    let left : drop i tokens ≡ t ∷ drop (i + 1) tokens = drop_more tokens i d lt ∙ ap (λ u. u ∷ drop (i + 1) tokens) (sym is) in
    let rest = lexemes_from (i + 1 + 1) bytes (drop (i + 1) tokens) in
    ap (λ ls. ls ++ lexemes_from (i + 1 + 1) bytes (drop (i + 1) tokens)) added
    ∙ (append_assoc all (l ∷ []) (lexemes_from (i + 1 + 1) bytes (drop (i + 1) tokens))
    ∙ (ap (λ m. all ++ m ∷ lexemes_from (i + 1 + 1) bytes (drop (i + 1) tokens)) made
    ∙ (ap (λ ts. all ++ lexemes_from (i + 1) bytes ts) (sym left) ∙ so_far)))

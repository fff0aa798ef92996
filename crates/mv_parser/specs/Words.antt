-- Keywords by their first letter.
use Rattle.std.specs.Prelude.{◌≡◌, ℕ, List, ◌∷◌, map}
use Rattle.std.specs.Borrow.{Bor}
use Rattle.mv_ast.specs.declared.lexeme.Terminal.{Terminal}
use Rattle.mv_ast.specs.declared.lexeme.Terminal.TheVariants as word
use Rattle.mv_ast.specs.Lexemes.{keywords, listed}
use Rattle.mv_ast.specs.Texts.{lower}

-- a table of words in lower case
abbrev pub table : List (Bor (List ℕ) × Terminal) → List (List ℕ × Terminal)
table words = map (λ w. (lower w.0.now, w.1)) words

-- Looking up a text that begins with this byte among these words gives the same as among all keywords.
abbrev pub Serves : ℕ → List (List ℕ × Terminal) → Type 0
Serves first words = (rest : List ℕ) → listed words word.Name (first ∷ rest) ≡ listed keywords word.Name (first ∷ rest)

-- How tokens of each kind are spelled. All of this is the language's own.
use Rattle.std.specs.Prelude.{◌≡◌, ◌≢◌, ◌⊎◌, ℕ, Bool, true, false, not, ◌&&◌, ◌||◌, ◌==◌, List, [], ◌∷◌, ◌++◌, IsTrue}
use Rattle.std.specs.List.{list_all, AllByRecursion}
use Rattle.mv_values.specs.Texts.{quoted, lines_text}
use Rattle.mv_values.specs.Printable.{is_printable}
use Rattle.mv_lex.specs.Bytes.{is_blank, is_in_line, is_digit, begins_word, continues_word, is_short_symbol, is_long_symbol}
use Rattle.mv_lex.specs.declared.token.Kind.{Kind}
use Rattle.mv_lex.specs.declared.token.Kind.TheVariants.{Word, Number, Text, Variable, Symbol, Block, OpenBlock}

-- a letter or `_`, then letters, digits and `_`
abbrev pub is_word : List ℕ → Bool
is_word [] = false
is_word (b ∷ bs) = begins_word b && list_all continues_word bs

-- at least one digit
abbrev pub is_number : List ℕ → Bool
is_number [] = false
is_number (b ∷ bs) = is_digit b && list_all is_digit bs

-- a colon followed directly by a word
abbrev pub is_variable : List ℕ → Bool
is_variable [] = false
is_variable (b ∷ bs) = b == 58 && is_word bs

-- one of ( ) , ; . = <> < <= > >= + - * / % or two bars
abbrev pub is_symbol : List ℕ → Bool
is_symbol (a ∷ []) = is_short_symbol a
is_symbol (a ∷ b ∷ []) = is_long_symbol a b
is_symbol _ = false

-- the bytes are a text as it is written
pub record IsText (text : List ℕ) : Type 0 where
  pub content : List ℕ
  pub printable : IsTrue (list_all is_printable content)
  pub written : text ≡ quoted content

-- a blank other than LF
abbrev pub is_inner_blank : ℕ → Bool
is_inner_blank b = is_blank b && is_in_line b

-- the first line of a block, without its LF: `<<` and blanks
abbrev pub opening : List ℕ → List ℕ
opening blanks = 60 ∷ 60 ∷ blanks

-- a line within a block, without its LF: it is neither `>>` nor `>>` with a CR
pub record IsInnerLine (line : List ℕ) : Type 0 where
  pub one_line : IsTrue (list_all is_in_line line)
  pub no_end : line ≢ 62 ∷ 62 ∷ []
  pub no_end_with_return : line ≢ 62 ∷ 62 ∷ 13 ∷ []

-- the closing line: `>>`, an optional CR, and LF; at the end of the input, `>>` alone closes the block as well
abbrev pub IsClosing : List ℕ → List ℕ → Type 0
IsClosing line after = (line ≡ 62 ∷ 62 ∷ 10 ∷ []) ⊎ ((line ≡ 62 ∷ 62 ∷ 13 ∷ 10 ∷ []) ⊎ ((line ≡ 62 ∷ 62 ∷ []) × (after ≡ [])))

-- a block: its first line, its inner lines, and the first line that closes it
pub record IsBlock (text after : List ℕ) : Type 0 where
  pub blanks : List ℕ
  pub lines : List (List ℕ)
  pub closing : List ℕ
  pub are_blanks : IsTrue (list_all is_inner_blank blanks)
  pub are_inner : AllByRecursion IsInnerLine lines
  pub is_closing : IsClosing closing after
  pub written : text ≡ opening blanks ++ 10 ∷ (lines_text lines ++ closing)

-- a last line without LF: it isn't `>>`
pub record IsLastLine (line : List ℕ) : Type 0 where
  pub one_line : IsTrue (list_all is_in_line line)
  pub no_end : line ≢ 62 ∷ 62 ∷ []

-- a block whose first line is the last of the input
pub record IsBareOpening (text : List ℕ) : Type 0 where
  pub blanks : List ℕ
  pub are_blanks : IsTrue (list_all is_inner_blank blanks)
  pub written : text ≡ opening blanks

-- a block with more lines, none of which closes it
pub record IsUnclosed (text : List ℕ) : Type 0 where
  pub blanks : List ℕ
  pub lines : List (List ℕ)
  pub last : List ℕ
  pub are_blanks : IsTrue (list_all is_inner_blank blanks)
  pub are_inner : AllByRecursion IsInnerLine lines
  pub is_last : IsLastLine last
  pub written : text ≡ opening blanks ++ 10 ∷ (lines_text lines ++ last)

-- a `<` before another `<` is no symbol, nor is a `-` before another `-`: `<<` begins a block and `--` a comment
abbrev pub stands_alone : List ℕ → List ℕ → Bool
stands_alone (a ∷ []) (b ∷ _) = not ((a == 60 && b == 60) || (a == 45 && b == 45))
stands_alone _ _ = true

-- `text` is a token of this kind if `after` is the rest of the input. The rest matters for a symbol, which may have to
-- stand alone, and for a block, which may be closed by the end of the input or be open.
abbrev pub IsSpelled : Kind → List ℕ → List ℕ → Type 0
IsSpelled Word text after = IsTrue (is_word text)
IsSpelled Number text after = IsTrue (is_number text)
IsSpelled Text text after = IsText text
IsSpelled Variable text after = IsTrue (is_variable text)
IsSpelled Symbol text after = IsTrue (is_symbol text && stands_alone text after)
IsSpelled Block text after = IsBlock text after
IsSpelled OpenBlock text after = (IsBareOpening text ⊎ IsUnclosed text) × (after ≡ [])

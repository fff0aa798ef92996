-- The value of a token, from its bytes.
use Rattle.std.specs.Prelude.{ℕ, ◌+◌, ◌-◌, ◌*◌, min, ◌==◌, List, [], ◌∷◌, length, map, slice_range, if◌then◌else◌, Option, Some, None}
use Rattle.std.specs.List.{ends_with, position}
use Rattle.std.specs.Char.{to_ascii_lowercase}
use Rattle.mv_ast.specs.declared.lexeme.Lexeme.{Lexeme}

-- the bytes of a token
abbrev pub spelling : List ℕ → Lexeme → List ℕ
spelling bytes l = slice_range bytes l.at (l.at + l.len)

-- a text in lower case: names and keywords ignore case
abbrev pub lower : List ℕ → List ℕ
lower text = map to_ascii_lowercase text

-- the greatest INT
abbrev pub greatest : ℕ
greatest = 9223372036854775807

-- the value of digits that follow digits of value `n`
unfoldable pub number_from : ℕ → List ℕ → ℕ
number_from n [] = n
number_from n (d ∷ ds) = number_from (10 * n + (d - 48)) ds

-- the value of digits, but at most the greatest INT
abbrev pub number : List ℕ → ℕ
number digits = min (number_from 0 digits) greatest

-- a text with each doubled quote replaced by one
unfoldable pub undoubled : List ℕ → List ℕ
undoubled [] = []
undoubled (b ∷ []) = b ∷ []
undoubled (a ∷ b ∷ bs) = if a == 39 then a ∷ undoubled bs else a ∷ undoubled (b ∷ bs)

-- the value of a text: what is between its quotes, each doubled quote replaced by one
abbrev pub unquoted : List ℕ → List ℕ
unquoted text = undoubled (slice_range text 1 (length text - 1))

-- the length of the first line, with its LF
abbrev pub line_end : Option ℕ → ℕ → ℕ
line_end None len = len
line_end (Some at) len = at + 1

abbrev pub first_line : List ℕ → ℕ
first_line text = line_end (position (λ b. b == 10) text) (length text)

-- the length of the line `>>` that closes a block, with its CR and LF if it has them
abbrev pub last_line : List ℕ → ℕ
last_line text = if ends_with ◌==◌ text (13 ∷ 10 ∷ []) then 4 else (if ends_with ◌==◌ text (10 ∷ []) then 3 else 2)

-- The parts of the lexer as functions on lists: what each returns for the front of the bytes.
use Rattle.std.specs.Prelude.{ℕ, ◌+◌, ◌<◌, ◌≤◌, Bool, true, false, ◌&&◌, ◌==◌, List, [], ◌∷◌, length, drop, Option, Some, None, if◌then◌else◌}
use Rattle.std.specs.List.{prefix_len}
use Rattle.mv_values.specs.Printable.{is_printable}
use Rattle.mv_lex.specs.Bytes.{is_blank, is_in_line, is_digit, begins_word, continues_word, is_short_symbol, is_long_symbol}
use Rattle.mv_lex.specs.Spelling.{is_inner_blank, stands_alone}
use Rattle.mv_lex.specs.Tokens.{begins_comment}
use Rattle.mv_lex.specs.declared.token.Kind.{Kind}
use Rattle.mv_lex.specs.declared.token.Kind.TheVariants.{Word, Number, Text, Variable, Symbol, Block, OpenBlock}
use Rattle.mv_lex.specs.declared.piece.Piece.{Piece}
use Rattle.mv_lex.specs.declared.piece.Piece.TheVariants.{Gap, Found, Nothing}

-- the first of two results, or else the second
abbrev pub either : Option ℕ → Option ℕ → Option ℕ
either (Some n) other = Some n
either None other = other

-- a length with the bytes that come before it
abbrev pub past : ℕ → Option ℕ → Option ℕ
past n None = None
past n (Some m) = Some (n + m)

-- the length of a text up to the last quote that can close it; `closed` says whether the previous byte is such a quote
unfoldable pub text_len : Bool → List ℕ → Option ℕ
text_len closed [] = None
text_len true (b ∷ bs) = if b == 39 then past 1 (text_len false bs) else None
text_len false (b ∷ bs) = if b == 39 then past 1 (either (text_len true bs) (Some 0)) else (if is_printable b then past 1 (text_len false bs) else None)

-- the length of a line that closes a block, from the bytes after its `>>`
abbrev pub mark_len : List ℕ → Option ℕ
mark_len [] = Some 2
mark_len (c ∷ []) = if c == 10 then Some 3 else None
mark_len (c ∷ d ∷ _) = if c == 10 then Some 3 else (if c == 13 && d == 10 then Some 4 else None)

-- the length of the line at the front, if it closes a block
abbrev pub closing_len : List ℕ → Option ℕ
closing_len (a ∷ b ∷ bs) = if a == 62 && b == 62 then mark_len bs else None
closing_len _ = None

-- the length of the rest of a block, closing line included; `fresh` says whether a line begins here
unfoldable pub block_len : Bool → List ℕ → Option ℕ
block_len fresh [] = None
block_len fresh (b ∷ bs) = either (if fresh then closing_len (b ∷ bs) else None) (past 1 (block_len (b == 10) bs))

-- the block with these lines: closed after `n` bytes, or open up to the end of the input
abbrev pub body_from : Option ℕ → ℕ → Kind × ℕ
body_from (Some n) all = (Block, n)
body_from None all = (OpenBlock, all)

-- the block with these bytes after its first line
abbrev pub body_of : List ℕ → Kind × ℕ
body_of bytes = body_from (block_len true bytes) (length bytes)

-- the block with these bytes after the `n` blanks of its first line
abbrev pub block_after : ℕ → List ℕ → Option (Kind × ℕ)
block_after n [] = Some (OpenBlock, n)
block_after n (b ∷ bytes) = if b == 10 then Some ((body_of bytes).0, n + 1 + (body_of bytes).1) else None

-- the block with these bytes after its `<<`
abbrev pub block_of : List ℕ → Option (Kind × ℕ)
block_of bytes = block_after (prefix_len is_inner_blank bytes) (drop (prefix_len is_inner_blank bytes) bytes)

-- the length of the word at the front, if there is one
abbrev pub word_len : List ℕ → Option ℕ
word_len [] = None
word_len (b ∷ bytes) = if begins_word b then Some (1 + prefix_len continues_word bytes) else None

-- the length of the symbol at the front, if there is one
abbrev pub symbol_len : List ℕ → Option ℕ
symbol_len [] = None
symbol_len (a ∷ []) = if is_short_symbol a then Some 1 else None
symbol_len (a ∷ b ∷ _) = if is_long_symbol a b then Some 2 else (if is_short_symbol a && stands_alone (a ∷ []) (b ∷ []) then Some 1 else None)

-- the bytes begin with `<<`
abbrev pub begins_block : List ℕ → Bool
begins_block (a ∷ b ∷ _) = a == 60 && b == 60
begins_block _ = false

-- a length together with a kind
abbrev pub of_kind : Kind → Option ℕ → Option (Kind × ℕ)
of_kind kind None = None
of_kind kind (Some n) = Some (kind, n)

-- a block with its `<<`
abbrev pub past_mark : Option (Kind × ℕ) → Option (Kind × ℕ)
past_mark None = None
past_mark (Some p) = Some (p.0, 2 + p.1)

-- the kind and the length of the token at the front, if there is one
unfoldable pub token_of : List ℕ → Option (Kind × ℕ)
token_of [] = None
token_of (b ∷ bytes) = if begins_word b then of_kind Word (word_len (b ∷ bytes))
    else (if is_digit b then Some (Number, 1 + prefix_len is_digit bytes)
    else (if b == 39 then of_kind Text (past 1 (text_len false bytes))
    else (if b == 58 then of_kind Variable (past 1 (word_len bytes))
    else (if begins_block (b ∷ bytes) then past_mark (block_of (drop 1 bytes))
    else of_kind Symbol (symbol_len (b ∷ bytes))))))

-- a token as a piece
abbrev pub found : Option (Kind × ℕ) → Piece
found None = Nothing
found (Some p) = Found p.0 p.1

-- the length of the blank or the comment at the front, if there is one
abbrev pub gap_len : List ℕ → Option ℕ
gap_len [] = None
gap_len (b ∷ bytes) = if is_blank b then Some 1 else (if begins_comment (b ∷ bytes) then Some (2 + prefix_len is_in_line (drop 1 bytes)) else None)

-- a blank or a comment takes precedence over a token
abbrev pub piece_from : Option ℕ → Option (Kind × ℕ) → Piece
piece_from (Some n) token = Gap n
piece_from None token = found token

-- the blank, comment or token at the front
abbrev pub piece_of : List ℕ → Piece
piece_of bytes = piece_from (gap_len bytes) (token_of bytes)

-- the piece has at least one byte, and at most this many
abbrev pub IsWithin : Piece → ℕ → Type 0
IsWithin (Gap n) all = (0 < n) × (n ≤ all)
IsWithin (Found kind n) all = (0 < n) × (n ≤ all)
IsWithin Nothing all = Unit {0}

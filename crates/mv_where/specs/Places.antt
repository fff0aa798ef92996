-- The lines and columns of a text. All of this is the project's own.
use Rattle.std.specs.Prelude.{ℕ, ◌+◌, ◌-◌, Bool, ◌==◌, List, take, drop, reverse, count_by}
use Rattle.std.specs.List.{prefix_len}
use Rattle.mv_lex.specs.Bytes.{is_in_line}

-- the byte is an LF
abbrev pub is_break : ℕ → Bool
is_break b = b == 10

-- the number of the line of a byte, from 1: one more than the LFs before it
abbrev pub line_number : List ℕ → ℕ → ℕ
line_number bytes at = 1 + count_by is_break (take at bytes)

-- how many bytes of its line come before a byte: those back to the LF before it, or to the start of the text
abbrev pub column : List ℕ → ℕ → ℕ
column bytes at = prefix_len is_in_line (reverse (take at bytes))

-- the first line: up to the first LF, or all
abbrev pub first_line : List ℕ → List ℕ
first_line bytes = take (prefix_len is_in_line bytes) bytes

-- the line of a byte: from the first byte of its line up to the next LF, or to the end of the text
abbrev pub line_around : List ℕ → ℕ → List ℕ
line_around bytes at = first_line (drop (at - column bytes at) bytes)

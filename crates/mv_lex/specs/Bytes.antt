-- The classes of bytes in a script. All of this is the language's own.
use Rattle.std.specs.Prelude.{ℕ, Bool, not, ◌&&◌, ◌||◌, ◌==◌, nat_le}
use Rattle.mv_values.specs.Printable.{is_printable}

-- the byte is from `low` to `high`, both included
abbrev pub is_from : ℕ → ℕ → ℕ → Bool
is_from low high b = nat_le low b && nat_le b high

-- tab, LF, CR or space
abbrev pub is_blank : ℕ → Bool
is_blank b = b == 9 || b == 10 || b == 13 || b == 32

-- a byte that a line may contain: any but LF
abbrev pub is_in_line : ℕ → Bool
is_in_line b = not (b == 10)

-- a byte that a script may contain
abbrev pub is_allowed : ℕ → Bool
is_allowed b = is_printable b || is_blank b

-- a decimal digit
abbrev pub is_digit : ℕ → Bool
is_digit b = is_from 48 57 b

-- a letter or `_`
abbrev pub begins_word : ℕ → Bool
begins_word b = is_from 65 90 b || is_from 97 122 b || b == 95

-- a letter, `_` or a digit
abbrev pub continues_word : ℕ → Bool
continues_word b = begins_word b || is_digit b

-- one of ( ) * + , - . / and ; < = > and %
abbrev pub is_short_symbol : ℕ → Bool
is_short_symbol b = is_from 40 47 b || is_from 59 62 b || b == 37

-- one of <> <= >= or two bars
abbrev pub is_long_symbol : ℕ → ℕ → Bool
is_long_symbol a b = (a == 60 && (b == 62 || b == 61)) || (a == 62 && b == 61) || (a == 124 && b == 124)

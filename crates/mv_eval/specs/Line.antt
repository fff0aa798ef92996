-- The line that PRINT adds. This project's own.
use Rattle.std.specs.Prelude.{ℕ, Bool, true, false, List, [], ◌∷◌, ◌++◌}
use Rattle.std.specs.Fmt.{signed_decimal}
use Rattle.mv_values.specs.declared.value.Value.{Value}
use Rattle.mv_values.specs.declared.value.Value.TheVariants.{Int, Text}
use Rattle.mv_values.specs.Texts.{quoted}

-- a number in decimal digits, a text in single quotes
abbrev pub printed : Value → List ℕ
printed (Int z) = signed_decimal z
printed (Text t) = quoted t

-- a comma before each value
abbrev pub printed_after : List Value → List ℕ
printed_after [] = []
printed_after (v ∷ vs) = 44 ∷ (printed v ++ printed_after vs)

-- values joined by commas
abbrev pub line_of : List Value → List ℕ
line_of [] = []
line_of (v ∷ vs) = printed v ++ printed_after vs

-- the first value, or one after others
abbrev pub item_of : Bool → Value → List ℕ
item_of false v = printed v
item_of true v = 44 ∷ printed v

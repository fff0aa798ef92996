-- The first number of a key, from a place on.
use Rattle.std.proofs.Common.{◌≡◌, ◌<◌, ◌+◌, ℕ, ℤ, List, ◌∷◌, length, drop, Some, None, refl, ap, ◌∙◌}
use Rattle.mv_values.specs.declared.value.Value.{Value}
use Rattle.mv_values.specs.declared.value.Value.TheVariants.{Int, Text}
use Rattle.mv_values.specs.Columns.{column_of}
use Rattle.mv_values.specs.KeyForms.{int_in}
use Rattle.mv_values.proofs.Parts.{left_from}
use Rattle.mv_shards.specs.Parts.{first_int}

text_first : (v : Value) (vs : List Value) → int_in v ≡ None → first_int (v ∷ vs) ≡ first_int vs
text_first (Int n) vs h = cc
text_first (Text t) vs h = refl

number_first : (v : Value) (vs : List Value) (n : ℤ) → int_in v ≡ Some n → first_int (v ∷ vs) ≡ n
number_first (Int m) vs n h = cc
number_first (Text t) vs n h = cc

-- a text is passed over
pub passed : (key : List Value) (at : ℕ) → at < length key → int_in (column_of key at) ≡ None → first_int (drop at key) ≡ first_int (drop (at + 1) key)
passed key at within h = ap first_int (left_from key at within) ∙ text_first (column_of key at) (drop (at + 1) key) h

-- a number is the answer
pub met : (key : List Value) (at : ℕ) (n : ℤ) → at < length key → int_in (column_of key at) ≡ Some n → first_int (drop at key) ≡ n
met key at n within h = ap first_int (left_from key at within) ∙ number_first (column_of key at) (drop (at + 1) key) n h

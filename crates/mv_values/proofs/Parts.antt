-- The values of a key up to a place, and from it on.
use Rattle.std.proofs.Common.{◌≡◌, ◌<◌, ◌+◌, ℕ, List, [], ◌∷◌, ◌++◌, length, take, drop}
use Rattle.std.specs.Prelude.{pos}
use Rattle.std.proofs.lemmas.List.{take_more, drop_more}
use Rattle.mv_values.specs.declared.value.Value.{Value}
use Rattle.mv_values.specs.declared.value.Value.TheVariants.{Int}
use Rattle.mv_values.specs.Columns.{column_of}

pub taken_more : (key : List Value) (at : ℕ) → at < length key → take (at + 1) key ≡ take at key ++ column_of key at ∷ []
taken_more key at within = take_more key at (Int (pos 0)) within

pub left_from : (key : List Value) (at : ℕ) → at < length key → drop at key ≡ column_of key at ∷ drop (at + 1) key
left_from key at within = drop_more key at (Int (pos 0)) within

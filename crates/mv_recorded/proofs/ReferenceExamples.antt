-- What small statements check is what was worked out by hand.
use Rattle.std.proofs.Common.{[], ◌∷◌, refl}
use Rattle.mv_recorded.specs.ReferenceExamples.{given, numbers, Shuts, Hires, Joins, Leaves, Bosses}
use Rattle.mv_recorded.proofs.Unrolled.{value_var, value_col, columns_var, columns_col}

pub shuts : Shuts
shuts = (rw (value_var 0 (given 1 0).env []) refl, rw (value_var 0 (given 2 0).env []) refl)

pub hires : Hires
hires = (
  rw (value_var 0 (given 11 3).env [], value_var 1 (given 11 3).env []) refl,
  rw (value_var 0 (given 10 3).env [], value_var 1 (given 10 3).env []) refl,
  rw (value_var 0 (given 11 2).env [], value_var 1 (given 11 2).env []) refl,
)

pub joins : Joins
joins = rw (value_var 0 (given 5 5).env [], value_var 1 (given 5 5).env []) refl

pub leaves : Leaves
leaves = (rw (value_var 0 (given 1 0).env []) refl, refl)

pub bosses : Bosses
bosses = (
  rw (columns_col 0, value_col 0 (given 0 0).env (numbers (1 ∷ 1 ∷ [])), value_col 0 (given 0 0).env (numbers (2 ∷ 1 ∷ []))) refl,
  rw (columns_var 0, value_var 0 (given 7 0).env (numbers (1 ∷ 1 ∷ []))) refl,
)

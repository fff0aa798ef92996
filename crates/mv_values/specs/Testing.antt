-- Tests by `=`, and the columns that they test.
use Rattle.std.specs.Prelude.{ℕ, Bool, true, false, ◌&&◌, ◌==◌, List}
use Rattle.std.specs.List.{list_any}
use Rattle.mv_values.specs.declared.op.Op.{Op}
use Rattle.mv_values.specs.declared.op.Op.TheVariants.{Eq}
use Rattle.mv_values.specs.declared.tested.Tested.{Tested}

-- whether the comparison is `=`
abbrev pub is_equality : Op → Bool
is_equality Eq = true
is_equality op = false

-- whether a column is among those that are tested
abbrev pub are_tested : List Tested → ℕ → ℕ → Bool
are_tested all t c = list_any (λ x. (x.table == t) && (x.column == c)) all

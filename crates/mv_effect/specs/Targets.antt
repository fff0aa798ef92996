-- The columns that the targets of a SELECT take.
use Rattle.std.specs.Prelude.{ℕ, ◌==◌, List, [], ◌∷◌, Option, Some, if◌then◌else◌}

-- the column that a target takes last, where targets take columns in order
abbrev pub last_column : List ℕ → List ℕ → ℕ → Option ℕ → Option ℕ
last_column [] cs x last = last
last_column (y ∷ ys) [] x last = last
last_column (y ∷ ys) (c ∷ cs) x last = last_column ys cs x (if y == x then Some c else last)

-- Defines the changes of a table among changes in order.
use Rattle.std.specs.Prelude.{◌≡◌, ℕ, Bool, true, false, nat_lt, List}
use Rattle.std.specs.List.Sorted.{IsPartitionPoint}
use Rattle.mv_history.specs.declared.change.Change.{Change}

-- the change is of a lower table
abbrev pub is_below : ℕ → Change → Bool
is_below table c = nat_lt c.table table

-- the first `at` changes pass a test, and the others fail it
abbrev pub IsCut : (Change → Bool) → List Change → ℕ → Type 0
IsCut test changes at = IsPartitionPoint (λ c. test c ≡ true) (λ c. test c ≡ false) changes at

-- Numbers collected one after another, each once.
use Rattle.std.specs.Prelude.{ℕ, Bool, ◌==◌, List, [], ◌∷◌, ◌++◌, if◌then◌else◌}
use Rattle.std.specs.List.{list_any}

abbrev pub is_in : List ℕ → ℕ → Bool
is_in all m = list_any (λ n. n == m) all

-- the list with a number added, unless it is there
abbrev pub with_new : List ℕ → ℕ → List ℕ
with_new all n = if is_in all n then all else all ++ n ∷ []

-- Texts that are refusals.
use Rattle.std.specs.Prelude.{ℕ, ◌==◌, Bool, List, codes}
use Rattle.std.specs.List.{starts_with}

-- the text starts as a refusal does
abbrev pub is_refusal : List ℕ → Bool
is_refusal text = starts_with (λ a b. a == b) text (codes "refused ")

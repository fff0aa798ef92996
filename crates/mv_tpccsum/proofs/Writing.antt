-- Texts that are written one after another.
use Rattle.std.proofs.Common.{◌≡◌, ◌∙◌, ◌++◌, ℕ, List, ap, append_assoc}

-- a text that grew twice
pub grew : (old mid new a b : List ℕ) → mid ≡ old ++ a → new ≡ mid ++ b → new ≡ old ++ (a ++ b)
grew old mid new a b e f = f ∙ (ap (λ t. t ++ b) e ∙ append_assoc old a b)

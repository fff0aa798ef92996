-- Sums that stop at a greatest number.
use Rattle.std.proofs.Common.{◌≡◌, ◌+◌, ℕ, min, arith}

pub capped_more : (a b c most : ℕ) → min (min (a + b) most + c) most ≡ min (a + (b + c)) most
capped_more a b c most = grind (arith)

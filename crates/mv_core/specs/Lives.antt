-- Defines the numbers of live calls. This project's own.
use Rattle.std.specs.Prelude.{ℕ, ◌+◌, min, List, [], ◌∷◌, Option, Some, None, slice_get, if◌then◌else◌}
use Rattle.std.specs.Set.{remove_key}
use Rattle.std.specs.Ordering.{is_eq, nat_cmp}
use Rattle.mv_lawful.specs.Lawful.{Live}
pub use Rattle.mv_lawful.specs.Places.{start_by, start_in}

-- the numbers of the live calls; the first call has this number
abbrev pub live_from : ℕ → List Live → List ℕ
live_from c [] = []
live_from c (l ∷ ls) = if l.done then live_from (c + 1) ls else c ∷ live_from (c + 1) ls

abbrev pub live_numbers : List Live → List ℕ
live_numbers ls = live_from 0 ls

-- without a number
abbrev pub without : ℕ → List ℕ → List ℕ
without c cs = remove_key (λ d. is_eq (nat_cmp c d)) cs

-- the least start of these calls, or n
abbrev pub least_start : ℕ → List Live → List ℕ → ℕ
least_start n ls [] = n
least_start n ls (c ∷ cs) = min (start_in ls c) (least_start n ls cs)

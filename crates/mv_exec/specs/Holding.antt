-- Defines the frame inside a statement by what its step tells. This project's own.
use Rattle.std.specs.Prelude.{ℕ, zero, suc, ◌+◌, Bool, true, false, List, [], ◌∷◌}
use Rattle.mv_catalog.specs.declared.resolved.RStmt.TheOpen.{RStmt-F, ForSelect, ForRows, Branch}
use Rattle.mv_exec.specs.declared.moves.Holds.{Holds}
use Rattle.mv_exec.specs.declared.moves.Holds.TheVariants as holds
use Rattle.mv_exec.specs.declared.frames.Holder.TheVariants as by
use Rattle.mv_exec.specs.declared.frames.Frame.{Frame}

-- what a statement holds
abbrev pub holds_in : {X : Type 0} → RStmt-F X → Holds
holds_in (ForSelect x once cs t conds sorts body) = holds.Body x
holds_in (ForRows x y body) = holds.Body x
holds_in (Branch e ys ns) = holds.Branches
holds_in s = holds.Nothing

-- the frame before the first statement of a branch, if it has one
abbrev pub some_branch : ℕ → Bool → ℕ → Bool → List Frame
some_branch number b first false = []
some_branch number b first true = record { holder = by.Branch number b; first = first; at = 0; number = first } ∷ []

-- the frame before the first turn of a loop whose body has so many statements, if it has any
abbrev pub some_loop : ℕ → ℕ → ℕ → ℕ → List Frame
some_loop number x first zero = []
some_loop number x first (suc n) = record { holder = by.Loop number x 0; first = first; at = suc n; number = first + suc n } ∷ []

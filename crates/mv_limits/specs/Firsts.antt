-- Which of some limits is passed first.
use Rattle.std.specs.Prelude.{◌≡◌, false, List, [], ◌∷◌, Option, Some, None, ◌⊎◌}
use Rattle.mv_ast.specs.declared.limit.PassedLimit.{PassedLimit}
use Rattle.mv_ast.specs.Limits.{is_sooner}

-- this limit is one of these
abbrev pub IsIn : PassedLimit → List PassedLimit → Type 0
IsIn p [] = ⊥
IsIn p (q ∷ qs) = (p ≡ q) ⊎ IsIn p qs

-- none of these is sooner
abbrev pub NoneSooner : PassedLimit → List PassedLimit → Type 0
NoneSooner p [] = Unit {0}
NoneSooner p (q ∷ qs) = (is_sooner q p ≡ false) × NoneSooner p qs

-- the first of these, if there are any
abbrev pub IsFirst : List PassedLimit → Option PassedLimit → Type 0
IsFirst ps None = ps ≡ []
IsFirst ps (Some p) = IsIn p ps × NoneSooner p ps

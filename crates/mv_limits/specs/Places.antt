-- The search for the token at an index of a list.
use Rattle.std.specs.Prelude.{ℕ, zero, suc, List, [], ◌∷◌, Option, Some, None}
use Rattle.mv_limits.specs.declared.cursor.Cursor.{Cursor}

abbrev pub place_of : ℕ → Option ℕ → Cursor
place_of left found = record { left = left; found = found }

-- after one more token: it is the wanted one if none is left before it
abbrev pub step_from : ℕ → Option ℕ → ℕ → Cursor
step_from left (Some t) token = place_of left (Some t)
step_from zero None token = place_of zero (Some token)
step_from (suc left) None token = place_of left None

abbrev pub step : Cursor → ℕ → Cursor
step p token = step_from p.left p.found token

-- after these tokens
unfoldable pub seek : Cursor → List ℕ → Cursor
seek p [] = p
seek p (t ∷ ts) = seek (step p t) ts

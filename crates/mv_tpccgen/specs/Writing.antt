-- How rows and calls are written.
use Rattle.std.specs.Prelude.{ℕ, List, [], ◌∷◌, ◌++◌, codes}
use Rattle.std.specs.List.{flat_map, range_with_len}

-- texts with a separator between them, and an end
abbrev pub joined : List ℕ → List ℕ → List (List ℕ) → List ℕ
joined separator end [] = end
joined separator end (text ∷ []) = text ++ end
joined separator end (text ∷ another ∷ more) = text ++ (separator ++ joined separator end (another ∷ more))

-- a row of a COPY block
abbrev pub row : List (List ℕ) → List ℕ
row fields = joined (codes ",") (codes "\n") fields

-- a call with these arguments, and an end
abbrev pub call : List ℕ → List ℕ → List (List ℕ) → List ℕ
call name end arguments = codes "CALL " ++ (name ++ (codes "(" ++ joined (codes ", ") end arguments))

-- the texts of the numbers from 1 to this one, one after another
unfoldable pub up_to : ℕ → (ℕ → List ℕ) → List ℕ
up_to last text = flat_map text (range_with_len 1 last)

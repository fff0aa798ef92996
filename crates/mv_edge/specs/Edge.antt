-- The effect of a read or a write on the bytes that are left or written, if these are told, and on a count of faults.
use Rattle.std.specs.Prelude.{◌≡◌, ◌+◌, ◌++◌, ◌∷◌, [], ℕ, List, Option, Some, None}

-- these bytes were the next of those that were left; nothing is claimed if the bytes aren't told
abbrev pub Reads : Option (List ℕ) → Option (List ℕ) → List ℕ → Type 0
Reads None after got = Unit {0}
Reads (Some all) after got = (rest : List ℕ) × (after ≡ Some rest) × (all ≡ got ++ rest)

-- no bytes were left
abbrev pub IsAtEnd : Option (List ℕ) → Type 0
IsAtEnd None = Unit {0}
IsAtEnd (Some all) = all ≡ []

-- these bytes were written after those that were there
abbrev pub Writes : Option (List ℕ) → Option (List ℕ) → List ℕ → Type 0
Writes None after piece = Unit {0}
Writes (Some all) after piece = after ≡ Some (all ++ piece)

-- a proper prefix of these bytes was written
abbrev pub WritesFront : Option (List ℕ) → Option (List ℕ) → List ℕ → Type 0
WritesFront None after piece = Unit {0}
WritesFront (Some all) after piece =
    (front : List ℕ) × (byte : ℕ) × (rest : List ℕ) × (piece ≡ front ++ (byte ∷ rest)) × (after ≡ Some (all ++ front))

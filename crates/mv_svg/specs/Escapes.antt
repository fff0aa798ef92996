-- How words are written in XML.
use Rattle.std.specs.Prelude.{ℕ, Bool, ◌==◌, ◌&&◌, ◌||◌, not, List, [], ◌∷◌, if◌then◌else◌, codes, nat_le}
use Rattle.std.specs.List.{flat_map}

-- a byte with a meaning of its own in XML: `<`, `>`, `&`, a double or a single quote
abbrev pub is_markup : ℕ → Bool
is_markup b = b == 60 || (b == 62 || (b == 38 || (b == 34 || b == 39)))

-- a byte that stands for itself: an LF, or a printable byte without a meaning of its own
abbrev pub is_plain : ℕ → Bool
is_plain b = (b == 10 || (nat_le 32 b && nat_le b 126)) && not (is_markup b)

-- the reference to a byte with a meaning of its own
abbrev pub reference : ℕ → List ℕ
reference b = if b == 60 then codes "&lt;" else (if b == 62 then codes "&gt;" else (if b == 38 then codes "&amp;" else (if b == 34 then codes "&quot;" else codes "&apos;")))

-- a byte of a word: itself if it is plain, else the reference to it, and `?` for what XML has no place for
abbrev pub escaped_byte : ℕ → List ℕ
escaped_byte b = if is_markup b then reference b else (if is_plain b then b ∷ [] else codes "?")

abbrev pub escaped : List ℕ → List ℕ
escaped = flat_map escaped_byte

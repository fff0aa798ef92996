-- Defines which shard has a key, and the part of a database that a shard has. This project's own.
use Rattle.std.specs.Prelude.{ℕ, ◌+◌, ◌-◌, ◌%◌, ◌==◌, Bool, List, [], ◌∷◌, ℤ, pos, negsuc}
use Rattle.std.specs.List.{filter, list_any}
use Rattle.mv_values.specs.declared.value.Value.{Value}
use Rattle.mv_values.specs.declared.value.Value.TheVariants.{Int, Text}
use Rattle.mv_values.specs.declared.rows.Keyed.{Keyed}
use Rattle.mv_values.specs.declared.patch.Write.{Write}

-- the numbers of the shards
abbrev pub eight : List ℕ
eight = 0 ∷ 1 ∷ 2 ∷ 3 ∷ 4 ∷ 5 ∷ 6 ∷ 7 ∷ []

-- the first number of a key, or 0
abbrev pub first_int : List Value → ℤ
first_int [] = pos 0
first_int (Int n ∷ vs) = n
first_int (Text t ∷ vs) = first_int vs

-- a number modulo 8, never negative
abbrev pub residue : ℤ → ℕ
residue (pos n) = n % 8
residue (negsuc n) = 7 - n % 8

-- the shard of the row under a key
abbrev pub shard_of : ℕ → List Value → ℕ
shard_of t key = (t + residue (first_int key)) % 8

-- shard q has the row
abbrev pub is_in : ℕ → ℕ → List Value → Bool
is_in q t key = shard_of t key == q

-- the rows of a table in shard q
abbrev pub part_rows : ℕ → ℕ → List Keyed → List Keyed
part_rows q t rows = filter (λ item. is_in q t item.key) rows

-- so of each table; the first has this number
abbrev pub part_from : ℕ → ℕ → List (List Keyed) → List (List Keyed)
part_from q t [] = []
part_from q t (rows ∷ db) = part_rows q t rows ∷ part_from q (t + 1) db

-- the part of a database in shard q
abbrev pub part : ℕ → List (List Keyed) → List (List Keyed)
part q db = part_from q 0 db

-- the writes to rows of shard q
abbrev pub writes_in : ℕ → List Write → List Write
writes_in q ws = filter (λ w. is_in q w.table w.key) ws

-- one of the writes is to a row of shard q
abbrev pub writes_to : ℕ → List Write → Bool
writes_to q ws = list_any (λ w. is_in q w.table w.key) ws

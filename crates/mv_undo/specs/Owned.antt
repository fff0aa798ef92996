-- A write of a running call, and where the log of the call has it.
use Rattle.std.specs.Prelude.{◌<◌, ℕ, List, [], All, map, nat_lt, slice_index_or}
use Rattle.std.specs.List.{filter}
use Rattle.mv_values.specs.declared.patch.Patch.TheVariants.{Delete}
use Rattle.mv_values.specs.declared.patch.Write.{Write}
use Rattle.mv_undo.specs.declared.place.Place.{Place}

-- a write and the number of its record
pub record Owned : Type 0 where
  pub number : ℕ
  pub write : Write

-- the write at a place of a log; a write to an empty key if there is none
abbrev pub no_write : Write
no_write = record { table = 0; key = []; patch = Delete }

abbrev pub write_in : List Write → ℕ → Write
write_in ws at = slice_index_or ws at no_write

-- one of these places
abbrev pub no_place : Place
no_place = record { number = 0; at = 0 }

abbrev pub place_in : List Place → ℕ → Place
place_in places i = slice_index_or places i no_place

abbrev pub owned_in : List Write → Place → Owned
owned_in ws p = record { number = p.number; write = write_in ws p.at }

-- the writes at these places of a log, each with the number of its record
abbrev pub owned_by : List Place → List Write → List Owned
owned_by places ws = map (owned_in ws) places

-- the places are within a log with so many writes
abbrev pub AreWithin : ℕ → List Place → Type 0
AreWithin n places = All (λ p. p.at < n) places

-- the places of records with smaller numbers
abbrev pub places_before : ℕ → List Place → List Place
places_before number places = filter (λ p. nat_lt p.number number) places

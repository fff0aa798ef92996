-- Defines what a call derives from its records.
use Rattle.std.specs.Prelude.{ℕ, zero, suc, ◌+◌, max, List, [], ◌∷◌, Option, Some, None, slice_set}
use Rattle.mv_record.specs.declared.record.Slot.{Slot}

-- the list with at least this many numbers
abbrev pub with_room : ℕ → List (Option ℕ) → List (Option ℕ)
with_room zero ds = ds
with_room (suc n) [] = None ∷ with_room n []
with_room (suc n) (d ∷ ds) = d ∷ with_room n ds

-- the record with this number has set these variables
abbrev pub define : List (Option ℕ) → List Slot → ℕ → List (Option ℕ)
define ds [] number = ds
define ds (s ∷ ss) number = define (slice_set ds s.slot (Some number)) ss number

-- as many variables as these slots need
abbrev pub slot_room : List Slot → ℕ
slot_room [] = 0
slot_room (s ∷ ss) = max (s.slot + 1) (slot_room ss)

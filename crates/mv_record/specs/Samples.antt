-- Small records of a bank's procedures, for worked examples. An account has a number, which is its key, a balance and a
-- note. This project's own.
use Rattle.std.specs.Prelude.{ℕ, pos, List, [], ◌∷◌, Some, None}
use Rattle.mv_values.specs.declared.value.Value.{Value}
use Rattle.mv_values.specs.declared.value.Value.TheVariants.{Int, Text}
use Rattle.mv_values.specs.declared.op.Op.{Op}
use Rattle.mv_values.specs.declared.op.Op.TheVariants.{Eq}
use Rattle.mv_values.specs.declared.rows.Keyed.{Keyed}
use Rattle.mv_values.specs.declared.pred.Pred.{Pred}
use Rattle.mv_values.specs.declared.pred.Test.{Test}
use Rattle.mv_values.specs.declared.patch.Patch.TheVariants as patch
use Rattle.mv_values.specs.declared.patch.Write.{Write}
use Rattle.mv_record.specs.declared.record.Record.{Record}
use Rattle.mv_record.specs.declared.record.Read.{Read}
use Rattle.mv_record.specs.declared.record.Slot.{Slot}

abbrev pub key : ℕ → List Value
key a = Int (pos a) ∷ []

abbrev pub account : ℕ → ℕ → Keyed
account a b = record { key = key a; row = Int (pos a) ∷ Int (pos b) ∷ Text [] ∷ [] }

-- WHERE id = a, with these columns selected
abbrev pub asks : ℕ → List ℕ → List Pred
asks a columns = record { table = 0; tests = record { column = 0; key_place = Some 0; op = Eq; value = Int (pos a) } ∷ []; columns = columns } ∷ []

-- a test of a column that isn't in the key
abbrev pub test : ℕ → Op → ℕ → Test
test column op value = record { column = column; key_place = None; op = op; value = Int (pos value) }

-- the write that sets a column of a row
abbrev pub writes_column : ℕ → ℕ → ℕ → List Write
writes_column a column value = record { table = 0; key = key a; patch = patch.Set (record { column = column; value = Int (pos value) } ∷ []) } ∷ []

abbrev pub writes_balance : ℕ → ℕ → List Write
writes_balance a b = writes_column a 1 b

-- a read of a variable, and the record that last set it
abbrev pub reads : ℕ → ℕ → Read
reads x number = record { slot = x; definer = Some number }

abbrev pub reads_default : ℕ → Read
reads_default x = record { slot = x; definer = None }

abbrev pub sets : ℕ → ℕ → Slot
sets x n = record { slot = x; value = Int (pos n) }

-- the record of the statement with this number, outside any loop
abbrev pub blank : ℕ → Record
blank n = record { spot = record { statement = n; turns = [] }; parent = None; reads = []; preds = []; sets = []; rows = []; writes = []; line = None; end = None }

-- SELECT bal INTO x .. WHERE id = a; f is `:found`
abbrev pub look : ℕ → ℕ → ℕ → ℕ → ℕ → Record
look n a x f b = record (blank n) { preds = asks a (1 ∷ []); sets = sets x b ∷ sets f 1 ∷ [] }

-- UPDATE .. SET bal = bal .. WHERE id = a
abbrev pub change : ℕ → ℕ → ℕ → ℕ → Record
change n a f b = record (blank n) { preds = asks a (1 ∷ []); sets = sets f 1 ∷ []; writes = writes_balance a b }

-- PRINT
abbrev pub print : ℕ → List Read → List ℕ → Record
print n rs line = record (blank n) { reads = rs; line = Some line }

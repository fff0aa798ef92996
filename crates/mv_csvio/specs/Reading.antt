-- The position of a reader in a block.
use Rattle.std.specs.Prelude.{◌≡◌, ℕ, List, [], Option, Some, None, length}
use Rattle.std.specs.Borrow.{Bor}
use Rattle.csv.specs.Machine.{next_record}
use Rattle.csv.specs.Records.{Row, fields_of}
use Rattle.csv.specs.Reading.{Ready, default_config, reader_config, reader_state, reader_trim, source_of}
use Rattle.csv.specs.declared.parser.State.{State}
use Rattle.csv.specs.declared.reader.Reader.{Reader}
use Rattle.csv.specs.declared.reader.Trim.TheVariants as untrimmed

-- the bytes left in the slice that a reader reads from
abbrev pub bytes_of : Bor (List ℕ) → Option (List ℕ)
bytes_of slice = Some slice.now

-- the reader has the default configuration and is in this state, with these bytes left
pub record ReadsFrom (reader : Reader (Bor (List ℕ))) (at' : State) (left : List ℕ) : Type 0 where
  pub config : reader_config reader ≡ default_config
  pub trim : reader_trim reader ≡ untrimmed.None
  pub ready : Ready reader
  pub state : reader_state reader ≡ at'
  pub bytes : source_of bytes_of reader ≡ Some left

-- the next record was read, and the reader is after it
abbrev pub HasRead : State → List ℕ → Row → Reader (Bor (List ℕ)) → Type 0
HasRead at' left row after =
    (next : State) × (rest : List ℕ) × (next_record default_config at' [] [] left ≡ Some (fields_of row, next, rest)) × ReadsFrom after next rest

-- the number of bytes left
abbrev pub size_of : Option (List ℕ) → ℕ
size_of None = 0
size_of (Some bytes) = length bytes

abbrev pub bytes_left : Reader (Bor (List ℕ)) → ℕ
bytes_left reader = size_of (source_of bytes_of reader)

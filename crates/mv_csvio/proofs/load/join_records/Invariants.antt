use Rattle.std.proofs.Common.{◌≡◌, ℕ, length}
use Rattle.std.proofs.Common.{List as Seq}
use Rattle.csv.specs.declared.parser.State.{State}
use Rattle.mv_csvio.specs.Loading.{HasLoaded, Record}
use Rattle.mv_csvio.specs.Reading.{ReadsFrom, bytes_left}
use Rattle.mv_csvio.proofs.Loaded.{ReachedIn}
use Rattle.mv_csvio.proofs.load.join_records.Given as goal

abbrev pub invariant-loop-fields : goal.invariant-loop-fields
invariant-loop-fields l = (front : Seq Record) × (at' : State) × (left : Seq ℕ)
    × ReadsFrom l.reader at' left
    × ReachedIn l.block front at' left
    × HasLoaded l.table l.fn.joining front l.joining
    × (l.number ≡ length front)

abbrev pub decreases-loop-fields : goal.decreases-loop-fields
decreases-loop-fields l = bytes_left l.reader

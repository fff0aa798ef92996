-- The input of a command, and what is taken of it.
use Rattle.std.specs.Prelude.{◌≡◌, ◌<◌, ◌⊎◌, ℕ, List, Option, Some, Result, Ok, length}
use Rattle.mv_accept.specs.Accepting.{most_bytes}
use Rattle.mv_tpccgen.specs.Workload.{workload}
use Rattle.mv_words.specs.declared.command.Command.{Command}
use Rattle.mv_words.specs.declared.command.Command.TheVariants.{Run, Replay, Serial, Graph, Tpcc, Audit, Why}
use Rattle.mv_top.specs.declared.refusal.Refusal.{Refusal}
use Rattle.mv_top.specs.Parts.{headed_script}

-- the command reads the source: each one but `tpcc`
abbrev pub IsReader : Command → Type 0
IsReader (Run threads options) = Unit {0}
IsReader (Replay options) = Unit {0}
IsReader Serial = Unit {0}
IsReader Graph = Unit {0}
IsReader (Tpcc load script threads options) = ⊥
IsReader (Audit rounds) = Unit {0}
IsReader (Why options) = Unit {0}

-- the input of a command: the bytes that are left in the source, if these are known; for `tpcc` the script of its load
abbrev pub input_of : Command → Option (List ℕ) → Option (List ℕ)
input_of (Run threads options) left = left
input_of (Replay options) left = left
input_of Serial left = left
input_of Graph left = left
input_of (Tpcc load script threads options) left = Some (workload load)
input_of (Audit rounds) left = left
input_of (Why options) left = left

-- the script that a command takes of its input, or why it refuses the input: `audit` takes the script after the head, the
-- others take all bytes
abbrev pub script_in : Command → List ℕ → Result (List ℕ) Refusal
script_in (Run threads options) bytes = Ok bytes
script_in (Replay options) bytes = Ok bytes
script_in Serial bytes = Ok bytes
script_in Graph bytes = Ok bytes
script_in (Tpcc load script threads options) bytes = Ok bytes
script_in (Audit rounds) bytes = headed_script bytes
script_in (Why options) bytes = Ok bytes

-- the bytes are all of the input, or both are more than a script may have
abbrev pub IsTaken : List ℕ → List ℕ → Type 0
IsTaken all bytes = (bytes ≡ all) ⊎ ((most_bytes < length all) × (most_bytes < length bytes))

-- The input of `audit`: a head, a script and a report. The head is 1 to 8 decimal digits and an LF. It tells the number of
-- the script's bytes. This project's own.
use Rattle.std.specs.Prelude.{ℕ, ◌+◌, ◌==◌, List, [], Option, Some, None, Result, Ok, Err, if◌then◌else◌, length, nat_lt, take, drop, slice_range}
use Rattle.std.specs.List.{position}
use Rattle.std.specs.Option.{option_and_then, option_map_or}
use Rattle.mv_journal.specs.Reading.{number_in}
use Rattle.mv_accept.specs.declared.refusal.ScriptRefusal.TheVariants.{TooLong}
use Rattle.mv_accept.specs.Accepting.{most_bytes}
use Rattle.mv_top.specs.declared.parts.Parts.{Parts as Slices}
use Rattle.mv_top.specs.declared.refusal.Refusal.{Refusal}
use Rattle.mv_top.specs.declared.refusal.Refusal.TheVariants.{Script, Head}

pub record Parts : Type 0 where
  pub script : List ℕ
  pub report : List ℕ

-- the number that 1 to 8 decimal digits write
abbrev pub length_in : List ℕ → Option ℕ
length_in digits = if nat_lt 8 (length digits) then None else number_in digits

-- a script of n bytes from a place on, and the report after it, if there are so many bytes
abbrev pub parts_from : List ℕ → ℕ → ℕ → Option Parts
parts_from bytes from n = if nat_lt (length bytes) (from + n) then None else Some (record { script = slice_range bytes from (from + n); report = drop (from + n) bytes })

-- the parts after a head that ends at this place
abbrev pub parts_after : List ℕ → ℕ → Option Parts
parts_after bytes at = option_and_then (parts_from bytes (at + 1)) (length_in (take at bytes))

-- the parts of an input; none if it has no head, or fewer bytes after it than the head tells
abbrev pub parts_of : List ℕ → Option Parts
parts_of bytes = option_and_then (parts_after bytes) (position (λ b. b == 10) bytes)

-- the report of an input
abbrev pub report_in : List ℕ → List ℕ
report_in bytes = option_map_or (λ (parts : Parts). parts.report) (parts_of bytes) []

abbrev pub script_by : Option Parts → Result (List ℕ) Refusal
script_by None = Err Head
script_by (Some parts) = Ok parts.script

-- parts without where they lie in memory
abbrev pub with_values : Slices → Parts
with_values parts = record { script = parts.script.now; report = parts.report.now }

-- the script of an input, or its refusal
abbrev pub headed_script : List ℕ → Result (List ℕ) Refusal
headed_script bytes = if nat_lt most_bytes (length bytes) then Err (Script TooLong) else script_by (parts_of bytes)

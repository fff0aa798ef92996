-- The report of an input is a part of it.
use Rattle.std.proofs.Common.{◌≤◌, ◌+◌, ℕ, Bool, true, false, List, [], Option, Some, None, length, drop, take, nat_lt, arith, if◌then◌else◌}
use Rattle.std.specs.Prelude.{◌==◌, slice_range}
use Rattle.std.specs.List.{position}
use Rattle.std.specs.Option.{option_and_then, option_map_or}
use Rattle.std.proofs.lemmas.List.{length-drop}
use Rattle.mv_top.specs.Parts.{Parts, length_in, parts_from, parts_after, report_in}

abbrev pub report_of : Option Parts → List ℕ
report_of o = option_map_or (λ (parts : Parts). parts.report) o []

report_from : (bytes : List ℕ) (from n : ℕ) (b : Bool) → length (report_of (if b then None else Some (record { script = slice_range bytes from (from + n); report = drop (from + n) bytes }))) ≤ length bytes
report_from bytes from n true = omega arith
report_from bytes from n false = omega (arith, length-drop (from + n) bytes)

report_after : (bytes : List ℕ) (at : ℕ) (o : Option ℕ) → length (report_of (option_and_then (parts_from bytes (at + 1)) o)) ≤ length bytes
report_after bytes at None = omega arith
report_after bytes at (Some n) = report_from bytes (at + 1) n (nat_lt (length bytes) (at + 1 + n))

report_found : (bytes : List ℕ) (o : Option ℕ) → length (report_of (option_and_then (parts_after bytes) o)) ≤ length bytes
report_found bytes None = omega arith
report_found bytes (Some at) = report_after bytes at (length_in (take at bytes))

pub report_is_few : (bytes : List ℕ) → length (report_in bytes) ≤ length bytes
report_is_few bytes = report_found bytes (position (λ b. b == 10) bytes)

-- The calls of procedures that are found by name. A procedure that isn't there counts as having no calls.
use Rattle.std.specs.Prelude.{ℕ, Bool, false, ◌==◌, ◌&&◌, List, Option, count_by, is_some}
use Rattle.std.specs.List.{position, zip}
use Rattle.std.specs.Option.{option_map_or}
use Rattle.std.specs.Str.{bytes_eq}
use Rattle.mv_values.specs.declared.calls.Call.{Call}
use Rattle.mv_values.specs.declared.calls.Reply.{Reply}
use Rattle.mv_catalog.specs.declared.resolved.ProcInfo.{ProcInfo}
use Rattle.mv_catalog.specs.declared.resolved.Resolved.{Resolved}

-- the place of the procedure with a name
abbrev pub procedure_place : List ProcInfo → List ℕ → Option ℕ
procedure_place procedures name = position (λ p. bytes_eq p.name name) procedures

abbrev pub is_call_of : Option ℕ → Call → Bool
is_call_of place call = option_map_or (λ p. p == call.procedure) place false

-- a call that was rolled back has an end
abbrev pub is_end_of : Option ℕ → Call × Reply → Bool
is_end_of place p = is_call_of place p.0 && is_some p.1.end

-- how many calls a procedure has
unfoldable pub calls_of : Resolved → List ℕ → ℕ
calls_of resolved name = count_by (is_call_of (procedure_place resolved.procedures name)) resolved.calls

-- how many of them were rolled back
unfoldable pub ends_of : Resolved → List Reply → List ℕ → ℕ
ends_of resolved replies name = count_by (is_end_of (procedure_place resolved.procedures name)) (zip resolved.calls replies)

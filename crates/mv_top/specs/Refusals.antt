-- The number and the line of each refusal of a command.
use Rattle.std.specs.Prelude.{ℕ, List, ◌++◌, codes, decimal}
use Rattle.mv_accept.specs.Refusals.{number_of as script_number, line_of as script_line}
use Rattle.mv_lawful.specs.declared.fault.EventFault.{EventFault}
use Rattle.mv_lawful.specs.declared.fault.EventFault.TheVariants as fault
use Rattle.mv_top.specs.declared.refusal.Refusal.{Refusal}
use Rattle.mv_top.specs.declared.refusal.Refusal.TheVariants.{Script, Head, Line, Event, Open}

-- the number of the refusal of an event
abbrev pub event_number : EventFault → ℕ
event_number fault.Order = 16
event_number fault.Conflict = 17
event_number fault.Idle = 18
event_number fault.Rounds = 19
event_number fault.Stale = 20
event_number fault.Kind = 25

abbrev pub number_of : Refusal → ℕ
number_of (Script refusal) = script_number refusal
number_of Head = 26
number_of (Line n) = 15
number_of (Event n fault) = event_number fault
number_of (Open call) = 21

-- a refusal at a line of the journal
abbrev pub journal_line : ℕ → ℕ → List ℕ
journal_line number n = codes "refused " ++ decimal number ++ codes " journal line " ++ decimal n

abbrev pub line_of : Refusal → List ℕ
line_of (Script refusal) = script_line refusal
line_of Head = codes "refused 26 audit head"
line_of (Line n) = journal_line 15 n
line_of (Event n fault) = journal_line (event_number fault) n
line_of (Open call) = codes "refused 21 call " ++ decimal call

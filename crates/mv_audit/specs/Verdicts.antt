-- The verdict on a report: whether it is the text of a lawful journal. This project's own.
use Rattle.std.specs.Prelude.{ℕ, ◌+◌, ◌==◌, List, [], ◌∷◌, Option, Some, None, map, length, codes, if◌then◌else◌}
use Rattle.std.specs.List.{filter}
use Rattle.std.specs.Option.{option_and_then}
use Rattle.mv_values.specs.declared.schema.TableInfo.{TableInfo}
use Rattle.mv_catalog.specs.declared.resolved.Program.{Program}
use Rattle.mv_journal.specs.declared.event.Event.{Event}
use Rattle.mv_journal.specs.Reading.{event_in}
use Rattle.mv_lawful.specs.declared.fault.Wrong.{Wrong}
use Rattle.mv_lawful.specs.declared.fault.Wrong.TheVariants.{Refused, Open}
use Rattle.mv_lawful.specs.Batch.{Batch}
use Rattle.mv_lawful.specs.Lawful.{wrong_with}
use Rattle.mv_lawful.specs.Outcomes.{has_line, outcome_of}
use Rattle.mv_report.specs.Text.{text_of}
use Rattle.mv_report.specs.JournalLines.{is_word, lines_in, journal_lines_in}
use Rattle.mv_report.specs.History.{batch_of}
use Rattle.mv_audit.specs.declared.verdict.Verdict.{Verdict}
use Rattle.mv_audit.specs.declared.verdict.Verdict.TheVariants.{Yes, NoJournal, Line}

-- The journal of a report

-- the number of LFs in bytes
abbrev pub ends_in : List ℕ → ℕ
ends_in bytes = length (filter (λ b. b == 10) bytes)

-- the number of the first line that is `journal`, if the first of these lines has this number. A line with quotes may
-- have LFs in it, and they count
abbrev pub journal_at : ℕ → List (List ℕ) → Option ℕ
journal_at n [] = None
journal_at n (line ∷ lines) = if is_word line (codes "journal") then Some n else journal_at (n + ends_in line + 1) lines

-- the event of a line in a text: statements and collections have no line
abbrev pub shown_event : List ℕ → Option Event
shown_event line = option_and_then (λ event. if has_line event then Some event else None) (event_in line)

-- the events of the first lines, up to one without an event
abbrev pub leading : List (Option Event) → List Event
leading [] = []
leading (None ∷ later) = []
leading (Some event ∷ later) = event ∷ leading later

abbrev pub events_of : List (List ℕ) → List Event
events_of lines = leading (map shown_event lines)

-- Faults

-- the first line at fault, if the first of these lines has number 1: one with a refused event or without any event. If
-- all have events that are allowed, but a call stays open, it is the line after them
abbrev pub fault_of : Option Wrong → ℕ → ℕ → Option ℕ
fault_of (Some (Refused n fault)) events lines = Some n
fault_of (Some (Open call)) events lines = Some (events + 1)
fault_of None events lines = if events == lines then None else Some (events + 1)

abbrev pub fault_in : Batch → List (List ℕ) → Option ℕ
fault_in w lines = fault_of (wrong_with w (events_of lines)) (length (events_of lines)) (length lines)

-- the first line in which two texts differ, if their first line has this number. Where one of them ends, it differs from
-- the other if that one goes on
abbrev pub difference : ℕ → List ℕ → List ℕ → Option ℕ
difference n [] [] = None
difference n [] (b ∷ bs) = Some n
difference n (a ∷ as') [] = Some n
difference n (a ∷ as') (b ∷ bs) = if a == b then difference (if a == 10 then n + 1 else n) as' bs else Some n

-- The verdict

-- the first line at fault decides, after the line of this number; else the first line that differs
abbrev pub judged : ℕ → Option ℕ → Option ℕ → Verdict
judged at (Some n) differs = Line (at + n)
judged at None (Some n) = Line n
judged at None None = Yes

abbrev pub verdict_after : List TableInfo → Batch → List ℕ → Option ℕ → Verdict
verdict_after tables w report None = NoJournal
verdict_after tables w report (Some at) =
    let lines : List (List ℕ) = journal_lines_in report in
    judged at (fault_in w lines) (difference 1 report (text_of tables (outcome_of w (events_of lines))))

-- the verdict on a report of this batch: it is compared with the text of its own journal
abbrev pub verdict_of : List TableInfo → Batch → List ℕ → Verdict
verdict_of tables w report = verdict_after tables w report (journal_at 1 (lines_in report))

-- AuditVerdict: the verdict on a report of a program. Moves are allowed everywhere, since no horizon is given
abbrev pub audit_verdict : Program → ℕ → List ℕ → Verdict
audit_verdict p rounds report = verdict_of p.resolved.tables (batch_of p (record { rounds = rounds; horizon = None })) report

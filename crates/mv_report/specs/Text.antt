-- The text of a run, line by line. Its form is this project's own.
use Rattle.std.specs.Prelude.{ℕ, List, Option, Some, None, ◌++◌, ◌∷◌, [], ◌==◌, if◌then◌else◌, codes, decimal}
use Rattle.std.specs.List.{flat_map, join_by, enumerate_from, zip}
use Rattle.mv_values.specs.declared.calls.End.{End}
use Rattle.mv_values.specs.declared.calls.End.TheVariants.{Own, Duplicate, Overflow, ZeroDivisor, TooLong, MissingParent, HasChildren}
use Rattle.mv_values.specs.declared.calls.Reply.{Reply}
use Rattle.mv_values.specs.declared.rows.Keyed.{Keyed}
use Rattle.mv_values.specs.declared.schema.TableInfo.{TableInfo}
use Rattle.mv_values.specs.Texts.{line}
use Rattle.mv_csvio.specs.Csv.{rows_csv}
use Rattle.mv_journal.specs.declared.event.Event.{Event}
use Rattle.mv_journal.specs.declared.event.Event.TheVariants.{S, G}
use Rattle.mv_journal.specs.declared.outcome.Mark.{Mark}
use Rattle.mv_journal.specs.declared.outcome.Mark.TheVariants.{Plain, Exclusive, Moved}
use Rattle.mv_journal.specs.declared.outcome.Round.{Round}
use Rattle.mv_journal.specs.declared.outcome.HistoryLine.{HistoryLine}
use Rattle.mv_journal.specs.declared.outcome.Outcome.{Outcome}
use Rattle.mv_journal.specs.Events.{event_text}
use Rattle.mv_lawful.specs.Rounds.{last_start}

-- a byte of a text in single quotes. A quote is doubled
abbrev pub in_quotes : ℕ → List ℕ
in_quotes byte = if byte == 39 then codes "''" else byte ∷ []

-- why a call was rolled back: its own text in single quotes, or the fault
abbrev pub reason_text : End → List ℕ
reason_text (Own text) = codes "'" ++ flat_map in_quotes text ++ codes "'"
reason_text Duplicate = codes "duplicate key"
reason_text Overflow = codes "overflow"
reason_text ZeroDivisor = codes "division by zero"
reason_text TooLong = codes "text too long"
reason_text MissingParent = codes "missing parent"
reason_text HasChildren = codes "has children"

-- how a call ended, and its lines if it is done
abbrev pub answer_text : List (List ℕ) → Option End → List ℕ
answer_text lines None = line (codes " done") ++ flat_map line lines
answer_text lines (Some end) = line (codes " rolled back " ++ reason_text end)

-- the reply of a call, with its number
abbrev pub reply_text : ℕ → Reply → List ℕ
reply_text call reply = codes "reply " ++ decimal call ++ answer_text reply.lines reply.end

-- the replies, by call number from 0
abbrev pub replies_text : List Reply → List ℕ
replies_text replies = flat_map (λ numbered. reply_text numbered.0 numbered.1) (enumerate_from 0 replies)

-- the mark of a round: x for a repair that committed in the same step, m for a whole run after a move
abbrev pub mark_text : Mark → List ℕ
mark_text Plain = []
mark_text Exclusive = codes "x"
mark_text Moved = codes "m"

-- how many records a round executed, with its mark. A hyphen if a move ended the round
abbrev pub count_text : Option ℕ → Mark → List ℕ
count_text None mark = codes "-"
count_text (Some count) mark = decimal count ++ mark_text mark

-- the starts of a call's rounds
abbrev pub starts_text : List Round → List ℕ
starts_text rounds = join_by (λ round. decimal round.start) (codes ",") rounds

-- the counts of a call's rounds
abbrev pub counts_text : List Round → List ℕ
counts_text rounds = join_by (λ round. count_text round.count round.mark) (codes "+") rounds

-- the starts and the counts of a call's rounds
abbrev pub rounds_text : List Round → List ℕ
rounds_text rounds = codes " starts " ++ starts_text rounds ++ codes " runs " ++ counts_text rounds

-- where a call stands: at the commit of this number, or as an answered call at the start of its last round
abbrev pub place_text : Option ℕ → List Round → List ℕ
place_text (Some number) rounds = decimal number
place_text None rounds = codes "r" ++ decimal (last_start rounds)

-- a call in the history: its place, its number and its rounds
abbrev pub line_text : HistoryLine → List ℕ
line_text l = line (place_text l.commit l.rounds ++ codes " " ++ decimal l.call ++ rounds_text l.rounds)

-- the calls in their order
abbrev pub history_text : List HistoryLine → List ℕ
history_text history = flat_map line_text history

-- the line of an event. Statements and collections have none
abbrev pub event_line : Event → List ℕ
event_line (S call) = []
event_line G = []
event_line event = line (event_text event)

-- the events in their order
abbrev pub journal_text : List Event → List ℕ
journal_text events = flat_map event_line events

-- a table: its name, then its rows in key order as CSV
abbrev pub table_text : TableInfo → List Keyed → List ℕ
table_text table rows = line (codes "table " ++ table.name) ++ rows_csv rows

-- the tables in declared order
abbrev pub tables_text : List TableInfo → List (List Keyed) → List ℕ
tables_text tables database = flat_map (λ both. table_text both.0 both.1) (zip tables database)

-- the text of a run
abbrev pub text_of : List TableInfo → Outcome → List ℕ
text_of tables outcome =
    replies_text outcome.replies
    ++ line (codes "history") ++ history_text outcome.history
    ++ line (codes "journal") ++ journal_text outcome.journal
    ++ tables_text tables outcome.tables
    ++ line (codes "end")

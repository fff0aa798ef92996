-- The lines of the journal in the text of a run. This project's own.
use Rattle.std.specs.Prelude.{◌≡◌, ℕ, ◌==◌, Bool, true, false, not, ◌&&◌, ◌||◌, List, [], ◌∷◌, ◌++◌, map, codes, if◌then◌else◌}
use Rattle.mv_values.specs.declared.schema.TableInfo.{TableInfo}
use Rattle.mv_journal.specs.declared.outcome.Outcome.{Outcome}
use Rattle.mv_journal.specs.Events.{event_text}
use Rattle.mv_lawful.specs.Outcomes.{shown}
use Rattle.mv_report.specs.Text.{text_of}
use Rattle.mv_report.specs.Shown.{IsPlain}

-- whether the line is this word
abbrev pub is_word : List ℕ → List ℕ → Bool
is_word [] [] = true
is_word [] (b ∷ word) = false
is_word (a ∷ line) [] = false
is_word (a ∷ line) (b ∷ word) = (a == b) && is_word line word

-- whether the line begins with this word
abbrev pub begins_with : List ℕ → List ℕ → Bool
begins_with line [] = true
begins_with [] (b ∷ word) = false
begins_with (a ∷ line) (b ∷ word) = (a == b) && begins_with line word

-- the lines of bytes after the front of a line, within single quotes or not. An LF within quotes ends no line, since a
-- text may have one. What no LF ends is no line
abbrev pub lines_from : Bool → List ℕ → List ℕ → List (List ℕ)
lines_from quoted front [] = []
lines_from quoted front (b ∷ bs) = if (b == 10) && not quoted then front ∷ lines_from false [] bs else lines_from (if b == 39 then not quoted else quoted) (front ++ b ∷ []) bs

abbrev pub lines_in : List ℕ → List (List ℕ)
lines_in = lines_from false []

-- the lines after the first one that is `journal`
abbrev pub after_journal : List (List ℕ) → List (List ℕ)
after_journal [] = []
after_journal (line ∷ lines) = if is_word line (codes "journal") then lines else after_journal lines

-- whether the line begins with `table` or is `end`
abbrev pub ends_journal : List ℕ → Bool
ends_journal line = begins_with line (codes "table") || is_word line (codes "end")

-- the lines before the first such one
abbrev pub before_tables : List (List ℕ) → List (List ℕ)
before_tables [] = []
before_tables (line ∷ lines) = if ends_journal line then [] else line ∷ before_tables lines

-- the lines of the journal in a text
abbrev pub journal_lines_in : List ℕ → List (List ℕ)
journal_lines_in text = before_tables (after_journal (lines_in text))

-- in the text of a run these are the lines of the events that it shows, whatever the replies and the tables are
abbrev pub TextHasJournal : Type 0
TextHasJournal = (tables : List TableInfo) (o : Outcome) → IsPlain o → journal_lines_in (text_of tables o) ≡ map event_text (shown o.journal)

-- The text that tells why the repairs of a journal executed the records that they did. This project's own.
use Rattle.std.specs.Prelude.{ℕ, ◌+◌, List, [], ◌∷◌, ◌++◌, Option, Some, None, length, slice_get, codes}
use Rattle.mv_values.specs.declared.schema.TableInfo.{TableInfo}
use Rattle.mv_values.specs.Texts.{line}
use Rattle.mv_history.specs.declared.change.Change.{Change}
use Rattle.mv_changes.specs.declared.recent.Committed.{Committed}
use Rattle.mv_journal.specs.declared.event.Event.{Event}
use Rattle.mv_journal.specs.declared.event.Event.TheVariants.{B, S, A, M, C, X, R, G}
use Rattle.mv_lawful.specs.Batch.{Batch, records_at, since}
use Rattle.mv_lawful.specs.Lawful.{Live, Schedule, beginning, after}
use Rattle.mv_why.specs.Text.{repair_text}

-- commits with these changes, the first of which has this number
abbrev pub commits_from : ℕ → List (List Change) → List Committed
commits_from n [] = []
commits_from n (changes ∷ rest) = record { commit = n; changes = changes } ∷ commits_from (n + 1) rest

-- the lines of the repair of a live call: from its full run at its start to that after all commits
abbrev pub lines_of : List TableInfo → Batch → List ℕ → ℕ → Option Live → List ℕ
lines_of tables w order c None = []
lines_of tables w order c (Some l) =
    repair_text tables c (length order) (records_at w order l.start c) (records_at w order (length order) c) (commits_from (l.start + 1) (since w order l.start))

-- the lines of an event that comes in this state: those of a repair
abbrev pub event_lines : List TableInfo → Batch → Schedule → Event → List ℕ
event_lines tables w s (A c) = lines_of tables w s.order c (slice_get s.calls c)
event_lines tables w s (X c) = lines_of tables w s.order c (slice_get s.calls c)
event_lines tables w s (B c) = []
event_lines tables w s (S c) = []
event_lines tables w s (M c) = []
event_lines tables w s (C c) = []
event_lines tables w s (R c) = []
event_lines tables w s G = []

-- the lines of events, one after another
abbrev pub lines_from : List TableInfo → Batch → Schedule → List Event → List ℕ
lines_from tables w s [] = []
lines_from tables w s (e ∷ es) = event_lines tables w s e ++ lines_from tables w (after w s e) es

-- the text of a journal: the lines of its repairs, and `end`
abbrev pub why_text : List TableInfo → Batch → List Event → List ℕ
why_text tables w es = lines_from tables w beginning es ++ line (codes "end")

-- A text fixes its journal: which events can be told from the text of a run. This project's own.
use Rattle.std.specs.Prelude.{◌≡◌, ℕ, List, All}
use Rattle.mv_values.specs.declared.value.Value.{Value}
use Rattle.mv_values.specs.declared.calls.Reply.{Reply}
use Rattle.mv_values.specs.declared.schema.TableInfo.{TableInfo}
use Rattle.mv_journal.specs.declared.outcome.Outcome.{Outcome}
use Rattle.mv_journal.specs.Events.{IsInRange}
use Rattle.mv_lawful.specs.Outcomes.{shown}
use Rattle.mv_eval.specs.Line.{line_of}
use Rattle.mv_report.specs.Text.{text_of}

-- PRINT added the line
abbrev pub IsPrinted : List ℕ → Type 0
IsPrinted line = (values : List Value) × (line ≡ line_of values)

-- each line of each reply is one of PRINT, and the events' calls have 32 bits
pub record IsPlain (outcome : Outcome) : Type 0 where
  pub lines : All (λ (reply : Reply). All IsPrinted reply.lines) outcome.replies
  pub calls : All IsInRange outcome.journal

-- two runs with the same text have the same events in it, whatever their tables are
abbrev pub TextFixesEvents : Type 0
TextFixesEvents = (tables others : List TableInfo) (a b : Outcome) → IsPlain a → IsPlain b → text_of tables a ≡ text_of others b → shown a.journal ≡ shown b.journal

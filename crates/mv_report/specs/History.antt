-- What is written of a run: the text of a journal of a program's calls. Its form and its law are this project's own.
use Rattle.std.specs.Prelude.{◌≡◌, ℕ, Bool, false, List, Option, Some, None, length, slice_get}
use Rattle.mv_values.specs.declared.calls.Call.{Call}
use Rattle.mv_values.specs.declared.calls.Options.{Options}
use Rattle.mv_catalog.specs.declared.resolved.ProcInfo.{ProcInfo}
use Rattle.mv_catalog.specs.declared.resolved.Program.{Program}
use Rattle.mv_eval.specs.TableAfter.{result_of, tables_left, reply_in}
use Rattle.mv_recorded.specs.Recorded.{records}
use Rattle.mv_journal.specs.declared.event.Event.{Event}
use Rattle.mv_lawful.specs.Batch.{Batch}
use Rattle.mv_lawful.specs.Lawful.{Lawful}
use Rattle.mv_lawful.specs.Rounds.{IsBounded}
use Rattle.mv_lawful.specs.Outcomes.{outcome_of, shown, in_turn as turns}
use Rattle.mv_report.specs.Text.{text_of}

-- whether a call is of a READ ONLY procedure; false if there is no such call or procedure
abbrev pub reads_by : Option ProcInfo → Bool
reads_by None = false
reads_by (Some proc) = proc.read_only

abbrev pub reads_in : List ProcInfo → Option Call → Bool
reads_in procedures None = false
reads_in procedures (Some call) = reads_by (slice_get procedures call.procedure)

abbrev pub is_read_only : Program → ℕ → Bool
is_read_only p c = reads_in p.resolved.procedures (slice_get p.resolved.calls c)

-- the batch of a program: a call leaves the records of its full run, and the reply and the database of the whole-table
-- machine
abbrev pub batch_of : Program → Options → Batch
batch_of p options = record {
  run = λ c db. record { records = records p c db; reply = reply_in (result_of p c db); tables = tables_left db (result_of p c db) };
  read_only = is_read_only p;
  count = length p.resolved.calls;
  opening = p.opening;
  options = options;
}

-- Text: the text of a journal
abbrev pub text : Program → Options → List Event → List ℕ
text p options journal = text_of p.resolved.tables (outcome_of (batch_of p options) journal)

-- the journal of one worker: each call begins and ends before the next begins
abbrev pub in_turn : Program → List Event
in_turn p = turns (is_read_only p) (length p.resolved.calls)

-- RunText: the bytes are the text of a lawful journal that repairs and moves no call too often. Each of its events has a
-- line in the text
pub record IsRunText (p : Program) (options : Options) (bytes : List ℕ) : Type 0 where
  pub journal : List Event
  pub printed : shown journal ≡ journal
  pub lawful : Lawful (batch_of p options) journal
  pub bounded : IsBounded (batch_of p options) journal
  pub text_is : bytes ≡ text p options journal

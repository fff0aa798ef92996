-- Defines how the log of a running call gets one more record. This project's own.
use Rattle.std.specs.Prelude.{◌≡◌, ◌<◌, ◌≤◌, ◌+◌, ℕ, List, [], ◌∷◌, ◌++◌, Some, length, take, slice_get}
use Rattle.mv_record.specs.declared.record.Read.{Read}
use Rattle.mv_record.specs.declared.record.Record.{Record}
use Rattle.mv_record.specs.Effects.{record_of}
use Rattle.mv_log.specs.Logged.{Logged, no_effect}
use Rattle.mv_effect.specs.Logging.{IsBlank}
use Rattle.mv_exec.specs.declared.recording.OpenStatement.{OpenStatement}
use Rattle.mv_exec.specs.declared.recording.Origin.{Origin}
use Rattle.mv_exec.specs.declared.recording.Origin.TheVariants.{Executed, Kept}
use Rattle.mv_exec.specs.Peeked.{Ahead}

-- The open statement

-- the log with these turns and reads of its open statement
abbrev pub opened : Logged → List ℕ → List Read → Logged
opened log turns reads = record log { turns = turns; reads = reads }

-- what is known of the record of the open statement before it is executed
abbrev pub peeked : Logged → OpenStatement → Ahead
peeked log at = record { spot = record { statement = at.statement; turns = log.turns }; parent = at.parent; reads = log.reads }

-- the log with its first records, so many, and with no statement open
abbrev pub cut : ℕ → Logged → Logged
cut n log = record log { records = take n log.records; turns = []; reads = []; effect = no_effect; tests = []; columns = [] }

-- no statement is open
pub record IsAtRest (log : Logged) : Type 0 where
  pub turns : log.turns ≡ []
  pub reads : log.reads ≡ []
  pub blank : IsBlank log

-- Its record

-- the open statement may get its effect from there: from a past record only if that may be kept yet, and the statement
-- has no effect of its own
abbrev pub MayCome : Logged → Origin → Type 0
MayCome log Executed = Unit {0}
MayCome log (Kept number) = (number < length log.past) × ((log.kept ≤ number) × IsBlank log)

-- this is the record of the open statement
abbrev pub IsRecordOf : Logged → OpenStatement → Origin → Record → Type 0
IsRecordOf log at Executed r = r ≡ record_of (record { statement = at.statement; turns = log.turns }) at.parent log.reads log.effect
IsRecordOf log at (Kept number) r =
    (given : Record) × ((slice_get log.past number ≡ Some given) × (r ≡ record given { spot = record { statement = at.statement; turns = log.turns }; parent = at.parent; reads = log.reads }))

-- from which number on past records may be kept after it
abbrev pub kept_after : ℕ → Origin → ℕ
kept_after kept Executed = kept
kept_after kept (Kept number) = number + 1

-- the log with this record of its open statement
abbrev pub closed : Logged → Origin → Record → Logged
closed log origin r = record {
  records = log.records ++ r ∷ [];
  past = log.past;
  kept = kept_after log.kept origin;
  turns = [];
  reads = [];
  effect = no_effect;
  tests = [];
  columns = [];
}

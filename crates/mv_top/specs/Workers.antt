-- What the workers of a run leave.
use Rattle.std.specs.Prelude.{◌⊎◌, ◌<◌, ℕ}
use Rattle.mv_journal.specs.declared.outcome.Outcome.{Outcome}
use Rattle.mv_lawful.specs.Batch.{Batch}
use Rattle.mv_lawful.specs.Outcomes.{IsOutcomeInTurn}
use Rattle.mv_gate.specs.Gates.{IsOutcome}

-- the outcome of so many workers for n calls: that of a lawful and bounded journal, or of one in which each call begins
-- and ends before the next begins; one worker, or none, leaves the second
abbrev pub IsLeftBy : ℕ → Batch → ℕ → Outcome → Type 0
IsLeftBy threads w n o = ((1 < threads) × IsOutcome w o) ⊎ IsOutcomeInTurn w n o

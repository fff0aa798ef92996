-- The summary that `tpcc` writes of a run.
use Rattle.std.specs.Prelude.{◌≡◌, ℕ, List}
use Rattle.mv_values.specs.declared.calls.Options.{Options}
use Rattle.mv_catalog.specs.declared.resolved.Program.{Program}
use Rattle.mv_journal.specs.declared.event.Event.{Event}
use Rattle.mv_lawful.specs.Lawful.{Lawful}
use Rattle.mv_lawful.specs.Rounds.{IsBounded}
use Rattle.mv_lawful.specs.Outcomes.{outcome_of}
use Rattle.mv_tpccgen.specs.declared.load.Load.{Load}
use Rattle.mv_tpccsum.specs.Summary.{summary}
use Rattle.mv_report.specs.History.{batch_of}

-- the bytes are the summary of a lawful journal that repairs and moves no call too often
pub record IsSummary (load : Load) (p : Program) (options : Options) (bytes : List ℕ) : Type 0 where
  pub journal : List Event
  pub lawful : Lawful (batch_of p options) journal
  pub bounded : IsBounded (batch_of p options) journal
  pub summary_is : bytes ≡ summary load p.resolved (outcome_of (batch_of p options) journal)

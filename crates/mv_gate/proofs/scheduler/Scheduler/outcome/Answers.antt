use Rattle.std.proofs.Common.{◌≡◌, length, List, Option, ℕ, sym, ap, subst, ◌∙◌}
use Rattle.std.specs.Prelude.{Result, Ok, Err, IfOk}
use Rattle.mv_values.specs.declared.memory.NoMemory.{NoMemory}
use Rattle.mv_script.specs.declared.script.CompiledScript.{CompiledScript}
use Rattle.mv_journal.specs.declared.outcome.Outcome.{Outcome}
use Rattle.mv_lawful.specs.Lawful.{Lawful, open_call}
use Rattle.mv_lawful.specs.Outcomes.{outcome_of}
use Rattle.mv_seats.specs.Scripts.{BoardScript}
use Rattle.mv_shards.specs.Scripts.{script_in, batch}
use Rattle.mv_shards.specs.Ledgers.{Entered}
use Rattle.mv_core.specs.Books.{Booked, batch_in}
use Rattle.mv_gate.specs.Gates.{IsScheduler, IsOutcome}
use Rattle.mv_gate.proofs.Schedulers.{scheduler_seen, idle_order}
use Rattle.mv_gate.proofs.Committing.{tables_here}
use Rattle.mv_gate.proofs.Ending.{outcome_told, journal_told}
use Rattle.mv_lawful.specs.Batch.{ReadersKeepTables}
use Rattle.mv_script.proofs.Readers.{keeps_tables}
use Rattle.mv_gate.proofs.Serializing.{if_ok}
use Rattle.mv_shards.specs.Leaves.{start_shown}
use Rattle.mv_gate.proofs.Pins.{leave_last}
use Rattle.mv_gate.proofs.scheduler.Scheduler.outcome.Goals as goal

outcome_from : (s : BoardScript) (b : Booked) (ledger : Entered) (starts : List (Option (List ℕ))) (r : Result Outcome NoMemory) → IsScheduler s b ledger starts → Lawful (batch_in b) b.journal → IfOk r (λ o. o ≡ outcome_of (batch_in b) b.journal)
    → IfOk r (IsOutcome (batch s))
outcome_from s b ledger starts (Ok o) d lawful is = outcome_told s b ledger starts o d lawful is
outcome_from s b ledger starts (Err e) d lawful is = tt

pub last_tables-requires-clause-idle : goal.last_tables-requires-clause-idle
last_tables-requires-clause-idle g c none =
    c.self.invariant.seen
    ∙ idle_order c.self.inside.book c.journal-events.ensures.allowed c.journal-events.ensures.reaches (ap (λ (x : CompiledScript). length x.calls) c.self.invariant.script ∙ none)

pub outcome-requires-clause-ended : goal.outcome-requires-clause-ended
outcome-requires-clause-ended g c = subst (λ (b : Booked). open_call (batch_in b) b.schedule ≡ _) (sym c.self.view_is) c.requires.ended

pub outcome-requires-clause-tables : goal.outcome-requires-clause-tables
outcome-requires-clause-tables g c =
    c.in_ok-tables.ensures
    ∙ tables_here g.N.Making.script c.self.inside.book c.self.inside.ledger c.self.invariant.script (scheduler_seen g.N.Making.script c.self.inside.book c.self.inside.ledger c.self.inside.starts.items c.self.invariant)

pub returns-clause-outcome : goal.returns-clause-outcome
returns-clause-outcome g c = outcome_from g.N.Making.script c.self.inside.book c.self.inside.ledger c.self.inside.starts.items c.outcome.result c.self.invariant c.outcome.ensures.lawful c.outcome.ensures.outcome

pub returns-clause-journal : goal.returns-clause-journal
returns-clause-journal g c = journal_told c.args.self c.self.inside.book c.outcome.result c.self.view_is c.outcome.ensures.outcome

pub returns-clause-readers : goal.returns-clause-readers
returns-clause-readers g c = if_ok c.outcome.result (ReadersKeepTables (batch g.N.Making.script)) (keeps_tables (script_in g.N.Making.script) c.self.invariant.sound)

pub last_tables-requires-clause-last : goal.last_tables-requires-clause-last
last_tables-requires-clause-last g c = leave_last g.N.Making.script g.N.Naming.word (start_shown c.args.last.now) c.self.inside.book c.args.self c.self.inside.ledger.commits c.self.view_is c.self.invariant.commits c.requires.last

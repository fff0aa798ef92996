-- What workers leave has the summary of a run.
use Rattle.std.proofs.Common.{◌≡◌, inl, inr, ℕ, List, refl, ap, ◌∙◌, length}
use Rattle.mv_values.specs.declared.calls.Options.{Options}
use Rattle.mv_catalog.specs.declared.resolved.Program.{Program}
use Rattle.mv_catalog.specs.declared.resolved.Resolved.{Resolved}
use Rattle.mv_journal.specs.declared.event.Event.{Event}
use Rattle.mv_journal.specs.declared.outcome.Outcome.{Outcome}
use Rattle.mv_lawful.specs.Batch.{Batch}
use Rattle.mv_lawful.specs.Outcomes.{without_collections, IsOutcomeInTurn, outcome_of}
use Rattle.mv_lawful.proofs.Collections.{collections_are_unseen}
use Rattle.mv_lawful.proofs.Turned.{in_turn_is_lawful}
use Rattle.mv_tpccgen.specs.declared.load.Load.{Load}
use Rattle.mv_tpccsum.specs.Summary.{new_order_line, calls_text, summary}
use Rattle.mv_report.specs.History.{batch_of, in_turn as turns_of}
use Rattle.mv_top.specs.Workers.{IsLeftBy}
use Rattle.mv_top.specs.Tpcc.{IsSummary}

-- a summary tells nothing of the events
events_unseen : (load : Load) (resolved : Resolved) (o : Outcome) (es : List Event) → summary load resolved o ≡ summary load resolved (record o { journal = es })
unfolding summary calls_text new_order_line
events_unseen load resolved o es = refl

summary_unseen : (load : Load) (resolved : Resolved) (w : Batch) (es : List Event) → summary load resolved (outcome_of w es) ≡ summary load resolved (outcome_of w (without_collections es))
summary_unseen load resolved w es =
    ap (summary load resolved) (collections_are_unseen w es) ∙ events_unseen load resolved (record (outcome_of w (without_collections es)) { journal = es }) (without_collections es)

summary_turns : (load : Load) (p : Program) (options : Options) (bytes : List ℕ) (left : Outcome) → IsOutcomeInTurn (batch_of p options) (length p.resolved.calls) left → bytes ≡ summary load p.resolved left
    → IsSummary load p options bytes
summary_turns load p options bytes left is h =
    let it = in_turn_is_lawful (batch_of p options) in
    record {
      journal = turns_of p;
      lawful = it.lawful;
      bounded = it.bounded;
      summary_is = h ∙ (ap (summary load p.resolved) is.outcome ∙ (summary_unseen load p.resolved (batch_of p options) is.journal
          ∙ ap (λ es. summary load p.resolved (outcome_of (batch_of p options) es)) is.turns));
    }

-- the summary of what any number of workers leave
pub summary_left : (load : Load) (p : Program) (options : Options) (count : ℕ) (bytes : List ℕ) (left : Outcome) → IsLeftBy count (batch_of p options) (length p.resolved.calls) left
    → bytes ≡ summary load p.resolved left → IsSummary load p options bytes
summary_left load p options count bytes left (inl several) h =
    record { journal = left.journal; lawful = several.1.lawful; bounded = several.1.bounded; summary_is = h ∙ ap (summary load p.resolved) several.1.outcome }
summary_left load p options count bytes left (inr turns) h = summary_turns load p options bytes left turns h

use Rattle.std.proofs.Common.{◌∙◌}
use Rattle.std.proofs.lemmas.Bool.{both_ways}
use Rattle.mv_store.proofs.write.put_patch.Goals.{then-not-has_own+in_ok-note, else-not-has_own}
use Rattle.mv_store.proofs.write.put_patch.Goals as goal

pub returns-clause-earlier : goal.returns-clause-earlier
returns-clause-earlier c = c.in_ok-earlier.ensures ∙ c.own_of.ensures

pub returns-clause-noted : goal.returns-clause-noted
returns-clause-noted c = elim c.if-not-has_own.branch [
  | then-not-has_own+in_ok-note w ↦ (λ e. rw w.table_keys-is w.in_ok-note.ensures.noted)
  | else-not-has_own w ↦ (λ e. absurd (both_ways c.has_own.result (c.has_own.ensures ∙ e) (w.if-not-has_own.false)))
]

use Rattle.std.proofs.Common.{inr, sym, ◌∙◌}
use Rattle.mv_core.proofs.runs.end_call.Goals as goal

pub attempt-requires-clause-kind : goal.attempt-requires-clause-kind
attempt-requires-clause-kind c = sym c.is_read_only.ensures ∙ c.if-not-is_read_only.true

pub answer_read-requires-clause-kind : goal.answer_read-requires-clause-kind
answer_read-requires-clause-kind c = sym c.is_read_only.ensures ∙ c.if-not-is_read_only.false

pub returns-then-not-is_read_only : goal.returns-then-not-is_read_only
returns-then-not-is_read_only c = inr (sym c.is_read_only.ensures ∙ c.if-not-is_read_only.true, (c.in_ok-attempt.field-0, c.in_ok-attempt.ensures.made))

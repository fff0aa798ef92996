use Rattle.std.proofs.Common.{sym, ◌∙◌}
use Rattle.mv_tests.proofs.attempts.attempt_after.Goals as goal

pub is_read_only-requires : goal.is_read_only-requires
is_read_only-requires c = (c.in-Some-rounds.ensures.live.live, c.in-Some-rounds.ensures.live.is_live)

pub attempt-requires-clause-live : goal.attempt-requires-clause-live
attempt-requires-clause-live c = (c.in-Some-rounds.ensures.live.live, c.in-Some-rounds.ensures.live.is_live)

pub attempt-requires-clause-kind : goal.attempt-requires-clause-kind
attempt-requires-clause-kind c = sym c.is_read_only.ensures ∙ c.if-is_read_only.false

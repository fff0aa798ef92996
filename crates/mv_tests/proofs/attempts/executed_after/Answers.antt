use Rattle.std.proofs.Common.{◌≡◌, true, false, Bool, not, refl, sym, ◌∙◌, rules}
use Rattle.mv_tests.proofs.attempts.executed_after.Goals as goal

ran : (more : Bool) → true ≡ not more → more ≡ false
ran false e = refl
ran true e = absurd (search (rules, e))

pub ended-requires : goal.ended-requires
ended-requires c = (c.in-Some-rounds.ensures.live.live, c.in-Some-rounds.ensures.live.is_live)

pub executed-requires-clause-live : goal.executed-requires-clause-live
executed-requires-clause-live c = (c.in-Some-rounds.ensures.live.live, c.in-Some-rounds.ensures.live.is_live)

pub executed-requires-clause-ended : goal.executed-requires-clause-ended
executed-requires-clause-ended c l live = ran _ (sym c.if-ended.true ∙ c.ended.ensures l live)

use Rattle.std.proofs.Common.{true, false, sym, subst, ◌∙◌}
use Rattle.mv_core.specs.Calls.{IsLiveCall}
use Rattle.mv_core.specs.Books.{Booked}
use Rattle.mv_gate.specs.Gates.{HasRound}
use Rattle.mv_gate.proofs.Committing.{hit_fresh, may_repair, may_decide}
use Rattle.mv_gate.proofs.scheduler.Scheduler.meet_hit.Goals as goal

pub has_round-requires : goal.has_round-requires
has_round-requires g c = subst (λ (b : Booked). IsLiveCall b.schedule c.args.call) (sym c.self.view_is) c.requires.whole.live

pub again-requires-clause-fresh : goal.again-requires-clause-fresh
again-requires-clause-fresh g c = hit_fresh c.args.self.now c.args.call c.requires.hit

pub again-requires-clause-allowed : goal.again-requires-clause-allowed
again-requires-clause-allowed g c =
    let live = c.requires.whole.live in
    let left = subst (λ (b : Booked). HasRound true b c.args.call) c.self.view_is (λ l at. sym (c.has_round.ensures l at) ∙ c.if-has_round.true) in
    may_repair c.args.self.now c.args.call live.0 live.1 c.requires.hit (left live.0 live.1)

pub exclusive-requires-clause-fresh : goal.exclusive-requires-clause-fresh
exclusive-requires-clause-fresh g c = hit_fresh c.args.self.now c.args.call c.requires.hit

pub exclusive-requires-clause-allowed : goal.exclusive-requires-clause-allowed
exclusive-requires-clause-allowed g c =
    let live = c.requires.whole.live in
    let none = subst (λ (b : Booked). HasRound false b c.args.call) c.self.view_is (λ l at. sym (c.has_round.ensures l at) ∙ c.if-has_round.false) in
    may_decide c.args.self.now c.args.call live.0 live.1 c.requires.hit (none live.0 live.1)

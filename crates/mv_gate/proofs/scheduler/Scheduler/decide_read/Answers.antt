use Rattle.std.proofs.Common.{inl, sym, subst, ◌∙◌}
use Rattle.mv_core.specs.Calls.{IsLiveCall}
use Rattle.mv_core.specs.Books.{Booked, IsNotStale}
use Rattle.mv_gate.specs.Gates.{IsWhole, MayMove}
use Rattle.mv_gate.proofs.Committing.{told_moves}
use Rattle.mv_gate.proofs.scheduler.Scheduler.decide_read.Goals as goal

pub is_stale-requires : goal.is_stale-requires
is_stale-requires g c = subst (λ (b : Booked). IsLiveCall b.schedule c.args.call) (sym c.self.view_is) c.requires.whole.live

pub meet_late-requires-clause-call : goal.meet_late-requires-clause-call
meet_late-requires-clause-call g c =
    let whole : IsWhole c.self.inside.book c.args.call c.args.task = subst (λ (b : Booked). IsWhole b c.args.call c.args.task) (sym c.self.view_is) c.requires.whole in
    subst (λ (b : Booked). MayMove b c.args.call) c.self.view_is
    (told_moves c.self.inside.book c.args.call c.journal-events.ensures.allowed c.journal-events.ensures.reaches whole.live whole.there (λ l live. sym (c.is_stale.ensures l live) ∙ c.if-is_stale.true))

pub answer-requires-clause-fresh : goal.answer-requires-clause-fresh
answer-requires-clause-fresh g c = subst (λ (b : Booked). IsNotStale b c.args.call) c.self.view_is (λ l live. sym (c.is_stale.ensures l live) ∙ c.if-is_stale.false)

pub returns-clause-ok : goal.returns-clause-ok
returns-clause-ok g c = inl c.in_ok-number.ensures.ok

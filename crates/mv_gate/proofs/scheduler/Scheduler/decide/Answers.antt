use Rattle.std.proofs.Common.{◌≡◌, None, sym, subst, ◌∙◌}
use Rattle.mv_journal.specs.declared.event.Event.TheVariants.{C}
use Rattle.mv_lawful.specs.Lawful.{refusal}
use Rattle.mv_core.specs.Books.{batch_in, Booked, IsNoReader}
use Rattle.mv_gate.specs.Gates.{IsWhole, MayMove}
use Rattle.mv_gate.proofs.Committing.{stale_moves}
use Rattle.mv_gate.proofs.scheduler.Scheduler.decide.Goals as goal

pub is_read_only-requires : goal.is_read_only-requires
is_read_only-requires g c = c.requires.whole.there

pub decide_read-requires-clause-kind : goal.decide_read-requires-clause-kind
decide_read-requires-clause-kind g c = sym c.is_read_only.ensures ∙ c.if-is_read_only.true

pub returns-then-is_read_only-clause-repair : goal.returns-then-is_read_only-clause-repair
returns-then-is_read_only-clause-repair g c = c.decide_read.ensures.repair c.args.start.number

pub check-requires-clause-kind : goal.check-requires-clause-kind
check-requires-clause-kind g c = subst (λ (b : Booked). IsNoReader b c.args.call) (sym c.self.view_is) (sym c.is_read_only.ensures ∙ c.if-is_read_only.false)

pub check-requires-clause-live : goal.check-requires-clause-live
check-requires-clause-live g c = (subst (λ (b : Booked). IsWhole b c.args.call c.args.task) (sym c.self.view_is) c.requires.whole).live

pub check-requires-clause-records : goal.check-requires-clause-records
check-requires-clause-records g c = (subst (λ (b : Booked). IsWhole b c.args.call c.args.task) (sym c.self.view_is) c.requires.whole).records

pub meet_late-requires-clause-call : goal.meet_late-requires-clause-call
meet_late-requires-clause-call g c =
    let whole : IsWhole c.self.inside.book c.args.call c.args.task = subst (λ (b : Booked). IsWhole b c.args.call c.args.task) (sym c.self.view_is) c.requires.whole in
    subst (λ (b : Booked). MayMove b c.args.call) c.self.view_is
    (stale_moves c.self.inside.book c.args.call c.journal-events.ensures.allowed c.journal-events.ensures.reaches whole.live whole.there (λ l live. (c.in-Stale.ensures l live).0))

pub commit-requires-clause-allowed : goal.commit-requires-clause-allowed
commit-requires-clause-allowed g c =
    let live = (subst (λ (b : Booked). IsWhole b c.args.call c.args.task) (sym c.self.view_is) c.requires.whole).live in
    subst (λ (b : Booked). refusal (batch_in b) b.schedule (C c.args.call) ≡ None) c.self.view_is (c.in-Free.ensures live.0 live.1)

pub returns-in_ok-tried-in-Stale-clause-repair : goal.returns-in_ok-tried-in-Stale-clause-repair
returns-in_ok-tried-in-Stale-clause-repair g c = c.in_ok-tried-in-Stale.ensures.repair c.args.start.number

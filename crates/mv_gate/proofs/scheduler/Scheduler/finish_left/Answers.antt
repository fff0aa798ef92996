use Rattle.std.proofs.Common.{◌≡◌, None, sym, subst, ◌∙◌, inl}
use Rattle.mv_journal.specs.declared.event.Event.TheVariants.{C}
use Rattle.mv_lawful.specs.Lawful.{refusal}
use Rattle.mv_core.specs.Books.{batch_in, Booked, IsNotStale, IsNoReader}
use Rattle.mv_gate.specs.Gates.{IsWhole}
use Rattle.mv_gate.proofs.Committing.{not_stale}
use Rattle.mv_gate.proofs.Ending.{keeps_commit, done_committed}
use Rattle.mv_gate.proofs.scheduler.Scheduler.finish_left.Goals as goal

pub is_read_only-requires : goal.is_read_only-requires
is_read_only-requires g c = c.requires.whole.there

pub answer_left-requires-clause-kind : goal.answer_left-requires-clause-kind
answer_left-requires-clause-kind g c = sym c.is_read_only.ensures ∙ c.if-is_read_only.true

pub check-requires-clause-kind : goal.check-requires-clause-kind
check-requires-clause-kind g c = subst (λ (b : Booked). IsNoReader b c.args.call) (sym c.self.view_is) (sym c.is_read_only.ensures ∙ c.if-is_read_only.false)

pub check-requires-clause-live : goal.check-requires-clause-live
check-requires-clause-live g c = (subst (λ (b : Booked). IsWhole b c.args.call c.args.task) (sym c.self.view_is) c.requires.whole).live

pub check-requires-clause-records : goal.check-requires-clause-records
check-requires-clause-records g c = (subst (λ (b : Booked). IsWhole b c.args.call c.args.task) (sym c.self.view_is) c.requires.whole).records

pub returns-in_err-commit_unheld-in-Free-clause-kept : goal.returns-in_err-commit_unheld-in-Free-clause-kept
returns-in_err-commit_unheld-in-Free-clause-kept g c = keeps_commit c.commit_unheld.result c.args.call c.args.self.now c.commit_unheld.new.self c.commit_unheld.ensures.made c.requires.whole.live

pub returns-in_ok-commit_unheld-in-Free-clause-done : goal.returns-in_ok-commit_unheld-in-Free-clause-done
returns-in_ok-commit_unheld-in-Free-clause-done g c = done_committed c.args.call c.args.self.now c.commit_unheld.new.self c.in_ok-commit_unheld-in-Free.ensures.made.0 c.requires.whole.live

pub returns-in_ok-commit_unheld-in-Free-clause-kept : goal.returns-in_ok-commit_unheld-in-Free-clause-kept
returns-in_ok-commit_unheld-in-Free-clause-kept g c = keeps_commit c.commit_unheld.result c.args.call c.args.self.now c.commit_unheld.new.self c.commit_unheld.ensures.made c.requires.whole.live

pub unreachable-requires : goal.unreachable-requires
unreachable-requires g c =
    let live = (subst (λ (b : Booked). IsWhole b c.args.call c.args.task) (sym c.self.view_is) c.requires.whole).live in
    not_stale c.self.inside.book c.args.call (subst (λ (b : Booked). IsNotStale b c.args.call) (sym c.self.view_is) c.requires.fresh) live (c.in-Stale.ensures live.0 live.1).0

pub commit_unheld-requires-clause-allowed : goal.commit_unheld-requires-clause-allowed
commit_unheld-requires-clause-allowed g c =
    let live = (subst (λ (b : Booked). IsWhole b c.args.call c.args.task) (sym c.self.view_is) c.requires.whole).live in
    subst (λ (b : Booked). refusal (batch_in b) b.schedule (C c.args.call) ≡ None) c.self.view_is (c.in-Free.ensures live.0 live.1)

pub returns-in_ok-commit_unheld-in-Free-clause-brings : goal.returns-in_ok-commit_unheld-in-Free-clause-brings
returns-in_ok-commit_unheld-in-Free-clause-brings g c = inl (inl c.in_ok-commit_unheld-in-Free.ensures.made.0)

use Rattle.std.proofs.Common.{length, ap, true, false, sym, subst, ◌∙◌, inl, inr}
use Rattle.mv_core.specs.Calls.{IsLiveCall}
use Rattle.mv_core.specs.Books.{Booked}
use Rattle.mv_gate.specs.Gates.{HasRound}
use Rattle.mv_gate.proofs.Committing.{hit_fresh, may_repair, may_decide}
use Rattle.mv_gate.proofs.Ending.{keeps_same, keeps_both, keeps_again, keeps_commit, keeps_decision, done_committed, done_decided}
use Rattle.mv_shards.specs.Leaves.{start_shown}
use Rattle.mv_lawful.specs.Lawful.{Schedule}
use Rattle.mv_gate.proofs.Pins.{leave_at}
use Rattle.mv_gate.proofs.scheduler.Scheduler.repair_left.Goals as goal

pub has_round-requires : goal.has_round-requires
has_round-requires g c = subst (λ (b : Booked). IsLiveCall b.schedule c.args.call) (sym c.self.view_is) c.requires.whole.live

pub rerun-requires-clause-fresh : goal.rerun-requires-clause-fresh
rerun-requires-clause-fresh g c = hit_fresh c.args.self.now c.args.call c.requires.hit

pub rerun-requires-clause-allowed : goal.rerun-requires-clause-allowed
rerun-requires-clause-allowed g c =
    let live = c.requires.whole.live in
    let left = subst (λ (b : Booked). HasRound true b c.args.call) c.self.view_is (λ l at. sym (c.has_round.ensures l at) ∙ c.if-has_round.true) in
    may_repair c.args.self.now c.args.call live.0 live.1 c.requires.hit (left live.0 live.1)

pub exclusive-requires-clause-fresh : goal.exclusive-requires-clause-fresh
exclusive-requires-clause-fresh g c = hit_fresh c.args.self.now c.args.call c.requires.hit

pub exclusive-requires-clause-allowed : goal.exclusive-requires-clause-allowed
exclusive-requires-clause-allowed g c =
    let live = c.requires.whole.live in
    let none = subst (λ (b : Booked). HasRound false b c.args.call) c.self.view_is (λ l at. sym (c.has_round.ensures l at) ∙ c.if-has_round.false) in
    may_decide c.args.self.now c.args.call live.0 live.1 c.requires.hit (none live.0 live.1)

pub returns-in_err-rerun-clause-kept : goal.returns-in_err-rerun-clause-kept
returns-in_err-rerun-clause-kept g c = keeps_same c.args.self.now c.rerun.new.self c.in_err-rerun.ensures.err

pub returns-in_err-commit_unheld-clause-kept : goal.returns-in_err-commit_unheld-clause-kept
returns-in_err-commit_unheld-clause-kept g c =
    keeps_both c.args.self.now c.rerun.new.self c.commit_unheld.new.self (keeps_again c.args.call c.args.self.now c.rerun.new.self c.in_ok-rerun.ensures.ok c.requires.whole.live) (keeps_same c.rerun.new.self c.commit_unheld.new.self c.in_err-commit_unheld.ensures.made)

pub returns-then-has_round-clause-done : goal.returns-then-has_round-clause-done
returns-then-has_round-clause-done g c = done_committed c.args.call c.rerun.new.self c.commit_unheld.new.self c.in_ok-commit_unheld.ensures.made.0 c.in_ok-rerun.ensures.whole.live

pub returns-then-has_round-clause-kept : goal.returns-then-has_round-clause-kept
returns-then-has_round-clause-kept g c =
    keeps_both c.args.self.now c.rerun.new.self c.commit_unheld.new.self (keeps_again c.args.call c.args.self.now c.rerun.new.self c.in_ok-rerun.ensures.ok c.requires.whole.live)
    (keeps_commit c.commit_unheld.result c.args.call c.rerun.new.self c.commit_unheld.new.self c.commit_unheld.ensures.made c.in_ok-rerun.ensures.whole.live)

pub returns-clause-done : goal.returns-clause-done
returns-clause-done g c = done_decided c.args.call c.args.self.now c.exclusive.new.self c.in_ok-exclusive.ensures.made.0 c.requires.whole.live

pub returns-clause-kept : goal.returns-clause-kept
returns-clause-kept g c = keeps_decision c.exclusive.result c.args.call c.args.self.now c.exclusive.new.self c.exclusive.ensures.made c.requires.whole.live

pub returns-then-has_round-clause-brings : goal.returns-then-has_round-clause-brings
returns-then-has_round-clause-brings g c = inr (c.rerun.new.self, inl c.in_ok-rerun.ensures.ok, inl c.in_ok-commit_unheld.ensures.made.0)

pub returns-clause-brings : goal.returns-clause-brings
returns-clause-brings g c = inl (inr (inl c.in_ok-exclusive.ensures.made.0))

pub commit_unheld-requires-clause-last : goal.commit_unheld-requires-clause-last
commit_unheld-requires-clause-last g c = leave_at g.N.Making.script g.N.Naming.word (start_shown c.rerun.new.last) (length c.args.self.now.schedule.order) (length c.rerun.new.self.schedule.order) (ap (λ (x : Schedule). length x.order) c.in_ok-rerun.ensures.ok.schedule) c.rerun.ensures.last

pub returns-in_err-commit_unheld-clause-last : goal.returns-in_err-commit_unheld-clause-last
returns-in_err-commit_unheld-clause-last g c = leave_at g.N.Making.script g.N.Naming.word (start_shown c.commit_unheld.new.last) (length c.rerun.new.self.schedule.order) (length c.args.self.now.schedule.order) (sym (ap (λ (x : Schedule). length x.order) c.in_ok-rerun.ensures.ok.schedule)) c.commit_unheld.ensures.last

pub returns-then-has_round-clause-last : goal.returns-then-has_round-clause-last
returns-then-has_round-clause-last g c = leave_at g.N.Making.script g.N.Naming.word (start_shown c.commit_unheld.new.last) (length c.rerun.new.self.schedule.order) (length c.args.self.now.schedule.order) (sym (ap (λ (x : Schedule). length x.order) c.in_ok-rerun.ensures.ok.schedule)) c.commit_unheld.ensures.last

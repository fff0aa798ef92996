use Rattle.std.proofs.Common.{inl, inr}
use Rattle.mv_core.proofs.Changed.{same_self}
use Rattle.mv_gate.proofs.Ending.{keeps_same, keeps_answered, done_answered}
use Rattle.mv_gate.proofs.scheduler.Scheduler.answer_left.Goals as goal

pub returns-in_err-reply-clause-kept : goal.returns-in_err-reply-clause-kept
returns-in_err-reply-clause-kept g c = keeps_same c.args.self.now c.args.self.now (same_self c.args.self.now)

pub returns-in_err-answer-clause-kept : goal.returns-in_err-answer-clause-kept
returns-in_err-answer-clause-kept g c = keeps_same c.args.self.now c.answer.new.self c.in_err-answer.ensures.err

pub returns-clause-done : goal.returns-clause-done
returns-clause-done g c = done_answered c.args.call c.args.self.now c.answer.new.self c.in_ok-answer.ensures.ok.0 c.requires.whole.live

pub returns-clause-kept : goal.returns-clause-kept
returns-clause-kept g c = keeps_answered c.args.call c.args.self.now c.answer.new.self c.in_ok-answer.ensures.ok.0 c.requires.whole.live

pub returns-clause-brings : goal.returns-clause-brings
returns-clause-brings g c = inl (inr (inr c.in_ok-answer.ensures.ok.0))

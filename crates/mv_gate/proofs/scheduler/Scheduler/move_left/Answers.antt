use Rattle.std.proofs.Common.{sym, ◌∙◌, inl, inr}
use Rattle.mv_gate.proofs.Ending.{keeps_late, keeps_read, done_late, done_read}
use Rattle.mv_gate.proofs.scheduler.Scheduler.move_left.Goals as goal

pub is_read_only-requires : goal.is_read_only-requires
is_read_only-requires g c = c.requires.may.there

pub move_and_answer-requires-clause-kind : goal.move_and_answer-requires-clause-kind
move_and_answer-requires-clause-kind g c = sym c.is_read_only.ensures ∙ c.if-is_read_only.true

pub returns-in_err-move_and_answer-clause-kept : goal.returns-in_err-move_and_answer-clause-kept
returns-in_err-move_and_answer-clause-kept g c = keeps_read c.move_and_answer.result c.args.call c.args.self.now c.move_and_answer.new.self c.move_and_answer.ensures.made c.requires.may.live

pub returns-then-is_read_only-clause-done : goal.returns-then-is_read_only-clause-done
returns-then-is_read_only-clause-done g c = done_read c.args.call c.in_ok-move_and_answer.field-0 c.args.self.now c.move_and_answer.new.self c.in_ok-move_and_answer.ensures.made c.requires.may.live

pub returns-then-is_read_only-clause-kept : goal.returns-then-is_read_only-clause-kept
returns-then-is_read_only-clause-kept g c = keeps_read c.move_and_answer.result c.args.call c.args.self.now c.move_and_answer.new.self c.move_and_answer.ensures.made c.requires.may.live

pub move_and_commit-requires-clause-kind : goal.move_and_commit-requires-clause-kind
move_and_commit-requires-clause-kind g c = sym c.is_read_only.ensures ∙ c.if-is_read_only.false

pub returns-in_err-move_and_commit-clause-kept : goal.returns-in_err-move_and_commit-clause-kept
returns-in_err-move_and_commit-clause-kept g c = keeps_late c.move_and_commit.result c.args.call c.args.self.now c.move_and_commit.new.self c.move_and_commit.ensures.made c.requires.may.live

pub returns-clause-done : goal.returns-clause-done
returns-clause-done g c = done_late c.args.call c.in_ok-move_and_commit.field-0 c.args.self.now c.move_and_commit.new.self c.in_ok-move_and_commit.ensures.made c.requires.may.live

pub returns-clause-kept : goal.returns-clause-kept
returns-clause-kept g c = keeps_late c.move_and_commit.result c.args.call c.args.self.now c.move_and_commit.new.self c.move_and_commit.ensures.made c.requires.may.live

pub returns-then-is_read_only-clause-brings : goal.returns-then-is_read_only-clause-brings
returns-then-is_read_only-clause-brings g c = let made = c.in_ok-move_and_answer.ensures.made.0 in inr (made.0, inr made.1, inr (inr made.2))

pub returns-clause-brings : goal.returns-clause-brings
returns-clause-brings g c = let made = c.in_ok-move_and_commit.ensures.made.0 in inr (made.0, inr made.1, inl made.2)

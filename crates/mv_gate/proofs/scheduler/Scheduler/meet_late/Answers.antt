use Rattle.std.proofs.Common.{inr, true, false, sym, subst, ◌∙◌}
use Rattle.mv_core.specs.Calls.{IsLiveCall}
use Rattle.mv_core.specs.Books.{Booked}
use Rattle.mv_gate.specs.Gates.{HasRound}
use Rattle.mv_gate.proofs.scheduler.Scheduler.meet_late.Goals as goal

pub has_round-requires : goal.has_round-requires
has_round-requires g c = subst (λ (b : Booked). IsLiveCall b.schedule c.args.call) (sym c.self.view_is) c.requires.call.live

pub move_up-requires-clause-left : goal.move_up-requires-clause-left
move_up-requires-clause-left g c = subst (λ (b : Booked). HasRound true b c.args.call) c.self.view_is (λ l live. sym (c.has_round.ensures l live) ∙ c.if-has_round.true)

pub returns-then-has_round-clause-ok : goal.returns-then-has_round-clause-ok
returns-then-has_round-clause-ok g c = record {
  past = c.requires.call.past;
  left = subst (λ (b : Booked). HasRound true b c.args.call) c.self.view_is (λ l live. sym (c.has_round.ensures l live) ∙ c.if-has_round.true);
  made = c.in_ok-moved.ensures.ok;
}

pub is_read_only-requires : goal.is_read_only-requires
is_read_only-requires g c = c.requires.call.there

pub move_and_answer-requires-clause-kind : goal.move_and_answer-requires-clause-kind
move_and_answer-requires-clause-kind g c = sym c.is_read_only.ensures ∙ c.if-is_read_only.true

pub returns-then-is_read_only-clause-ok : goal.returns-then-is_read_only-clause-ok
returns-then-is_read_only-clause-ok g c =
    let made = c.in_ok-start.ensures.made.0 in
    inr (
      record {
        past = c.requires.call.past;
        none_left = subst (λ (b : Booked). HasRound false b c.args.call) c.self.view_is (λ l live. sym (c.has_round.ensures l live) ∙ c.if-has_round.false);
        mid = made.0;
        moved = made.1;
        answered = made.2;
      },
      c.in_ok-start.ensures.made.1,
    )

pub move_and_commit-requires-clause-kind : goal.move_and_commit-requires-clause-kind
move_and_commit-requires-clause-kind g c = sym c.is_read_only.ensures ∙ c.if-is_read_only.false

pub returns-clause-ok : goal.returns-clause-ok
returns-clause-ok g c =
    let made = c.in_ok-commit.ensures.made.0 in (
      inr (inr (record {
        past = c.requires.call.past;
        none_left = subst (λ (b : Booked). HasRound false b c.args.call) c.self.view_is (λ l live. sym (c.has_round.ensures l live) ∙ c.if-has_round.false);
        mid = made.0;
        moved = made.1;
        committed = made.2;
      })),
      c.in_ok-commit.ensures.made.1,
    )

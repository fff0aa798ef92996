use Rattle.std.proofs.Common.{sym, ap, subst, ◌∙◌}
use Rattle.std.specs.Option.{is_some}
use Rattle.mv_core.specs.Books.{Booked}
use Rattle.mv_gate.specs.Gates.{IsSettledOrWhole}
use Rattle.mv_gate.proofs.Leaving.{some_round, has_its_number, was_not_repaired}
use Rattle.mv_gate.proofs.scheduler.Scheduler.is_unrepaired.Goals as goal

pub has_number-requires : goal.has_number-requires
has_number-requires g c = some_round c.self.inside.book c.args.call c.in-Some.rounds.now c.in-Some.ensures.live c.self.invariant.round_starts

pub returns-then-has_number : goal.returns-then-has_number
returns-then-has_number g c isnt =
    subst (λ (b : Booked). IsSettledOrWhole b c.args.call) c.self.view_is (has_its_number c.self.inside.book c.args.call c.in-Some.rounds.now c.in-Some.ensures.live (sym c.has_number.ensures ∙ c.if-has_number.true))

pub returns : goal.returns
returns g c isnt =
    subst (λ (b : Booked). IsSettledOrWhole b c.args.call) c.self.view_is
    (was_not_repaired c.self.inside.book c.args.call c.in-Some.rounds.now c.in-Some.ensures.live (ap is_some (sym c.repaired_from.ensures) ∙ (sym c.is_some.ensures ∙ isnt)))

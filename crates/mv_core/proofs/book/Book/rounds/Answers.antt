use Rattle.std.proofs.Common.{None, Some, Option, sym, subst, ap, ◌∙◌}
use Rattle.std.specs.Prelude.{IfNone, slice_get}
use Rattle.mv_core.specs.Books.{HasRounds}
use Rattle.mv_core.proofs.Keeping.{at_call, rounds_told}
use Rattle.mv_core.proofs.book.Book.rounds.Goals as goal

if_none : {X : Type 0} {P : Type 0} (o : Option X) → P → IfNone o P
if_none None p = p
if_none (Some x) p = tt

pub returns-in_err-progress-clause-none : goal.returns-in_err-progress-clause-none
returns-in_err-progress-clause-none c =
    if_none c.from_residual.result (λ live.
    let h = at_call c.self.inside c.args.self.now c.args.call live.0 c.self.view_is live.1 in
    c.in_err-progress.ensures.none h.0 (ap (λ ps. slice_get ps c.args.call) c.as_slice.ensures.value ∙ h.1.at) h.1.going)

pub returns-clause-live : goal.returns-clause-live
returns-clause-live c =
    subst (HasRounds c.args.self.now c.args.call) (sym c.as_slice-2.ensures)
    (rounds_told c.self.inside c.args.self.now c.args.call c.in_ok-progress.progress.now c.self.view_is c.self.invariant.kept
    (ap (λ ps. slice_get ps c.args.call) (sym c.as_slice.ensures.value) ∙ c.in_ok-progress.ensures.found.0) c.in_ok-progress.ensures.found.1)

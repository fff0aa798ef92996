use Rattle.std.proofs.Common.{◌≡◌, subst, ap}
use Rattle.std.specs.Prelude.{IfOk, OnOk}
use Rattle.mv_lawful.specs.Lawful.{Lawful}
use Rattle.mv_lawful.specs.Outcomes.{outcome_of}
use Rattle.mv_core.specs.Books.{Booked, batch_in}
use Rattle.mv_core.proofs.Changed.{book_in}
use Rattle.mv_core.proofs.engine.Core.outcome.Goals as goal

pub returns-clause-outcome : goal.returns-clause-outcome
returns-clause-outcome c = subst (λ (b : Booked). IfOk c.outcome_of.result (λ outcome. outcome ≡ outcome_of (batch_in b) b.journal)) (ap book_in c.self.view_is) c.outcome_of.ensures.outcome

pub returns-clause-lawful : goal.returns-clause-lawful
returns-clause-lawful c = subst (λ (b : Booked). OnOk c.outcome_of.result (Lawful (batch_in b) b.journal)) (ap book_in c.self.view_is) c.outcome_of.ensures.lawful

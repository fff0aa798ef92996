use Rattle.std.proofs.Common.{ap, sym, subst, ◌∙◌}
use Rattle.mv_lawful.specs.Lawful.{has_round}
use Rattle.mv_core.specs.Calls.{IsLive}
use Rattle.mv_core.specs.Books.{Booked, batch_in}
use Rattle.mv_core.proofs.Changed.{book_in}
use Rattle.mv_core.proofs.engine.Core.has_round.Goals as goal

pub returns : goal.returns
returns c l live =
    c.has_round.ensures l (subst (λ (b : Booked). IsLive b.schedule c.args.call l) (sym (ap book_in c.self.view_is)) live) ∙ ap (λ (b : Booked). has_round (batch_in b) l) (ap book_in c.self.view_is)

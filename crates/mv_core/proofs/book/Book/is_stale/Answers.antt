use Rattle.std.proofs.Common.{ap, ◌∙◌}
use Rattle.std.specs.Prelude.{nat_lt}
use Rattle.mv_core.specs.Books.{Booked}
use Rattle.mv_core.proofs.book.Book.is_stale.Goals as goal

pub returns : goal.returns
returns c l live = ap (λ n. nat_lt n c.self.inside.low) (c.start.ensures.value l live) ∙ ap (λ (b : Booked). nat_lt l.start b.schedule.low) c.self.view_is

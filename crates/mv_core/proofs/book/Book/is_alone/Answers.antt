use Rattle.std.proofs.Common.{◌≡◌, sym, ap, ◌∙◌}
use Rattle.mv_core.specs.Lives.{live_numbers}
use Rattle.mv_core.specs.Books.{Booked}
use Rattle.mv_core.proofs.book.Book.is_alone.Goals as goal

pub returns : goal.returns
returns c =
    let live : c.self.inside.live ≡ live_numbers c.args.self.now.schedule.calls = c.self.invariant.live ∙ ap (λ (b : Booked). live_numbers b.schedule.calls) c.self.view_is in
    (λ e. sym live ∙ c.is_only.ensures.0 e, λ alone. c.is_only.ensures.1 (live ∙ alone))

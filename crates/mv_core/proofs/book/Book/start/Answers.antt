use Rattle.std.proofs.Common.{◌≤◌, length, subst}
use Rattle.mv_core.specs.Books.{Booked}
use Rattle.mv_core.proofs.Keeping.{here_at, start_past}
use Rattle.mv_core.proofs.book.Book.start.Goals as goal

pub returns-clause-past : goal.returns-clause-past
returns-clause-past c =
    let here = here_at c.self.inside c.args.self.now c.args.call c.index.result.now c.self.view_is c.requires c.index.ensures in
    subst (λ (b : Booked). c.index.result.now.start ≤ length b.schedule.order) c.self.view_is (start_past c.self.inside c.args.call c.index.result.now c.self.invariant.kept here.2.at)

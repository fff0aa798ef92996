use Rattle.std.proofs.Common.{arith, subst, ap}
use Rattle.mv_core.specs.Books.{Booked, IsNotStale}
use Rattle.mv_core.proofs.Changed.{fresh_now, book_in}
use Rattle.mv_core.proofs.engine.Core.refuse_stale.Goals as goal

pub returns-clause-fresh : goal.returns-clause-fresh
returns-clause-fresh c =
    subst (λ (b : Booked). IsNotStale b c.args.call) (ap book_in c.self.view_is)
    (fresh_now c.self.inside.book c.args.call c.start-start.result c.low-low.result c.start-start.ensures.value c.low-low.ensures (λ lt. let le = c.if-start-low.false in omega (arith, lt, le)))

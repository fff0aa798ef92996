use Rattle.std.proofs.Common.{◌≡◌, ◌∙◌, ◌∷◌, ◌++◌, [], None, Some, sym, subst}
use Rattle.mv_core.specs.Books.{Remembers}
use Rattle.mv_core.proofs.book.remember.Goals as goal

pub returns-in-Some-clause-remembers : goal.returns-in-Some-clause-remembers
returns-in-Some-clause-remembers c = subst (λ o. Remembers c.args.number o c.args.recent.now c.add.new.recent) (sym c.in-Some.is) (c.add.ensures.low, c.add.ensures.commits)

pub returns-in-None-clause-remembers : goal.returns-in-None-clause-remembers
returns-in-None-clause-remembers c = subst (λ o. Remembers c.args.number o c.args.recent.now c.pass.new.self) (sym c.in-None.is) (c.pass.ensures.low, c.pass.ensures.commits)

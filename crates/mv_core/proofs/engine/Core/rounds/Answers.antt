use Rattle.mv_core.proofs.Given.{some_then}
use Rattle.mv_core.proofs.Changed.{one_round}
use Rattle.mv_core.proofs.engine.Core.rounds.Goals as goal

pub returns-clause-numbers : goal.returns-clause-numbers
returns-clause-numbers c = some_then c.rounds.result c.rounds.ensures.live (λ rounds has none. one_round c.self.inside.book c.self.inside.store c.self.inside.tasks.items c.args.call rounds.now c.self.invariant.0 has none)

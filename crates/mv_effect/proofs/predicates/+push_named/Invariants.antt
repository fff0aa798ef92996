use Rattle.mv_effect.proofs.Parts.{parts}
use Rattle.mv_effect.proofs.predicates.+push_named.Given as goal

abbrev pub decreases-push_named : goal.decreases-push_named
decreases-push_named l = parts l.expr.now

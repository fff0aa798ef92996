use Rattle.std.proofs.Common.{List, ◌∙◌}
use Rattle.mv_history.specs.declared.change.Change.{Change}
use Rattle.mv_history.specs.Hits.{hits}
use Rattle.mv_audit.proofs.Hitting.{any_each}
use Rattle.mv_audit.proofs.hit.commits_hit.Goals as goal

pub returns-clause-all : goal.returns-clause-all
returns-clause-all c = c.each_hits.ensures ∙ any_each (hits c.args.before.now c.args.record.now) (λ (cs : List Change). cs) c.args.commits.now

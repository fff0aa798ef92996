use Rattle.std.proofs.Common.{ap, ◌∙◌}
use Rattle.std.specs.BTreeSet.{insert_key}
use Rattle.std.specs.Ordering.{nat_cmp}
use Rattle.mv_core.proofs.Lives.{insert_last}
use Rattle.mv_core.proofs.live.LiveCalls.push.Goals as goal

pub returns-clause-ok : goal.returns-clause-ok
returns-clause-ok c =
    c.in_ok-insert.ensures.keys
    ∙ (ap (λ cs. insert_key nat_cmp cs c.args.call) c.self.view_is ∙ insert_last c.args.self.now c.args.call c.requires)

use Rattle.std.proofs.Common.{◌∙◌}
use Rattle.mv_gate.proofs.Starts.{start_changes}
use Rattle.mv_gate.proofs.scheduler.next_start.Goals as goal

pub returns-clause-touched : goal.returns-clause-touched
returns-clause-touched g c =
    start_changes g.N.Making.script c.in_ok-start.start c.in_ok-touched.touched c.args.ledger.now c.touched.ensures.kept (c.in_ok-touched.ensures ∙ c.touched.ensures.touched) c.in_ok-start.ensures.number c.in_ok-start.ensures.whole

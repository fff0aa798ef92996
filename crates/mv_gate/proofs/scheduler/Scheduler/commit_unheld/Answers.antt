use Rattle.mv_journal.specs.declared.event.Event.TheVariants.{C}
use Rattle.mv_core.proofs.Changed.{same_self}
use Rattle.mv_gate.proofs.Schedulers.{commit_failed}
use Rattle.mv_gate.proofs.scheduler.Scheduler.commit_unheld.Goals as goal

pub returns-in_err-output-clause-made : goal.returns-in_err-output-clause-made
returns-in_err-output-clause-made g c = commit_failed _ (C c.args.call) c.from_residual.result c.args.self.now c.args.self.now c.from_residual.ensures.1 (same_self c.args.self.now)

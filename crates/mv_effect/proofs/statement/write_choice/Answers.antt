use Rattle.mv_catalog.specs.declared.resolved.RStmt.{out-RStmt}
use Rattle.mv_log.specs.Logged.{owned}
use Rattle.mv_undo.specs.Owning.{earlier}
use Rattle.mv_effect.proofs.Asked.{none_asked_by}
use Rattle.mv_effect.proofs.statement.write_choice.Goals as goal

pub returns-in-Branch-clause-view : goal.returns-in-Branch-clause-view
returns-in-Branch-clause-view g c = c.decide.ensures.view (g.V.View.sight c.args.view.now)

pub returns-in-Branch-clause-looks : goal.returns-in-Branch-clause-looks
returns-in-Branch-clause-looks g c = none_asked_by c.args.tables.now (out-RStmt c.args.statement.now) c.args.env.now (earlier c.args.number (owned c.args.log.now)) (g.V.View.sight c.args.view.now)

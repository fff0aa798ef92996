use Rattle.std.proofs.Common.{ap, ◌∙◌}
use Rattle.mv_values.specs.Patching.{standing, applied}
use Rattle.mv_record.proofs.Patching.{rising_applied}
use Rattle.mv_undo.specs.Owning.{earlier}
use Rattle.mv_effect.proofs.Whole.{found_whole}
use Rattle.mv_effect.proofs.rows.only_row.Goals as goal

pub returns-clause-found : goal.returns-clause-found
returns-clause-found g c =
    let ws = earlier c.args.context.now.number c.args.undo.now in
    let db = (g.V.View.sight c.args.view.now).database in
    c.keyed.ensures
    ∙ (ap (standing c.args.key) c.in_ok-row.ensures.found
    ∙ found_whole c.args.context.now.tables.now c.args.pred.now (applied ws db) c.args.key c.requires.knows c.requires.stands.behind (rising_applied ws db c.requires.stands.database.rising) c.requires.only)

use Rattle.std.proofs.Common.{◌∙◌, ap, sym, subst}
use Rattle.mv_catalog.specs.declared.resolved.RStmt.{RStmt, out-RStmt, out-roll-RStmt}
use Rattle.mv_catalog.specs.declared.resolved.RStmt.TheVariants.{rolls-ForRows}
use Rattle.mv_catalog.specs.declared.resolved.RStmt.TheOpen as layer
use Rattle.mv_catalog.specs.declared.resolved.RStmt.TheOpen.{RStmt-F}
use Rattle.mv_recorded.specs.Effects.{IsEffect}
use Rattle.mv_recorder.specs.Scenes.{Finds}
use Rattle.mv_recorder.proofs.Finding.{finds_weaker}
use Rattle.mv_recorder.proofs.effect.attempt.Goals as goal

pub returns-in-ForRows : goal.returns-in-ForRows
returns-in-ForRows c =
    let here : RStmt-F RStmt = layer.ForRows c.in-ForRows.row c.in-ForRows.rows c.in-ForRows.body in
    let is = ap out-RStmt (c.in-ForRows.is ∙ sym (rolls-ForRows c.in-ForRows.row c.in-ForRows.rows c.in-ForRows.body)) ∙ out-roll-RStmt here in
    subst (λ s. Finds c.for_rows.result (IsEffect c.args.scene.now.infos.now s c.args.scene.now.env.now c.args.scene.now.tables.now)) (sym is) (finds_weaker c.for_rows.result (λ e h. h c.in-ForRows.row c.in-ForRows.body) c.for_rows.ensures)

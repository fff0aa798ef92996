use Rattle.std.proofs.Common.{OnOk, sym, ap, subst, ◌∙◌}
use Rattle.std.proofs.lemmas.Result.{on_ok_weaker}
use Rattle.mv_values.specs.Patching.{applied}
use Rattle.mv_catalog.specs.declared.resolved.RStmt.{RStmt, out-RStmt, out-roll-RStmt}
use Rattle.mv_catalog.specs.declared.resolved.RStmt.TheVariants.{rolls-Select, rolls-Total, rolls-ForSelect, rolls-ForRows, rolls-Insert, rolls-Update, rolls-Delete, rolls-Rollback}
use Rattle.mv_catalog.specs.declared.resolved.RStmt.TheOpen as layer
use Rattle.mv_catalog.specs.declared.resolved.RStmt.TheOpen.{RStmt-F}
use Rattle.mv_log.specs.Logged.{owned}
use Rattle.mv_undo.specs.Owning.{earlier}
use Rattle.mv_recorded.specs.Effects.{IsEffect}
use Rattle.mv_effect.specs.Looking.{AskedBy}
use Rattle.mv_effect.proofs.Asked.{none_asked_by}
use Rattle.mv_effect.proofs.statement.write_effect.Goals as goal

pub returns-in-ForRows-clause-effect : goal.returns-in-ForRows-clause-effect
returns-in-ForRows-clause-effect g c =
    let tables = c.args.tables.now in
    let env = c.args.env.now in
    let db = applied (earlier c.args.number (owned c.args.log.now)) (g.V.View.sight c.args.view.now).database in
    let here : RStmt-F RStmt = layer.ForRows c.in-ForRows.row c.in-ForRows.rows c.in-ForRows.body in
    let is = ap out-RStmt (c.in-ForRows.is ∙ sym (rolls-ForRows c.in-ForRows.row c.in-ForRows.rows c.in-ForRows.body)) ∙ out-roll-RStmt here in
    subst (λ s. OnOk c.for_rows.result (IsEffect tables s env db c.for_rows.new.log.effect)) (sym is) (on_ok_weaker c.for_rows.result (λ h. h c.in-ForRows.row c.in-ForRows.body tables db) c.for_rows.ensures.effect)

pub returns-in-Rollback-clause-effect : goal.returns-in-Rollback-clause-effect
returns-in-Rollback-clause-effect g c =
    let tables = c.args.tables.now in
    let env = c.args.env.now in
    let db = applied (earlier c.args.number (owned c.args.log.now)) (g.V.View.sight c.args.view.now).database in
    let here : RStmt-F RStmt = layer.Rollback c.in-Rollback.reason in
    let is = ap out-RStmt (c.in-Rollback.is ∙ sym (rolls-Rollback c.in-Rollback.reason)) ∙ out-roll-RStmt here in
    subst (λ s. OnOk c.rollback.result (IsEffect tables s env db c.rollback.new.log.effect)) (sym is) (on_ok_weaker c.rollback.result (λ h. h env tables db) c.rollback.ensures.effect)

pub returns-in-Assign-clause-view : goal.returns-in-Assign-clause-view
returns-in-Assign-clause-view g c = c.assign.ensures.view (g.V.View.sight c.args.view.now)

pub returns-in-ForRows-clause-view : goal.returns-in-ForRows-clause-view
returns-in-ForRows-clause-view g c = c.for_rows.ensures.view (g.V.View.sight c.args.view.now)

pub returns-in-Print-clause-view : goal.returns-in-Print-clause-view
returns-in-Print-clause-view g c = c.print.ensures.view (g.V.View.sight c.args.view.now)

pub returns-in-Rollback-clause-view : goal.returns-in-Rollback-clause-view
returns-in-Rollback-clause-view g c = c.rollback.ensures.view (g.V.View.sight c.args.view.now)

pub returns-in-Select-clause-view : goal.returns-in-Select-clause-view
returns-in-Select-clause-view g c = c.select.ensures.view

pub returns-in-Total-clause-view : goal.returns-in-Total-clause-view
returns-in-Total-clause-view g c = c.total.ensures.view

pub returns-in-ForSelect-clause-view : goal.returns-in-ForSelect-clause-view
returns-in-ForSelect-clause-view g c = c.for_select.ensures.view

pub returns-in-Insert-clause-view : goal.returns-in-Insert-clause-view
returns-in-Insert-clause-view g c = c.insert.ensures.view

pub returns-in-Update-clause-view : goal.returns-in-Update-clause-view
returns-in-Update-clause-view g c = c.update.ensures.view

pub returns-in-Delete-clause-view : goal.returns-in-Delete-clause-view
returns-in-Delete-clause-view g c = c.delete.ensures.view

pub returns-in-Assign-clause-rest : goal.returns-in-Assign-clause-rest
returns-in-Assign-clause-rest g c = c.assign.ensures.rest

pub returns-in-Assign-clause-err : goal.returns-in-Assign-clause-err
returns-in-Assign-clause-err g c = c.assign.ensures.err

pub returns-in-Select-clause-rest : goal.returns-in-Select-clause-rest
returns-in-Select-clause-rest g c = c.select.ensures.rest

pub returns-in-Select-clause-err : goal.returns-in-Select-clause-err
returns-in-Select-clause-err g c = c.select.ensures.err

pub returns-in-Total-clause-rest : goal.returns-in-Total-clause-rest
returns-in-Total-clause-rest g c = c.total.ensures.rest

pub returns-in-Total-clause-err : goal.returns-in-Total-clause-err
returns-in-Total-clause-err g c = c.total.ensures.err

pub returns-in-ForSelect-clause-rest : goal.returns-in-ForSelect-clause-rest
returns-in-ForSelect-clause-rest g c = c.for_select.ensures.rest

pub returns-in-ForSelect-clause-err : goal.returns-in-ForSelect-clause-err
returns-in-ForSelect-clause-err g c = c.for_select.ensures.err

pub returns-in-ForRows-clause-rest : goal.returns-in-ForRows-clause-rest
returns-in-ForRows-clause-rest g c = c.for_rows.ensures.rest

pub returns-in-ForRows-clause-err : goal.returns-in-ForRows-clause-err
returns-in-ForRows-clause-err g c = c.for_rows.ensures.err

pub returns-in-Insert-clause-rest : goal.returns-in-Insert-clause-rest
returns-in-Insert-clause-rest g c = c.insert.ensures.rest

pub returns-in-Insert-clause-err : goal.returns-in-Insert-clause-err
returns-in-Insert-clause-err g c = c.insert.ensures.err

pub returns-in-Update-clause-rest : goal.returns-in-Update-clause-rest
returns-in-Update-clause-rest g c = c.update.ensures.rest

pub returns-in-Update-clause-err : goal.returns-in-Update-clause-err
returns-in-Update-clause-err g c = c.update.ensures.err

pub returns-in-Delete-clause-rest : goal.returns-in-Delete-clause-rest
returns-in-Delete-clause-rest g c = c.delete.ensures.rest

pub returns-in-Delete-clause-err : goal.returns-in-Delete-clause-err
returns-in-Delete-clause-err g c = c.delete.ensures.err

pub returns-in-Print-clause-rest : goal.returns-in-Print-clause-rest
returns-in-Print-clause-rest g c = c.print.ensures.rest

pub returns-in-Print-clause-err : goal.returns-in-Print-clause-err
returns-in-Print-clause-err g c = c.print.ensures.err

pub returns-in-Rollback-clause-rest : goal.returns-in-Rollback-clause-rest
returns-in-Rollback-clause-rest g c = c.rollback.ensures.rest

pub returns-in-Rollback-clause-err : goal.returns-in-Rollback-clause-err
returns-in-Rollback-clause-err g c = c.rollback.ensures.err

pub returns-in-Branch-clause-view : goal.returns-in-Branch-clause-view
returns-in-Branch-clause-view g c = c.branch-alloc.ensures.view (g.V.View.sight c.args.view.now)

pub returns-in-Branch-clause-rest : goal.returns-in-Branch-clause-rest
returns-in-Branch-clause-rest g c = c.branch-alloc.ensures.rest

pub returns-in-Branch-clause-err : goal.returns-in-Branch-clause-err
returns-in-Branch-clause-err g c = c.branch-alloc.ensures.err

pub returns-in-Assign-clause-looks : goal.returns-in-Assign-clause-looks
returns-in-Assign-clause-looks g c = none_asked_by c.args.tables.now (out-RStmt c.args.statement.now) c.args.env.now (earlier c.args.number (owned c.args.log.now)) (g.V.View.sight c.args.view.now)

pub returns-in-ForRows-clause-looks : goal.returns-in-ForRows-clause-looks
returns-in-ForRows-clause-looks g c = none_asked_by c.args.tables.now (out-RStmt c.args.statement.now) c.args.env.now (earlier c.args.number (owned c.args.log.now)) (g.V.View.sight c.args.view.now)

pub returns-in-Branch-clause-looks : goal.returns-in-Branch-clause-looks
returns-in-Branch-clause-looks g c = none_asked_by c.args.tables.now (out-RStmt c.args.statement.now) c.args.env.now (earlier c.args.number (owned c.args.log.now)) (g.V.View.sight c.args.view.now)

pub returns-in-Print-clause-looks : goal.returns-in-Print-clause-looks
returns-in-Print-clause-looks g c = none_asked_by c.args.tables.now (out-RStmt c.args.statement.now) c.args.env.now (earlier c.args.number (owned c.args.log.now)) (g.V.View.sight c.args.view.now)

pub returns-in-Rollback-clause-looks : goal.returns-in-Rollback-clause-looks
returns-in-Rollback-clause-looks g c = none_asked_by c.args.tables.now (out-RStmt c.args.statement.now) c.args.env.now (earlier c.args.number (owned c.args.log.now)) (g.V.View.sight c.args.view.now)

pub returns-in-Select-clause-effect : goal.returns-in-Select-clause-effect
returns-in-Select-clause-effect g c =
    let ws = earlier c.args.number (owned c.args.log.now) in
    let before = g.V.View.sight c.args.view.now in
    let here : RStmt-F RStmt = layer.Select c.in-Select.columns c.in-Select.to c.in-Select.table c.in-Select.conds c.in-Select.sorts c.in-Select.offset in
    let is = ap out-RStmt (c.in-Select.is ∙ sym (rolls-Select c.in-Select.columns c.in-Select.to c.in-Select.table c.in-Select.conds c.in-Select.sorts c.in-Select.offset)) ∙ (out-roll-RStmt here ∙ (ap (λ l. layer.Select l c.in-Select.to c.in-Select.table c.in-Select.conds c.in-Select.sorts c.in-Select.offset) (sym c.as_slice.ensures) ∙ (ap (λ l. layer.Select c.as_slice.result.now l c.in-Select.table c.in-Select.conds c.in-Select.sorts c.in-Select.offset) (sym c.as_slice-in-Select-3.ensures) ∙ (ap (λ l. layer.Select c.as_slice.result.now c.as_slice-in-Select-3.result.now c.in-Select.table l c.in-Select.sorts c.in-Select.offset) (sym c.as_slice-in-Select.ensures) ∙ ap (λ l. layer.Select c.as_slice.result.now c.as_slice-in-Select-3.result.now c.in-Select.table c.as_slice-in-Select.result.now l c.in-Select.offset) (sym c.as_slice-in-Select-2.ensures))))) in
    subst (λ s. OnOk c.select.result (IsEffect c.args.tables.now s c.args.env.now (applied ws before.database) c.select.new.log.effect)) (sym is) c.select.ensures.effect

pub returns-in-Select-clause-looks : goal.returns-in-Select-clause-looks
returns-in-Select-clause-looks g c =
    let ws = earlier c.args.number (owned c.args.log.now) in
    let before = g.V.View.sight c.args.view.now in
    let here : RStmt-F RStmt = layer.Select c.in-Select.columns c.in-Select.to c.in-Select.table c.in-Select.conds c.in-Select.sorts c.in-Select.offset in
    let is = ap out-RStmt (c.in-Select.is ∙ sym (rolls-Select c.in-Select.columns c.in-Select.to c.in-Select.table c.in-Select.conds c.in-Select.sorts c.in-Select.offset)) ∙ (out-roll-RStmt here ∙ (ap (λ l. layer.Select l c.in-Select.to c.in-Select.table c.in-Select.conds c.in-Select.sorts c.in-Select.offset) (sym c.as_slice.ensures) ∙ (ap (λ l. layer.Select c.as_slice.result.now l c.in-Select.table c.in-Select.conds c.in-Select.sorts c.in-Select.offset) (sym c.as_slice-in-Select-3.ensures) ∙ (ap (λ l. layer.Select c.as_slice.result.now c.as_slice-in-Select-3.result.now c.in-Select.table l c.in-Select.sorts c.in-Select.offset) (sym c.as_slice-in-Select.ensures) ∙ ap (λ l. layer.Select c.as_slice.result.now c.as_slice-in-Select-3.result.now c.in-Select.table c.as_slice-in-Select.result.now l c.in-Select.offset) (sym c.as_slice-in-Select-2.ensures))))) in
    subst (λ s. AskedBy c.args.tables.now s c.args.env.now ws before (g.V.View.sight c.select.new.view)) (sym is) c.select.ensures.looks

pub returns-in-Total-clause-effect : goal.returns-in-Total-clause-effect
returns-in-Total-clause-effect g c =
    let ws = earlier c.args.number (owned c.args.log.now) in
    let before = g.V.View.sight c.args.view.now in
    let here : RStmt-F RStmt = layer.Total c.in-Total.agg c.in-Total.to c.in-Total.table c.in-Total.conds in
    let is = ap out-RStmt (c.in-Total.is ∙ sym (rolls-Total c.in-Total.agg c.in-Total.to c.in-Total.table c.in-Total.conds)) ∙ (out-roll-RStmt here ∙ ap (λ l. layer.Total c.in-Total.agg c.in-Total.to c.in-Total.table l) (sym c.as_slice-in-Total.ensures)) in
    subst (λ s. OnOk c.total.result (IsEffect c.args.tables.now s c.args.env.now (applied ws before.database) c.total.new.log.effect)) (sym is) c.total.ensures.effect

pub returns-in-Total-clause-looks : goal.returns-in-Total-clause-looks
returns-in-Total-clause-looks g c =
    let ws = earlier c.args.number (owned c.args.log.now) in
    let before = g.V.View.sight c.args.view.now in
    let here : RStmt-F RStmt = layer.Total c.in-Total.agg c.in-Total.to c.in-Total.table c.in-Total.conds in
    let is = ap out-RStmt (c.in-Total.is ∙ sym (rolls-Total c.in-Total.agg c.in-Total.to c.in-Total.table c.in-Total.conds)) ∙ (out-roll-RStmt here ∙ ap (λ l. layer.Total c.in-Total.agg c.in-Total.to c.in-Total.table l) (sym c.as_slice-in-Total.ensures)) in
    subst (λ s. AskedBy c.args.tables.now s c.args.env.now ws before (g.V.View.sight c.total.new.view)) (sym is) c.total.ensures.looks

pub returns-in-ForSelect-clause-looks : goal.returns-in-ForSelect-clause-looks
returns-in-ForSelect-clause-looks g c =
    let ws = earlier c.args.number (owned c.args.log.now) in
    let before = g.V.View.sight c.args.view.now in
    let here : RStmt-F RStmt = layer.ForSelect c.in-ForSelect.row c.in-ForSelect.distinct c.in-ForSelect.columns c.in-ForSelect.table c.in-ForSelect.conds c.in-ForSelect.sorts c.in-ForSelect.body in
    let is = ap out-RStmt (c.in-ForSelect.is ∙ sym (rolls-ForSelect c.in-ForSelect.row c.in-ForSelect.distinct c.in-ForSelect.columns c.in-ForSelect.table c.in-ForSelect.conds c.in-ForSelect.sorts c.in-ForSelect.body)) ∙ (out-roll-RStmt here ∙ (ap (λ l. layer.ForSelect c.in-ForSelect.row c.in-ForSelect.distinct l c.in-ForSelect.table c.in-ForSelect.conds c.in-ForSelect.sorts c.in-ForSelect.body) (sym c.as_slice-in-ForSelect.ensures) ∙ (ap (λ l. layer.ForSelect c.in-ForSelect.row c.in-ForSelect.distinct c.as_slice-in-ForSelect.result.now c.in-ForSelect.table l c.in-ForSelect.sorts c.in-ForSelect.body) (sym c.as_slice-in-ForSelect-2.ensures) ∙ ap (λ l. layer.ForSelect c.in-ForSelect.row c.in-ForSelect.distinct c.as_slice-in-ForSelect.result.now c.in-ForSelect.table c.as_slice-in-ForSelect-2.result.now l c.in-ForSelect.body) (sym c.as_slice-in-ForSelect-3.ensures)))) in
    subst (λ s. AskedBy c.args.tables.now s c.args.env.now ws before (g.V.View.sight c.for_select.new.view)) (sym is) (c.for_select.ensures.looks c.in-ForSelect.row c.in-ForSelect.body)

pub returns-in-Insert-clause-effect : goal.returns-in-Insert-clause-effect
returns-in-Insert-clause-effect g c =
    let ws = earlier c.args.number (owned c.args.log.now) in
    let before = g.V.View.sight c.args.view.now in
    let here : RStmt-F RStmt = layer.Insert c.in-Insert.table c.in-Insert.values in
    let is = ap out-RStmt (c.in-Insert.is ∙ sym (rolls-Insert c.in-Insert.table c.in-Insert.values)) ∙ (out-roll-RStmt here ∙ ap (λ l. layer.Insert c.in-Insert.table l) (sym c.as_slice-in-Insert.ensures)) in
    subst (λ s. OnOk c.insert.result (IsEffect c.args.tables.now s c.args.env.now (applied ws before.database) c.insert.new.log.effect)) (sym is) c.insert.ensures.effect

pub returns-in-Insert-clause-looks : goal.returns-in-Insert-clause-looks
returns-in-Insert-clause-looks g c =
    let ws = earlier c.args.number (owned c.args.log.now) in
    let before = g.V.View.sight c.args.view.now in
    let here : RStmt-F RStmt = layer.Insert c.in-Insert.table c.in-Insert.values in
    let is = ap out-RStmt (c.in-Insert.is ∙ sym (rolls-Insert c.in-Insert.table c.in-Insert.values)) ∙ (out-roll-RStmt here ∙ ap (λ l. layer.Insert c.in-Insert.table l) (sym c.as_slice-in-Insert.ensures)) in
    subst (λ s. AskedBy c.args.tables.now s c.args.env.now ws before (g.V.View.sight c.insert.new.view)) (sym is) c.insert.ensures.looks

pub returns-in-Update-clause-effect : goal.returns-in-Update-clause-effect
returns-in-Update-clause-effect g c =
    let ws = earlier c.args.number (owned c.args.log.now) in
    let before = g.V.View.sight c.args.view.now in
    let here : RStmt-F RStmt = layer.Update c.in-Update.table c.in-Update.items c.in-Update.conds in
    let is = ap out-RStmt (c.in-Update.is ∙ sym (rolls-Update c.in-Update.table c.in-Update.items c.in-Update.conds)) ∙ (out-roll-RStmt here ∙ (ap (λ l. layer.Update c.in-Update.table l c.in-Update.conds) (sym c.as_slice-in-Update.ensures) ∙ ap (λ l. layer.Update c.in-Update.table c.as_slice-in-Update.result.now l) (sym c.as_slice-in-Update-2.ensures))) in
    subst (λ s. OnOk c.update.result (IsEffect c.args.tables.now s c.args.env.now (applied ws before.database) c.update.new.log.effect)) (sym is) c.update.ensures.effect

pub returns-in-Update-clause-looks : goal.returns-in-Update-clause-looks
returns-in-Update-clause-looks g c =
    let ws = earlier c.args.number (owned c.args.log.now) in
    let before = g.V.View.sight c.args.view.now in
    let here : RStmt-F RStmt = layer.Update c.in-Update.table c.in-Update.items c.in-Update.conds in
    let is = ap out-RStmt (c.in-Update.is ∙ sym (rolls-Update c.in-Update.table c.in-Update.items c.in-Update.conds)) ∙ (out-roll-RStmt here ∙ (ap (λ l. layer.Update c.in-Update.table l c.in-Update.conds) (sym c.as_slice-in-Update.ensures) ∙ ap (λ l. layer.Update c.in-Update.table c.as_slice-in-Update.result.now l) (sym c.as_slice-in-Update-2.ensures))) in
    subst (λ s. AskedBy c.args.tables.now s c.args.env.now ws before (g.V.View.sight c.update.new.view)) (sym is) c.update.ensures.looks

pub returns-in-Delete-clause-effect : goal.returns-in-Delete-clause-effect
returns-in-Delete-clause-effect g c =
    let ws = earlier c.args.number (owned c.args.log.now) in
    let before = g.V.View.sight c.args.view.now in
    let here : RStmt-F RStmt = layer.Delete c.in-Delete.table c.in-Delete.conds in
    let is = ap out-RStmt (c.in-Delete.is ∙ sym (rolls-Delete c.in-Delete.table c.in-Delete.conds)) ∙ (out-roll-RStmt here ∙ ap (λ l. layer.Delete c.in-Delete.table l) (sym c.as_slice-in-Delete.ensures)) in
    subst (λ s. OnOk c.delete.result (IsEffect c.args.tables.now s c.args.env.now (applied ws before.database) c.delete.new.log.effect)) (sym is) c.delete.ensures.effect

pub returns-in-Delete-clause-looks : goal.returns-in-Delete-clause-looks
returns-in-Delete-clause-looks g c =
    let ws = earlier c.args.number (owned c.args.log.now) in
    let before = g.V.View.sight c.args.view.now in
    let here : RStmt-F RStmt = layer.Delete c.in-Delete.table c.in-Delete.conds in
    let is = ap out-RStmt (c.in-Delete.is ∙ sym (rolls-Delete c.in-Delete.table c.in-Delete.conds)) ∙ (out-roll-RStmt here ∙ ap (λ l. layer.Delete c.in-Delete.table l) (sym c.as_slice-in-Delete.ensures)) in
    subst (λ s. AskedBy c.args.tables.now s c.args.env.now ws before (g.V.View.sight c.delete.new.view)) (sym is) c.delete.ensures.looks

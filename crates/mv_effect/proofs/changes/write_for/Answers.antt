use Rattle.std.proofs.Common.{List, Result, Ok, sym, ap, ◌∙◌}
use Rattle.mv_values.specs.declared.value.Value.{Value}
use Rattle.mv_values.specs.declared.calls.End.{End}
use Rattle.mv_values.specs.Tables.{columns_at, key_columns}
use Rattle.mv_eval.specs.Changes.{set_row}
use Rattle.mv_eval.specs.Results.{then_do}
use Rattle.mv_recorded.specs.Doing.{write, set_patch}
use Rattle.mv_effect.proofs.changes.write_for.Goals as goal

pub returns : goal.returns
returns c =
    let env = c.args.env.now in
    let items = c.args.update.now.items.now in
    let row = c.row.result.now in
    let columns = columns_at c.args.tables.now c.args.update.now.table in
    let same =
    ap (λ cs. set_row cs c.key_in-keys.result.now env row items row) c.columns_in-columns.ensures
    ∙ (ap (λ ks. set_row columns ks env row items row) c.key_in-keys.ensures ∙ ap (λ r. set_row columns (key_columns c.args.tables.now c.args.update.now.table) env r items r) c.row.ensures) in
    let is = c.in_ok-set_write.ensures ∙ (ap (λ k. write c.narrow.result k (set_patch items c.as_slice.result.now)) c.key.ensures ∙ (ap (λ r. write c.narrow.result c.args.item.now.key (set_patch items r)) c.as_slice.ensures ∙ ap (λ t. write t c.args.item.now.key (set_patch items c.in_ok-row.row)) c.narrow.ensures)) in
    ap (λ (o : Result (List Value) End). then_do o (λ r. Ok (write c.args.update.now.table c.args.item.now.key (set_patch items r)))) (sym same ∙ c.in_ok-row.ensures) ∙ sym (ap (λ l. Ok l) is)

use Rattle.std.proofs.Common.{◌≡◌, ◌∙◌, ap}
use Rattle.std.specs.Prelude.{slice_index_or, slice_set}
use Rattle.std.proofs.lemmas.Option.{get_or_from_slice_get}
use Rattle.std.proofs.lemmas.List.{set-set}
use Rattle.mv_chain.proofs.commit.exchange.Goals as goal

pub returns : goal.returns
returns c d =
    let e : slice_index_or c.args.items.now c.args.at d ≡ c.replace-column.result = get_or_from_slice_get c.args.items.now c.args.at c.replace-column.result d c.replace-column.ensures.back in
    rw e (
      c.swap_column-value.ensures.row,
      c.set.ensures
          ∙ ap (λ l. slice_set l c.args.at (record { column = c.replace-column.result.column; value = c.swap_column-value.result })) c.replace-column.ensures.items
          ∙ set-set c.args.items.now c.args.at c.placeholder.result (record { column = c.replace-column.result.column; value = c.swap_column-value.result })
          ∙ ap (λ v. slice_set c.args.items.now c.args.at (record { column = c.replace-column.result.column; value = v })) c.swap_column-value.ensures.was,
    )

use Rattle.std.proofs.Common.{rules, take, ◌++◌, ◌∷◌, ◌+◌, [], List, ap, subst, sym, IsPermutation}
use Rattle.std.proofs.lemmas.Result.{err_from_is_err_and}
use Rattle.mv_values.specs.Keys.{IsRising}
use Rattle.mv_values.specs.declared.value.Value.{Value}
use Rattle.mv_csvio.specs.Joining.{HasJoined, under_key}
use Rattle.mv_csvio.proofs.Joined.{joined_more, rows_so_far, tells_of_values}
use Rattle.mv_csvio.proofs.gather.join_values.Goals as goal

pub returns-in_err-join_row-clause-fault : goal.returns-in_err-join_row-clause-fault
returns-in_err-join_row-clause-fault c =
    let p = err_from_is_err_and c.from_residual-in_err-join_row.result c.from_residual-in_err-join_row.ensures.1 in
    rw (p.1, p.2)
    (tells_of_values c.args.table.now c.args.rows.now c.loop-row.row-index c.row-item.result c.in_ok-copy.field-0 c.loop-row.joining (c.loop-row.number + 1) c.in_err-join_row.field-0.0 (search rules) (search rules) c.loop-row.invariant.1 c.in_ok-copy.ensures (ap (λ n. n + 1) c.loop-row.invariant.0) c.in_err-join_row.ensures)

pub loop-row-preserved : goal.loop-row-preserved
loop-row-preserved c =
    let row = c.row-item.result in
    let step : IsRising c.join_row.new.joining × IsPermutation (c.loop-row.joining ++ under_key c.args.table.now row ∷ []) c.join_row.new.joining = rw c.in_ok-copy.ensures at c.in_ok-join_row.ensures in
    let more = joined_more c.args.table.now [] (take c.loop-row.row-index c.args.rows.now) row c.loop-row.joining c.join_row.new.joining c.loop-row.invariant.1 step in
    (ap (λ n. n + 1) c.loop-row.invariant.0, subst (λ (rows : List (List Value)). HasJoined c.args.table.now [] rows c.join_row.new.joining) (sym (rows_so_far c.args.rows.now c.loop-row.row-index row (search rules) (search rules))) more)

use Rattle.std.proofs.Common.{◌+◌, drop, sym, ap, subst, ◌∙◌}
use Rattle.std.proofs.lemmas.Result.{err_from_is_err_and}
use Rattle.std.specs.List.{AllByRecursion}
use Rattle.mv_values.specs.References.{Reference, reference, references_from, HaveOneKey, orphans_in}
use Rattle.mv_values.specs.Tables.{rows_at}
use Rattle.mv_values.proofs.There.{refs_step, back_of}
use Rattle.mv_opening.proofs.Orphans.{none_then, tells_front, in_both}
use Rattle.mv_opening.proofs.parents.check_row.Goals as goal

pub loop-at-preserved : goal.loop-at-preserved
loop-at-preserved c =
    let db = c.args.opening.now in
    let here = reference c.args.table c.loop-at.at c.index-columns-at.result.refers in
    let rest = references_from c.args.table (c.loop-at.at + 1) (drop (c.loop-at.at + 1) c.args.columns.now) in
    let step = refs_step c.args.table c.loop-at.at c.args.columns.now c.index-columns-at.result c.loop-at-test.true c.index-columns-at.is in
    record {
      left =
          none_then (orphans_in db here c.args.number c.args.item.now) (orphans_in db rest c.args.number c.args.item.now) _ c.in_ok-check_column.ensures
          (sym (in_both db here rest c.args.number c.args.item.now) ∙ (ap (λ rs. orphans_in db rs c.args.number c.args.item.now) (sym step) ∙ c.loop-at.invariant.left));
      keys = back_of (λ (r : Reference). HaveOneKey (rows_at db r.parent)) here rest (subst (AllByRecursion (λ (r : Reference). HaveOneKey (rows_at db r.parent))) step c.loop-at.invariant.keys);
    }

pub returns-in_err-check_column : goal.returns-in_err-check_column
returns-in_err-check_column c =
    let db = c.args.opening.now in
    let here = reference c.args.table c.loop-at.at c.index-columns-at.result.refers in
    let rest = references_from c.args.table (c.loop-at.at + 1) (drop (c.loop-at.at + 1) c.args.columns.now) in
    let step = refs_step c.args.table c.loop-at.at c.args.columns.now c.index-columns-at.result c.loop-at-test.true c.index-columns-at.is in
    let p = err_from_is_err_and c.from_residual.result c.from_residual.ensures.1 in
    rw (p.1, p.2)
    (tells_front c.in_err-check_column.field-0.0 (orphans_in db here c.args.number c.args.item.now) (orphans_in db rest c.args.number c.args.item.now) _
    (sym (in_both db here rest c.args.number c.args.item.now) ∙ (ap (λ rs. orphans_in db rs c.args.number c.args.item.now) (sym step) ∙ c.loop-at.invariant.left)) c.in_err-check_column.ensures)

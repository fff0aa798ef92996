use Rattle.std.proofs.Common.{◌+◌, drop, sym, ap, subst, ◌∙◌}
use Rattle.std.specs.List.{AllByRecursion}
use Rattle.mv_values.specs.References.{Reference, reference, references_from, HaveOneKey}
use Rattle.mv_values.specs.Tables.{rows_at}
use Rattle.mv_eval.specs.References.{has_parents}
use Rattle.mv_values.proofs.There.{refs_step, back_of}
use Rattle.mv_serial.proofs.There.{both, on_then}
use Rattle.mv_serial.proofs.parents.columns_have_parents.Goals as goal

pub loop-at-preserved : goal.loop-at-preserved
loop-at-preserved c =
    let here = reference c.args.table c.loop-at.at c.index-columns-at.result.refers in
    let rest = references_from c.args.table (c.loop-at.at + 1) (drop (c.loop-at.at + 1) c.args.columns.now) in
    let step = refs_step c.args.table c.loop-at.at c.args.columns.now c.index-columns-at.result c.loop-at-test.true c.index-columns-at.is in
    record {
      left =
          on_then c.in_ok-column_has_parent.field-0 (has_parents here c.args.item.now c.args.tables.now) (has_parents rest c.args.item.now c.args.tables.now) _ c.if-not-branch.false c.in_ok-column_has_parent.ensures
          (sym (both here rest c.args.item.now c.args.tables.now) ∙ (ap (λ rs. has_parents rs c.args.item.now c.args.tables.now) (sym step) ∙ c.loop-at.invariant.left));
      keys = back_of (λ (r : Reference). HaveOneKey (rows_at c.args.tables.now r.parent)) here rest (subst (AllByRecursion (λ (r : Reference). HaveOneKey (rows_at c.args.tables.now r.parent))) step c.loop-at.invariant.keys);
    }

use Rattle.std.proofs.Common.{◌+◌, [], map, drop, ap, ◌∙◌}
use Rattle.mv_values.specs.References.{reference, references_from}
use Rattle.mv_values.proofs.There.{refs_step}
use Rattle.mv_checks.specs.Checking.{meant, parent_checks}
use Rattle.mv_checks.proofs.Referring.{added_on, parents_both}
use Rattle.mv_checks.proofs.parents.push_columns.Goals as goal

pub loop-at-preserved : goal.loop-at-preserved
loop-at-preserved c =
    let tables = c.args.tables.now in
    let item = c.args.item.now in
    let t = c.args.table in
    let at = c.loop-at.at in
    let columns = c.args.columns.now in
    let here = reference t at c.index-columns-at.result.refers in
    let rest = references_from t (at + 1) (drop (at + 1) columns) in
    let step = refs_step t at columns c.index-columns-at.result c.loop-at-test.true c.index-columns-at.is in
    added_on (map (meant []) c.loop-at.checks) (map (meant []) c.push_column.new.checks) (parent_checks tables item here) (parent_checks tables item rest) (parent_checks tables item (references_from t at (drop at columns))) _
    c.in_ok-push_column.ensures (ap (parent_checks tables item) step ∙ parents_both tables item here rest) c.loop-at.invariant

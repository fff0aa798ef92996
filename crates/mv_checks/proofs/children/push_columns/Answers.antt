use Rattle.std.proofs.Common.{◌+◌, ◌==◌, map, drop, ap, ◌∙◌}
use Rattle.std.specs.List.{filter}
use Rattle.mv_values.specs.References.{Reference, reference, references_from}
use Rattle.mv_values.proofs.There.{refs_step}
use Rattle.mv_checks.specs.Checking.{reference_to}
use Rattle.mv_checks.proofs.Referring.{added_on, refers_both}
use Rattle.mv_checks.proofs.children.push_columns.Goals as goal

pub loop-at-preserved : goal.loop-at-preserved
loop-at-preserved c =
    let p = c.args.parent in
    let t = c.args.table in
    let at = c.loop-at.at in
    let columns = c.args.columns.now in
    let to = λ (r : Reference). r.parent == p in
    let here = reference t at c.index-columns-at.result.refers in
    let rest = references_from t (at + 1) (drop (at + 1) columns) in
    let step = refs_step t at columns c.index-columns-at.result c.loop-at-test.true c.index-columns-at.is in
    added_on (map (reference_to p) c.loop-at.all) (map (reference_to p) c.push_column.new.all) (filter to here) (filter to rest) (filter to (references_from t at (drop at columns))) _
    c.in_ok-push_column.ensures (ap (filter to) step ∙ refers_both p here rest) c.loop-at.invariant

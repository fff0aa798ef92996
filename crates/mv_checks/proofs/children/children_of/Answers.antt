use Rattle.std.proofs.Common.{◌+◌, ◌≤◌, ◌==◌, length, map, drop, sym, ap, subst, ◌∙◌, arith}
use Rattle.std.specs.List.{filter}
use Rattle.mv_values.specs.declared.schema.TableInfo.{TableInfo}
use Rattle.mv_values.specs.References.{Reference, references_from, all_references}
use Rattle.mv_checks.specs.Checking.{reference_to}
use Rattle.mv_checks.proofs.Referring.{added_on, refers_both, tables_step}
use Rattle.mv_checks.proofs.children.children_of.Goals as goal

pub push_columns-requires : goal.push_columns-requires
push_columns-requires c =
    let table = c.requires.each c.loop-at.at c.index-tables-at.result c.loop-at-test.true in
    let narrow = subst (λ (info : TableInfo). length info.columns ≤ 32) (sym c.index-tables-at.is) table.narrow in
    rw c.as_slice-columns.ensures (omega (arith, narrow))

pub loop-at-preserved : goal.loop-at-preserved
loop-at-preserved c =
    let p = c.args.parent in
    let at = c.loop-at.at in
    let tables = c.args.tables.now in
    let to = λ (r : Reference). r.parent == p in
    let here = references_from at 0 c.index-tables-at.result.columns in
    let rest = all_references (at + 1) (drop (at + 1) tables) in
    let step = tables_step at tables c.index-tables-at.result c.loop-at-test.true c.index-tables-at.is in
    added_on (map (reference_to p) c.loop-at.all) (map (reference_to p) c.push_columns.new.all) (filter to here) (filter to rest) (filter to (all_references at (drop at tables))) _
    (rw c.as_slice-columns.ensures at c.in_ok-push_columns.ensures) (ap (filter to) step ∙ refers_both p here rest) c.loop-at.invariant

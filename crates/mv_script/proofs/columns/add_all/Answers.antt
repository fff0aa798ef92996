use Rattle.std.proofs.Common.{◌≡◌, sym, subst, take}
use Rattle.std.specs.Prelude.{◌||◌}
use Rattle.std.specs.List.{list_any}
use Rattle.std.proofs.lemmas.List.{take_more}
use Rattle.mv_values.specs.Testing.{are_tested}
use Rattle.mv_script.specs.Columns.{is_indexed_by}
use Rattle.mv_script.proofs.Choosing.{tested_more, all_of, none_of}
use Rattle.mv_script.proofs.columns.add_all.Goals as goal

pub loop-column-init : goal.loop-column-init
loop-column-init c = λ t n. none_of (is_indexed_by c.args.tables.now t n) c.args.columns.now (are_tested c.args.all.now t n)

pub loop-column-preserved : goal.loop-column-preserved
loop-column-preserved c = λ t n.
    let i = c.loop-column.column-index in
    subst (λ columns. are_tested c.add_column.new.all t n ≡ (are_tested c.args.all.now t n || list_any (is_indexed_by c.args.tables.now t n) columns)) (sym (take_more c.args.columns.now i _ c.loop-column-test.true))
    (tested_more c.args.tables.now t n (take i c.args.columns.now) _ (are_tested c.args.all.now t n) (are_tested c.loop-column.all t n) (are_tested c.add_column.new.all t n) (c.loop-column.invariant t n) (c.in_ok-add_column.ensures t n))

pub returns : goal.returns
returns c = λ t n.
    all_of (is_indexed_by c.args.tables.now t n) c.args.columns.now c.loop-column.column-index (are_tested c.args.all.now t n) (are_tested c.loop-column.all t n) c.loop-column-test.false (c.loop-column.invariant t n)

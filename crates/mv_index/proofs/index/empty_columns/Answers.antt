use Rattle.std.proofs.Common.{sym, subst, take}
use Rattle.std.proofs.lemmas.List.{take_more}
use Rattle.mv_index.specs.Indexing.{AreEmptyFor}
use Rattle.mv_index.proofs.index.empty_columns.Goals as goal

pub loop-tested-preserved : goal.loop-tested-preserved
loop-tested-preserved c =
    let i = c.loop-tested.tested-index in
    subst (λ columns. AreEmptyFor columns c.add_column.new.parts.items) (sym (take_more c.args.columns.now i _ c.loop-tested-test.true))
    (c.in_ok-add_column.ensures (take i c.args.columns.now) c.loop-tested.invariant)

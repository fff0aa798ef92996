use Rattle.std.proofs.Common.{refl, subst}
use Rattle.mv_index.specs.Indexing.{Column, Shrinks}
use Rattle.mv_index.proofs.column.ColumnIndex.take.Goals as goal

pub returns : goal.returns
returns c =
    let new : Column = record { table = c.self.inside.table; column = c.self.inside.column; entries = c.take_key.new.values.entries } in
    subst (λ (p : Column). Shrinks c.args.value.now c.args.key.now p new) c.self.view_is (record { same_table = refl; same_column = refl; entries = c.take_key.ensures })

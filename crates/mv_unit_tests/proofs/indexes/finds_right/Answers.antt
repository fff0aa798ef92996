use Rattle.mv_values.specs.Tables.{rows_at}
use Rattle.mv_index.proofs.Covering.{covers_kept}
use Rattle.mv_unit_tests.proofs.indexes.finds_right.Goals as goal

pub finds_all-requires-clause-covers : goal.finds_all-requires-clause-covers
finds_all-requires-clause-covers c = λ t small. covers_kept c.in_ok-index.index c.add_others.new.index t (rows_at c.in_ok-tables.tables t) (c.in_ok-index.ensures.covers t small) c.in_ok-add_others.ensures

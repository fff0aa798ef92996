use Rattle.std.proofs.Common.{subst, sym, ap}
use Rattle.mv_view.specs.Viewing.{Sight}
use Rattle.mv_index.specs.Indexing.{Covers}
use Rattle.mv_unit_tests.proofs.indexes.asks.Goals as goal

pub counted_rows-requires-clause-covers : goal.counted_rows-requires-clause-covers
counted_rows-requires-clause-covers c = subst (Covers c.args.index.now) (sym (ap (λ (s : Sight). s.database) c.new.ensures)) c.requires.covers

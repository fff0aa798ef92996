use Rattle.std.proofs.Common.{refl, subst, sym, ap}
use Rattle.mv_view.specs.Viewing.{Sight}
use Rattle.mv_record.specs.Writes.{AreRising}
use Rattle.mv_index.specs.Indexing.{Covers}
use Rattle.mv_unit_tests.proofs.indexes.finds_rows.Goals as goal

pub new-view-requires : goal.new-view-requires
new-view-requires c = λ k. (
  (refl, tt),
  (
    subst (λ (s : Sight). Covers c.args.index.now s.database) (sym c.new-inner.ensures) c.requires.covers,
    subst (λ (s : Sight). AreRising s.database) (sym c.new-inner.ensures) c.requires.rising,
  ),
)

use Rattle.std.proofs.Common.{rules, subst}
use Rattle.mv_record.specs.Writes.{AreRising}
use Rattle.mv_view.specs.Viewing.{Sight}
use Rattle.mv_index.specs.Indexing.{Covers}
use Rattle.mv_index.proofs.view.IndexView.new.Goals as goal

pub invariant_of-result : goal.invariant_of-result
invariant_of-result g c =
    let alike = (g.met.V.Indexable c.lifetimes (search rules)).alike in
    let here = alike c.args.inner.now in
    (subst (λ (s : Sight). Covers c.args.index.now s.database) here c.requires.covers, subst (λ (s : Sight). AreRising s.database) here c.requires.rising)

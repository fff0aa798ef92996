use Rattle.std.proofs.Common.{subst, ◌∙◌}
use Rattle.std.specs.Prelude.{IsTrue, ◌↔◌}
use Rattle.std.proofs.lemmas.Bool.{eqb-true}
use lib.Dec.{eqb}
use Rattle.mv_core.specs.Books.{Booked}
use Rattle.mv_gate.specs.Gates.{StartsAt}
use Rattle.mv_gate.proofs.Numbers.{number_same}
use Rattle.mv_gate.proofs.Holding.{starts_by}
use Rattle.mv_gate.proofs.scheduler.Scheduler.finds.Goals as goal

pub returns : goal.returns
returns g c =
    subst (λ (b : Booked). IsTrue (eqb c.start.result c.args.start) ↔ StartsAt b c.args.call c.args.start) c.self.view_is (
      λ t. starts_by c.self.inside.book c.args.call c.args.start c.start.result c.in-Some._rounds.now c.in-Some.ensures.live c.start.ensures.value (eqb-true c.start.result c.args.start t),
      λ k. number_same c.start.result c.args.start (c.start.ensures.value k.live k.is_live ∙ k.start_is),
    )

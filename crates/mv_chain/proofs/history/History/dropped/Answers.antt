use Rattle.std.proofs.Common.{subst, sym, take}
use Rattle.std.specs.Prelude.{◌≡◌, ◌||◌, true}
use Rattle.mv_chain.specs.Having.{has_value, undos_have}
use Rattle.mv_chain.specs.Versions.{collected}
use Rattle.mv_chain.proofs.Going.{dropped_all}
use Rattle.mv_chain.proofs.history.History.dropped.Goals as goal

pub returns : goal.returns
returns c n v h =
    let us = c.self.inside.undos.items in
    subst (λ l. (has_value n v (collected c.args.low c.args.self.now) || undos_have n v (take c.place_after-end.result l)) ≡ true) (sym c.deref.ensures.value)
    (dropped_all n v c.args.low us c.self.inside.row c.self.inside.own.items c.place_after-end.result c.args.self.now c.self.view_is c.self.invariant.0 (rw c.as_slice.ensures.value at c.place_after-end.ensures.later) h)

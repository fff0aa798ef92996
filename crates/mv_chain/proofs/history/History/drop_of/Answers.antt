use Rattle.std.proofs.Common.{◌≤◌, length, arith}
use Rattle.mv_chain.specs.Versions.{without}
use Rattle.mv_chain.proofs.Places.{shorter}
use Rattle.mv_chain.proofs.history.History.drop_of.Goals as goal

pub invariant_of-self : goal.invariant_of-self
invariant_of-self c =
    let few : length (without c.args.call c.self.inside.own.items) ≤ length c.self.inside.own.items = shorter c.args.call c.self.inside.own.items in
    (c.self.invariant.0, rw c.forget.ensures (omega (arith, few, c.self.invariant.1)))

use Rattle.std.proofs.Common.{◌≡◌, ◌≤◌, ◌+◌, ◌∙◌, sym, arith, Some}
use Rattle.mv_shards.proofs.Stored.{store_raises}
use Rattle.mv_shards.proofs.shard_store.ShardStore.collect.Goals as goal

pub invariant_of-self : goal.invariant_of-self
invariant_of-self g c =
    let up : c.self.inside.store.low ≤ c.min-to.result = omega (arith, c.if-low-to.true, c.low.ensures) in
    let most : c.min-to.result + c.in-Some.horizon ≤ c.self.inside.store.last = omega (arith, c.min-to.ensures, c.if-last-horizon.false, c.last-last.ensures.last) in
    let given : g.N.Making.script.options.horizon ≡ Some c.in-Some.horizon = sym c.self.invariant.1 ∙ c.in-Some.is in
    (store_raises g.N.Making.script g.N.Naming.word g.row.Q c.min-to.result c.in-Some.horizon c.self.inside.store c.raise.new.self c.self.inside.note c.self.inside.pass c.self.invariant.0 given up most c.raise.ensures, c.self.invariant.1)

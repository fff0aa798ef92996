use Rattle.std.proofs.Common.{◌≡◌, ◌≤◌, arith}
use Rattle.mv_shards.proofs.Stored.{store_raises_to}
use Rattle.mv_shards.proofs.shard_store.ShardStore.collect_to.Goals as goal

pub invariant_of-self : goal.invariant_of-self
invariant_of-self g c =
    let up : c.self.inside.store.low ≤ c.min-to.result = omega (arith, c.if-low-to.true, c.low.ensures) in
    let most : c.min-to.result ≤ c.self.inside.store.last = omega (arith, c.min-to.ensures, c.last-last.ensures.last) in
    let under : c.min-to.result ≤ c.copy_of.result = omega (arith, c.min-to.ensures, c.floor.ensures, c.copy_of.ensures.note) in
    (store_raises_to g.N.Making.script g.N.Naming.word g.row.Q c.min-to.result c.copy_of.result c.self.inside.store c.raise.new.self c.self.inside.note c.self.inside.pass c.self.invariant.0 c.requires c.args.grace.now.words up most under c.raise.ensures, c.self.invariant.1)

pub invariant_of-self-then-low-to-2 : goal.invariant_of-self-then-low-to-2
invariant_of-self-then-low-to-2 g c =
    let up : c.self.inside.store.low ≤ c.min-to.result = omega (arith, c.if-low-to.true, c.low.ensures) in
    let most : c.min-to.result ≤ c.self.inside.store.last = omega (arith, c.min-to.ensures, c.last-last.ensures.last) in
    let under : c.min-to.result ≤ c.copy_of.result = omega (arith, c.min-to.ensures, c.floor.ensures, c.copy_of.ensures.note) in
    (store_raises_to g.N.Making.script g.N.Naming.word g.row.Q c.min-to.result c.copy_of.result c.self.inside.store c.raise.new.self c.self.inside.note c.self.inside.pass c.self.invariant.0 c.requires c.args.grace.now.words up most under c.raise.ensures, c.self.invariant.1)

use Rattle.std.proofs.Common.{◌≡◌, ◌≤◌, sym, subst, arith, slice_index}
use mathlib.Core.List.{IsPrefix}
use Rattle.mv_store.specs.Stored.{database_at}
use Rattle.mv_shards.specs.Parts.{part}
use Rattle.mv_shards.specs.Histories.{tables_at}
use Rattle.mv_shards.specs.Kept.{StoredShard}
use Rattle.mv_shards.proofs.Stored.{store_rows}
use Rattle.mv_shards.proofs.shard_store.ShardStore.check_fresh.Goals as goal

pub returns-clause-rows : goal.returns-clause-rows
returns-clause-rows g c =
    let seen = c.args.pass.now.seen in
    let front : IsPrefix seen c.self.inside.pass.seen = subst (λ (v : StoredShard). IsPrefix seen v.knows.seen) (sym c.self.view_is) c.exchange.ensures.there in
    let mark : slice_index c.args.pass.now.marks g.row.Q ≤ c.self.inside.store.last = subst (λ (v : StoredShard). slice_index c.args.pass.now.marks g.row.Q ≤ v.store.last) (sym c.self.view_is) c.exchange.ensures.mark in
    let low : c.self.inside.store.low ≤ c.args.n = omega (arith, c.low-low.ensures, c.if-n-low.false) in
    store_rows g.N.Making.script g.N.Naming.word g.row.Q c.args.n c.self.inside.store c.self.inside.note c.self.inside.pass seen c.self.invariant.0 front c.requires.past (omega (arith, c.requires.known, mark)) low

use Rattle.std.proofs.Common.{◌≡◌, ◌∙◌, ap, sym, subst}
use mathlib.Core.List.{IsPrefix}
use Rattle.mv_seats.specs.Knowing.{Knows, met, plain}
use Rattle.mv_shards.proofs.Stored.{mark_own, mark_told, grown_met}
use Rattle.mv_shards.proofs.shard_store.ShardStore.exchange.Goals as goal

pub returns-clause-known : goal.returns-clause-known
returns-clause-known g c =
    let q = g.row.Q in
    let was = c.self.inside.pass in
    let e : c.meet.new.self ≡ met was (plain c.args.pass.now) = c.meet.ensures.met ∙ ap (met was) c.note-theirs.ensures.note in
    let own = mark_own q c.installed.result was c.meet.new.self c.args.pass.now c.self.invariant.0.role e c.installed.ensures.known in
    let f : c.meet-2.new.self ≡ met c.note-theirs.new.pass (plain c.installed.new.self) = c.meet-2.ensures.met ∙ ap (met c.note-theirs.new.pass) c.note-mine.ensures.note in
    mark_told q c.self.inside.store.last c.installed.new.self c.note-theirs.new.pass c.meet-2.new.self f (c.installed.ensures.found ∙ (sym own ∙ c.self.invariant.0.mark))

pub returns-clause-grown : goal.returns-clause-grown
returns-clause-grown g c =
    let e : c.meet-2.new.self ≡ met c.args.pass.now c.note-mine.result = c.meet-2.ensures.met ∙ ap (λ (k : Knows). met k c.note-mine.result) c.note-theirs.ensures.same in
    grown_met c.args.pass.now c.note-mine.result c.meet-2.new.self e (subst (λ (k : Knows). IsPrefix k.seen c.meet-2.new.self.seen) c.note-theirs.ensures.same c.meet-2.ensures.mine)

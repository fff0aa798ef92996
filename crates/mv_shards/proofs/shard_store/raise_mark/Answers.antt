use Rattle.std.proofs.Common.{◌≡◌, ◌∙◌, ap, subst}
use mathlib.Core.List.{IsPrefix}
use Rattle.mv_seats.specs.Knowing.{Knows, met, plain}
use Rattle.mv_shards.proofs.Stored.{mark_told, grown_met}
use Rattle.mv_shards.proofs.shard_store.raise_mark.Goals as goal

pub returns-clause-known : goal.returns-clause-known
returns-clause-known g c =
    let f : c.meet-2.new.self ≡ met c.note-theirs.new.pass (plain c.install.new.self) = c.meet-2.ensures.met ∙ ap (met c.note-theirs.new.pass) c.note-mine.ensures.note in
    mark_told c.args.shard c.args.n c.install.new.self c.note-theirs.new.pass c.meet-2.new.self f c.install.ensures.raised

pub returns-clause-grown : goal.returns-clause-grown
returns-clause-grown g c =
    let e : c.meet-2.new.self ≡ met c.args.pass.now c.note-mine.result = c.meet-2.ensures.met ∙ ap (λ (k : Knows). met k c.note-mine.result) c.note-theirs.ensures.same in
    grown_met c.args.pass.now c.note-mine.result c.meet-2.new.self e (subst (λ (k : Knows). IsPrefix k.seen c.meet-2.new.self.seen) c.note-theirs.ensures.same c.meet-2.ensures.mine)

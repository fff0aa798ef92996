use Rattle.std.proofs.Common.{◌≡◌, ◌≤◌, ◌+◌, ◌++◌, ◌∷◌, [], ◌∙◌, List, ℕ, ap, sym, subst, arith, length, length-append, slice_index}
use mathlib.Core.List.{IsPrefix}
use Rattle.mv_values.specs.Patching.{applied}
use Rattle.mv_shards.specs.Parts.{writes_in}
use Rattle.mv_shards.specs.Histories.{tables_at, last_touch}
use Rattle.mv_shards.specs.Kept.{StoredShard}
use Rattle.mv_shards.proofs.Stored.{store_drops, put_then_drop, store_commits, prefix_both, in_here}
use Rattle.mv_shards.proofs.shard_store.ShardStore.install.Goals as goal

pub invariant_of-self : goal.invariant_of-self
invariant_of-self g c = (store_drops g.N.Making.script g.N.Naming.word g.row.Q c.args.call c.self.inside.store c.put_in.new.store c.self.inside.note c.self.inside.pass c.self.invariant.0 c.in_err-put_in.ensures.err, c.self.invariant.1)

pub invariant_of-self-in-Err : goal.invariant_of-self-in-Err
invariant_of-self-in-Err g c =
    let gone = put_then_drop c.args.call (writes_in g.row.Q c.args.writes.now) c.self.inside.store c.put_in.new.store c.drop_of.new.self c.in_ok-put_in.ensures.ok c.drop_of.ensures in
    (store_drops g.N.Making.script g.N.Naming.word g.row.Q c.args.call c.self.inside.store c.drop_of.new.self c.self.inside.note c.self.inside.pass c.self.invariant.0 gone, c.self.invariant.1)

pub invariant_of-self-2 : goal.invariant_of-self-2
invariant_of-self-2 g c =
    let s = g.N.Making.script in
    let q = g.row.Q in
    let call = c.args.call in
    let ws = c.args.writes.now in
    let old = c.args.pass.now in
    let mine : List ℕ = c.self.inside.pass.seen in
    let gate : c.exchange.new.pass.seen ≡ old.seen = c.exchange.ensures.gate c.requires.may.role in
    let both : c.exchange.new.self.knows.seen ≡ c.exchange.new.pass.seen =
    prefix_both c.exchange.new.self.knows.seen c.exchange.new.pass.seen c.exchange.ensures.back (subst (λ (l : List ℕ). IsPrefix l c.exchange.new.self.knows.seen) (sym gate) c.exchange.ensures.there) in
    let view : mine ≡ c.exchange.new.self.knows.seen = ap (λ (v : StoredShard). v.knows.seen) c.self.view_is in
    let mid : mine ≡ c.exchange.new.pass.seen = view ∙ both in
    let same : mine ≡ old.seen = mid ∙ gate in
    let done = c.in-Ok.ensures.ok in
    let mark : slice_index old.marks q ≤ c.self.inside.store.last = subst (λ (v : StoredShard). slice_index old.marks q ≤ v.store.last) (sym c.self.view_is) c.exchange.ensures.mark in
    let known : last_touch s q old.seen (length old.seen) ≤ slice_index old.marks q = c.requires.may.marks q (in_here q g.L.ShardList.numbers) c.requires.touched in
    let touched : last_touch s q mine (length mine) ≤ c.self.inside.store.last = subst (λ (l : List ℕ). last_touch s q l (length l) ≤ c.self.inside.store.last) (sym same) (omega (arith, known, mark)) in
    let leads = subst (λ (l : List ℕ). applied ws (tables_at s l (length l)) ≡ tables_at s (l ++ call ∷ []) (length l + 1)) (sym same) c.requires.may.leads in
    let after : c.install.new.pass.seen ≡ mine ++ call ∷ [] = done.seen ∙ ap (λ (l : List ℕ). l ++ call ∷ []) (sym mid) in
    let number : c.in-Ok.n ≡ length mine + 1 = done.number ∙ (ap length after ∙ length-append mine (call ∷ [])) in (
      store_commits s g.N.Naming.word q call c.in-Ok.n ws c.self.inside.store c.put_in.new.store c.stamp.new.self c.self.inside.note c.self.inside.pass c.raise_mark.new.own c.self.invariant.0 c.last-last.ensures.like c.in_ok-put_in.ensures.ok c.stamp.ensures
          number touched leads c.raise_mark.ensures.role (c.raise_mark.ensures.seen ∙ after) c.raise_mark.ensures.mark,
      c.self.invariant.1,
    )

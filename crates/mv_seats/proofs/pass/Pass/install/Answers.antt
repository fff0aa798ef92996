use Rattle.std.proofs.Common.{rules, ap, ◌∙◌, ℕ, subst, sym, ◌<◌, ◌≤◌, ◌≡◌, true, length, slice_index, arith}
use Rattle.atomic_table.specs.Table.{Me}
use Rattle.mv_seats.specs.Rule.{View}
use Rattle.mv_seats.specs.Scripts.{BoardScript}
use Rattle.mv_seats.specs.Knowing.{Knows, has_role}
use Rattle.mv_seats.proofs.Marks.{at_stepped}
use Rattle.mv_seats.proofs.Steps.{raises}
use Rattle.mv_seats.proofs.pass.Pass.install.Goals as goal

pub store-requires : goal.store-requires
store-requires g c =
    let q = c.args.shard in
    let own = subst (λ (k : Knows). has_role k q ≡ true) (sym c.self.view_is) c.requires.own in
    let there = subst (λ (s : BoardScript). q < s.shards) (sym c.self.invariant.of_script) c.requires.there in
    let rises = subst (λ (k : Knows). slice_index k.marks q ≤ c.args.upto) (sym c.self.view_is) c.requires.rises in
    let seen = subst (λ (k : Knows). c.args.upto ≤ length k.seen) (sym c.self.view_is) c.requires.seen in
    let n = c.from.result in
    let up : slice_index c.self.inside.seat.me.0.knows.marks q ≤ n = omega (arith, rises, c.from.ensures) in
    let most : n ≤ length c.self.inside.seat.me.0.knows.seen = omega (arith, seen, c.from.ensures) in
    (search rules, search rules, raises _ _ _ q _ _ c.self.invariant.live own there up most)

pub returns-clause-raised : goal.returns-clause-raised
returns-clause-raised g c = ap (λ (m : Me ℕ View). slice_index m.0.knows.marks c.args.shard) c.store.ensures.2 ∙ (at_stepped c.args.shard c.from.result c.self.inside.seat.me.0.knows.marks ∙ c.from.ensures)

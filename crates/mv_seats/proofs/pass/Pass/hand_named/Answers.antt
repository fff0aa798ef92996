use Rattle.std.proofs.Common.{rules, ◌≡◌, ◌∙◌, ap, subst, sym, true}
use Rattle.mv_seats.specs.Knowing.{Knows, has_role}
use Rattle.mv_seats.proofs.Steps.{hands}
use Rattle.mv_seats.proofs.pass.Pass.hand_named.Goals as goal

pub split_seat-seat-requires : goal.split_seat-seat-requires
split_seat-seat-requires g c =
    let gated = ap (λ (k : Knows). k.role) c.self.view_is ∙ c.requires.gate in
    let has = subst (λ (k : Knows). has_role k c.args.shard ≡ true) (sym c.self.view_is) c.requires.has in
    (search rules, search rules, rw c.requires.named (hands _ _ c.args.shard _ gated has))

use Rattle.std.proofs.Common.{List, length, sym, ap, ◌∙◌, arith}
use Rattle.std.specs.Prelude.{nat_lt}
use Rattle.mv_undo.specs.Owned.{Owned}
use Rattle.mv_undo.specs.Indexing.{owned_at}
use Rattle.mv_undo.proofs.Placing.{owned_length}
use Rattle.mv_undo.proofs.items.Items.is_before.Goals as goal

pub number_of-requires : goal.number_of-requires
number_of-requires c = omega (arith, c.requires, ap length c.self.view_is, owned_length c.self.inside.writes.now c.self.inside.places.now)

pub returns : goal.returns
returns c =
    ap (λ n. nat_lt n c.args.number) (sym (c.number_of.ensures c.self.inside.writes.now) ∙ ap (λ (items : List Owned). (owned_at items c.args.place).number) c.self.view_is)

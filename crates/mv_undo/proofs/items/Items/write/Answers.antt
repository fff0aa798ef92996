use Rattle.std.proofs.Common.{List, length, ap, ◌∙◌, arith}
use Rattle.mv_undo.specs.Owned.{Owned}
use Rattle.mv_undo.specs.Indexing.{owned_at}
use Rattle.mv_undo.proofs.Placing.{owned_length}
use Rattle.mv_undo.proofs.items.Items.write.Goals as goal

pub write_of-requires-clause-place : goal.write_of-requires-clause-place
write_of-requires-clause-place c = omega (arith, c.requires, ap length c.self.view_is, owned_length c.self.inside.writes.now c.self.inside.places.now)

pub returns : goal.returns
returns c = c.write_of.ensures ∙ ap (λ (items : List Owned). (owned_at items c.args.place).write) c.self.view_is

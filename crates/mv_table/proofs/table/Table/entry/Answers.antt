use Rattle.std.proofs.Common.{◌≡◌, [], ◌∷◌, subst}
use Rattle.mv_values.specs.Patching.{row_of, standing}
use Rattle.mv_table.proofs.Storing.{entry_stands, nothing_stands}
use Rattle.mv_table.proofs.table.Table.entry.Goals as goal

pub returns-in-Some : goal.returns-in-Some
returns-in-Some c =
    subst (λ rows. record { key = c.in-Some.key.now; row = c.in-Some.row.now } ∷ [] ≡ standing c.args.key.now (row_of rows c.args.key.now)) c.self.view_is
    (entry_stands c.args.key.now c.in-Some.key.now c.in-Some.row.now c.self.inside.rows c.in-Some.ensures.key c.in-Some.ensures.item)

pub returns-in-None : goal.returns-in-None
returns-in-None c =
    subst (λ rows. [] ≡ standing c.args.key.now (row_of rows c.args.key.now)) c.self.view_is (nothing_stands c.args.key.now c.self.inside.rows c.in-None.ensures.item)

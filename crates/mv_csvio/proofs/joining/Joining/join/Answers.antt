use Rattle.std.proofs.Common.{sym, ◌∙◌}
use Rattle.mv_csvio.proofs.Entering.{stands, entered}
use Rattle.mv_csvio.proofs.joining.Joining.join.Goals as goal

pub returns-then-contains_key : goal.returns-then-contains_key
returns-then-contains_key c = stands c.args.self.now c.args.item.key c.self.inside.rows.entries c.self.view_is (sym c.contains_key.ensures ∙ c.if-contains_key.true)

pub returns : goal.returns
returns c =
    let e = c.in_ok-insert.ensures in
    entered c.args.self.now c.args.item c.self.inside.rows.entries c.insert.new.self.entries c.self.view_is (sym c.contains_key.ensures ∙ c.if-contains_key.false) e.ordered e.entries

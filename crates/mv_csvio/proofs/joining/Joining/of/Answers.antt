use Rattle.std.proofs.Common.{sym, ◌∙◌, ◌++◌, ap}
use Rattle.mv_values.specs.Keys.{stored}
use Rattle.mv_csvio.proofs.Entering.{enters_last}
use Rattle.mv_csvio.proofs.joining.Joining.of.Goals as goal

pub loop-item-preserved-in_ok-insert : goal.loop-item-preserved-in_ok-insert
loop-item-preserved-in_ok-insert c =
    let inv = c.loop-item.invariant in
    let is = ap (λ l. stored c.loop-item.by_key.entries ++ l) (sym c.in-Some.ensures.steps.0) ∙ inv.0 in
    (enters_last c.args.rows c.next.new.self.rest.items c.in-Some.item c.loop-item.by_key.entries c.insert.new.self.entries inv.1 is c.in_ok-insert.ensures.entries, inv.1)

pub loop-item-preserved : goal.loop-item-preserved
loop-item-preserved c =
    let inv = c.loop-item.invariant in
    let is = ap (λ l. stored c.loop-item.by_key.entries ++ l) (sym c.in-Some.ensures.steps.0) ∙ inv.0 in
    (enters_last c.args.rows c.next.new.self.rest.items c.in-Some.item c.loop-item.by_key.entries c.insert.new.self.entries inv.1 is c.in_ok-insert.ensures.entries, inv.1)

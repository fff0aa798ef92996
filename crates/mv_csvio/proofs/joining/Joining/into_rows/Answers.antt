use Rattle.std.proofs.Common.{sym, ◌∙◌, ◌++◌, ap}
use Rattle.mv_values.specs.Keys.{stored}
use Rattle.mv_csvio.proofs.Entering.{sorted_rises, front_below}
use Rattle.mv_csvio.proofs.joining.Joining.into_rows.Goals as goal

pub loop-key-init : goal.loop-key-init
loop-key-init c =
    let gives = c.into_iter-key-iterator.ensures.into_iter_gives in
    (tt, tt, rw c.new-rows.ensures (ap stored gives.0 ∙ c.self.view_is), sorted_rises c.args.self c.self.inside.rows.entries c.self.view_is gives.5)

pub push-requires : goal.push-requires
push-requires c =
    let inv = c.loop-key.invariant in
    front_below c.args.self c.loop-key.rows (stored c.next.new.self) (record { key = c.in-Some.key; row = c.in-Some.row }) inv.3
    (ap (λ es. c.loop-key.rows ++ stored es) (sym c.in-Some.ensures.steps) ∙ inv.2)

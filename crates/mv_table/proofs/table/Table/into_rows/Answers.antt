use Rattle.std.proofs.Common.{◌++◌, sym, ap, ◌∙◌, subst}
use Rattle.mv_values.specs.Keys.{IsRising, stored}
use Rattle.mv_table.proofs.Storing.{stored_rising, front_below}
use Rattle.mv_table.proofs.table.Table.into_rows.Goals as goal

pub loop-key-init : goal.loop-key-init
loop-key-init c = record {
  can = tt;
  ends = tt;
  rows = rw c.new-rows.ensures (ap stored (c.into_iter-key-iterator.ensures.into_iter_gives ∙ c.into_entries-key-items.ensures.items) ∙ c.self.view_is);
  rising = subst IsRising c.self.view_is (stored_rising c.self.inside.rows c.into_entries-key-items.ensures.rising);
}

pub push-requires : goal.push-requires
push-requires c =
    front_below c.loop-key.rows (stored c.next.new.self) (record { key = c.in-Some.key; row = c.in-Some.row })
    (subst IsRising (sym c.loop-key.invariant.rows ∙ ap (λ es. c.loop-key.rows ++ stored es) c.in-Some.ensures.steps) c.loop-key.invariant.rising)

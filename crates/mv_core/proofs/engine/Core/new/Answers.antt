use Rattle.std.proofs.Common.{◌∙◌}
use Rattle.mv_core.proofs.Beginning.{new_core}
use Rattle.mv_core.proofs.Lasting.{last_none}
use Rattle.mv_core.proofs.engine.Core.new.Goals as goal

pub invariant_of-result : goal.invariant_of-result
invariant_of-result c = (
  new_core c.args.script c.new-3.result c.in_ok-store.store c.new-4.result.items c.requires (c.new-3.ensures.script ∙ c.in_ok-script.ensures) c.new-3.ensures.schedule
      c.in_ok-store.ensures.database c.in_ok-store.ensures.own c.in_ok-store.ensures.last c.in_ok-store.ensures.low c.new-4.ensures.items,
  last_none c.new-3.result _ c.new-3.ensures.schedule,
)

use Rattle.mv_index.proofs.Values.{value_gone}
use Rattle.mv_index.proofs.column.remove_value.Goals as goal

pub returns : goal.returns
returns c = value_gone c.args.value.now c.args.values.now.entries c.remove.new.self.entries c.remove.ensures.updates.0 c.requires

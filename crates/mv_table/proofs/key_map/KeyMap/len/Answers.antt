use Rattle.std.proofs.Common.{subst}
use Rattle.mv_table.specs.Entries.{KeysRise}
use Rattle.mv_table.proofs.Entries.{entries_rise}
use Rattle.mv_table.proofs.key_map.KeyMap.len.Goals as goal

pub returns-clause-rising : goal.returns-clause-rising
returns-clause-rising g c = subst KeysRise c.self.view_is (entries_rise c.self.inside.entries.entries c.len.ensures.ordered)

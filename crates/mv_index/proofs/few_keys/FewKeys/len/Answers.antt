use Rattle.std.proofs.Common.{subst}
use Rattle.mv_table.specs.Entries.{KeysRise}
use Rattle.mv_index.proofs.Few.{listed_rise}
use Rattle.mv_index.proofs.few_keys.FewKeys.len.Goals as goal

pub returns-clause-rising : goal.returns-clause-rising
returns-clause-rising c = subst KeysRise c.self.view_is (listed_rise c.self.inside.keys.items c.self.invariant)

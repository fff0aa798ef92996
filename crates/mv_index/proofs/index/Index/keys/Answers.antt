use Rattle.std.proofs.Common.{◌∙◌}
use Rattle.mv_index.proofs.Parts.{are_lent, none_are_lent}
use Rattle.mv_index.proofs.index.Index.keys.Goals as goal

pub returns-in-Some-clause-keys : goal.returns-in-Some-clause-keys
returns-in-Some-clause-keys c = c.rising.ensures.keys ∙ are_lent c.args.self.now c.args.table c.args.column c.args.value.now c.in-Some.keys.now c.in-Some.ensures

pub returns-in-None-clause-keys : goal.returns-in-None-clause-keys
returns-in-None-clause-keys c = c.rising-in-None.ensures.keys ∙ (c.self.invariant ∙ none_are_lent c.args.self.now c.args.table c.args.column c.args.value.now c.in-None.ensures)

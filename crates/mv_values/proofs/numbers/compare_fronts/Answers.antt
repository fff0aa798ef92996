use Rattle.std.proofs.Common.{rules, ◌∙◌}
use Rattle.mv_values.proofs.Placing.{padded_alike}
use Rattle.mv_values.proofs.numbers.compare_fronts.Goals as goal

pub returns : goal.returns
returns c = c.cmp.ensures ∙ padded_alike c.args.items.now c.args.other_items.now c.args.len c.args.other_len (search rules) c.requires.last c.requires.other_last

use Rattle.std.proofs.Common.{rules, ◌≤◌, length, drop, sym, ◌∙◌}
use Rattle.mv_effect.proofs.Variables.{last_ends}
use Rattle.mv_effect.proofs.slots.column_for.Goals as goal

pub returns-in_default : goal.returns-in_default
returns-in_default c =
    let ends : length c.args.columns.now ≤ c.loop-i.i = search rules in
    sym (last_ends (drop c.loop-i.i c.args.to.now) c.args.columns.now c.args.x c.loop-i.last c.loop-i.i ends) ∙ c.loop-i.invariant

use Rattle.std.proofs.Common.{rules, ◌≤◌, length, drop, sym, ◌∙◌}
use Rattle.mv_eval.proofs.Putting.{values_end}
use Rattle.mv_eval.proofs.env.set_columns.Goals as goal

pub returns-in_default-clause-ok : goal.returns-in_default-clause-ok
returns-in_default-clause-ok c =
    let ends : length c.args.columns.now ≤ c.loop-i.i = search rules in
    sym (values_end c.loop-i.env (drop c.loop-i.i c.args.to.now) c.args.row.now c.args.columns.now c.loop-i.i ends) ∙ c.loop-i.invariant

use Rattle.std.proofs.Common.{◌∙◌}
use Rattle.mv_eval.proofs.Containing.{is_found}
use Rattle.mv_eval.proofs.expr.is_in.Goals as goal

pub returns : goal.returns
returns c = c.is_some.ensures ∙ is_found c.args.t.now c.args.u.now c.find.result c.find.ensures

use Rattle.std.proofs.Common.{rules, sym, ◌∙◌}
use Rattle.mv_view.proofs.Passing.{first_free, later_free}
use Rattle.mv_view.proofs.narrow.foremost_match.Goals as goal

pub returns-then-matches : goal.returns-then-matches
returns-then-matches g c =
    sym (first_free (g.K.KeySet.has c.args.passed.now) c.args.pred.now c.args.direction c.in-Some.item.now c.loop-item.left.now c.in-Some.others.now c.in-Some.ensures (search rules)) ∙ c.loop-item.invariant

pub loop-item-preserved : goal.loop-item-preserved
loop-item-preserved g c =
    sym (later_free (g.K.KeySet.has c.args.passed.now) c.args.pred.now c.args.direction c.in-Some.item.now c.loop-item.left.now c.in-Some.others.now c.in-Some.ensures (search rules)) ∙ c.loop-item.invariant

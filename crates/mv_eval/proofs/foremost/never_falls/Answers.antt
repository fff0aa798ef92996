use Rattle.std.proofs.Common.{sym, ap, ◌∙◌}
use Rattle.mv_eval.specs.FirstRows.{is_next_fixed}
use Rattle.mv_eval.proofs.Spanning.{place_there}
use Rattle.mv_eval.proofs.FirstRows.{column_never_falls}
use Rattle.mv_eval.proofs.foremost.never_falls.Goals as goal

pub returns-in-Some-clause-is : goal.returns-in-Some-clause-is
returns-in-Some-clause-is c = c.is_fixed_before.ensures.fixed ∙ ap (is_next_fixed c.args.tests.now) (sym c.in-Some.is ∙ c.place_in_key.ensures.place)

pub returns-in-Some-clause-order : goal.returns-in-Some-clause-order
returns-in-Some-clause-order c so =
    let there = place_there c.args.keys.now c.args.column c.in-Some.place (sym c.in-Some.is ∙ c.place_in_key.ensures.place) in
    column_never_falls c.args.keys.now c.args.tests.now c.args.column c.in-Some.place there.0 there.1 (c.is_fixed_before.ensures.order so)

pub returns-in-None-clause-is : goal.returns-in-None-clause-is
returns-in-None-clause-is c = ap (is_next_fixed c.args.tests.now) (sym c.in-None.is ∙ c.place_in_key.ensures.place)

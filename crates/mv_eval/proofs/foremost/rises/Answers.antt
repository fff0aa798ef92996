use Rattle.std.proofs.Common.{◌≡◌, ◌+◌, length, sym, ap, ◌∙◌, ◌&&◌, arith}
use Rattle.mv_eval.specs.FirstRows.{is_last_of, is_next_fixed}
use Rattle.mv_eval.proofs.Spanning.{place_there}
use Rattle.mv_eval.proofs.FirstRows.{column_rises, ranked, unranked}
use Rattle.mv_eval.proofs.foremost.rises.Goals as goal

pub returns-then-place-keys-clause-is : goal.returns-then-place-keys-clause-is
returns-then-place-keys-clause-is c =
    let ends : c.in-Some.place + 1 ≡ length c.args.keys.now = omega (arith, c.if-place-keys.true) in
    ranked c.args.keys.now c.args.tests.now c.args.column c.in-Some.place c.is_fixed_before.result (sym c.in-Some.is ∙ c.place_in_key.ensures.place) ends c.is_fixed_before.ensures.fixed

pub returns-then-place-keys-clause-order : goal.returns-then-place-keys-clause-order
returns-then-place-keys-clause-order c so =
    let ends : c.in-Some.place + 1 ≡ length c.args.keys.now = omega (arith, c.if-place-keys.true) in
    let there = place_there c.args.keys.now c.args.column c.in-Some.place (sym c.in-Some.is ∙ c.place_in_key.ensures.place) in
    column_rises c.args.keys.now c.args.tests.now c.args.column c.in-Some.place ends there.1 (c.is_fixed_before.ensures.last so)

pub returns-else-place-keys-clause-is : goal.returns-else-place-keys-clause-is
returns-else-place-keys-clause-is c =
    unranked c.args.keys.now c.args.tests.now c.args.column c.in-Some.place (sym c.in-Some.is ∙ c.place_in_key.ensures.place) (λ same. c.if-place-keys.false (omega (arith, same)))

pub returns-in-None-clause-is : goal.returns-in-None-clause-is
returns-in-None-clause-is c = ap (λ o. is_last_of c.args.keys.now o && is_next_fixed c.args.tests.now o) (sym c.in-None.is ∙ c.place_in_key.ensures.place)

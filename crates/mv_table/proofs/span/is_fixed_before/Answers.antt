use Rattle.std.proofs.Common.{◌≡◌, sym, ap, subst, ◌∙◌, true, arith}
use Rattle.std.specs.Option.{is_some}
use Rattle.mv_table.specs.Spans.{are_fixed_before}
use Rattle.mv_table.proofs.Scanning.{AgreeBefore, agree_more, fixed_more, unfixed, never_falls, rises_last}
use Rattle.mv_table.proofs.span.is_fixed_before.Goals as goal

pub loop-before-preserved : goal.loop-before-preserved
loop-before-preserved c = record {
  agree = agree_more c.args.tests.now c.loop-before.before c.in-Some.field-0.now c.in-Some.ensures.side c.in-Some.ensures.holds c.loop-before.invariant.agree;
  fixed = fixed_more c.args.tests.now c.loop-before.before c.loop-before.invariant.fixed (sym c.test_at.ensures.there ∙ ap is_some c.in-Some.is);
}

pub returns-in_default-clause-fixed : goal.returns-in_default-clause-fixed
returns-in_default-clause-fixed c = sym (unfixed c.args.tests.now c.loop-before.before c.args.place c.loop-before-test.true (sym c.test_at.ensures.there ∙ ap is_some c.in_default.is))

pub returns-clause-fixed : goal.returns-clause-fixed
returns-clause-fixed c =
    let end' : c.loop-before.before ≡ c.args.place = omega (arith, c.loop-before-test.false, c.loop-before.auto) in
    sym (subst (λ n. are_fixed_before c.args.tests.now n ≡ true) end' c.loop-before.invariant.fixed)

pub returns-clause-order : goal.returns-clause-order
returns-clause-order c so =
    let end' : c.loop-before.before ≡ c.args.place = omega (arith, c.loop-before-test.false, c.loop-before.auto) in
    never_falls c.args.tests.now c.args.place (subst (AgreeBefore c.args.tests.now) end' c.loop-before.invariant.agree)

pub returns-clause-last : goal.returns-clause-last
returns-clause-last c so =
    let end' : c.loop-before.before ≡ c.args.place = omega (arith, c.loop-before-test.false, c.loop-before.auto) in
    rises_last c.args.tests.now c.args.place (subst (AgreeBefore c.args.tests.now) end' c.loop-before.invariant.agree)

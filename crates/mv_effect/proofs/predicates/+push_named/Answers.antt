use Rattle.std.proofs.Common.{◌<◌, All, sym, ap, subst, ◌∙◌, arith}
use Rattle.std.proofs.lemmas.Result.{on_ok_weaker}
use Rattle.mv_catalog.specs.declared.resolved.RExpr.{RExpr}
use Rattle.mv_recorded.specs.Asking.{columns_in}
use Rattle.mv_effect.specs.Asking.{all_once, with_columns}
use Rattle.mv_effect.proofs.OnePred.{columns_then}
use Rattle.mv_effect.proofs.Parts.{parts, one_smaller, left_smaller, right_smaller, in_one, in_left, in_right, two_columns}
use Rattle.mv_effect.proofs.predicates.+push_named.Goals as goal

pub push_named-requires : goal.push_named-requires
push_named-requires t c =
    let smaller : parts c.get.result.now < parts c.args.expr.now = subst (λ (a : RExpr). parts a < parts c.args.expr.now) (sym c.get.ensures) (one_smaller c.args.expr.now c.in-One.field-0 c.in-One.a c.in-One.is) in (
      omega (arith, smaller, c.decreases),
      subst (λ (a : RExpr). All (λ n. n < 256) (columns_in a)) (sym c.get.ensures) (in_one (λ n. n < 256) c.args.expr.now c.in-One.field-0 c.in-One.a c.in-One.is c.requires),
    )

pub push_named-requires-in-Two : goal.push_named-requires-in-Two
push_named-requires-in-Two t c =
    let smaller : parts c.get-in-Two.result.now < parts c.args.expr.now = subst (λ (a : RExpr). parts a < parts c.args.expr.now) (sym c.get-in-Two.ensures) (left_smaller c.args.expr.now c.in-Two.field-0 c.in-Two.a c.in-Two.b c.in-Two.is) in (
      omega (arith, smaller, c.decreases),
      subst (λ (a : RExpr). All (λ n. n < 256) (columns_in a)) (sym c.get-in-Two.ensures) (in_left (λ n. n < 256) c.args.expr.now c.in-Two.field-0 c.in-Two.a c.in-Two.b c.in-Two.is c.requires),
    )

pub push_named-requires-in-Two-2 : goal.push_named-requires-in-Two-2
push_named-requires-in-Two-2 t c =
    let smaller : parts c.get-in-Two-2.result.now < parts c.args.expr.now = subst (λ (a : RExpr). parts a < parts c.args.expr.now) (sym c.get-in-Two-2.ensures) (right_smaller c.args.expr.now c.in-Two.field-0 c.in-Two.a c.in-Two.b c.in-Two.is) in (
      omega (arith, smaller, c.decreases),
      subst (λ (a : RExpr). All (λ n. n < 256) (columns_in a)) (sym c.get-in-Two-2.ensures) (in_right (λ n. n < 256) c.args.expr.now c.in-Two.field-0 c.in-Two.a c.in-Two.b c.in-Two.is c.requires),
    )

pub returns-in_ok-push_named-in-Two-clause-ok : goal.returns-in_ok-push_named-in-Two-clause-ok
returns-in_ok-push_named-in-Two-clause-ok t c =
    let old = c.args.log.now in
    let left = rw c.get-in-Two.ensures at c.in_ok-push_named-in-Two.ensures.ok in
    let right = rw c.get-in-Two-2.ensures at c.push_named-in-Two-2.ensures.ok in
    on_ok_weaker c.push_named-in-Two-2.result
    (λ is. columns_then old c.push_named-in-Two.new.log c.push_named-in-Two-2.new.log (columns_in c.in-Two.a) (columns_in c.in-Two.b) left is
    ∙ ap (λ cs. with_columns old (all_once old.columns cs)) (sym (two_columns c.args.expr.now c.in-Two.field-0 c.in-Two.a c.in-Two.b c.in-Two.is)))
    right

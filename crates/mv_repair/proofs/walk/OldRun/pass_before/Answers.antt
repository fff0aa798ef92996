use Rattle.std.proofs.Common.{◌≡◌, ◌≤◌, true, length, sym, ap, rules, subst, ◌∙◌, arith}
use Rattle.mv_repair.specs.declared.walk.OldRun.{OldRun}
use Rattle.mv_repair.specs.Walking.{any_write, next_writes, HasPassed}
use Rattle.mv_repair.proofs.Passing.{noted_longer, passed_next, passed_then}
use Rattle.mv_repair.proofs.walk.OldRun.pass_before.Goals as goal

pub pass_next-requires : goal.pass_next-requires
pass_next-requires c =
    let yes : c.in_ok-is_before.field-0 ≡ true = search rules in
    c.in_ok-is_before.ensures.there yes

pub loop-self-smaller : goal.loop-self-smaller
loop-self-smaller c =
    let yes : c.in_ok-is_before.field-0 ≡ true = search rules in
    let there = c.in_ok-is_before.ensures.there yes in
    let next = ap (λ (o : OldRun). o.at) c.in_ok-pass_next.ensures in
    omega (arith, there, next)

pub loop-self-preserved : goal.loop-self-preserved
loop-self-preserved c =
    let now = c.loop-self.self in
    let yes : c.in_ok-is_before.field-0 ≡ true = search rules in
    record {
      passed = subst (λ (o : OldRun). HasPassed c.args.past.now c.args.self.now c.args.path.now o) (sym c.in_ok-pass_next.ensures)
          (passed_then c.args.past.now c.args.self.now now _ c.args.path.now c.loop-self.invariant.passed (passed_next c.args.past.now now c.args.path.now (sym c.in_ok-is_before.ensures.is ∙ yes)));
      on = let next = ap (λ (o : OldRun). o.at) c.in_ok-pass_next.ensures in omega (arith, next, c.loop-self.invariant.on);
      within = subst (λ (o : OldRun). o.known ≤ length o.others) (sym c.in_ok-pass_next.ensures) (noted_longer now.known now.at now.others (any_write (next_writes c.args.past.now now)) c.loop-self.invariant.within);
    }

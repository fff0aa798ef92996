use Rattle.std.proofs.Common.{◌≡◌, ◌+◌, ◌-◌, None, drop, length, refl, sym, subst, ◌∙◌, arith}
use Rattle.mv_recorded.specs.Reading.{last_place, sets_variable}
use Rattle.mv_recorder.proofs.Reading.{none_yet, none_before, last_is, none_at_all}
use Rattle.mv_recorder.proofs.reads.last_setter.Goals as goal

pub loop-left-init : goal.loop-left-init
loop-left-init c = record {
  none = none_yet (sets_variable c.args.x) (length c.args.records.now) c.args.records.now refl;
  within = omega arith;
}

pub loop-left-preserved : goal.loop-left-preserved
loop-left-preserved c =
    let at : c.loop-left.left ≡ c.loop-left.left - 1 + 1 = omega (arith, c.loop-left-test.true) in
    record {
      none =
          none_before (sets_variable c.args.x) (c.loop-left.left - 1) c.index-records-left.result c.args.records.now (omega (arith, c.loop-left-test.true, c.loop-left.invariant.within)) c.index-records-left.is (sym c.sets.ensures ∙ c.if-sets.false)
          (subst (λ n. last_place (sets_variable c.args.x) n (drop n c.args.records.now) ≡ None) at c.loop-left.invariant.none);
      within = omega (arith, c.loop-left.invariant.within);
    }

pub returns-then-sets : goal.returns-then-sets
returns-then-sets c =
    let at : c.loop-left.left ≡ c.loop-left.left - 1 + 1 = omega (arith, c.loop-left-test.true) in
    last_is (sets_variable c.args.x) (c.loop-left.left - 1) c.index-records-left.result c.args.records.now (omega (arith, c.loop-left-test.true, c.loop-left.invariant.within)) c.index-records-left.is (sym c.sets.ensures ∙ c.if-sets.true)
    (subst (λ n. last_place (sets_variable c.args.x) n (drop n c.args.records.now) ≡ None) at c.loop-left.invariant.none)

pub returns : goal.returns
returns c = none_at_all (sets_variable c.args.x) c.loop-left.left c.args.records.now c.loop-left-test.false c.loop-left.invariant.none

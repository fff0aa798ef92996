use Rattle.std.specs.Prelude.{option_map, option_to_list}
use Rattle.std.proofs.Common.{◌≡◌, ◌<◌, ◌≤◌, ◌+◌, ◌++◌, List, length, sym, ap, subst, ◌∙◌, arith}
use Rattle.mv_why.specs.declared.run.Runs.{Runs}
use Rattle.mv_why.specs.declared.walk.Walk.{Walk}
use Rattle.mv_why.specs.declared.cause.Cause.{Cause}
use Rattle.mv_why.specs.Causes.{cause_of, why_reason}
use Rattle.mv_why.specs.Walking.{IsOn, kept_of}
use Rattle.mv_why.proofs.Ending.{one_more, all_in}
use Rattle.mv_why.proofs.Going.{begins}
use Rattle.mv_why.proofs.causes.causes_along.Goals as goal

pub loop-number-init : goal.loop-number-init
loop-number-init c =
    let runs : Runs = c.args.runs.now in
    record {
      on = subst (IsOn runs) (sym c.new-walk.ensures) (begins (kept_of runs) runs.old.records runs.fresh.records);
      long = ap (λ (w : Walk). length w.kept) c.new-walk.ensures;
      told = c.new-causes.ensures;
    }

pub next_reason-requires-clause-on : goal.next_reason-requires-clause-on
next_reason-requires-clause-on c = c.loop-number.invariant.on

pub next_reason-requires-clause-more : goal.next_reason-requires-clause-more
next_reason-requires-clause-more c =
    let lt : c.loop-number.number < length c.args.runs.now.fresh.records = subst (λ n. c.loop-number.number < n) c.len-number-end.ensures c.loop-number-test.true in
    omega (arith, lt, c.loop-number.invariant.long)

pub loop-number-preserved : goal.loop-number-preserved
loop-number-preserved c =
    let runs : Runs = c.args.runs.now in
    let n = c.loop-number.number in
    let lt : n < length runs.fresh.records = subst (λ m. n < m) c.len-number-end.ensures c.loop-number-test.true in
    let told : c.in_ok-reason.reason ≡ why_reason runs.old.records runs.fresh.records runs.since.now n = c.in_ok-reason.ensures.reason ∙ ap (why_reason runs.old.records runs.fresh.records runs.since.now) c.loop-number.invariant.long in
    record {
      on = c.in_ok-reason.ensures.on;
      long = c.in_ok-reason.ensures.more ∙ ap (λ m. m + 1) c.loop-number.invariant.long;
      told = c.in_ok-add.ensures ∙ (ap (λ (l : List Cause). l ++ option_to_list (option_map (cause_of n) c.in_ok-reason.reason)) c.loop-number.invariant.told ∙ sym (one_more runs n c.in_ok-reason.reason c.requires lt told));
    }

pub returns : goal.returns
returns c =
    let runs : Runs = c.args.runs.now in
    let le : length runs.fresh.records ≤ c.loop-number.number = subst (λ n. n ≤ c.loop-number.number) c.len-number-end.ensures c.loop-number-test.false in
    c.loop-number.invariant.told ∙ all_in runs c.loop-number.number le

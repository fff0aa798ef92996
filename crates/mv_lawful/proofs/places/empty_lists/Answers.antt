use Rattle.std.proofs.Common.{◌≡◌, ◌++◌, ◌∷◌, [], map, ap, ◌∙◌, arith}
use Rattle.mv_values.specs.Counts.{first_numbers}
use Rattle.mv_lawful.proofs.Starting.{no_calls, empty_more}
use Rattle.mv_lawful.proofs.places.empty_lists.Goals as goal

pub loop-n-preserved : goal.loop-n-preserved
loop-n-preserved c = record {
  within = let less = c.loop-n-test.true in omega (arith, less);
  are = c.in_ok-push.ensures.ok ∙ (ap (λ l. c.loop-n.lists ++ l ∷ []) c.new.ensures ∙ (ap (λ ls. ls ++ [] ∷ []) c.loop-n.invariant.are ∙ empty_more c.loop-n._n));
}

pub returns : goal.returns
returns c =
    let within = c.loop-n.invariant.within in
    let past = c.loop-n-test.false in
    let all : c.loop-n._n ≡ c.args.count = omega (arith, within, past) in
    c.loop-n.invariant.are ∙ ap (λ m. map (λ k. no_calls) (first_numbers m)) all

use Rattle.std.proofs.Common.{◌≡◌, ◌+◌, Some, refl, ap, ◌∙◌}
use Rattle.std.specs.Prelude.{slice_get}
use Rattle.mv_exec.proofs.Logs.{get_in}
use Rattle.mv_repair.specs.Walking.{added}
use Rattle.mv_repair.proofs.repair.keep.Goals as goal

pub returns-clause-kept : goal.returns-clause-kept
returns-clause-kept c =
    let past = c.args.task.now.log.past in
    let is = c.in_ok-number.ensures in
    let it = get_in past c.args.old.now.at c.requires.there in
    let there : slice_get past c.in_ok-number.number ≡ Some it.0 = ap (slice_get past) is ∙ it.1 in
    record {
      given = it.0;
      there = it.1;
      old_is = refl;
      new_is = c.in_ok-add.ensures ∙ ap (λ n. added (Some n) c.args.new.now) is;
      adopted = c.in_ok-adopt.ensures.adopted it.0 there;
      goes_on = c.in_ok-adopt.ensures.goes_on it.0 there;
      past = c.adopt.ensures.past;
      kept = c.in_ok-adopt.ensures.kept ∙ ap (λ n. n + 1) is;
    }

use Rattle.std.proofs.Common.{ap, ◌∙◌}
use Rattle.std.specs.Option.{option_copied}
use Rattle.mv_values.specs.Preds.{sees}
use Rattle.mv_history.specs.Changes.{is_same}
use Rattle.mv_audit.proofs.Hitting.{tells_same}
use Rattle.mv_audit.proofs.hit.sees_same.Goals as goal

pub returns : goal.returns
returns c =
    let p = c.args.pred.now in
    let change = c.args.change.now in
    tells_same c.same.result (sees p (option_copied c.as_ref.result)) (sees p (option_copied c.as_ref-2.result)) c.same.ensures
    ∙ (ap (λ x. is_same (sees p x) (sees p (option_copied c.as_ref-2.result))) c.as_ref.ensures.value ∙ ap (λ x. is_same (sees p change.before) (sees p x)) c.as_ref-2.ensures.value)

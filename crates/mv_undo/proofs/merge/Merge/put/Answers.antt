use Rattle.std.proofs.Common.{◌++◌, ◌∷◌, [], All, List, sym, ap, subst, ◌∙◌}
use Rattle.mv_values.specs.declared.value.Value.{Value}
use Rattle.mv_values.specs.Keys.{IsBelow}
use Rattle.mv_undo.proofs.Merging.{below_later, below_put}
use Rattle.mv_undo.proofs.merge.Merge.put.Goals as goal

pub returns-in_ok-push-clause-below : goal.returns-in_ok-push-clause-below
returns-in_ok-push-clause-below c = λ later less.
    let done = c.pass.new.self.done in
    let is = c.in_ok-push.ensures.ok ∙ ap (λ (k : List Value). done ++ record { key = k; row = c.in-Some.row } ∷ []) c.in_ok-key.ensures in
    subst (All (IsBelow later)) (sym is) (below_put c.args.key.now later c.in-Some.row done less c.in_ok-pass.ensures.below)

pub returns-in_default-clause-below : goal.returns-in_default-clause-below
returns-in_default-clause-below c = λ later less. below_later c.args.key.now later c.pass.new.self.done less c.in_ok-pass.ensures.below

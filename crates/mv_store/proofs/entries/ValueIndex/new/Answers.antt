use Rattle.std.proofs.Common.{◌≡◌, ◌∙◌, sym, subst, true}
use Rattle.mv_values.specs.Testing.{are_tested}
use Rattle.mv_store.proofs.Covered.{opened_index}
use Rattle.mv_store.proofs.entries.ValueIndex.new.Goals as goal

pub returns : goal.returns
returns c = opened_index c.args.opening.now c.in_ok-index.index c.requires c.in_ok-index.ensures.covers c.in_ok-index.ensures.only

pub invariant_of-result : goal.invariant_of-result
invariant_of-result c t n on = subst (λ cs. are_tested cs t n ≡ true) (sym c.in_ok-columns.ensures) (sym (c.in_ok-index.ensures.indexed t n) ∙ on)

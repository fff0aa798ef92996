use Rattle.std.proofs.Common.{◌≡◌, ◌++◌, ◌∷◌, [], ap, subst, ◌∙◌, true}
use Rattle.std.specs.Ordering.{is_le}
use Rattle.mv_values.specs.declared.value.Value.TheVariants.{Text}
use Rattle.mv_values.specs.Order.{value_order}
use Rattle.mv_table.proofs.Spanning.{text_above}
use Rattle.mv_table.proofs.span.value_above.Goals as goal

pub returns-in_ok-append-in-Text : goal.returns-in_ok-append-in-Text
returns-in_ok-append-in-Text c = λ v h.
    ap (λ t. value_order v (Text t)) (c.in_ok-append-in-Text.ensures.ok ∙ ap (λ t. t ++ 32 ∷ []) c.in_ok-longer-in-Text.ensures)
    ∙ text_above c.in-Text.text 32 v (subst (λ w. is_le (value_order v w) ≡ true) c.in-Text.is h)

-- One item of SET after another.
use Rattle.std.proofs.Common.{◌≡◌, ℕ, ◌+◌, ◌<◌, List, ◌∷◌, Result, Ok, length, drop, slice_index_or, sym, ap, ◌∙◌}
use Rattle.std.proofs.lemmas.List.{drop_more}
use Rattle.mv_values.specs.declared.value.Value.{Value}
use Rattle.mv_values.specs.declared.calls.End.{End}
use Rattle.mv_catalog.specs.declared.resolved.RSetItem.{RSetItem}
use Rattle.mv_eval.specs.declared.state.Env.{Env}
use Rattle.mv_eval.specs.Results.{then_do}
use Rattle.mv_eval.specs.Value.{value_of}
use Rattle.mv_eval.specs.Changes.{with_column, set_row_by}

-- an item evaluated, fitted and set
pub set_step : (fits : ℕ → Value → Result Value End) (keys : List ℕ) (env : Env) (was : List Value) (items : List RSetItem) (i : ℕ) (item : RSetItem) (row new : List Value) (v w : Value)
    (meant : Result (List Value) End) → i < length items → item ≡ slice_index_or items i item → value_of item.right env was ≡ Ok v → fits item.column v ≡ Ok w
    → new ≡ with_column keys item.column w row → set_row_by fits keys env was (drop i items) row ≡ meant → set_row_by fits keys env was (drop (i + 1) items) new ≡ meant
set_step fits keys env was items i item row new v w meant within is value fitted is_new so_far =
    let rest : List RSetItem = drop (i + 1) items in
    let from : drop i items ≡ item ∷ rest = drop_more items i item within ∙ ap (λ x. x ∷ rest) (sym is) in
    ap (set_row_by fits keys env was rest) is_new
    ∙ (sym (ap (λ r. then_do r (λ y. set_row_by fits keys env was rest (with_column keys item.column y row))) fitted)
    ∙ (sym (ap (λ r. then_do r (λ x. then_do (fits item.column x) (λ y. set_row_by fits keys env was rest (with_column keys item.column y row)))) value)
    ∙ (sym (ap (λ is. set_row_by fits keys env was is row) from) ∙ so_far)))

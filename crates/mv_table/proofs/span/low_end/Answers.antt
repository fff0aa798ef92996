use Rattle.std.proofs.Common.{◌≡◌, ◌++◌, ◌∷◌, [], subst, ap, ◌∙◌, IfSome, false, List}
use Rattle.std.specs.Ordering.{is_lt}
use Rattle.mv_values.specs.declared.value.Value.{Value}
use Rattle.mv_values.specs.Columns.{column_of}
use Rattle.mv_values.specs.Order.{value_order}
use Rattle.mv_table.specs.Spans.{Admits}
use Rattle.mv_table.proofs.Spanning.{low_with}
use Rattle.mv_table.proofs.span.low_end.Goals as goal

pub returns-in_ok-key_with-in-Some : goal.returns-in_ok-key_with-in-Some
returns-in_ok-key_with-in-Some c =
    low_with c.args.tests.now c.args.front c.in_ok-key_with-in-Some.field-0 c.in_ok-least_at.field-0 c.in-Some.least c.in-Some.is
    (subst (λ n. IfSome c.in_ok-least_at.field-0 (λ v. (key : List Value) → Admits c.args.tests.now key → is_lt (value_order (column_of key n) v) ≡ false)) c.len.ensures c.in_ok-least_at.ensures.least)
    c.in_ok-least_at.ensures.above (c.in_ok-key_with-in-Some.ensures ∙ ap (λ l. l ++ c.in-Some.least ∷ []) c.as_slice-in-Some.ensures)

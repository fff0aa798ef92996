-- Rows that are alike to a predicate are seen alike.
use Rattle.std.proofs.Common.{◌≡◌, Bool, true, false, List, [], ◌∷◌, ◌++◌, Option, Some, None, map, if◌then◌else◌, refl, ap, ◌∙◌}
use Rattle.std.specs.Prelude.{ℕ, ◌&&◌}
use Rattle.std.specs.List.{list_all}
use Rattle.std.specs.Option.{option_map}
use Rattle.mv_values.specs.declared.value.Value.{Value}
use Rattle.mv_values.specs.declared.pred.Pred.{Pred}
use Rattle.mv_values.specs.declared.pred.Test.{Test}
use Rattle.mv_values.specs.Columns.{column_of, columns_of}
use Rattle.mv_values.specs.Preds.{allows, passes, matches, sees}
use Rattle.mv_values.proofs.KeyOrder.{tied}
use Rattle.mv_history.specs.Hits.{named_columns, is_alike}

columns_parts : (a b : List Value) (cs ds : List ℕ) → columns_of a (cs ++ ds) ≡ columns_of b (cs ++ ds) → (columns_of a cs ≡ columns_of b cs) × (columns_of a ds ≡ columns_of b ds)
columns_parts a b [] ds h = (refl, h)
columns_parts a b (c ∷ cs) ds h =
    let first : column_of a c ≡ column_of b c = cc in
    let rest : columns_of a (cs ++ ds) ≡ columns_of b (cs ++ ds) = cc in
    let more = columns_parts a b cs ds rest in
    (ap (λ v. v ∷ columns_of a cs) first ∙ ap (λ l. column_of b c ∷ l) more.0, more.1)

tests_same : (a b : List Value) (tests : List Test) → columns_of a (map (λ t. t.column) tests) ≡ columns_of b (map (λ t. t.column) tests) → list_all (passes a) tests ≡ list_all (passes b) tests
tests_same a b [] h = refl
tests_same a b (t ∷ ts) h =
    let first : column_of a t.column ≡ column_of b t.column = cc in
    let rest : columns_of a (map (λ t. t.column) ts) ≡ columns_of b (map (λ t. t.column) ts) = cc in
    ap (λ v. allows t v && list_all (passes a) ts) first ∙ ap (λ x. allows t (column_of b t.column) && x) (tests_same a b ts rest)

pub alike_sees : (p : Pred) (a b : Option (List Value)) → is_alike p a b ≡ true → sees p a ≡ sees p b
alike_sees p None None h = refl
alike_sees p (Some a) (Some b) h =
    let both = columns_parts a b p.columns (map (λ t. t.column) p.tests) (tied (columns_of a (named_columns p)) (columns_of b (named_columns p)) h) in
    ap (λ t. option_map (λ r. columns_of r p.columns) (if t then Some a else None)) (tests_same a b p.tests both.1) ∙ by (matches p b) both.0
  where
    by : (t : Bool) → columns_of a p.columns ≡ columns_of b p.columns → option_map (λ r. columns_of r p.columns) (if t then Some a else None) ≡ option_map (λ r. columns_of r p.columns) (if t then Some b else None)
    by true e = ap Some e
    by false e = refl
alike_sees p None (Some b) h = cc
alike_sees p (Some a) None h = cc

-- Rows that hold a key in a column, and the tests that they meet.
use Rattle.std.proofs.Common.{◌≡◌, ℕ, Bool, cond, List, [], ◌∷◌, All, map, refl, ap, ◌∙◌}
use Rattle.std.specs.Prelude.{◌&&◌}
use Rattle.std.specs.List.{filter}
use Rattle.std.specs.Ordering.{is_eq}
use Rattle.std.proofs.lemmas.List.Elements.{All-map}
use Rattle.mv_values.specs.declared.value.Value.{Value}
use Rattle.mv_values.specs.declared.op.Op.TheVariants.{Eq}
use Rattle.mv_values.specs.declared.rows.Keyed.{Keyed}
use Rattle.mv_values.specs.Columns.{column_of}
use Rattle.mv_values.specs.Order.{value_order}
use Rattle.mv_values.specs.Preds.{meets}
use Rattle.mv_eval.specs.References.{holds_key}
use Rattle.mv_eval.specs.Rows.{matching, test_on, IsPlaced}

pub child_meets : (ks : List ℕ) (c : ℕ) (key : List Value) (item : Keyed) → meets (map (λ v. test_on ks c Eq v) key) item.row ≡ holds_key c key item
child_meets ks c [] item = refl
child_meets ks c (v ∷ vs) item = ap (λ b. is_eq (value_order (column_of item.row c) v) && b) (child_meets ks c vs item)

pub filter_same : (p q : Keyed → Bool) (rows : List Keyed) → ((r : Keyed) → p r ≡ q r) → filter p rows ≡ filter q rows
filter_same p q [] h = refl
filter_same p q (r ∷ rs) h = ap (λ b. cond b (r ∷ filter p rs) (filter p rs)) (h r) ∙ ap (λ l. cond (q r) (r ∷ l) l) (filter_same p q rs h)

-- the rows that meet the tests of a key hold it
pub matching_key : (ks : List ℕ) (c : ℕ) (key : List Value) (rows : List Keyed) → matching (map (λ v. test_on ks c Eq v) key) rows ≡ filter (holds_key c key) rows
matching_key ks c key rows = filter_same (λ item. meets (map (λ v. test_on ks c Eq v) key) item.row) (holds_key c key) rows (λ item. child_meets ks c key item)

-- these tests have their places
pub key_tests_placed : (ks : List ℕ) (c : ℕ) (key : List Value) → All (IsPlaced ks) (map (λ v. test_on ks c Eq v) key)
key_tests_placed ks c key = All-map (IsPlaced ks) (λ v. test_on ks c Eq v) key (λ k d lt. refl)

-- Items that set columns, one list after another.
use Rattle.std.proofs.Common.{◌≡◌, ◌==◌, ℕ, Bool, true, false, List, [], ◌∷◌, ◌++◌, refl, sym, ap, ◌∙◌, inl, inr}
use Rattle.std.specs.Prelude.{◌||◌, slice_set}
use Rattle.std.proofs.lemmas.Bool.{cases_Bool}
use Rattle.mv_values.specs.declared.value.Value.{Value}
use Rattle.mv_values.specs.declared.patch.Assign.{Assign}
use Rattle.mv_values.specs.Patching.{with_columns, is_set}
use Rattle.mv_values.proofs.Setting.{columns_append, overwritten}
use Rattle.mv_record.specs.Composing.{left_by}

either : (a b : Bool) → b ≡ true → a || b ≡ true
either true b h = refl
either false b h = h

set_either : (c : ℕ) (xs ys : List Assign) → is_set c ys ≡ true → is_set c (xs ++ ys) ≡ true
set_either c [] ys h = h
set_either c (x ∷ xs) ys h = either (x.column == c) (is_set c (xs ++ ys)) (set_either c xs ys h)

-- the items left, and then the next ones, do what all do
left_is : (xs next : List Assign) (row : List Value) → with_columns next (with_columns (left_by next xs) row) ≡ with_columns next (with_columns xs row)
left_is [] next row = refl
left_is (x ∷ xs) next row = elim (cases_Bool (is_set x.column next)) [
  | inl t ↦
      rw t (left_is xs next row
      ∙ (sym (columns_append xs next row)
      ∙ (sym (overwritten x.column x.value (xs ++ next) row (set_either x.column xs next t)) ∙ columns_append xs next (slice_set row x.column x.value))))
  | inr f ↦ rw f (left_is xs next (slice_set row x.column x.value))
]

pub joined_is : (xs next both : List Assign) (row : List Value) → both ≡ left_by next xs ++ next → with_columns both row ≡ with_columns next (with_columns xs row)
joined_is xs next both row is = ap (λ l. with_columns l row) is ∙ (columns_append (left_by next xs) next row ∙ left_is xs next row)

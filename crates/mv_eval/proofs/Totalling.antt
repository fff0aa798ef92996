-- What aggregates give, row by row.
use Rattle.std.proofs.Common.{◌≡◌, ℕ, ◌+◌, ◌<◌, ℤ, ◌+ℤ◌, List, ◌∷◌, length, drop, map, slice_index_or, refl, sym, ap, ◌∙◌}
use Rattle.std.proofs.Math.IntN.{+ℤ_assoc}
use Rattle.std.proofs.lemmas.List.{drop_more}
use Rattle.mv_values.specs.declared.rows.Keyed.{Keyed}
use Rattle.mv_values.specs.Columns.{column_of, number}
use Rattle.mv_eval.specs.Rows.{column, sum_of}

module _ {A : Type 0} (seen : A → Keyed) where
  -- the row at a place is the first of those from there on
  pub column_at : (c : ℕ) (xs : List A) (i j : ℕ) (x : A) → j ≡ i + 1 → i < length xs → x ≡ slice_index_or xs i x → column c (map seen (drop i xs)) ≡ column_of (seen x).row c ∷ column c (map seen (drop j xs))
  column_at c xs i j x next lt is =
      ap (λ l. column c (map seen l)) (drop_more xs i x lt)
      ∙ (ap (λ y. column_of (seen y).row c ∷ column c (map seen (drop (i + 1) xs))) (sym is) ∙ ap (λ n. column_of (seen x).row c ∷ column c (map seen (drop n xs))) (sym next))

  -- the number of a row goes over into the sum
  pub sum_step : (c : ℕ) (xs : List A) (i : ℕ) (x : A) (sum n new all : ℤ) → i < length xs → x ≡ slice_index_or xs i x → n ≡ number (column_of (seen x).row c) → new ≡ sum +ℤ n
      → sum +ℤ sum_of (column c (map seen (drop i xs))) ≡ all → new +ℤ sum_of (column c (map seen (drop (i + 1) xs))) ≡ all
  sum_step c xs i x sum n new all lt is value is_new so_far =
      let rest : ℤ = sum_of (column c (map seen (drop (i + 1) xs))) in
      ap (λ z. z +ℤ rest) is_new ∙ (+ℤ_assoc sum n rest ∙ (ap (λ z. sum +ℤ (z +ℤ rest)) value
      ∙ (ap (λ vs. sum +ℤ sum_of vs) (sym (column_at c xs i (i + 1) x refl lt is)) ∙ so_far)))

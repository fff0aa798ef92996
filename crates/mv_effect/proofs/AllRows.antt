-- Rows of which a statement takes all.
use Rattle.std.proofs.Common.{◌≡◌, ◌==◌, not, List, [], ◌∷◌, length, map, refl, sym, ◌∙◌, rules}
use Rattle.std.proofs.lemmas.List.{map-id}
use Rattle.mv_values.specs.declared.rows.Keyed.{Keyed}
use Rattle.mv_eval.specs.Rows.{is_some_row, matching}
use Rattle.mv_recorded.proofs.Matching.{matching_all}

pub all_rows : (rows : List Keyed) → map (λ k. k) rows ≡ matching [] rows
all_rows rows = map-id rows ∙ sym (matching_all rows)

pub some_row : (rows : List Keyed) → not (length rows == 0) ≡ is_some_row (matching [] rows)
some_row [] = refl
some_row (x ∷ rows) = search rules

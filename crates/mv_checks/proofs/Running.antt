-- Checks as the code runs them.
use Rattle.std.proofs.Common.{◌≡◌, ◌≤◌, ◌<◌, ◌+◌, ℕ, zero, suc, Bool, not, List, [], ◌∷◌, Option, Some, None, Result, map, drop, length, slice_index_or, refl, sym, ap, subst, ◌∙◌}
use Rattle.std.specs.Prelude.{◌&&◌}
use Rattle.std.specs.List.{list_all}
use Rattle.std.proofs.lemmas.List.{drop_all, drop_more}
use Rattle.mv_values.specs.declared.value.Value.{Value}
use Rattle.mv_values.specs.declared.rows.Keyed.{Keyed}
use Rattle.mv_values.specs.declared.calls.End.{End}
use Rattle.mv_values.specs.Keys.{keys}
use Rattle.mv_eval.specs.Rows.{is_some_row}
use Rattle.mv_recorded.specs.Asking.{Check, is_among}
use Rattle.mv_recorded.specs.Own.{Each}
use Rattle.mv_recorded.proofs.Checked.{Follows}
use Rattle.mv_checks.specs.declared.check.Check as code
use Rattle.mv_checks.specs.Checking.{meant, HasValue}

-- Keys of rows

pub all_keys : (f : List Value → Bool) (rows : List Keyed) → list_all (λ (item : Keyed). f item.key) rows ≡ list_all f (keys rows)
all_keys f [] = refl
all_keys f (r ∷ rs) = ap (λ b. f r.key && b) (all_keys f rs)

-- no row has one of no keys
pub none_among : (rows : List Keyed) → not (is_some_row rows) ≡ list_all (is_among []) (keys rows)
none_among [] = refl
none_among (r ∷ rs) = refl

-- Values

-- where no check fails there are values without parents too
pub follows_on : {A : Type 0} (o : Option End) (checked plain : Result A End) → Follows o checked plain → None ≡ o → HasValue plain
follows_on None checked plain h is = (h.0, h.2)
follows_on (Some e) checked plain h is = cc

-- Checks of the code

-- those from a place on
pub meant_from : (found : List (List Value)) (checks : List code.Check) (i : ℕ) (c : code.Check) → i < length checks → c ≡ slice_index_or checks i c
    → map (meant found) (drop i checks) ≡ meant found c ∷ map (meant found) (drop (i + 1) checks)
meant_from found checks i c lt is = ap (map (meant found)) (drop_more checks i c lt ∙ ap (λ x. x ∷ drop (i + 1) checks) (sym is))

pub meant_none : (found : List (List Value)) (checks : List code.Check) (i : ℕ) → length checks ≤ i → map (meant found) (drop i checks) ≡ []
meant_none found checks i le = ap (map (meant found)) (drop_all i checks le)

-- what holds of each holds of the one at a place
pub each_from : (P : Check → Type 0) (found : List (List Value)) (checks : List code.Check) (i : ℕ) (c : code.Check) → i < length checks → c ≡ slice_index_or checks i c → Each P (map (meant found) (drop i checks)) → P (meant found c)
each_from P found checks i c lt is h = (subst (Each P) (meant_from found checks i c lt is) h).0

pub each_at : (P : Check → Type 0) (found : List (List Value)) (checks : List code.Check) (i : ℕ) → Each P (map (meant found) checks) → Each P (map (meant found) (drop i checks))
each_at P found checks zero h = h
each_at P found [] (suc i) h = tt
each_at P found (c ∷ cs) (suc i) h = each_at P found cs i h.1

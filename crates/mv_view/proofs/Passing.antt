-- Rows that are found outside a set of keys.
use Rattle.std.proofs.Common.{◌≡◌, Bool, true, false, cond, List, [], ◌∷◌, Some, sym, ap, ◌∙◌, refl}
use Rattle.std.specs.Prelude.{not, ◌&&◌}
use Rattle.std.specs.List.{filter}
use Rattle.mv_values.specs.declared.value.Value.{Value}
use Rattle.mv_values.specs.declared.rows.Keyed.{Keyed}
use Rattle.mv_values.specs.declared.pred.Pred.{Pred}
use Rattle.mv_values.specs.Preds.{matches}
use Rattle.mv_table.specs.declared.scan.Direction.{Direction}
use Rattle.mv_table.specs.Scans.{foremost, with_foremost}
use Rattle.mv_table.proofs.Scanning.{foremost_kept, foremost_passed}
use Rattle.mv_view.specs.Narrowing.{matching, outside}

-- both tests of a row at once
abbrev pub is_free_match : (List Value → Bool) → Pred → Keyed → Bool
is_free_match has pred item = not (has item.key) && matches pred item.row

both_tests : (has : List Value → Bool) (pred : Pred) (rows : List Keyed) → filter (is_free_match has pred) rows ≡ outside has (matching pred rows)
both_tests has pred [] = refl
both_tests has pred (x ∷ xs) = by (matches pred x.row) (not (has x.key)) refl (both_tests has pred xs)
  where
    by : (m n : Bool) → not (has x.key) ≡ n → filter (is_free_match has pred) xs ≡ outside has (matching pred xs)
        → cond (n && m) (x ∷ filter (is_free_match has pred) xs) (filter (is_free_match has pred) xs) ≡ outside has (cond m (x ∷ matching pred xs) (matching pred xs))
    by true true is more = rw is (ap (λ l. x ∷ l) more)
    by true false is more = rw is more
    by false true is more = more
    by false false is more = more

-- a row that is met, and passes both tests, is the first
pub first_free : (has : List Value → Bool) (pred : Pred) (d : Direction) (x : Keyed) (left rest : List Keyed) → left ≡ with_foremost d x rest → is_free_match has pred x ≡ true → foremost d (outside has (matching pred left)) ≡ Some x
first_free has pred d x left rest is free =
    ap (foremost d) (sym (both_tests has pred left) ∙ ap (filter (is_free_match has pred)) is) ∙ foremost_kept (is_free_match has pred) d x rest free

-- one that fails a test is passed over
pub later_free : (has : List Value → Bool) (pred : Pred) (d : Direction) (x : Keyed) (left rest : List Keyed) → left ≡ with_foremost d x rest → is_free_match has pred x ≡ false
    → foremost d (outside has (matching pred left)) ≡ foremost d (outside has (matching pred rest))
later_free has pred d x left rest is other =
    ap (foremost d) (sym (both_tests has pred left) ∙ ap (filter (is_free_match has pred)) is) ∙ (foremost_passed (is_free_match has pred) d x rest other ∙ ap (foremost d) (both_tests has pred rest))

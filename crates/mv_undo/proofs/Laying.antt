-- The rows of a predicate behind own writes.
use Rattle.std.proofs.Common.{◌≡◌, ◌≤◌, drop, slice_index_or, ℕ, zero, suc, ◌+◌, ◌<◌, Bool, true, false, cond, List, [], ◌∷◌, Option, length, refl, sym, ap, subst, ◌∙◌, arith}
use Rattle.std.proofs.lemmas.List.{drop_more}
use Rattle.std.specs.Prelude.{◌&&◌, ◌||◌}
use Rattle.std.specs.Ordering.{is_eq}
use Rattle.mv_values.specs.declared.value.Value.{Value}
use Rattle.mv_values.specs.declared.rows.Keyed.{Keyed}
use Rattle.mv_values.specs.declared.patch.Write.{Write}
use Rattle.mv_values.specs.declared.pred.Pred.{Pred}
use Rattle.mv_values.specs.Keys.{IsRising}
use Rattle.mv_values.specs.Order.{key_order}
use Rattle.mv_values.specs.Patching.{row_of, placed, applied, found_by}
use Rattle.mv_values.specs.Preds.{admits, matched}
use Rattle.mv_values.specs.Tables.{rows_at}
use Rattle.mv_values.proofs.KeyOrder.{tied}
use Rattle.mv_record.specs.Writes.{is_on, writes_on, patched_by, AreRising}
use Rattle.mv_record.proofs.Rising.{unadmitted}
use Rattle.mv_record.proofs.Patching.{row_of-placed_same, placed_other, rising_placed, rows_same, row_of-found, rising_found, row_applied, rising_applied}
use Rattle.mv_undo.specs.Owning.{touches, is_among, AreSought}
use Rattle.mv_undo.specs.Overlaying.{IsSeen}
use Rattle.mv_undo.proofs.Fixing.{fixed_or_same}

-- the row that the predicate finds under a key behind writes, from the row before them
abbrev pub new_row : Pred → List Write → List Keyed → List Value → Option (List Value)
new_row pred ws own key = matched pred (patched_by (writes_on pred.table key ws) (row_of own key))

-- rows with the new ones put under these keys
abbrev pub laid : Pred → List Write → List Keyed → List (List Value) → List Keyed → List Keyed
laid pred ws own [] rows = rows
laid pred ws own (k ∷ ks) rows = laid pred ws own ks (placed k (new_row pred ws own k) rows)

laid_rising : (pred : Pred) (ws : List Write) (own : List Keyed) (ks : List (List Value)) (rows : List Keyed) → IsRising rows → IsRising (laid pred ws own ks rows)
laid_rising pred ws own [] rows h = h
laid_rising pred ws own (k ∷ ks) rows h = laid_rising pred ws own ks (placed k (new_row pred ws own k) rows) (rising_placed k (new_row pred ws own k) rows h)

laid_row : (pred : Pred) (ws : List Write) (own : List Keyed) (ks : List (List Value)) (rows : List Keyed) (key : List Value) → IsRising rows
    → row_of (laid pred ws own ks rows) key ≡ cond (is_among ks key) (new_row pred ws own key) (row_of rows key)
laid_row pred ws own [] rows key h = refl
laid_row pred ws own (k ∷ ks) rows key h =
    laid_row pred ws own ks (placed k (new_row pred ws own k) rows) key (rising_placed k (new_row pred ws own k) rows h)
    ∙ (ap (cond (is_among ks key) (new_row pred ws own key)) (one (is_eq (key_order k key)) refl) ∙ join (is_eq (key_order k key)) (is_among ks key))
  where
    one : (b : Bool) → is_eq (key_order k key) ≡ b → row_of (placed k (new_row pred ws own k) rows) key ≡ cond b (new_row pred ws own key) (row_of rows key)
    one true e =
        subst (λ j. row_of (placed k (new_row pred ws own k) rows) j ≡ new_row pred ws own j) (tied k key e) (row_of-placed_same k (new_row pred ws own k) rows h)
    one false e = placed_other k (new_row pred ws own k) rows key e

    join : (b c : Bool) → cond c (new_row pred ws own key) (cond b (new_row pred ws own key) (row_of rows key)) ≡ cond (b || c) (new_row pred ws own key) (row_of rows key)
    join true true = refl
    join true false = refl
    join false c = refl

pub untouched : (t : ℕ) (key : List Value) (ws : List Write) (was : Option (List Value)) → touches t key ws ≡ false → patched_by (writes_on t key ws) was ≡ was
untouched t key [] was h = refl
untouched t key (w ∷ ws) was h = by (is_on t key w) h (untouched t key ws was)
  where
    by : (b : Bool) → b || touches t key ws ≡ false → (touches t key ws ≡ false → patched_by (writes_on t key ws) was ≡ was) → patched_by (cond b (w ∷ writes_on t key ws) (writes_on t key ws)) was ≡ was
    by true h more = cc
    by false h more = more h

-- the rows laid over are those that the predicate finds behind the writes
pub laid_found : (pred : Pred) (ws : List Write) (rows own : List Keyed) (ks : List (List Value)) (db : List (List Keyed)) → AreSought pred ws ks → IsSeen pred ws rows own db → laid pred ws own ks rows ≡ found_by pred (applied ws db)
laid_found pred ws rows own ks db sought seen =
    rows_same (laid pred ws own ks rows) (found_by pred (applied ws db)) (laid_rising pred ws own ks rows rising) (rising_found pred (applied ws db) behind_rising)
    (λ key. laid_row pred ws own ks rows key rising
    ∙ (ap (λ b. cond b (new_row pred ws own key) (row_of rows key)) (sought.are key)
    ∙ (by key (touches pred.table key ws) refl (admits pred key) refl ∙ sym (row_of-found pred (applied ws db) key behind_rising))))
  where
    t : ℕ
    t = pred.table

    behind_rising : AreRising (applied ws db)
    behind_rising = rising_applied ws db seen.rising

    rising : IsRising rows
    rising = subst IsRising (sym seen.found) (rising_found pred db seen.rising)

    old : (key : List Value) → row_of rows key ≡ matched pred (row_of (rows_at db pred.table) key)
    old key = ap (λ l. row_of l key) seen.found ∙ row_of-found pred db key seen.rising

    new : (key : List Value) → row_of (rows_at (applied ws db) pred.table) key ≡ patched_by (writes_on pred.table key ws) (row_of (rows_at db pred.table) key)
    new key = row_applied ws db pred.table key seen.table seen.rising

    at_own : (key : List Value) → touches pred.table key ws ≡ true → admits pred key ≡ true → patched_by (writes_on pred.table key ws) (row_of own key) ≡ patched_by (writes_on pred.table key ws) (row_of (rows_at db pred.table) key)
    at_own key p q = fixed_or_same (writes_on pred.table key ws) (row_of own key) (row_of (rows_at db pred.table) key) (seen.old key (ap (λ b. b && admits pred key) p ∙ q))

    by : (key : List Value) (b : Bool) → touches pred.table key ws ≡ b → (a : Bool) → admits pred key ≡ a
        → cond (touches pred.table key ws && admits pred key) (new_row pred ws own key) (row_of rows key) ≡ matched pred (row_of (rows_at (applied ws db) pred.table) key)
    by key true p true q =
        ap (λ b. cond b (new_row pred ws own key) (row_of rows key)) (ap (λ b. b && admits pred key) p ∙ q)
        ∙ ap (matched pred) (at_own key p q ∙ sym (new key))
    by key true p false q =
        ap (λ b. cond b (new_row pred ws own key) (row_of rows key)) (ap (λ b. b && admits pred key) p ∙ q)
        ∙ (old key ∙ (unadmitted pred (rows_at db pred.table) key seen.before q ∙ sym (unadmitted pred (rows_at (applied ws db) pred.table) key seen.behind q)))
    by key false p a q =
        ap (λ b. cond b (new_row pred ws own key) (row_of rows key)) (ap (λ b. b && admits pred key) p)
        ∙ (old key ∙ ap (matched pred) (sym (new key ∙ untouched pred.table key ws (row_of (rows_at db pred.table) key) p)))

-- one key after another
pub laid_step : (pred : Pred) (ws : List Write) (own : List Keyed) (ks : List (List Value)) (i : ℕ) (k : List Value) (row : Option (List Value)) (now later : List Keyed) → i < length ks → k ≡ slice_index_or ks i k
    → row ≡ new_row pred ws own k → later ≡ placed k row now → laid pred ws own (drop (i + 1) ks) later ≡ laid pred ws own (drop i ks) now
laid_step pred ws own ks i k row now later lt is new put =
    ap (laid pred ws own (drop (i + 1) ks)) (put ∙ ap (λ r. placed k r now) new) ∙ ap (λ l. laid pred ws own l now) (sym (drop_more ks i k lt ∙ ap (λ j. j ∷ drop (i + 1) ks) (sym is)))

laid_past : (pred : Pred) (ws : List Write) (own : List Keyed) (ks : List (List Value)) (i : ℕ) (rows : List Keyed) → length ks ≤ i → laid pred ws own (drop i ks) rows ≡ rows
laid_past pred ws own [] zero rows le = refl
laid_past pred ws own [] (suc i) rows le = refl
laid_past pred ws own (k ∷ ks) zero rows le = absurd (omega (arith, le))
laid_past pred ws own (k ∷ ks) (suc i) rows le = laid_past pred ws own ks i rows (omega (arith, le))

pub laid_all : (pred : Pred) (ws : List Write) (rows own : List Keyed) (ks : List (List Value)) (i : ℕ) (now : List Keyed) → laid pred ws own (drop i ks) now ≡ laid pred ws own ks rows → length ks ≤ i
    → AreSought pred ws ks → (db : List (List Keyed)) → IsSeen pred ws rows own db → now ≡ found_by pred (applied ws db)
laid_all pred ws rows own ks i now h le sought db seen = sym (laid_past pred ws own ks i now le) ∙ (h ∙ laid_found pred ws rows own ks db sought seen)

-- The first row of rising rows, and the nearer one of two parts of them.
use Rattle.std.proofs.Common.{◌≡◌, ◌<◌, ◌⊎◌, inl, inr, Bool, true, false, cond, not, List, [], ◌∷◌, ◌++◌, Option, Some, None, length, refl, sym, ap, subst, ◌∙◌}
use Rattle.std.specs.Option.{option_or}
use Rattle.std.specs.Ordering.{is_eq, is_lt}
use Rattle.std.specs.declared.cmp.Ordering.TheVariants.{Less}
use Rattle.std.proofs.lemmas.Bool.{both_ways}
use Rattle.std.proofs.lemmas.Option.{none-some, same_Some}
use Rattle.mv_values.specs.declared.value.Value.{Value}
use Rattle.mv_values.specs.declared.rows.Keyed.{Keyed}
use Rattle.mv_values.specs.declared.patch.Write.{Write}
use Rattle.mv_values.specs.declared.pred.Pred.{Pred}
use Rattle.mv_values.specs.Keys.{IsRising}
use Rattle.mv_values.specs.Order.{key_order}
use Rattle.mv_values.specs.Patching.{row_of, applied, found_by}
use Rattle.mv_values.specs.Preds.{admits, matched}
use Rattle.mv_values.specs.Tables.{rows_at}
use Rattle.mv_values.proofs.KeyOrder.{key_order_total, tied, same_key}
use Rattle.mv_values.proofs.Deciding.{less_is}
use Rattle.mv_table.specs.declared.scan.Direction.{Direction}
use Rattle.mv_table.specs.declared.scan.Direction.TheVariants.{Forward, Backward}
use Rattle.mv_table.specs.Scans.{foremost, with_foremost}
use Rattle.mv_table.proofs.Scanning.{foremost_there, foremost_none}
use Rattle.mv_record.specs.Admitting.{Admitted}
use Rattle.mv_record.specs.Writes.{writes_on, patched_by, AreRising}
use Rattle.mv_record.proofs.Patching.{row_of-found, rising_found, rising_filter, row_applied, rising_applied}
use Rattle.mv_record.proofs.Rising.{Above, Rises, rises_from, filter_row, kept, unadmitted, keyed_same}
use Rattle.mv_undo.specs.Taking.{meets_first}
use Rattle.mv_undo.specs.Owning.{touches, is_sought}
use Rattle.mv_undo.proofs.Taking.{row_with, never_itself}
use Rattle.mv_undo.proofs.Laying.{untouched}
use Rattle.mv_view.specs.Narrowing.{outside}
use Rattle.mv_effect.specs.Firsts.{is_met_before, IsFirstOf}

-- Keys in a direction

pub met_after : (d : Direction) (a b c : List Value) → meets_first d a b ≡ true → meets_first d b c ≡ true → meets_first d a c ≡ true
met_after Forward a b c h g = ap is_lt (key_order_total.trans a b c (less_is _ h) (less_is _ g))
met_after Backward a b c h g = ap is_lt (key_order_total.trans c b a (less_is _ g) (less_is _ h))

pub not_both : (d : Direction) (a b : List Value) → meets_first d a b ≡ true → meets_first d b a ≡ true → ⊥
not_both d a b h g = both_ways (meets_first d a a) (never_itself d a) (met_after d a b a h g)

-- The first of rising rows

above_row : (key : List Value) (xs : List Keyed) (k row : List Value) → Above key xs → row_of xs k ≡ Some row → key_order key k ≡ Less
above_row key [] k row h is = cc
above_row key (x ∷ xs) k row h is = by (is_eq (key_order x.key k)) refl is (above_row key xs k row h.1)
  where
    by : (b : Bool) → is_eq (key_order x.key k) ≡ b → cond b (Some x.row) (row_of xs k) ≡ Some row → (row_of xs k ≡ Some row → key_order key k ≡ Less) → key_order key k ≡ Less
    by true e is more = subst (λ j. key_order key j ≡ Less) (tied x.key k e) h.0
    by false e is more = more is

above_last : (key : List Value) (xs : List Keyed) (y : Keyed) → Above key (xs ++ y ∷ []) → key_order key y.key ≡ Less
above_last key [] y h = h.0
above_last key (x ∷ xs) y h = above_last key xs y h.1

-- a row that a scan meets before all others
record Leads (d : Direction) (x : Keyed) (rest xs : List Keyed) : Type 0 where
  whole : xs ≡ with_foremost d x rest
  later : (key row : List Value) → row_of rest key ≡ Some row → meets_first d x.key key ≡ true

first_apart : (d : Direction) (xs : List Keyed) → Rises xs → (xs ≡ []) ⊎ ((x : Keyed) × (rest : List Keyed) × Leads d x rest xs)
first_apart Forward [] h = inl refl
first_apart Forward (x ∷ xs) h = inr (x, xs, record { whole = refl; later = λ key row is. ap is_lt (above_row x.key xs key row h.0 is) })
first_apart Backward [] h = inl refl
first_apart Backward (x ∷ xs) h = elim (first_apart Backward xs h.1) [
  | inl none ↦ inr (x, [], record { whole = ap (λ l. x ∷ l) none; later = λ key row is. absurd (none-some row (sym refl ∙ is)) })
  | inr more ↦
      let last : Keyed = more.0 in
      let rest : List Keyed = more.1 in
      let is : xs ≡ rest ++ last ∷ [] = more.2.whole in
      let behind : key_order x.key last.key ≡ Less = above_last x.key rest last (subst (Above x.key) is h.0) in
      inr (last, x ∷ rest, record { whole = ap (λ l. x ∷ l) is; later = λ key row found. by last rest behind more.2.later key row (is_eq (key_order x.key key)) refl found })
]
  where
    by : (last : Keyed) (rest : List Keyed) → key_order x.key last.key ≡ Less → ((key row : List Value) → row_of rest key ≡ Some row → is_lt (key_order key last.key) ≡ true) → (key row : List Value) (b : Bool) → is_eq (key_order x.key key) ≡ b
        → cond b (Some x.row) (row_of rest key) ≡ Some row → is_lt (key_order key last.key) ≡ true
    by last rest behind more key row true e found = subst (λ k. is_lt (key_order k last.key) ≡ true) (tied x.key key e) (ap is_lt behind)
    by last rest behind more key row false e found = more key row found

module _ (d : Direction) (xs : List Keyed) where
  rest_lacks : (x : Keyed) (rest : List Keyed) → Leads d x rest xs → row_of rest x.key ≡ None
  rest_lacks x rest leads = by (row_of rest x.key) refl
    where
      by : (o : Option (List Value)) → row_of rest x.key ≡ o → o ≡ None
      by None is = refl
      by (Some row) is = absurd (both_ways (meets_first d x.key x.key) (never_itself d x.key) (leads.later x.key row is))

  row_at : (x : Keyed) (rest : List Keyed) → Leads d x rest xs → (key : List Value) → row_of xs key ≡ cond (is_eq (key_order x.key key)) (Some x.row) (row_of rest key)
  row_at x rest leads key = ap (λ l. row_of l key) leads.whole ∙ row_with d x rest key (rest_lacks x rest leads)

  own_row : (x : Keyed) (rest : List Keyed) → Leads d x rest xs → row_of xs x.key ≡ Some x.row
  own_row x rest leads = row_at x rest leads x.key ∙ ap (λ o. cond (is_eq o) (Some x.row) (row_of rest x.key)) (same_key x.key)

  is_first : (x : Keyed) (rest : List Keyed) → Leads d x rest xs → foremost d xs ≡ Some x
  is_first x rest leads = ap (foremost d) leads.whole ∙ foremost_there d x rest

  nothing_before : (x : Keyed) (rest : List Keyed) → Leads d x rest xs → (key : List Value) → meets_first d key x.key ≡ true → row_of xs key ≡ None
  nothing_before x rest leads key before = row_at x rest leads key ∙ by (is_eq (key_order x.key key)) refl (row_of rest key) refl
    where
      by : (b : Bool) → is_eq (key_order x.key key) ≡ b → (o : Option (List Value)) → row_of rest key ≡ o → cond b (Some x.row) (row_of rest key) ≡ None
      by true e o is =
          let same : x.key ≡ key = tied x.key key e in
          absurd (both_ways (meets_first d key x.key) (ap (λ k. meets_first d k x.key) (sym same) ∙ never_itself d x.key) before)
      by false e None is = is
      by false e (Some row) is = absurd (not_both d key x.key before (leads.later key row is))

-- a row before which there is none is the first
foremost_is : (d : Direction) (xs : List Keyed) (item : Keyed) → IsRising xs → row_of xs item.key ≡ Some item.row → ((key : List Value) → meets_first d key item.key ≡ true → row_of xs key ≡ None) → foremost d xs ≡ Some item
foremost_is d xs item rising there before = elim (first_apart d xs (rises_from xs rising)) [
  | inl none ↦ absurd (none-some item.row (sym (ap (λ l. row_of l item.key) none) ∙ there))
  | inr more ↦
      let x : Keyed = more.0 in
      let leads : Leads d x more.1 xs = more.2 in
      is_first d xs x more.1 leads ∙ ap (λ i. Some i) (by x more.1 leads (is_eq (key_order x.key item.key)) refl (sym (row_at d xs x more.1 leads item.key) ∙ there))
]
  where
    by : (x : Keyed) (rest : List Keyed) → Leads d x rest xs → (b : Bool) → is_eq (key_order x.key item.key) ≡ b → cond b (Some x.row) (row_of rest item.key) ≡ Some item.row → x ≡ item
    by x rest leads true e is = keyed_same x item (tied x.key item.key e) (same_Some x.row item.row is)
    by x rest leads false e is = absurd (none-some x.row (sym (before x.key (leads.later item.key item.row is)) ∙ (own_row d xs x rest leads)))

-- where there are no rows there is no first
foremost_nothing : (d : Direction) (xs : List Keyed) → IsRising xs → ((key : List Value) → row_of xs key ≡ None) → foremost d xs ≡ None
foremost_nothing d xs rising none = elim (first_apart d xs (rises_from xs rising)) [
  | inl empty ↦ ap (foremost d) empty ∙ foremost_none d
  | inr more ↦ absurd (none-some more.0.row (sym (none more.0.key) ∙ (own_row d xs more.0 more.1 more.2)))
]

first_there : (d : Direction) (xs : List Keyed) (item : Keyed) → IsRising xs → foremost d xs ≡ Some item → (row_of xs item.key ≡ Some item.row) × ((key : List Value) → meets_first d key item.key ≡ true → row_of xs key ≡ None)
first_there d xs item rising is = elim (first_apart d xs (rises_from xs rising)) [
  | inl empty ↦ absurd (none-some item (sym (ap (foremost d) empty ∙ foremost_none d) ∙ is))
  | inr more ↦
      let same : more.0 ≡ item = same_Some more.0 item (sym (is_first d xs more.0 more.1 more.2) ∙ is) in
      subst (λ (i : Keyed). (row_of xs i.key ≡ Some i.row) × ((key : List Value) → meets_first d key i.key ≡ true → row_of xs key ≡ None)) same
      (own_row d xs more.0 more.1 more.2, nothing_before d xs more.0 more.1 more.2)
]
  where
    same_Some : (a b : Keyed) → ◌≡◌ {A = Option Keyed} (Some a) (Some b) → a ≡ b
    same_Some a b e = cc

none_there : (d : Direction) (xs : List Keyed) → IsRising xs → foremost d xs ≡ None → (key : List Value) → row_of xs key ≡ None
none_there d xs rising is key = elim (first_apart d xs (rises_from xs rising)) [
  | inl empty ↦ ap (λ l. row_of l key) empty
  | inr more ↦ absurd (none-some more.0 (sym is ∙ (is_first d xs more.0 more.1 more.2)))
]

-- The first of the view's rows and of those that own writes leave

-- the row that a predicate finds under a key behind writes
pub row_after : (pred : Pred) (ws : List Write) (db : List (List Keyed)) → AreRising db → pred.table < length db → (key : List Value)
    → row_of (found_by pred (applied ws db)) key ≡ matched pred (patched_by (writes_on pred.table key ws) (row_of (rows_at db pred.table) key))
row_after pred ws db rising table key = row_of-found pred (applied ws db) key (rising_applied ws db rising) ∙ ap (matched pred) (row_applied ws db pred.table key table rising)

module _ (d : Direction) (pred : Pred) (ws : List Write) (db : List (List Keyed)) (rising : AreRising db) (table : pred.table < length db) (admitted : Admitted pred (rows_at (applied ws db) pred.table)) where
  after_rising : IsRising (found_by pred (applied ws db))
  after_rising = rising_found pred (applied ws db) (rising_applied ws db rising)

  free_rising : IsRising (outside (λ key. touches pred.table key ws) (found_by pred db))
  free_rising = rising_filter (λ item. not (touches pred.table item.key ws)) (found_by pred db) (rising_found pred db rising)

  kept_out : (key : List Value) (b : Bool) → touches pred.table key ws ≡ b → (o : Option (List Value)) → kept (λ item. not (touches pred.table item.key ws)) key o ≡ cond b None o
  kept_out key b e None = by b
    where
      by : (b : Bool) → None ≡ cond {A = Option (List Value)} b None None
      by true = refl
      by false = refl
  kept_out key true e (Some row) = ap (λ b. cond (not b) (Some row) None) e
  kept_out key false e (Some row) = ap (λ b. cond (not b) (Some row) None) e

  free_row : (key : List Value) (b : Bool) → touches pred.table key ws ≡ b → row_of (outside (λ k. touches pred.table k ws) (found_by pred db)) key ≡ cond b None (row_of (found_by pred db) key)
  free_row key b e = filter_row (λ item. not (touches pred.table item.key ws)) (found_by pred db) key (rises_from (found_by pred db) (rising_found pred db rising)) ∙ kept_out key b e (row_of (found_by pred db) key)

  -- under a key that no write is on stands the same row
  same_free : (key : List Value) → touches pred.table key ws ≡ false → row_of (found_by pred (applied ws db)) key ≡ row_of (outside (λ k. touches pred.table k ws) (found_by pred db)) key
  same_free key e =
      row_after pred ws db rising table key
      ∙ (ap (matched pred) (untouched pred.table key ws (row_of (rows_at db pred.table) key) e) ∙ (sym (row_of-found pred db key rising) ∙ sym (free_row key false e)))

  -- under a key that isn't admitted stands none
  none_unadmitted : (key : List Value) → admits pred key ≡ false → row_of (found_by pred (applied ws db)) key ≡ None
  none_unadmitted key e = row_of-found pred (applied ws db) key (rising_applied ws db rising) ∙ unadmitted pred (rows_at (applied ws db) pred.table) key admitted e

  -- so none stands there, if none does where no write is and where a sought one is
  nothing_at : (key : List Value) → (touches pred.table key ws ≡ false → row_of (outside (λ k. touches pred.table k ws) (found_by pred db)) key ≡ None)
      → (is_sought pred ws key ≡ true → row_of (found_by pred (applied ws db)) key ≡ None) → row_of (found_by pred (applied ws db)) key ≡ None
  nothing_at key free own = by (touches pred.table key ws) refl (admits pred key) refl
    where
      by : (b : Bool) → touches pred.table key ws ≡ b → (a : Bool) → admits pred key ≡ a → row_of (found_by pred (applied ws db)) key ≡ None
      by false e a f = same_free key e ∙ free e
      by true e true f = own (rw (e, f) refl)
      by true e false f = none_unadmitted key f

  -- the nearer one of both is the first of all
  pub nearer_first : (theirs own : Option Keyed) → theirs ≡ foremost d (outside (λ key. touches pred.table key ws) (found_by pred db)) → IsFirstOf d (is_sought pred ws) (found_by pred (applied ws db)) theirs own
      → option_or own theirs ≡ foremost d (found_by pred (applied ws db))
  nearer_first theirs (Some item) is first =
      sym (foremost_is d (found_by pred (applied ws db)) item after_rising first.0 (λ key before. nothing_at key (λ e. by theirs is first.1 key before) (λ so. first.2 key so before)))
    where
      by : (theirs : Option Keyed) → theirs ≡ foremost d (outside (λ key. touches pred.table key ws) (found_by pred db)) → is_met_before d item.key theirs ≡ true → (key : List Value) → meets_first d key item.key ≡ true
          → row_of (outside (λ k. touches pred.table k ws) (found_by pred db)) key ≡ None
      by None is met key before = none_there d (outside (λ k. touches pred.table k ws) (found_by pred db)) free_rising (sym is) key
      by (Some b) is met key before = (first_there d (outside (λ k. touches pred.table k ws) (found_by pred db)) b free_rising (sym is)).1 key (met_after d key item.key b.key before met)
  nearer_first None None is first =
      sym (foremost_nothing d (found_by pred (applied ws db)) after_rising (λ key. nothing_at key (λ e. none_there d (outside (λ k. touches pred.table k ws) (found_by pred db)) free_rising (sym is) key) (λ so. first key so refl)))
  nearer_first (Some b) None is first =
      let there = first_there d (outside (λ k. touches pred.table k ws) (found_by pred db)) b free_rising (sym is) in
      let free : touches pred.table b.key ws ≡ false = by (touches pred.table b.key ws) refl there.0 in
      sym (foremost_is d (found_by pred (applied ws db)) b after_rising (same_free b.key free ∙ there.0) (λ key before. nothing_at key (λ e. there.1 key before) (λ so. first key so before)))
    where
      by : (c : Bool) → touches pred.table b.key ws ≡ c → row_of (outside (λ k. touches pred.table k ws) (found_by pred db)) b.key ≡ Some b.row → touches pred.table b.key ws ≡ false
      by true e is = absurd (none-some b.row (sym (free_row b.key true e) ∙ is))
      by false e is = e

-- A key that tests give whole, and the row under it.
use Rattle.std.proofs.Common.{◌≡◌, ℕ, suc, Bool, true, false, cond, List, [], ◌∷◌, Some, All, length, slice_index_or, refl, sym, ap, subst, ◌∙◌, arith}
use Rattle.std.specs.List.{filter}
use Rattle.std.specs.Ordering.{is_eq}
use Rattle.std.specs.declared.cmp.Ordering.TheVariants.{Less, Equal}
use Rattle.std.proofs.lemmas.Bool.{both_ways}
use Rattle.std.proofs.lemmas.List.Elements.{All-head, All-tail}
use Rattle.mv_values.specs.declared.value.Value.{Value}
use Rattle.mv_values.specs.declared.pred.Test.{Test}
use Rattle.mv_values.specs.declared.rows.Keyed.{Keyed}
use Rattle.mv_values.specs.Keys.{IsRising}
use Rattle.mv_values.specs.Order.{key_order}
use Rattle.mv_values.specs.Patching.{row_of, standing}
use Rattle.mv_values.proofs.KeyOrder.{tied, same_key}
use Rattle.mv_table.specs.Spans.{Admits, AdmitsOnly, Agrees}

-- a key that agrees with as many values has just these
agreeing_is : (key front : List Value) → length key ≡ length front → Agrees key front → key ≡ front
agreeing_is [] [] size h = refl
agreeing_is [] (v ∷ vs) size h = absurd (omega (arith, size))
agreeing_is (w ∷ ws) [] size h = absurd (omega (arith, size))
agreeing_is (w ∷ ws) (v ∷ vs) size h =
    let head : w ≡ v = h 0 (omega arith) in
    let tail : ws ≡ vs = agreeing_is ws vs (omega (arith, size)) (λ i lt. h (suc i) (omega (arith, lt))) in
    ap (λ x. x ∷ ws) head ∙ ap (λ l. v ∷ l) tail

-- so the tests admit no other key of this length
pub given_whole : (tests : List Test) (len : ℕ) (front : List Value) → len ≡ length front → ((key : List Value) → Admits tests key → Agrees key front) → AdmitsOnly tests len front
given_whole tests len front size agree key long so = agreeing_is key front (long ∙ size) (agree key so)

module _ (p : Keyed → Bool) (key : List Value) where
  -- above the key nothing is found
  none_above : (rows : List Keyed) → All (λ item. key_order key item.key ≡ Less) rows → All (λ item. p item ≡ true → item.key ≡ key) rows → filter p rows ≡ []
  none_above [] above under = refl
  none_above (x ∷ xs) above under =
      by (p x) refl (none_above xs (All-tail (λ item. key_order key item.key ≡ Less) x xs above) (All-tail (λ item. p item ≡ true → item.key ≡ key) x xs under))
    where
      by : (b : Bool) → p x ≡ b → filter p xs ≡ [] → cond b (x ∷ filter p xs) (filter p xs) ≡ []
      by true e more =
          let is : x.key ≡ key = All-head (λ item. p item ≡ true → item.key ≡ key) x xs under e in
          let low : key_order key x.key ≡ Less = All-head (λ item. key_order key item.key ≡ Less) x xs above in
          let no : Equal ≡ Less = sym (same_key key) ∙ subst (λ k. key_order key k ≡ Less) is low in
          cc
      by false e more = more

  -- where all that passes a test stands under the key, the row there is all that can pass it
  pub only_under : (rows : List Keyed) → IsRising rows → All (λ item. p item ≡ true → item.key ≡ key) rows → filter p rows ≡ filter p (standing key (row_of rows key))
  only_under [] rising under = refl
  only_under (x ∷ xs) rising under =
      by (is_eq (key_order x.key key)) refl (only_under xs (λ i j d lt within. rising (suc i) (suc j) d (omega (arith, lt)) (omega (arith, within))) (All-tail (λ item. p item ≡ true → item.key ≡ key) x xs under))
    where
      alone : (y : Keyed) → x ≡ y → filter p xs ≡ [] → cond (p x) (x ∷ filter p xs) (filter p xs) ≡ cond (p y) (y ∷ []) []
      alone y is none = ap (λ l. cond (p x) (x ∷ l) l) none ∙ ap (λ z. cond (p z) (z ∷ []) []) is

      fails : (b : Bool) → p x ≡ b → is_eq (key_order x.key key) ≡ false → p x ≡ false
      fails true e other =
          let is : x.key ≡ key = All-head (λ item. p item ≡ true → item.key ≡ key) x xs under e in
          absurd (both_ways (is_eq (key_order x.key key)) other (ap (λ k. is_eq (key_order x.key k)) (sym is) ∙ ap is_eq (same_key x.key)))
      fails false e other = e

      by : (b : Bool) → is_eq (key_order x.key key) ≡ b → filter p xs ≡ filter p (standing key (row_of xs key))
          → cond (p x) (x ∷ filter p xs) (filter p xs) ≡ filter p (standing key (cond b (Some x.row) (row_of xs key)))
      by true e more =
          let same : x.key ≡ key = tied x.key key e in
          let above : All (λ (item : Keyed). key_order key item.key ≡ Less) xs = λ k d lt. subst (λ j. key_order j (slice_index_or xs k d).key ≡ Less) same (rising 0 (suc k) d (omega arith) (omega (arith, lt))) in
          alone (record { key = key; row = x.row }) (λ i. record { key = same i; row = x.row }) (none_above xs above (All-tail (λ item. p item ≡ true → item.key ≡ key) x xs under))
      by false e more = ap (λ b. cond b (x ∷ filter p xs) (filter p xs)) (fails (p x) refl e) ∙ more

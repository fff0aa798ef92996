-- What is picked of entries whose keys rise.
use Rattle.std.proofs.Common.{◌≡◌, ◌<◌, ℕ, suc, Bool, true, false, cond, List, [], ◌∷◌, ◌++◌, Option, Some, None, All, length, slice_index_or, refl, sym, ap, subst, ◌∙◌, arith}
use Rattle.std.specs.List.{filter}
use Rattle.std.specs.Ordering.{is_eq}
use Rattle.std.specs.Option.{option_and_then}
use Rattle.std.specs.declared.cmp.Ordering.{Ordering}
use Rattle.std.specs.declared.cmp.Ordering.TheVariants.{Less, Equal, Greater}
use Rattle.std.proofs.lemmas.List.Elements.{All-nil, All-cons}
use Rattle.std.proofs.lemmas.List.Kept.{AllPairs-cons}
use Rattle.std.proofs.lemmas.Option.{none-some}
use Rattle.mv_values.specs.declared.value.Value.{Value}
use Rattle.mv_values.specs.Order.{key_order}
use Rattle.mv_values.proofs.KeyOrder.{key_order_total, exact_keys, same_key, turned}
use Rattle.mv_table.specs.Entries.{item_of, with_item, alone_at, picked, KeysRise}

module _ {T : Type 0} where
  -- the key is below those of the entries
  abbrev pub Above : List Value → List (List Value × T) → Type 0
  Above key [] = Unit {0}
  Above key (e ∷ es) = (key_order key e.0 ≡ Less) × Above key es

  abbrev pub Rise : List (List Value × T) → Type 0
  Rise [] = Unit {0}
  Rise (e ∷ es) = Above e.0 es × Rise es

  above_all : (key : List Value) (es : List (List Value × T)) → ((j : ℕ) (d : List Value × T) → j < length es → key_order key (slice_index_or es j d).0 ≡ Less) → Above key es
  above_all key [] h = tt
  above_all key (e ∷ es) h = (h 0 e (omega arith), above_all key es (λ k d lt. h (suc k) d (omega (arith, lt))))

  all_above : (key : List Value) (es : List (List Value × T)) → Above key es → All (λ (b : List Value × T). key_order key b.0 ≡ Less) es
  all_above key [] h = All-nil (λ (b : List Value × T). key_order key b.0 ≡ Less)
  all_above key (e ∷ es) h = All-cons (λ (b : List Value × T). key_order key b.0 ≡ Less) e es h.0 (all_above key es h.1)

  pub rise_from : (es : List (List Value × T)) → KeysRise es → Rise es
  rise_from [] h = tt
  rise_from (e ∷ es) h =
      (above_all e.0 es (λ j d lt. h 0 (suc j) d (omega arith) (omega (arith, lt))), rise_from es (λ i j d lt within. h (suc i) (suc j) d (omega (arith, lt)) (omega (arith, within))))

  pub rising_from : (es : List (List Value × T)) → Rise es → KeysRise es
  rising_from [] h = λ i j d lt within. absurd (omega (arith, within))
  rising_from (e ∷ es) h = AllPairs-cons (λ (a b : List Value × T). key_order a.0 b.0 ≡ Less) e es (all_above e.0 es h.0) (rising_from es h.1)

  lower : (j k : List Value) (es : List (List Value × T)) → key_order j k ≡ Less → Above k es → Above j es
  lower j k [] e h = tt
  lower j k (x ∷ es) e h = (key_order_total.trans j k x.0 e h.0, lower j k es e h.1)

  item_here : (e : List Value × T) (es : List (List Value × T)) (key : List Value) → key_order e.0 key ≡ Equal → item_of (e ∷ es) key ≡ Some e.1
  item_here e es key h = rw h refl

  item_later : (e : List Value × T) (es : List (List Value × T)) (key : List Value) → is_eq (key_order e.0 key) ≡ false → item_of (e ∷ es) key ≡ item_of es key
  item_later e es key h = rw h refl

  pub item_below : (key : List Value) (es : List (List Value × T)) → Above key es → item_of es key ≡ None
  item_below key [] h = refl
  item_below key (e ∷ es) h = item_later e es key (ap is_eq (turned key e.0 Less h.0)) ∙ item_below key es h.1

  entry_same : (x y : List Value × T) → x.0 ≡ y.0 → x.1 ≡ y.1 → x ≡ y
  entry_same x y h k = λ i. (h i, k i)

  some_same : (a b : T) → ◌≡◌ {A = Option T} (Some a) (Some b) → a ≡ b
  some_same a b e = cc

  same_items : (xs ys : List (List Value × T)) → Rise xs → Rise ys → ((key : List Value) → item_of xs key ≡ item_of ys key) → xs ≡ ys
  same_items [] [] h g f = refl
  same_items [] (y ∷ ys) h g f = absurd (none-some y.1 (f y.0 ∙ item_here y ys y.0 (same_key y.0)))
  same_items (x ∷ xs) [] h g f = absurd (none-some x.1 (sym (f x.0) ∙ item_here x xs x.0 (same_key x.0)))
  same_items (x ∷ xs) (y ∷ ys) h g f = by (key_order x.0 y.0) refl (same_items xs ys h.1 g.1)
    where
      tails : key_order x.0 y.0 ≡ Equal → (key : List Value) (o : Ordering) → key_order x.0 key ≡ o → item_of xs key ≡ item_of ys key
      tails e key Equal is =
          let low = subst (λ k. Above k xs) (exact_keys x.0 key is) h.0 in
          let low2 = subst (λ k. Above k ys) (sym (exact_keys x.0 y.0 e) ∙ exact_keys x.0 key is) g.0 in
          item_below key xs low ∙ sym (item_below key ys low2)
      tails e key Less is = sym (item_later x xs key (ap is_eq is)) ∙ (f key ∙ item_later y ys key (ap (λ k. is_eq (key_order k key)) (sym (exact_keys x.0 y.0 e)) ∙ ap is_eq is))
      tails e key Greater is = sym (item_later x xs key (ap is_eq is)) ∙ (f key ∙ item_later y ys key (ap (λ k. is_eq (key_order k key)) (sym (exact_keys x.0 y.0 e)) ∙ ap is_eq is))

      by : (o : Ordering) → key_order x.0 y.0 ≡ o → (((key : List Value) → item_of xs key ≡ item_of ys key) → xs ≡ ys) → x ∷ xs ≡ y ∷ ys
      by Less e more =
          absurd (none-some x.1 (sym (f x.0 ∙ item_below x.0 (y ∷ ys) (e, lower x.0 y.0 ys e g.0)) ∙ item_here x xs x.0 (same_key x.0)))
      by Greater e more =
          let back = turned x.0 y.0 Greater e in
          absurd (none-some y.1 (sym (sym (f y.0) ∙ item_below y.0 (x ∷ xs) (back, lower y.0 x.0 xs back h.0)) ∙ item_here y ys y.0 (same_key y.0)))
      by Equal e more =
          let items : x.1 ≡ y.1 = some_same x.1 y.1 (sym (item_here x xs x.0 (same_key x.0)) ∙ (f x.0 ∙ item_here y ys x.0 (turned x.0 y.0 Equal e))) in
          let head : x ≡ y = entry_same x y (exact_keys x.0 y.0 e) items in
          let tail : xs ≡ ys = more (λ key. tails e key (key_order x.0 key) refl) in
          cc

  -- rising entries that have the same item under each key are one list
  pub entries_same : (xs ys : List (List Value × T)) → KeysRise xs → KeysRise ys → ((key : List Value) → item_of xs key ≡ item_of ys key) → xs ≡ ys
  entries_same xs ys h g f = same_items xs ys (rise_from xs h) (rise_from ys g) f

  -- an entry above all others goes to the end
  pub put_last : (key : List Value) (item : T) (es : List (List Value × T)) → All (λ (b : List Value × T). key_order b.0 key ≡ Less) es → with_item key (Some item) es ≡ es ++ (key, item) ∷ []
  put_last key item [] h = refl
  put_last key item (e ∷ es) h =
      let first : key_order e.0 key ≡ Less = h 0 e (omega arith) in
      rw first (ap (λ l. e ∷ l) (put_last key item es (λ k d lt. h (suc k) d (omega (arith, lt)))))

module _ {A B : Type 0} (f : A → Option B) where
  picked_above : (key : List Value) (es : List (List Value × A)) → Above key es → Above key (picked f es)
  picked_above key [] h = tt
  picked_above key (e ∷ es) h = by (f e.1) (picked_above key es h.1)
    where
      by : (o : Option B) → Above key (picked f es) → Above key (alone_at e.0 o ++ picked f es)
      by None more = more
      by (Some x) more = (h.0, more)

  picked_rise : (es : List (List Value × A)) → Rise es → Rise (picked f es)
  picked_rise [] h = tt
  picked_rise (e ∷ es) h = by (f e.1) (picked_rise es h.1)
    where
      by : (o : Option B) → Rise (picked f es) → Rise (alone_at e.0 o ++ picked f es)
      by None more = more
      by (Some x) more = (picked_above e.0 es h.0, more)

  pub picked_rising : (es : List (List Value × A)) → KeysRise es → KeysRise (picked f es)
  picked_rising es h = rising_from (picked f es) (picked_rise es (rise_from es h))

  item_picked : (es : List (List Value × A)) (key : List Value) → Rise es → item_of (picked f es) key ≡ option_and_then f (item_of es key)
  item_picked [] key h = refl
  item_picked (e ∷ es) key h = by (key_order e.0 key) refl (item_picked es key h.1)
    where
      past : (o : Option B) → is_eq (key_order e.0 key) ≡ false → item_of (alone_at e.0 o ++ picked f es) key ≡ item_of (picked f es) key
      past None n = refl
      past (Some x) n = item_later (e.0, x) (picked f es) key n

      here : (o : Option B) → key_order e.0 key ≡ Equal → item_of (alone_at e.0 o ++ picked f es) key ≡ o
      here None is = item_below key (picked f es) (picked_above key es (subst (λ k. Above k es) (exact_keys e.0 key is) h.0))
      here (Some x) is = item_here (e.0, x) (picked f es) key is

      by : (o : Ordering) → key_order e.0 key ≡ o → item_of (picked f es) key ≡ option_and_then f (item_of es key) → item_of (picked f (e ∷ es)) key ≡ option_and_then f (item_of (e ∷ es) key)
      by Less is more = past (f e.1) (ap is_eq is) ∙ (more ∙ ap (option_and_then f) (sym (item_later e es key (ap is_eq is))))
      by Greater is more = past (f e.1) (ap is_eq is) ∙ (more ∙ ap (option_and_then f) (sym (item_later e es key (ap is_eq is))))
      by Equal is more = here (f e.1) is ∙ ap (option_and_then f) (sym (item_here e es key is))

  -- what is picked under a key is what f leaves of the item there
  pub picked_item : (es : List (List Value × A)) (key : List Value) → KeysRise es → item_of (picked f es) key ≡ option_and_then f (item_of es key)
  picked_item es key h = item_picked es key (rise_from es h)

  -- picking and keeping keys may be exchanged
  pub picked_filter : (p : List Value → Bool) (es : List (List Value × A)) → picked f (filter (λ e. p e.0) es) ≡ filter (λ e. p e.0) (picked f es)
  picked_filter p [] = refl
  picked_filter p (e ∷ es) = by (p e.0) refl (f e.1) refl (picked_filter p es)
    where
      by : (b : Bool) → p e.0 ≡ b → (o : Option B) → f e.1 ≡ o → picked f (filter (λ e. p e.0) es) ≡ filter (λ e. p e.0) (picked f es)
          → picked f (cond b (e ∷ filter (λ e. p e.0) es) (filter (λ e. p e.0) es)) ≡ filter (λ e. p e.0) (alone_at e.0 (f e.1) ++ picked f es)
      by true is None leaves more = rw leaves more
      by true is (Some x) leaves more = rw (leaves, is) (ap (λ l. (e.0, x) ∷ l) more)
      by false is None leaves more = rw leaves more
      by false is (Some x) leaves more = rw (leaves, is) more

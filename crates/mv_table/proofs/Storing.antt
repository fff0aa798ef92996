-- Rows as the entries of a map.
use Rattle.std.proofs.Math.ListN.{get_or-append}
use Rattle.std.proofs.Math.Seq.{get_or-append_seam}
use Rattle.std.proofs.Common.{◌≡◌, ◌<◌, ◌+◌, ℕ, zero, suc, Bool, true, false, cond, List, [], ◌∷◌, ◌++◌, Option, Some, None, All, length, map, take, slice_index_or, refl, sym, ap, subst, ◌∙◌, arith, length-append}
use Rattle.std.specs.List.{filter}
use Rattle.std.specs.Ordering.{is_eq, ordering_reverse}
use Rattle.std.specs.Map.{set_value}
use Rattle.std.specs.BTreeMap.{is_at}
use Rattle.std.specs.declared.cmp.Ordering.{Ordering}
use Rattle.std.specs.declared.cmp.Ordering.TheVariants.{Less, Equal, Greater}
use Rattle.std.proofs.lemmas.List.{take_more, get_or-take, length-take, get_or_default}
use Rattle.mv_values.specs.declared.value.Value.{Value}
use Rattle.mv_values.specs.declared.rows.Keyed.{Keyed}
use Rattle.mv_values.specs.Keys.{IsRising, IsBelow, stored}
use Rattle.mv_values.specs.Order.{key_order}
use Rattle.mv_values.specs.Patching.{row_of, placed, standing}
use Rattle.mv_values.proofs.KeyOrder.{key_order_total, exact_keys}
use Rattle.mv_table.specs.Entries.{item_of, with_item, KeysRise}

abbrev pub Pair : Type 0
Pair = List Value × List Value

pub stored_row : (es : List Pair) (key : List Value) → item_of es key ≡ row_of (stored es) key
stored_row [] key = refl
stored_row (e ∷ es) key = ap (cond (is_eq (key_order e.0 key)) (Some e.1)) (stored_row es key)

-- the entry of a key, as a row under it
pub entry_stands : (key k row : List Value) (es : List Pair) → k ≡ key → Some row ≡ item_of es key → record { key = k; row = row } ∷ [] ≡ standing key (row_of (stored es) key)
entry_stands key k row es same is = ap (λ j. record { key = j; row = row } ∷ []) same ∙ ap (standing key) (is ∙ stored_row es key)

pub nothing_stands : (key : List Value) (es : List Pair) → None ≡ item_of es key → [] ≡ standing key (row_of (stored es) key)
nothing_stands key es is = ap (standing key) (is ∙ stored_row es key)

pub stored_with : (key : List Value) (row : Option (List Value)) (es : List Pair) → stored (with_item key row es) ≡ placed key row (stored es)
stored_with key None [] = refl
stored_with key (Some row) [] = refl
stored_with key row (e ∷ es) = by (key_order e.0 key) refl row (stored_with key row es)
  where
    by : (o : Ordering) → key_order e.0 key ≡ o → (row : Option (List Value)) → stored (with_item key row es) ≡ placed key row (stored es) → stored (with_item key row (e ∷ es)) ≡ placed key row (stored (e ∷ es))
    by Less h row more = rw h (ap (λ l. record { key = e.0; row = e.1 } ∷ l) more)
    by Equal h None more = rw h refl
    by Equal h (Some r) more = rw h refl
    by Greater h None more = rw h refl
    by Greater h (Some r) more = rw h refl

keys_there : (es : List Pair) (i : ℕ) (d : Keyed) → i < length es → (slice_index_or (stored es) i d).key ≡ (slice_index_or es i (d.key, d.row)).0
keys_there [] i d lt = absurd (omega (arith, lt))
keys_there (e ∷ es) zero d lt = refl
keys_there (e ∷ es) (suc i) d lt = keys_there es i d (omega (arith, lt))

same_length : (es : List Pair) → length (stored es) ≡ length es
same_length [] = refl
same_length (e ∷ es) = ap suc (same_length es)

pub stored_rising : (es : List Pair) → KeysRise es → IsRising (stored es)
stored_rising es h i j d lt within =
    let high : j < length es = subst (λ n. j < n) (same_length es) within in
    let low : key_order (slice_index_or es i (d.key, d.row)).0 (slice_index_or es j (d.key, d.row)).0 ≡ Less = h i j (d.key, d.row) lt high in
    rw (keys_there es i d (omega (arith, lt, high)), keys_there es j d high) low

pub stored_filter : (p : List Value → Bool) (es : List Pair) → stored (filter (λ e. p e.0) es) ≡ filter (λ item. p item.key) (stored es)
stored_filter p [] = refl
stored_filter p (e ∷ es) = by (p e.0) (stored_filter p es)
  where
    by : (b : Bool) → stored (filter (λ e. p e.0) es) ≡ filter (λ item. p item.key) (stored es)
        → stored (cond b (e ∷ filter (λ e. p e.0) es) (filter (λ e. p e.0) es)) ≡ cond b (record { key = e.0; row = e.1 } ∷ filter (λ item. p item.key) (stored es)) (filter (λ item. p item.key) (stored es))
    by true more = ap (λ l. record { key = e.0; row = e.1 } ∷ l) more
    by false more = more

-- A row behind all others

later_rows : (x : Keyed) (xs : List Keyed) (item : Keyed) → All (IsBelow item.key) (x ∷ xs) → All (IsBelow item.key) xs
later_rows x xs item h k d lt = h (suc k) d (omega (arith, lt))

pub placed_last : (item : Keyed) (xs : List Keyed) → All (IsBelow item.key) xs → placed item.key (Some item.row) xs ≡ xs ++ item ∷ []
placed_last item [] h = refl
placed_last item (x ∷ xs) h =
    let first : key_order x.key item.key ≡ Less = h 0 x (omega arith) in
    rw first (ap (λ l. x ∷ l) (placed_last item xs (later_rows x xs item h)))

-- of rising rows those before another are below it
pub front_below : (front rest : List Keyed) (item : Keyed) → IsRising (front ++ item ∷ rest) → All (IsBelow item.key) front
front_below front rest item h k d lt =
    let size : length (front ++ item ∷ rest) ≡ length front + length (item ∷ rest) = length-append front (item ∷ rest) in
    let low = h k (length front) d lt (omega (arith, size)) in
    subst (λ (x : Keyed). key_order x.key item.key ≡ Less) (get_or-append front (item ∷ rest) d k lt)
    (subst (λ (x : Keyed). key_order (slice_index_or (front ++ item ∷ rest) k d).key x.key ≡ Less) (get_or-append_seam front item rest d) low)

-- those before a place are below the row there
pub taken_below : (rows : List Keyed) (i : ℕ) (item : Keyed) → IsRising rows → i < length rows → item ≡ slice_index_or rows i item → All (IsBelow item.key) (take i rows)
taken_below rows i item rising lt is k d l =
    let short : k < i = omega (arith, l, length-take i rows) in
    let here : slice_index_or (take i rows) k d ≡ slice_index_or rows k d = get_or-take i rows k d short in
    let low : key_order (slice_index_or rows k item).key (slice_index_or rows i item).key ≡ Less = rising k i item short lt in
    rw here (subst (λ (x : Keyed). key_order (slice_index_or rows k d).key x.key ≡ Less) (sym is) (subst (λ (x : Keyed). key_order x.key (slice_index_or rows i item).key ≡ Less) (get_or_default rows k item d (omega (arith, short, lt))) low))

-- the row at a place is placed behind those before it
pub copied_more : (rows : List Keyed) (i : ℕ) (item : Keyed) (made new : List Keyed) (key row : List Value) → IsRising rows → i < length rows → item ≡ slice_index_or rows i item → made ≡ take i rows → key ≡ item.key → row ≡ item.row → new ≡ placed key (Some row) made
    → new ≡ take (i + 1) rows
copied_more rows i item made new key row rising lt is so same_key same_row put =
    put
    ∙ (ap (λ (k : List Value). placed k (Some row) made) same_key
    ∙ (ap (λ (r : List Value). placed item.key (Some r) made) same_row
    ∙ (ap (placed item.key (Some item.row)) so
    ∙ (placed_last item (take i rows) (taken_below rows i item rising lt is) ∙ (ap (λ (x : Keyed). take i rows ++ x ∷ []) is ∙ sym (take_more rows i item lt))))))

-- A value set under its key

module _ {T : Type 0} where
  rising_later : (e : List Value × T) (es : List (List Value × T)) → KeysRise (e ∷ es) → KeysRise es
  rising_later e es rising i j d lt within = rising (suc i) (suc j) d (omega (arith, lt)) (omega (arith, within))

  -- no later key is the one that the first is above
  missing : (key : List Value) (was : T) (es : List (List Value × T)) (e : List Value × T) → KeysRise (e ∷ es) → key_order e.0 key ≡ Greater → item_of es key ≡ Some was → ⊥
  missing key was [] e rising f g = cc
  missing key was (x ∷ xs) e rising f g =
      let up : key_order e.0 x.0 ≡ Less = rising 0 1 x (omega arith) (omega arith) in
      let over : key_order key x.0 ≡ Less = key_order_total.trans key e.0 x.0 (key_order_total.antisymm key e.0 ∙ ap ordering_reverse f) up in
      let above : key_order x.0 key ≡ Greater = key_order_total.antisymm x.0 key ∙ ap ordering_reverse over in
      let rest : item_of xs key ≡ Some was = rw above at g in
      missing key was xs x (rising_later e (x ∷ xs) rising) above rest

  pub value_set : (key : List Value) (item was : T) (es : List (List Value × T)) → KeysRise es → item_of es key ≡ Some was → set_value (is_at (key_order key)) es item ≡ with_item key (Some item) es
  value_set key item was [] rising h = cc
  value_set key item was (e ∷ es) rising h = by (key_order e.0 key) refl h (value_set key item was es (rising_later e es rising))
    where
      by : (o : Ordering) → key_order e.0 key ≡ o → cond (is_eq o) (Some e.1) (item_of es key) ≡ Some was → (item_of es key ≡ Some was → set_value (is_at (key_order key)) es item ≡ with_item key (Some item) es)
          → set_value (is_at (key_order key)) (e ∷ es) item ≡ with_item key (Some item) (e ∷ es)
      by Less f g more = rw (key_order_total.antisymm key e.0, f) (ap (λ l. e ∷ l) (more g))
      by Equal f g more = rw (key_order_total.antisymm key e.0, f) (ap (λ (k : List Value). (k, item) ∷ es) (exact_keys e.0 key f))
      by Greater f g more = absurd (missing key was es e rising f g)

-- Rows one after another

module _ {A : Type 0} (seen' : A → Keyed) where
  pub one_more_seen : (xs : List A) (x : A) (rest all : List Keyed) → map seen' xs ++ seen' x ∷ rest ≡ all → map seen' (xs ++ x ∷ []) ++ rest ≡ all
  one_more_seen xs x rest all h = by xs ∙ h
    where
      by : (ys : List A) → map seen' (ys ++ x ∷ []) ++ rest ≡ map seen' ys ++ seen' x ∷ rest
      by [] = refl
      by (y ∷ ys) = ap (λ l. seen' y ∷ l) (by ys)

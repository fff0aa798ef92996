-- Rows whose keys rise, and the row under a key.
use Rattle.std.proofs.Common.{◌≡◌, ◌<◌, ℕ, zero, suc, Bool, true, false, cond, List, [], ◌∷◌, Option, Some, None, All, length, refl, sym, ap, subst, ◌∙◌, arith}
use Rattle.std.specs.Prelude.{Contains, slice_index_or}
use Rattle.std.specs.List.{filter}
use Rattle.std.specs.Ordering.{is_eq}
use Rattle.std.specs.declared.cmp.Ordering.{Ordering}
use Rattle.std.specs.declared.cmp.Ordering.TheVariants.{Less, Equal, Greater}
use Rattle.std.proofs.lemmas.List.Elements.{All-nil, All-cons}
use Rattle.std.proofs.lemmas.List.Kept.{AllPairs-cons}
use Rattle.std.proofs.lemmas.Option.{none-some, same_Some}
use Rattle.std.proofs.lemmas.Bool.{both_ways}
use Rattle.mv_values.specs.declared.value.Value.{Value}
use Rattle.mv_values.specs.declared.rows.Keyed.{Keyed}
use Rattle.mv_values.specs.declared.pred.Pred.{Pred}
use Rattle.mv_values.specs.Keys.{IsRising, IsBelow}
use Rattle.mv_values.specs.Order.{key_order}
use Rattle.mv_values.specs.Patching.{row_of}
use Rattle.mv_values.specs.Preds.{matches, matched, admits}
use Rattle.mv_values.proofs.KeyOrder.{key_order_total, exact_keys, same_key, turned}
use Rattle.mv_record.specs.Admitting.{Admitted}

-- Keys

-- Rising, by recursion

-- the key is below those of the rows
abbrev pub Above : List Value → List Keyed → Type 0
Above key [] = Unit {0}
Above key (x ∷ xs) = (key_order key x.key ≡ Less) × Above key xs

abbrev pub Rises : List Keyed → Type 0
Rises [] = Unit {0}
Rises (x ∷ xs) = Above x.key xs × Rises xs

above_all : (key : List Value) (xs : List Keyed) → All (λ b. IsBelow b.key (record { key = key; row = [] })) xs → Above key xs
above_all key [] h = tt
above_all key (x ∷ xs) h = (h 0 x (omega arith), above_all key xs (λ k d lt. h (suc k) d (omega (arith, lt))))

all_above : (a : Keyed) (xs : List Keyed) → Above a.key xs → All (λ b. IsBelow b.key a) xs
all_above a [] h = All-nil (λ b. IsBelow b.key a)
all_above a (x ∷ xs) h = All-cons (λ b. IsBelow b.key a) x xs h.0 (all_above a xs h.1)

pub rises_from : (xs : List Keyed) → IsRising xs → Rises xs
rises_from [] h = tt
rises_from (x ∷ xs) h =
    (above_all x.key xs (λ j d lt. h 0 (suc j) d (omega arith) (omega (arith, lt))), rises_from xs (λ i j d lt within. h (suc i) (suc j) d (omega (arith, lt)) (omega (arith, within))))

pub rising_from : (xs : List Keyed) → Rises xs → IsRising xs
rising_from [] h = λ i j d lt within. absurd (omega (arith, within))
rising_from (x ∷ xs) h = AllPairs-cons (λ a b. IsBelow b.key a) x xs (all_above x xs h.0) (rising_from xs h.1)

pub lower : (j k : List Value) (xs : List Keyed) → key_order j k ≡ Less → Above k xs → Above j xs
lower j k [] e h = tt
lower j k (x ∷ xs) e h = (key_order_total.trans j k x.key e h.0, lower j k xs e h.1)

-- The row under a key

pub row_here : (x : Keyed) (xs : List Keyed) (key : List Value) → key_order x.key key ≡ Equal → row_of (x ∷ xs) key ≡ Some x.row
row_here x xs key h = rw h refl

pub row_later : (x : Keyed) (xs : List Keyed) (key : List Value) → is_eq (key_order x.key key) ≡ false → row_of (x ∷ xs) key ≡ row_of xs key
row_later x xs key h = rw h refl

-- below all keys there is none
pub row_below : (key : List Value) (xs : List Keyed) → Above key xs → row_of xs key ≡ None
row_below key [] h = refl
row_below key (x ∷ xs) h = row_later x xs key (ap is_eq (turned key x.key Less h.0)) ∙ row_below key xs h.1

pub keyed_same : (x y : Keyed) → x.key ≡ y.key → x.row ≡ y.row → x ≡ y
keyed_same x y h k = λ i. record { key = h i; row = k i }

-- rising rows that have the same row under each key are one list
pub same_rows : (xs ys : List Keyed) → Rises xs → Rises ys → ((key : List Value) → row_of xs key ≡ row_of ys key) → xs ≡ ys
same_rows [] [] h g f = refl
same_rows [] (y ∷ ys) h g f = absurd (none-some y.row (f y.key ∙ row_here y ys y.key (same_key y.key)))
same_rows (x ∷ xs) [] h g f = absurd (none-some x.row (sym (f x.key) ∙ row_here x xs x.key (same_key x.key)))
same_rows (x ∷ xs) (y ∷ ys) h g f = by (key_order x.key y.key) refl (same_rows xs ys h.1 g.1)
  where
    tails : key_order x.key y.key ≡ Equal → (key : List Value) (o : Ordering) → key_order x.key key ≡ o → row_of xs key ≡ row_of ys key
    tails e key Equal is =
        let low = subst (λ k. Above k xs) (exact_keys x.key key is) h.0 in
        let low2 = subst (λ k. Above k ys) (sym (exact_keys x.key y.key e) ∙ exact_keys x.key key is) g.0 in
        row_below key xs low ∙ sym (row_below key ys low2)
    tails e key Less is = sym (row_later x xs key (ap is_eq is)) ∙ (f key ∙ row_later y ys key (ap (λ k. is_eq (key_order k key)) (sym (exact_keys x.key y.key e)) ∙ ap is_eq is))
    tails e key Greater is = sym (row_later x xs key (ap is_eq is)) ∙ (f key ∙ row_later y ys key (ap (λ k. is_eq (key_order k key)) (sym (exact_keys x.key y.key e)) ∙ ap is_eq is))

    by : (o : Ordering) → key_order x.key y.key ≡ o → (((key : List Value) → row_of xs key ≡ row_of ys key) → xs ≡ ys) → x ∷ xs ≡ y ∷ ys
    by Less e more =
        absurd (none-some x.row (sym (f x.key ∙ row_below x.key (y ∷ ys) (e, lower x.key y.key ys e g.0)) ∙ row_here x xs x.key (same_key x.key)))
    by Greater e more =
        let back = turned x.key y.key Greater e in
        absurd (none-some y.row (sym (sym (f y.key) ∙ row_below y.key (x ∷ xs) (back, lower y.key x.key xs back h.0)) ∙ row_here y ys y.key (same_key y.key)))
    by Equal e more =
        let rows : x.row ≡ y.row = same_Some x.row y.row (sym (row_here x xs x.key (same_key x.key)) ∙ (f x.key ∙ row_here y ys x.key (turned x.key y.key Equal e))) in
        let head : x ≡ y = keyed_same x y (exact_keys x.key y.key e) rows in
        let tail : xs ≡ ys = more (λ key. tails e key (key_order x.key key) refl) in
        cc

-- A row among the rows

-- what is found under a key stands there
pub found_stands : (xs : List Keyed) (key row : List Value) → row_of xs key ≡ Some row → Contains xs (record { key = key; row = row })
found_stands [] key row h = cc
found_stands (x ∷ xs) key row h = by (key_order x.key key) refl (found_stands xs key row)
  where
    later : is_eq (key_order x.key key) ≡ false → (row_of xs key ≡ Some row → Contains xs (record { key = key; row = row })) → Contains (x ∷ xs) (record { key = key; row = row })
    later e more = let there = more (sym (row_later x xs key e) ∙ h) in (suc there.0, omega (arith, there.1), there.2)

    by : (o : Ordering) → key_order x.key key ≡ o → (row_of xs key ≡ Some row → Contains xs (record { key = key; row = row })) → Contains (x ∷ xs) (record { key = key; row = row })
    by Less e more = later (ap is_eq e) more
    by Greater e more = later (ap is_eq e) more
    by Equal e more =
        let rows : x.row ≡ row = let is = sym (row_here x xs key e) ∙ h in cc in
        (0, omega arith, keyed_same x (record { key = key; row = row }) (exact_keys x.key key e) rows)

at_above : (key : List Value) (xs : List Keyed) (k : ℕ) (item : Keyed) → k < length xs → Above key xs → slice_index_or xs k item ≡ item → key_order key item.key ≡ Less
at_above key [] k item lt h is = absurd (omega (arith, lt))
at_above key (x ∷ xs) zero item lt h is = subst (λ (i : Keyed). key_order key i.key ≡ Less) is h.0
at_above key (x ∷ xs) (suc k) item lt h is = at_above key xs k item (omega (arith, lt)) h.1 is

stands_at : (xs : List Keyed) (item : Keyed) (k : ℕ) → k < length xs → slice_index_or xs k item ≡ item → Rises xs → row_of xs item.key ≡ Some item.row
stands_at [] item k lt is h = absurd (omega (arith, lt))
stands_at (x ∷ xs) item zero lt is h =
    row_here x xs item.key (subst (λ (i : Keyed). key_order x.key i.key ≡ Equal) is (same_key x.key)) ∙ ap (λ (i : Keyed). Some i.row) is
stands_at (x ∷ xs) item (suc k) lt is h =
    row_later x xs item.key (ap is_eq (at_above x.key xs k item (omega (arith, lt)) h.0 is)) ∙ stands_at xs item k (omega (arith, lt)) is h.1

-- what stands there is found under its key
pub stands_found : (xs : List Keyed) (item : Keyed) → Rises xs → Contains xs item → row_of xs item.key ≡ Some item.row
stands_found xs item h there = stands_at xs item there.0 there.1 there.2 h

-- Filters

pub filter_above : (q : Keyed → Bool) (key : List Value) (xs : List Keyed) → Above key xs → Above key (filter q xs)
filter_above q key [] h = tt
filter_above q key (x ∷ xs) h = by (q x) (filter_above q key xs h.1)
  where
    by : (b : Bool) → Above key (filter q xs) → Above key (cond b (x ∷ filter q xs) (filter q xs))
    by true more = (h.0, more)
    by false more = more

pub filter_rises : (q : Keyed → Bool) (xs : List Keyed) → Rises xs → Rises (filter q xs)
filter_rises q [] h = tt
filter_rises q (x ∷ xs) h = by (q x) (filter_rises q xs h.1)
  where
    by : (b : Bool) → Rises (filter q xs) → Rises (cond b (x ∷ filter q xs) (filter q xs))
    by true more = (filter_above q x.key xs h.0, more)
    by false more = more

-- the row, where it passes under its key
abbrev pub kept : (Keyed → Bool) → List Value → Option (List Value) → Option (List Value)
kept q key None = None
kept q key (Some row) = cond (q (record { key = key; row = row })) (Some row) None

-- the row under a key behind a filter
pub filter_row : (q : Keyed → Bool) (xs : List Keyed) (key : List Value) → Rises xs → row_of (filter q xs) key ≡ kept q key (row_of xs key)
filter_row q [] key h = refl
filter_row q (x ∷ xs) key h = by (key_order x.key key) refl (filter_row q xs key h.1)
  where
    passes : (b : Bool) → is_eq (key_order x.key key) ≡ false → row_of (cond b (x ∷ filter q xs) (filter q xs)) key ≡ row_of (filter q xs) key
    passes true e = row_later x (filter q xs) key e
    passes false e = refl

    here : (b : Bool) → key_order x.key key ≡ Equal → row_of (cond b (x ∷ filter q xs) (filter q xs)) key ≡ cond b (Some x.row) None
    here true e = row_here x (filter q xs) key e
    here false e = row_below key (filter q xs) (filter_above q key xs (subst (λ k. Above k xs) (exact_keys x.key key e) h.0))

    under : key_order x.key key ≡ Equal → cond (q x) (Some x.row) None ≡ kept q key (Some x.row)
    under e = ap (λ i. cond (q i) (Some x.row) None) (keyed_same x (record { key = key; row = x.row }) (exact_keys x.key key e) refl)

    by : (o : Ordering) → key_order x.key key ≡ o → row_of (filter q xs) key ≡ kept q key (row_of xs key) → row_of (filter q (x ∷ xs)) key ≡ kept q key (row_of (x ∷ xs) key)
    by Less e more = passes (q x) (ap is_eq e) ∙ (more ∙ ap (kept q key) (sym (row_later x xs key (ap is_eq e))))
    by Greater e more = passes (q x) (ap is_eq e) ∙ (more ∙ ap (kept q key) (sym (row_later x xs key (ap is_eq e))))
    by Equal e more = here (q x) e ∙ (under e ∙ ap (kept q key) (sym (row_here x xs key e)))

kept_matched : (pred : Pred) (key : List Value) (o : Option (List Value)) → kept (λ item. matches pred item.row) key o ≡ matched pred o
kept_matched pred key None = refl
kept_matched pred key (Some row) = refl

-- the row that a predicate finds under a key
pub matching_row : (pred : Pred) (xs : List Keyed) (key : List Value) → Rises xs → row_of (filter (λ item. matches pred item.row) xs) key ≡ matched pred (row_of xs key)
matching_row pred xs key h = filter_row (λ item. matches pred item.row) xs key h ∙ kept_matched pred key (row_of xs key)

-- where a key isn't admitted no row under it matches
pub unadmitted : (pred : Pred) (rows : List Keyed) (key : List Value) → Admitted pred rows → admits pred key ≡ false → matched pred (row_of rows key) ≡ None
unadmitted pred rows key h not' = by (row_of rows key) refl
  where
    some : (row : List Value) → row_of rows key ≡ Some row → (b : Bool) → matches pred row ≡ b → cond b (Some row) None ≡ None
    some row is false e = refl
    some row is true e =
        let at = found_stands rows key row is in
        let item : Keyed = record { key = key; row = row } in
        let fits : matches pred (slice_index_or rows at.0 item).row ≡ true = ap (λ (i : Keyed). matches pred i.row) at.2 ∙ e in
        let admitted : admits pred key ≡ true = ap (λ (i : Keyed). admits pred i.key) (sym at.2) ∙ h at.0 item at.1 fits in
        absurd (both_ways (admits pred key) not' admitted)

    by : (o : Option (List Value)) → row_of rows key ≡ o → matched pred o ≡ None
    by None is = refl
    by (Some row) is = some row is (matches pred row) refl

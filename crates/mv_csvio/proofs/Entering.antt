-- Rows that enter a map by their keys.
use Rattle.std.proofs.Math.ListN.{get_or-append}
use Rattle.std.proofs.Math.Seq.{get_or-append_seam}
use Rattle.std.proofs.Common.{append_assoc, length-append, ◌≡◌, ◌++◌, zero, suc, Bool, true, false, List, [], ◌∷◌, length, Some, refl, sym, ap, subst, ◌∙◌, arith}
use Rattle.std.specs.Prelude.{All, IsPermutation, slice_index_or, cond}
use Rattle.std.specs.Option.{is_some}
use Rattle.std.specs.Map.{lookup, keys_of}
use Rattle.std.specs.BTreeMap.{is_at, insert_entry}
use Rattle.std.specs.List.Sorted.{IsStrictlySortedBy}
use Rattle.std.specs.Ordering.{ordering_reverse, match_ordering, is_eq}
use Rattle.std.specs.declared.cmp.Ordering.{Ordering}
use Rattle.std.specs.declared.cmp.Ordering.TheVariants.{Less, Equal, Greater}
use Rattle.std.proofs.lemmas.List.{map-append}
use Rattle.std.proofs.lemmas.List.Elements.{All-cons, All-nil, All-head, All-tail}
use Rattle.std.proofs.lemmas.List.Kept.{AllPairs-cons}
use Rattle.std.proofs.lemmas.List.Sorted.{IsPermutation-refl, IsPermutation-cons, IsPermutation-sym, IsPermutation-trans, IsPermutation-to_front, IsPermutation-middle}
use Rattle.std.proofs.lemmas.Map.Views.{All-after_first}
use Rattle.std.specs.Cmp.{Equal-is}
use Rattle.mv_values.specs.declared.value.Value.{Value}
use Rattle.mv_values.specs.declared.rows.Keyed.{Keyed}
use Rattle.mv_values.specs.Keys.{IsRising, IsBelow, stored}
use Rattle.mv_values.specs.Order.{key_order}
use Rattle.mv_values.proofs.KeyOrder.{key_order_total, exact_keys}
use Rattle.mv_csvio.specs.Joining.{HasKey}

abbrev Entry : Type 0
Entry = List Value × List Value

-- a key that is found stands among the rows
key_later : (item : Keyed) (rows : List Keyed) (key : List Value) → HasKey rows key → HasKey (item ∷ rows) key
key_later item rows key h = (suc h.0, omega (arith, h.1), h.2)

found_by : (key : List Value) (e : Entry) (es : List Entry) (b : Bool) → is_at (key_order key) e.0 ≡ b → (is_some (lookup (is_at (key_order key)) es) ≡ true → HasKey (stored es) key)
    → is_some (cond b (Some e.1) (lookup (is_at (key_order key)) es)) ≡ true → HasKey (stored (e ∷ es)) key
found_by key e es true is more h = (zero, omega arith, sym (exact_keys key e.0 ((Equal-is (key_order key e.0)).0 is)))
found_by key e es false is more h = key_later (record { key = e.0; row = e.1 }) (stored es) key (more h)

pub found : (key : List Value) (es : List Entry) → is_some (lookup (is_at (key_order key)) es) ≡ true → HasKey (stored es) key
found key [] h = cc
found key (e ∷ es) h = found_by key e es (is_at (key_order key) e.0) refl (found key es) h

-- the rows of a map rise
pub rises : (es : List Entry) → IsStrictlySortedBy key_order (keys_of es) → IsRising (stored es)
unfolding IsStrictlySortedBy
rises [] h = λ i j d lt within. absurd (omega (arith, within))
rises (e ∷ es) h = AllPairs-cons (λ a b. IsBelow b.key a) (record { key = e.0; row = e.1 }) (stored es) (after es (All-after_first key_order e.0 (keys_of es) h)) (rises es h.1)
  where
    after : (fs : List Entry) → All (λ q. key_order e.0 q ≡ Less) (keys_of fs) → All (λ b. IsBelow b.key (record { key = e.0; row = e.1 })) (stored fs)
    after [] a = All-nil (λ b. IsBelow b.key (record { key = e.0; row = e.1 }))
    after (f ∷ fs) a = All-cons (λ b. IsBelow b.key (record { key = e.0; row = e.1 })) (record { key = f.0; row = f.1 }) (stored fs) (All-head (λ q. key_order e.0 q ≡ Less) f.0 (keys_of fs) a) (after fs (All-tail (λ q. key_order e.0 q ≡ Less) f.0 (keys_of fs) a))

-- a new key's row enters among the others
enter_by : (key row : List Value) (e : Entry) (es : List Entry) (o : Ordering) → is_some (cond (is_eq o) (Some e.1) (lookup (is_at (key_order key)) es)) ≡ false
    → (is_some (lookup (is_at (key_order key)) es) ≡ false → IsPermutation (record { key = key; row = row } ∷ stored es) (stored (insert_entry key_order es key row)))
    → IsPermutation (record { key = key; row = row } ∷ stored (e ∷ es)) (stored (match_ordering o ((key, row) ∷ e ∷ es) ((e.0, row) ∷ es) (e ∷ insert_entry key_order es key row)))
enter_by key row e es Less h more = IsPermutation-refl _
enter_by key row e es Equal h more = cc
enter_by key row e es Greater h more =
    IsPermutation-trans _ _ _ (IsPermutation-sym _ _ (IsPermutation-middle (record { key = e.0; row = e.1 } ∷ []) (record { key = key; row = row }) (stored es)))
    (IsPermutation-cons (record { key = e.0; row = e.1 }) _ _ (more h))

enter : (key row : List Value) (es : List Entry) → is_some (lookup (is_at (key_order key)) es) ≡ false
    → IsPermutation (record { key = key; row = row } ∷ stored es) (stored (insert_entry key_order es key row))
enter key row [] h = IsPermutation-refl _
enter key row (e ∷ es) h = enter_by key row e es (key_order key e.0) h (enter key row es)

pub enters : (item : Keyed) (es : List Entry) → is_some (lookup (is_at (key_order item.key)) es) ≡ false
    → IsPermutation (stored es ++ item ∷ []) (stored (insert_entry key_order es item.key item.row))
enters item es h = IsPermutation-trans _ _ _ (IsPermutation-to_front (stored es) item) (enter item.key item.row es h)

pub stands : (rows : List Keyed) (key : List Value) (es : List Entry) → stored es ≡ rows → is_some (lookup (is_at (key_order key)) es) ≡ true → HasKey rows key
stands rows key es is h = subst (λ rs. HasKey rs key) is (found key es h)

pub sorted_rises : (rows : List Keyed) (es : List Entry) → stored es ≡ rows → IsStrictlySortedBy key_order (keys_of es) → IsRising rows
sorted_rises rows es is h = subst IsRising is (rises es h)

pub entered : (rows : List Keyed) (item : Keyed) (es fs : List Entry) → stored es ≡ rows → is_some (lookup (is_at (key_order item.key)) es) ≡ false → IsStrictlySortedBy key_order (keys_of fs)
    → fs ≡ insert_entry key_order es item.key item.row → IsRising (stored fs) × IsPermutation (rows ++ item ∷ []) (stored fs)
entered rows item es fs is none sorted made = (
  sorted_rises (stored fs) fs refl sorted,
  subst (λ rs. IsPermutation (rs ++ item ∷ []) (stored fs)) is (subst (λ gs. IsPermutation (stored es ++ item ∷ []) (stored gs)) (sym made) (enters item es none)),
)

-- the rows in front of one are below it
pub front_below : (rows front behind : List Keyed) (item : Keyed) → IsRising rows → front ++ item ∷ behind ≡ rows → All (IsBelow item.key) front
front_below rows front behind item rising is k d within =
    let whole : IsRising (front ++ item ∷ behind) = subst IsRising (sym is) rising in
    let size = length-append front (item ∷ behind) in
    let low = get_or-append front (item ∷ behind) d k within in
    let high = get_or-append_seam front item behind d in
    subst (λ (a : Keyed). key_order a.key item.key ≡ Less) low
    (subst (λ (b : Keyed). key_order (slice_index_or (front ++ item ∷ behind) k d).key b.key ≡ Less) high (whole k (length front) d within (omega (arith, size))))

-- a key above all others enters at the end
last_by : (key row : List Value) (e : Entry) (es : List Entry) (o : Ordering) → o ≡ Greater → insert_entry key_order es key row ≡ es ++ (key, row) ∷ []
    → match_ordering o ((key, row) ∷ e ∷ es) ((e.0, row) ∷ es) (e ∷ insert_entry key_order es key row) ≡ (e ∷ es) ++ (key, row) ∷ []
last_by key row e es o is more = rw is (ap (λ l. e ∷ l) more)

enter_last : (key row : List Value) (es : List Entry) → All (IsBelow key) (stored es) → insert_entry key_order es key row ≡ es ++ (key, row) ∷ []
enter_last key row [] h = refl
enter_last key row (e ∷ es) h =
    let below = All-head (IsBelow key) (record { key = e.0; row = e.1 }) (stored es) h in
    last_by key row e es (key_order key e.0) (key_order_total.antisymm key e.0 ∙ ap ordering_reverse below) (enter_last key row es (All-tail (IsBelow key) (record { key = e.0; row = e.1 }) (stored es) h))

-- a row of rising rows enters behind those in front of it
pub enters_last : (rows behind : List Keyed) (item : Keyed) (es fs : List Entry) → IsRising rows → stored es ++ item ∷ behind ≡ rows → fs ≡ insert_entry key_order es item.key item.row
    → stored fs ++ behind ≡ rows
enters_last rows behind item es fs rising is made =
    let low = front_below rows (stored es) behind item rising is in
    let made2 : fs ≡ es ++ (item.key, item.row) ∷ [] = made ∙ enter_last item.key item.row es low in
    ap (λ l. l ++ behind) (ap stored made2 ∙ map-append (λ (e : Entry). record { key = e.0; row = e.1 }) es ((item.key, item.row) ∷ [])) ∙ (append_assoc (stored es) (item ∷ []) behind ∙ is)

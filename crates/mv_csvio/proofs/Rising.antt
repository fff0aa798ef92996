-- Rows whose keys rise: there is one such order of them, and no key comes twice.
use Rattle.std.proofs.Math.ListN.{get_or-append}
use Rattle.std.proofs.Math.Seq.{get_or-append_seam}
use Rattle.std.proofs.Common.{◌≡◌, ◌++◌, ◌∷◌, ◌<◌, ◌⊎◌, inl, inr, ℕ, zero, suc, Bool, true, false, List, [], map, length, refl, sym, ap, subst, ◌∙◌, arith, append_assoc, length-append}
use Rattle.std.specs.Prelude.{Contains, slice_index_or}
use Rattle.std.specs.List.{IsDistinct}
use Rattle.std.specs.Ordering.{ordering_reverse, is_eq}
use Rattle.std.specs.declared.cmp.Ordering.TheVariants.{Less, Greater}
use Rattle.std.proofs.Math.ListN.{get_or-map}
use Rattle.std.proofs.lemmas.List.{length-map, map-append}
use Rattle.std.proofs.lemmas.List.Sorted.{Contains-permutation, IsPermutation-map, IsPermutation-sym, IsPermutation-trans}
use Rattle.std.proofs.lemmas.Map.Keys.{IsDistinct-from_apart, IsDistinct-IsPermutation, apart_from_distinct}
use Rattle.std.proofs.lemmas.Cmp.{eq_by_cmp_equiv}
use Rattle.mv_values.specs.declared.value.Value.{Value}
use Rattle.mv_values.specs.declared.rows.Keyed.{Keyed}
use Rattle.mv_values.specs.declared.schema.TableInfo.{TableInfo}
use Rattle.mv_values.specs.Columns.{columns_of}
use Rattle.mv_values.specs.Keys.{IsRising, keys}
use Rattle.mv_values.specs.Order.{key_order}
use Rattle.mv_values.proofs.KeyOrder.{key_order_total, same_key}
use Rattle.mv_csvio.specs.Joining.{HasJoined, HasKey, under_key}

not_back : (a b : List Value) → key_order a b ≡ Less → key_order b a ≡ Less → ⊥
not_back a b p q =
    let e : Less ≡ Greater = sym p ∙ (key_order_total.antisymm a b ∙ ap ordering_reverse q) in
    cc e

tail_rises : (x : Keyed) (xs : List Keyed) → IsRising (x ∷ xs) → IsRising xs
tail_rises x xs h = λ i j d lt within. h (suc i) (suc j) d (omega (arith, lt)) (omega (arith, within))

in_tail : {A : Type 0} (x : A) (xs : List A) (z : A) → Contains (x ∷ xs) z → (z ≡ x) ⊎ Contains xs z
in_tail x xs z h = by h.0 h.1 h.2
  where
    by : (k : ℕ) → k < length (x ∷ xs) → slice_index_or (x ∷ xs) k z ≡ z → (z ≡ x) ⊎ Contains xs z
    by zero lt is = inl (sym is)
    by (suc k) lt is = inr (k, omega (arith, lt), is)

in_more : {A : Type 0} (x : A) (xs : List A) (z : A) → Contains xs z → Contains (x ∷ xs) z
in_more x xs z h = (suc h.0, omega (arith, h.1), h.2)

in_head : {A : Type 0} (x : A) (xs : List A) → Contains (x ∷ xs) x
in_head x xs = (zero, omega arith, refl)

in_none : {A : Type 0} (z : A) → Contains [] z → ⊥
in_none z h = omega (arith, h.1)

-- the first key is below the others
head_below : (x : Keyed) (xs : List Keyed) (z : Keyed) → IsRising (x ∷ xs) → Contains xs z → key_order x.key z.key ≡ Less
head_below x xs z h c = subst (λ (y : Keyed). key_order x.key y.key ≡ Less) c.2 (h zero (suc c.0) z (omega arith) (omega (arith, c.1)))

heads : (x y : Keyed) (xs ys : List Keyed) → IsRising (x ∷ xs) → IsRising (y ∷ ys) → (x ≡ y) ⊎ Contains ys x → (y ≡ x) ⊎ Contains xs y → x ≡ y
heads x y xs ys h g (inl e) k = e
heads x y xs ys h g (inr c) (inl e) = sym e
heads x y xs ys h g (inr c) (inr d) = absurd (not_back y.key x.key (head_below y ys x g c) (head_below x xs y h d))

-- what stands behind the same head stands behind it there too
behind : (x y : Keyed) (xs ys : List Keyed) (z : Keyed) → x ≡ y → IsRising (x ∷ xs) → Contains xs z → (z ≡ y) ⊎ Contains ys z → Contains ys z
behind x y xs ys z same h c (inr d) = d
behind x y xs ys z same h c (inl e) =
    let low : key_order x.key x.key ≡ Less = subst (λ (k : Keyed). key_order x.key k.key ≡ Less) (e ∙ sym same) (head_below x xs z h c) in
    absurd (not_back x.key x.key low low)

-- rising rows with the same items are one list
same_items : (xs ys : List Keyed) → IsRising xs → IsRising ys → ((z : Keyed) → Contains xs z → Contains ys z) → ((z : Keyed) → Contains ys z → Contains xs z) → xs ≡ ys
same_items [] [] h g f b = refl
same_items [] (y ∷ ys) h g f b = absurd (in_none y (b y (in_head y ys)))
same_items (x ∷ xs) [] h g f b = absurd (in_none x (f x (in_head x xs)))
same_items (x ∷ xs) (y ∷ ys) h g f b =
    let head : x ≡ y = heads x y xs ys h g (in_tail y ys x (f x (in_head x xs))) (in_tail x xs y (b y (in_head y ys))) in
    let tail : xs ≡ ys = same_items xs ys (tail_rises x xs h) (tail_rises y ys g)
    (λ z c. behind x y xs ys z head h c (in_tail y ys z (f z (in_more x xs z c))))
    (λ z c. behind y x ys xs z (sym head) g c (in_tail x xs z (b z (in_more y ys z c)))) in
    cc

-- rows join in one way
pub joined_once : (table : TableInfo) (before : List Keyed) (rows : List (List Value)) (one two : List Keyed) → HasJoined table before rows one → HasJoined table before rows two → one ≡ two
joined_once table before rows one two h g =
    let there = IsPermutation-trans one _ two (IsPermutation-sym _ one h.1) g.1 in
    same_items one two h.0 g.0 (λ z c. Contains-permutation one two z there c) (λ z c. Contains-permutation two one z (IsPermutation-sym one two there) c)

-- whether two keys are one
abbrev alike : List Value → List Value → Bool
alike a b = is_eq (key_order a b)

alike_both : (a b : List Value) → alike a b ≡ alike b a
alike_both a b = (eq_by_cmp_equiv key_order_total).symm a b

alike_self : (a : List Value) → alike a a ≡ true
alike_self a = ap is_eq (same_key a)

rising_apart : (rows : List Keyed) → IsRising rows → IsDistinct alike (keys rows)
rising_apart rows h = IsDistinct-from_apart alike (keys rows) apart
  where
    apart : (i j : ℕ) (d : List Value) → i < j → j < length (keys rows) → alike (slice_index_or (keys rows) i d) (slice_index_or (keys rows) j d) ≡ false
    apart i j d lt within =
        let item : Keyed = record { key = d; row = [] } in
        let size = length-map rows (λ (k : Keyed). k.key) in
        let low = h i j item lt (omega (arith, within, size)) in
        rw (get_or-map (λ (k : Keyed). k.key) rows i item, get_or-map (λ (k : Keyed). k.key) rows j item) (ap is_eq low)

-- a key that stands in front of one like it isn't apart from it
not_apart : (front : List (List Value)) (key : List Value) (rest : List (List Value)) → Contains front key → IsDistinct alike (front ++ key ∷ rest) → ⊥
not_apart front key rest h apart =
    let size = length-append front (key ∷ rest) in
    let differ = apart_from_distinct alike (front ++ key ∷ rest) h.0 (length front) key apart h.1 (omega (arith, size)) in
    let low : slice_index_or (front ++ key ∷ rest) h.0 key ≡ key = get_or-append front (key ∷ rest) key h.0 h.1 ∙ h.2 in
    let high : slice_index_or (front ++ key ∷ rest) (length front) key ≡ key = get_or-append_seam front key rest key in
    let self : alike key key ≡ false = sym (ap (λ k. alike k key) low ∙ refl) ∙ (sym (ap (λ k. alike (slice_index_or (front ++ key ∷ rest) h.0 key) k) high) ∙ differ) in
    let same : true ≡ false = sym (alike_self key) ∙ self in
    cc same

-- where a row's key is there, no rows with it join
pub no_join : (table : TableInfo) (before : List Keyed) (front : List (List Value)) (row : List Value) (rest : List (List Value)) (there after : List Keyed)
    → HasJoined table before front there → HasKey there (columns_of row table.key) → HasJoined table before (front ++ row ∷ rest) after → ⊥
no_join table before front row rest there after h key g =
    let u = under_key table in
    let joined = before ++ map u front in
    let all = before ++ map u (front ++ row ∷ rest) in
    let whole : all ≡ joined ++ u row ∷ map u rest = ap (λ l. before ++ l) (map-append u front (row ∷ rest)) ∙ sym (append_assoc before (map u front) (u row ∷ map u rest)) in
    let parts : keys all ≡ keys joined ++ columns_of row table.key ∷ keys (map u rest) = ap keys whole ∙ map-append (λ (k : Keyed). k.key) joined (u row ∷ map u rest) in
    let stands : Contains (keys joined) (columns_of row table.key) =
    Contains-permutation (keys there) (keys joined) (columns_of row table.key) (IsPermutation-sym (keys joined) (keys there) (IsPermutation-map (λ (k : Keyed). k.key) joined there h.1)) key in
    let apart : IsDistinct alike (keys all) =
    IsDistinct-IsPermutation alike alike_both (keys after) (keys all) (IsPermutation-sym (keys all) (keys after) (IsPermutation-map (λ (k : Keyed). k.key) all after g.1)) (rising_apart after g.0) in
    not_apart (keys joined) (columns_of row table.key) (keys (map u rest)) stands (subst (IsDistinct alike) parts apart)

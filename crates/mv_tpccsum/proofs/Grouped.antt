-- The totals of groups with one more number.
use Rattle.std.proofs.Common.{◌≡◌, ◌∙◌, ◌<◌, ◌≤ℤ◌, ◌+◌, ◌+ℤ◌, ◌^◌, ℕ, ℤ, Bool, cond, true, false, List, [], ◌∷◌, ◌++◌, Option, Some, None, map, length, take, slice_index_or, pos, neg_ℤ, refl, sym, ap, ap₂, subst, arith, append-nil}
use Rattle.std.specs.Int.{int_max, int_min}
use Rattle.std.specs.List.{filter, fold}
use Rattle.std.specs.Ordering.{is_eq}
use Rattle.std.proofs.lemmas.Int.{ints}
use Rattle.std.proofs.lemmas.List.{length-append, map-append, take_more}
use Rattle.std.proofs.lemmas.List.Sums.{fold_push}
use Rattle.std.specs.Cmp.{Equal-is}
use Rattle.mv_values.specs.declared.value.Value.{Value}
use Rattle.mv_values.specs.declared.rows.Keyed.{Keyed}
use Rattle.mv_values.specs.Columns.{column_of, columns_of, number}
use Rattle.mv_values.specs.Order.{key_order}
use Rattle.mv_values.proofs.KeyOrder.{exact_keys}
use Rattle.mv_table.specs.Entries.{item_of}
use Rattle.mv_tpccsum.specs.declared.totals.Totals.{Totals}
use Rattle.mv_tpccsum.specs.Tables.{Entry, entry_of, sum_of}
use Rattle.mv_tpccsum.specs.Consistent.{largest, smallest, numbers_of}
use Rattle.mv_tpccsum.specs.Grouping.{IsGroups, IsSmall, IsTotalsOf, HasTotals, with_number}

pub sum_more : (zs : List ℤ) (z : ℤ) → sum_of (zs ++ z ∷ []) ≡ sum_of zs +ℤ z
sum_more [] z = omega (arith, ints)
sum_more (y ∷ ys) z =
    let turn : y +ℤ (sum_of ys +ℤ z) ≡ (y +ℤ sum_of ys) +ℤ z = omega (arith, ints) in
    ap (λ s. y +ℤ s) (sum_more ys z) ∙ turn

largest_more : (zs : List ℤ) (z most : ℤ) → largest zs ≡ Some most → largest (zs ++ z ∷ []) ≡ Some (int_max most z)
largest_more [] z most e = cc
largest_more (y ∷ ys) z most e =
    let same : fold int_max y ys ≡ most = cc in
    ap Some (fold_push int_max y ys z ∙ ap (λ m. int_max m z) same)

smallest_more : (zs : List ℤ) (z least : ℤ) → smallest zs ≡ Some least → smallest (zs ++ z ∷ []) ≡ Some (int_min least z)
smallest_more [] z least e = cc
smallest_more (y ∷ ys) z least e =
    let same : fold int_min y ys ≡ least = cc in
    ap Some (fold_push int_min y ys z ∙ ap (λ m. int_min m z) same)

with_more : (n : ℕ) (zs : List ℤ) (z : ℤ) (o : Option Totals) → HasTotals n zs o → neg_ℤ (pos (2 ^ 63)) ≤ℤ z → z ≤ℤ pos (2 ^ 63) → IsTotalsOf (n + 1) (zs ++ z ∷ []) (with_number o z)
with_more n zs z None h lo hi =
    let alone : sum_of (z ∷ []) ≡ z = omega (arith, ints) in
    record {
      sum = sym (ap (λ (l : List ℤ). sum_of (l ++ z ∷ [])) h ∙ alone);
      least = ap (λ (l : List ℤ). smallest (l ++ z ∷ [])) h;
      most = ap (λ (l : List ℤ). largest (l ++ z ∷ [])) h;
      count = sym (ap (λ (l : List ℤ). length (l ++ z ∷ [])) h);
      few = omega arith;
      low = omega (arith, ints);
      high = omega (arith, ints);
    }
with_more n zs z (Some t) h lo hi = record {
  sum = ap (λ s. s +ℤ z) h.sum ∙ sym (sum_more zs z);
  least = smallest_more zs z t.least h.least;
  most = largest_more zs z t.most h.most;
  count = omega (arith, h.count, length-append zs (z ∷ []));
  few = omega (arith, h.few);
  low = omega (arith, ints, h.low);
  high = omega (arith, ints, h.high);
}

still : (n : ℕ) (zs : List ℤ) (o : Option Totals) → HasTotals n zs o → HasTotals (n + 1) zs o
still n zs None h = h
still n zs (Some t) h = record {
  sum = h.sum;
  least = h.least;
  most = h.most;
  count = h.count;
  few = omega (arith, h.few);
  low = omega (arith, ints, h.low);
  high = omega (arith, ints, h.high);
}

numbers_more : (es : List Entry) (e : Entry) (key : List Value) → numbers_of (es ++ e ∷ []) key ≡ numbers_of es key ++ cond (is_eq (key_order e.0 key)) (e.1 ∷ []) []
numbers_more [] e key = go (is_eq (key_order e.0 key))
  where
    go : (b : Bool) → map (λ (x : Entry). x.1) (cond b (e ∷ []) []) ≡ cond b (e.1 ∷ []) []
    go true = refl
    go false = refl
numbers_more (x ∷ es) e key = go (is_eq (key_order x.0 key)) (numbers_more es e key)
  where
    go : (b : Bool) → numbers_of (es ++ e ∷ []) key ≡ numbers_of es key ++ cond (is_eq (key_order e.0 key)) (e.1 ∷ []) []
        → map (λ (y : Entry). y.1) (cond b (x ∷ filter (λ (y : Entry). is_eq (key_order y.0 key)) (es ++ e ∷ [])) (filter (λ (y : Entry). is_eq (key_order y.0 key)) (es ++ e ∷ [])))
        ≡ map (λ (y : Entry). y.1) (cond b (x ∷ filter (λ (y : Entry). is_eq (key_order y.0 key)) es) (filter (λ (y : Entry). is_eq (key_order y.0 key)) es)) ++ cond (is_eq (key_order e.0 key)) (e.1 ∷ []) []
    go true h = ap (λ zs. x.1 ∷ zs) h
    go false h = h

-- the groups with one more number
pub one_more : (n : ℕ) (es : List Entry) (e : Entry) (old new : List (List Value × Totals)) (key : List Value)
    → ((k : List Value) → HasTotals n (numbers_of es k) (item_of old k)) → neg_ℤ (pos (2 ^ 63)) ≤ℤ e.1 → e.1 ≤ℤ pos (2 ^ 63)
    → item_of new key ≡ cond (is_eq (key_order e.0 key)) (Some (with_number (item_of old e.0) e.1)) (item_of old key)
    → HasTotals (n + 1) (numbers_of (es ++ e ∷ []) key) (item_of new key)
one_more n es e old new key told lo hi at = by_case (is_eq (key_order e.0 key)) refl
  where
    by_case : (b : Bool) → is_eq (key_order e.0 key) ≡ b → HasTotals (n + 1) (numbers_of (es ++ e ∷ []) key) (item_of new key)
    by_case true is =
        let same : e.0 ≡ key = exact_keys e.0 key ((Equal-is (key_order e.0 key)).0 is) in
        let numbers : numbers_of (es ++ e ∷ []) key ≡ numbers_of es key ++ e.1 ∷ [] = numbers_more es e key ∙ ap (λ b. numbers_of es key ++ cond b (e.1 ∷ []) []) is in
        let item : item_of new key ≡ Some (with_number (item_of old e.0) e.1) = at ∙ ap (λ b. cond b (Some (with_number (item_of old e.0) e.1)) (item_of old key)) is in
        let fresh = with_more n (numbers_of es e.0) e.1 (item_of old e.0) (told e.0) lo hi in
        let here = subst (λ (k : List Value). IsTotalsOf (n + 1) (numbers_of es k ++ e.1 ∷ []) (with_number (item_of old e.0) e.1)) same fresh in
        subst (λ (zs : List ℤ). HasTotals (n + 1) zs (item_of new key)) (sym numbers)
        (subst (λ (o : Option Totals). HasTotals (n + 1) (numbers_of es key ++ e.1 ∷ []) o) (sym item) here)
    by_case false is =
        let numbers : numbers_of (es ++ e ∷ []) key ≡ numbers_of es key = numbers_more es e key ∙ (ap (λ b. numbers_of es key ++ cond b (e.1 ∷ []) []) is ∙ append-nil (numbers_of es key)) in
        let item : item_of new key ≡ item_of old key = at ∙ ap (λ b. cond b (Some (with_number (item_of old e.0) e.1)) (item_of old key)) is in
        subst (λ (zs : List ℤ). HasTotals (n + 1) zs (item_of new key)) (sym numbers)
        (subst (λ (o : Option Totals). HasTotals (n + 1) (numbers_of es key) o) (sym item) (still n (numbers_of es key) (item_of old key) (told key)))

-- one more number fits
pub small : (n : ℕ) (zs : List ℤ) (o : Option Totals) → HasTotals n zs o → n + 1 < 2 ^ 64 → IsSmall o
small n zs None h few = tt
small n zs (Some t) h few = (omega (arith, h.few), omega (arith, ints, h.low), omega (arith, ints, h.high))

-- the groups of the rows up to one more
pub groups_more : (places : List ℕ) (place : ℕ) (rows : List Keyed) (i : ℕ) (item : Keyed) (old new : List (List Value × Totals)) (key : List Value) (z : ℤ) (t : Totals)
    → i < length rows → item ≡ slice_index_or rows i item → columns_of item.row places ≡ key → number (column_of item.row place) ≡ z
    → IsGroups i (map (entry_of places place) (take i rows)) old → neg_ℤ (pos (2 ^ 63)) ≤ℤ z → z ≤ℤ pos (2 ^ 63)
    → t ≡ with_number (item_of old key) z
    → ((other : List Value) → item_of new other ≡ cond (is_eq (key_order key other)) (Some t) (item_of old other))
    → IsGroups (i + 1) (map (entry_of places place) (take (i + 1) rows)) new
groups_more places place rows i item old new key z t lt is key_is z_is told lo hi t_is at = λ other.
    let more : map (entry_of places place) (take (i + 1) rows) ≡ map (entry_of places place) (take i rows) ++ (key, z) ∷ [] =
    ap (map (entry_of places place)) (take_more rows i item lt ∙ ap (λ (x : Keyed). take i rows ++ x ∷ []) (sym is))
    ∙ (map-append (entry_of places place) (take i rows) (item ∷ []) ∙ ap₂ (λ (k : List Value) (n : ℤ). map (entry_of places place) (take i rows) ++ (k, n) ∷ []) key_is z_is) in
    let item_is : item_of new other ≡ cond (is_eq (key_order key other)) (Some (with_number (item_of old key) z)) (item_of old other) =
    at other ∙ ap (λ (x : Totals). cond (is_eq (key_order key other)) (Some x) (item_of old other)) t_is in
    subst (λ (es : List Entry). HasTotals (i + 1) (numbers_of es other) (item_of new other)) (sym more)
    (one_more i (map (entry_of places place) (take i rows)) (key, z) old new other told lo hi item_is)

-- A stable sort gives the rows in ORDER BY order.
use Rattle.std.proofs.Common.{◌≡◌, ℕ, zero, suc, Bool, true, false, cond, ◌&&◌, not, List, [], ◌∷◌, All, AllPairs, map, filter, slice_index_or, refl, sym, ap, subst, ◌∙◌, arith, if◌then◌else◌}
use Rattle.std.proofs.lemmas.Cmp.{tied_itself, upto, on_total, then_total, back_total}
use Rattle.std.proofs.lemmas.List.Elements.{All-cons, All-nil, All-head, All-tail, All-filter}
use Rattle.std.proofs.lemmas.List.Kept.{AllPairs-cons}
use Rattle.std.proofs.lemmas.List.Sorted.{ranks_by, sorted_far}
use Rattle.std.specs.Cmp.{IsTotalOrder}
use Rattle.std.specs.List.Sorted.{IsSortedBy, IsStableBy, ties}
use Rattle.std.specs.Ordering.{is_lt, is_gt, ordering_reverse, ordering_then}
use Rattle.std.specs.declared.cmp.Ordering.{Ordering}
use Rattle.std.specs.declared.cmp.Ordering.TheVariants.{Less, Equal, Greater}
use Rattle.mv_values.specs.declared.value.Value.{Value}
use Rattle.mv_values.specs.declared.rows.Keyed.{Keyed}
use Rattle.mv_values.specs.Columns.{column_of, columns_of}
use Rattle.mv_values.specs.Order.{value_order, key_order}
use Rattle.mv_values.proofs.KeyOrder.{value_order_total, key_order_total}
use Rattle.mv_catalog.specs.declared.resolved.RSort.{RSort}
use Rattle.mv_eval.specs.Rows.{then_by, put_in, sorted, sort_order, ordered, projected}

abbrev pub less : {X : Type 0} → (X → X → Ordering) → X → X → Bool
less order a b = is_lt (order a b)

-- b isn't less than a
abbrev Upto : {X : Type 0} → (X → X → Ordering) → X → X → Type 0
Upto order a b = is_lt (order b a) ≡ false

not_greater : (o : Ordering) → is_lt o ≡ false → is_gt (ordering_reverse o) ≡ false
not_greater Less h = cc
not_greater Equal h = refl
not_greater Greater h = refl

not_less : (o : Ordering) → is_gt o ≡ false → is_lt (ordering_reverse o) ≡ false
not_less Less h = refl
not_less Equal h = refl
not_less Greater h = cc

greater_not_less : (o : Ordering) → is_gt o ≡ true → is_lt o ≡ false
greater_not_less Less h = cc
greater_not_less Equal h = cc
greater_not_less Greater h = refl

upto_is : {X : Type 0} {order : X → X → Ordering} (o : IsTotalOrder order) (a b : X) → is_gt (order a b) ≡ false → Upto order a b
upto_is {X} {order} o a b h = subst (λ p. is_lt p ≡ false) (sym (o.antisymm b a)) (not_less (order a b) h)

upto_at : {X : Type 0} {order : X → X → Ordering} (o : IsTotalOrder order) (a b : X) → Upto order a b → is_gt (order a b) ≡ false
upto_at {X} {order} o a b h = subst (λ p. is_gt p ≡ false) (sym (o.antisymm a b)) (not_greater (order b a) h)

upto_on : {X : Type 0} {order : X → X → Ordering} (o : IsTotalOrder order) (a b c : X) → is_gt (order a b) ≡ false → Upto order b c → Upto order a c
upto_on o a b c h k = upto_is o a c (upto o a b c h (upto_at o b c k))

both_not : (a b : Bool) → a ≡ false → b ≡ false → not a && not b ≡ true
both_not a b h k = rw (h, k) refl

tied_equal : {X : Type 0} {order : X → X → Ordering} (o : IsTotalOrder order) (a b : X) → ties (less order) a b ≡ true → order a b ≡ Equal
tied_equal {X} {order} o a b h = by (order a b) refl (subst (λ p. not (is_lt (order a b)) && not (is_lt p) ≡ true) (o.antisymm b a) h)
  where
    by : (p : Ordering) → order a b ≡ p → not (is_lt (order a b)) && not (is_lt (ordering_reverse (order a b))) ≡ true → order a b ≡ Equal
    by Less e k = let no : false ≡ true = subst (λ q. not (is_lt q) && not (is_lt (ordering_reverse q)) ≡ true) e k in cc
    by Equal e k = e
    by Greater e k = let no : false ≡ true = subst (λ q. not (is_lt q) && not (is_lt (ordering_reverse q)) ≡ true) e k in cc

tied_self : {X : Type 0} {order : X → X → Ordering} (o : IsTotalOrder order) (a : X) → ties (less order) a a ≡ true
tied_self {X} {order} o a = let same : order a a ≡ Equal = tied_itself o a in rw same refl

-- what is put in keeps the order of those that tie
put_filter : {X : Type 0} {order : X → X → Ordering} (o : IsTotalOrder order) (z x : X) (ys : List X) → filter (ties (less order) z) (put_in order x ys) ≡ filter (ties (less order) z) (x ∷ ys)
put_filter o z x [] = refl
put_filter {X} {order} o z x (y ∷ ys) = by (is_gt (order x y)) refl (put_filter o z x ys)
  where
    rest : List X
    rest = filter (ties (less order) z) ys

    over : (b c : Bool) → ties (less order) z x ≡ b → ties (less order) z y ≡ c → is_gt (order x y) ≡ true → cond c (y ∷ cond b (x ∷ rest) rest) (cond b (x ∷ rest) rest) ≡ cond b (x ∷ cond c (y ∷ rest) rest) (cond c (y ∷ rest) rest)
    over false c p q h = refl
    over true false p q h = refl
    over true true p q h =
        let same : order z y ≡ order x y = o.congr z x y (tied_equal o z x p) in
        let equal : order x y ≡ Equal = sym same ∙ tied_equal o z y q in
        let no : is_gt Equal ≡ true = subst (λ r. is_gt r ≡ true) equal h in
        cc

    by : (b : Bool) → is_gt (order x y) ≡ b → filter (ties (less order) z) (put_in order x ys) ≡ filter (ties (less order) z) (x ∷ ys)
        → filter (ties (less order) z) (cond b (y ∷ put_in order x ys) (x ∷ y ∷ ys)) ≡ filter (ties (less order) z) (x ∷ y ∷ ys)
    by false e h = refl
    by true e h =
        ap (λ l. cond (ties (less order) z y) (y ∷ l) l) h ∙ over (ties (less order) z x) (ties (less order) z y) refl refl e

pub put_all : {X : Type 0} (order : X → X → Ordering) (P : X → Type 0) (x : X) (ys : List X) → All P ys → P x → All P (put_in order x ys)
put_all order P x [] all p = All-cons P x [] p (All-nil P)
put_all {X} order P x (y ∷ ys) all p = by (is_gt (order x y)) (put_all order P x ys (All-tail P _ _ all) p)
  where
    by : (b : Bool) → All P (put_in order x ys) → All P (cond b (y ∷ put_in order x ys) (x ∷ y ∷ ys))
    by false h = All-cons P x (y ∷ ys) p all
    by true h = All-cons P y (put_in order x ys) (All-head P _ _ all) h

pairs_tail : {X : Type 0} (R : X → X → Type 0) (x : X) (xs : List X) → AllPairs R (x ∷ xs) → AllPairs R xs
pairs_tail R x xs h = λ i j d below within. h (suc i) (suc j) d (omega (arith, below)) (omega (arith, within))

pairs_head : {X : Type 0} (R : X → X → Type 0) (x : X) (xs : List X) → AllPairs R (x ∷ xs) → All (R x) xs
pairs_head R x xs h = λ k d within. h zero (suc k) d (omega arith) (omega (arith, within))

put_rises : {X : Type 0} {order : X → X → Ordering} (o : IsTotalOrder order) (x : X) (ys : List X) → AllPairs (Upto order) ys → AllPairs (Upto order) (put_in order x ys)
put_rises {X} {order} o x [] h = AllPairs-cons (Upto order) x [] (All-nil (Upto order x)) h
put_rises {X} {order} o x (y ∷ ys) h = by (is_gt (order x y)) refl (put_rises o x ys (pairs_tail (Upto order) y ys h))
  where
    later : All (Upto order y) ys
    later = pairs_head (Upto order) y ys h

    by : (b : Bool) → is_gt (order x y) ≡ b → AllPairs (Upto order) (put_in order x ys) → AllPairs (Upto order) (cond b (y ∷ put_in order x ys) (x ∷ y ∷ ys))
    by false e r = AllPairs-cons (Upto order) x (y ∷ ys) (All-cons (Upto order x) y ys (upto_is o x y e) (λ k d within. upto_on o x y (slice_index_or ys k d) e (later k d within))) h
    by true e r = AllPairs-cons (Upto order) y (put_in order x ys) (put_all order (Upto order y) x ys later (greater_not_less (order x y) e)) r

sorted_filter : {X : Type 0} {order : X → X → Ordering} (o : IsTotalOrder order) (z : X) (xs : List X) → filter (ties (less order) z) (sorted order xs) ≡ filter (ties (less order) z) xs
sorted_filter o z [] = refl
sorted_filter {X} {order} o z (x ∷ xs) = put_filter o z x (sorted order xs) ∙ ap (λ l. cond (ties (less order) z x) (x ∷ l) l) (sorted_filter o z xs)

sorted_rises : {X : Type 0} {order : X → X → Ordering} (o : IsTotalOrder order) (xs : List X) → AllPairs (Upto order) (sorted order xs)
sorted_rises o [] = λ i j d below within. absurd (omega (arith, within))
sorted_rises {X} {order} o (x ∷ xs) = put_rises o x (sorted order xs) (sorted_rises o xs)

kept : {X : Type 0} (p : X → Bool) (x : X) (xs : List X) → p x ≡ true → filter p (x ∷ xs) ≡ x ∷ filter p xs
kept p x xs h = rw h refl

passed_over : {X : Type 0} (p : X → Bool) (x : X) (xs : List X) → p x ≡ false → filter p (x ∷ xs) ≡ filter p xs
passed_over p x xs h = rw h refl

-- what stands first in one list isn't less than the first of the other
first_upto : {X : Type 0} {order : X → X → Ordering} (o : IsTotalOrder order) (x y : X) (xs ys : List X) → All (Upto order y) ys → filter (ties (less order) x) (y ∷ ys) ≡ filter (ties (less order) x) (x ∷ xs) → ties (less order) x y ≡ false → Upto order y x
first_upto {X} {order} o x y xs ys later same apart =
    let is : filter (ties (less order) x) ys ≡ x ∷ filter (ties (less order) x) xs =
    sym (passed_over (ties (less order) x) y ys apart) ∙ (same ∙ kept (ties (less order) x) x xs (tied_self o x)) in
    All-head (Upto order y) x (filter (ties (less order) x) xs) (subst (All (Upto order y)) is (All-filter (ties (less order) x) (Upto order y) ys later))

tied_other : {X : Type 0} (order : X → X → Ordering) (x y : X) → ties (less order) x y ≡ false → ties (less order) y x ≡ false
tied_other order x y h = by (is_lt (order x y)) (is_lt (order y x)) h
  where
    by : (a b : Bool) → not a && not b ≡ false → not b && not a ≡ false
    by true true h = refl
    by true false h = refl
    by false true h = refl
    by false false h = cc

cons_first : {X : Type 0} (x y : X) (xs ys : List X) → y ∷ ys ≡ x ∷ xs → y ≡ x
cons_first x y xs ys h = cc

cons_rest : {X : Type 0} (x y : X) (xs ys : List X) → y ∷ ys ≡ x ∷ xs → ys ≡ xs
cons_rest x y xs ys h = cc

-- two lists in order, whose things that tie stand alike, are the same
same_sorted : {X : Type 0} {order : X → X → Ordering} (o : IsTotalOrder order) (xs ys : List X) → AllPairs (Upto order) xs → AllPairs (Upto order) ys
    → ((z : X) → filter (ties (less order) z) ys ≡ filter (ties (less order) z) xs) → ys ≡ xs
same_sorted o [] [] up rise same = refl
same_sorted {X} {order} o [] (y ∷ ys) up rise same = let no = sym (kept (ties (less order) y) y ys (tied_self o y)) ∙ same y in cc
same_sorted {X} {order} o (x ∷ xs) [] up rise same = let no = same x ∙ kept (ties (less order) x) x xs (tied_self o x) in cc
same_sorted {X} {order} o (x ∷ xs) (y ∷ ys) up rise same = by (ties (less order) x y) refl (λ more. same_sorted o xs ys (pairs_tail (Upto order) x xs up) (pairs_tail (Upto order) y ys rise) more)
  where
    both : ties (less order) x y ≡ true → (y ≡ x) × (filter (ties (less order) x) ys ≡ filter (ties (less order) x) xs)
    both e =
        let is : y ∷ filter (ties (less order) x) ys ≡ x ∷ filter (ties (less order) x) xs =
        sym (kept (ties (less order) x) y ys e) ∙ (same x ∙ kept (ties (less order) x) x xs (tied_self o x)) in
        (cons_first x y (filter (ties (less order) x) xs) (filter (ties (less order) x) ys) is, cons_rest x y (filter (ties (less order) x) xs) (filter (ties (less order) x) ys) is)

    rest : (b : Bool) (u v : List X) → cond b (x ∷ u) u ≡ cond b (x ∷ v) v → u ≡ v
    rest true u v h = cc
    rest false u v h = h

    by : (b : Bool) → ties (less order) x y ≡ b → (((z : X) → filter (ties (less order) z) ys ≡ filter (ties (less order) z) xs) → ys ≡ xs) → y ∷ ys ≡ x ∷ xs
    by true e later =
        let one = both e in
        let more : ys ≡ xs = later (λ z. rest (ties (less order) z x) (filter (ties (less order) z) ys) (filter (ties (less order) z) xs)
        (subst (λ w. cond (ties (less order) z w) (w ∷ filter (ties (less order) z) ys) (filter (ties (less order) z) ys) ≡ filter (ties (less order) z) (x ∷ xs)) one.0 (same z))) in
        ap (λ w. w ∷ ys) one.0 ∙ ap (λ l. x ∷ l) more
    by false e later =
        let low : Upto order y x = first_upto o x y xs ys (pairs_head (Upto order) y ys rise) (same x) e in
        let high : Upto order x y = first_upto o y x ys xs (pairs_head (Upto order) x xs up) (sym (same y)) (tied_other order x y e) in
        let no : true ≡ false = sym (both_not (is_lt (order x y)) (is_lt (order y x)) low high) ∙ e in
        cc

-- a stable sort puts each thing where putting them in one by one does
pub sort_is : {X : Type 0} {order : X → X → Ordering} (o : IsTotalOrder order) (xs ys : List X) → IsSortedBy (less order) ys → IsStableBy (less order) xs ys → ys ≡ sorted order xs
sort_is {X} {order} o xs ys up stable =
    same_sorted o (sorted order xs) ys (sorted_rises o xs)
    (λ i j d below within. sorted_far (less order) (ranks_by o (λ x. x)) ys up i j d (omega (arith, below)) within)
    (λ z. stable z ∙ sym (sorted_filter o z xs))

put_seen : {X Y : Type 0} (f : X → Y) (order : Y → Y → Ordering) (x : X) (ys : List X) → map f (put_in (λ a b. order (f a) (f b)) x ys) ≡ put_in order (f x) (map f ys)
put_seen f order x [] = refl
put_seen {X} {Y} f order x (y ∷ ys) = by (is_gt (order (f x) (f y))) (put_seen f order x ys)
  where
    by : (b : Bool) → map f (put_in (λ a b. order (f a) (f b)) x ys) ≡ put_in order (f x) (map f ys)
        → map f (cond b (y ∷ put_in (λ a b. order (f a) (f b)) x ys) (x ∷ y ∷ ys)) ≡ cond b (f y ∷ put_in order (f x) (map f ys)) (f x ∷ f y ∷ map f ys)
    by true h = ap (λ l. f y ∷ l) h
    by false h = refl

sorted_seen : {X Y : Type 0} (f : X → Y) (order : Y → Y → Ordering) (xs : List X) → map f (sorted (λ a b. order (f a) (f b)) xs) ≡ sorted order (map f xs)
sorted_seen f order [] = refl
sorted_seen f order (x ∷ xs) = put_seen f order x (sorted (λ a b. order (f a) (f b)) xs) ∙ ap (put_in order (f x)) (sorted_seen f order xs)

same_total : {X : Type 0} (R S : X → X → Ordering) → ((a b : X) → S a b ≡ R a b) → IsTotalOrder R → IsTotalOrder S
same_total R S same o = record {
  antisymm = λ x y. same x y ∙ (o.antisymm x y ∙ ap ordering_reverse (sym (same y x)));
  trans = λ x y z h k. same x z ∙ o.trans x y z (sym (same x y) ∙ h) (sym (same y z) ∙ k);
  congr = λ x y z h. same x z ∙ (o.congr x y z (sym (same x y) ∙ h) ∙ sym (same y z));
}

then_same : (o p : Ordering) → then_by o p ≡ ordering_then o p
then_same Less p = refl
then_same Equal p = refl
then_same Greater p = refl

up_total : (c : ℕ) → IsTotalOrder (λ (a b : Keyed). value_order (column_of a.row c) (column_of b.row c))
up_total c = on_total (λ (a : Keyed). column_of a.row c) value_order_total

directed : (c : ℕ) (down : Bool) → IsTotalOrder (λ (a b : Keyed). let up = value_order (column_of a.row c) (column_of b.row c) in if down then ordering_reverse up else up)
directed c false = up_total c
directed c true =
    same_total (λ (a b : Keyed). value_order (column_of b.row c) (column_of a.row c)) (λ (a b : Keyed). ordering_reverse (value_order (column_of a.row c) (column_of b.row c)))
    (λ a b. sym (value_order_total.antisymm (column_of b.row c) (column_of a.row c))) (back_total (up_total c))

pub sort_order_total : (sorts : List RSort) → IsTotalOrder (sort_order sorts)
sort_order_total [] = on_total (λ (item : Keyed). item.key) key_order_total
sort_order_total (s ∷ ss) =
    same_total (λ (a b : Keyed). ordering_then (let up = value_order (column_of a.row s.column) (column_of b.row s.column) in if s.descending then ordering_reverse up else up) (sort_order ss a b)) (sort_order (s ∷ ss))
    (λ a b. then_same (let up = value_order (column_of a.row s.column) (column_of b.row s.column) in if s.descending then ordering_reverse up else up) (sort_order ss a b))
    (then_total (directed s.column s.descending) (sort_order_total ss))

-- things seen as rows, put in order by a stable sort
pub ordered_is : {A : Type 0} (seen : A → Keyed) (sorts : List RSort) (xs ys : List A) → IsSortedBy (λ (a b : A). is_lt (sort_order sorts (seen a) (seen b))) ys
    → IsStableBy (λ (a b : A). is_lt (sort_order sorts (seen a) (seen b))) xs ys → map seen ys ≡ ordered sorts (map seen xs)
ordered_is {A} seen sorts xs ys up stable =
    ap (map seen) (sort_is {order = λ (a b : A). sort_order sorts (seen a) (seen b)} (on_total seen (sort_order_total sorts)) xs ys up stable) ∙ sorted_seen seen (sort_order sorts) xs

-- the same in the order of some columns
pub projected_is : {A : Type 0} (seen : A → Keyed) (cs : List ℕ) (xs ys : List A) → IsSortedBy (λ (a b : A). is_lt (key_order (columns_of (seen a).row cs) (columns_of (seen b).row cs))) ys
    → IsStableBy (λ (a b : A). is_lt (key_order (columns_of (seen a).row cs) (columns_of (seen b).row cs))) xs ys → projected cs (map seen ys) ≡ sorted key_order (projected cs (map seen xs))
projected_is {A} seen cs xs ys up stable =
    let values : Keyed → List Value = λ item. columns_of item.row cs in
    ap (λ (l : List A). projected cs (map seen l))
    (sort_is {order = λ (a b : A). key_order (columns_of (seen a).row cs) (columns_of (seen b).row cs)} (on_total (λ (a : A). columns_of (seen a).row cs) key_order_total) xs ys up stable)
    ∙ (ap (map values) (sorted_seen seen (λ a b. key_order (columns_of a.row cs) (columns_of b.row cs)) xs) ∙ sorted_seen values key_order (map seen xs))

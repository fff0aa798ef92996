-- MIN and MAX of a column whose values never fall from a row to a later one.
use Rattle.std.proofs.Common.{rules, ◌≡◌, ◌≢◌, ◌<◌, ◌+◌, ℕ, suc, ℤ, pos, Bool, true, false, ◌&&◌, cond, List, [], ◌∷◌, Option, Some, None, Result, Ok, Err, All, AllPairs, length, map, slice_index_or, refl, sym, ap, subst, ◌∙◌, arith}
use Rattle.std.specs.Prelude.{not, ◌==◌, IfOk, IfSome}
use Rattle.std.specs.Bool.{then_some}
use Rattle.std.specs.List.{filter, position}
use Rattle.std.specs.Option.{option_map, unwrap_or, is_some}
use Rattle.std.specs.Ordering.{is_le, is_gt, ordering_reverse}
use Rattle.std.specs.declared.cmp.Ordering.{Ordering}
use Rattle.std.specs.declared.cmp.Ordering.TheVariants.{Less, Equal, Greater}
use Rattle.std.proofs.lemmas.Bool.Decides.{eqb_tells}
use Rattle.std.proofs.lemmas.List.{length-map}
use Rattle.std.proofs.lemmas.List.Elements.{All-nil, All-cons, All-head, All-tail, All-filter}
use Rattle.std.proofs.lemmas.List.Kept.{AllPairs-filter}
use Rattle.mv_values.specs.Preds.{meets}
use Rattle.mv_values.specs.declared.value.Value.{Value}
use Rattle.mv_values.specs.declared.pred.Test.{Test}
use Rattle.mv_values.specs.declared.rows.Keyed.{Keyed}
use Rattle.mv_values.specs.Columns.{column_of, columns_of}
use Rattle.mv_values.specs.Keys.{IsRising, IsBelow, stored, as_row}
use Rattle.mv_values.specs.Order.{value_order, key_order}
use Rattle.mv_table.specs.declared.table.Entry.{Entry}
use Rattle.mv_table.specs.declared.scan.Direction.{Direction}
use Rattle.mv_table.specs.declared.scan.Direction.TheVariants.{Forward, Backward}
use Rattle.mv_table.specs.Entries.{seen}
use Rattle.mv_table.specs.Scans.{first, last, foremost, with_foremost, NeverFallsAt, RisesAt}
use Rattle.mv_table.specs.Spans.{Admits, are_fixed_before}
use Rattle.mv_table.proofs.Scanning.{foremost_kept, foremost_passed, foremost_mapped, with_mapped}
use Rattle.mv_catalog.specs.declared.resolved.RAgg.{RAgg}
use Rattle.mv_catalog.specs.declared.resolved.RAgg.TheVariants.{Min, Max}
use Rattle.mv_catalog.specs.declared.resolved.RSort.{RSort}
use Rattle.mv_eval.specs.FirstRows.{AreAdmitted, NeverFalls, Rises, IsFromEnd, Leads, AdmitMatches, total_found, is_next_fixed, is_last_of, does_rank}
use Rattle.mv_eval.specs.Own.{StandUnder}
use Rattle.mv_eval.specs.Rows.{matching, column, lesser, greater, least, greatest, aggregate, is_some_row, item_at, ordered, sorted, put_in, sort_order, then_by}
use Rattle.mv_eval.proofs.Sorting.{sorted_rising}
use Rattle.mv_eval.proofs.Spanning.{key_column}

-- The column

key_there : (keys : List ℕ) (c place : ℕ) (rows : List Keyed) (i : ℕ) (d : Keyed) → place < length keys → slice_index_or keys place 0 ≡ c → StandUnder keys rows → i < length rows
    → (length (slice_index_or rows i d).key ≡ length keys) × (column_of (slice_index_or rows i d).key place ≡ column_of (slice_index_or rows i d).row c)
key_there keys c place rows i d lt at own within =
    let row : List Value = (slice_index_or rows i d).row in
    let is : (slice_index_or rows i d).key ≡ columns_of row keys = own i d within in
    let size : length (slice_index_or rows i d).key ≡ length keys = ap length is ∙ length-map keys (λ k. column_of row k) in
    (size, ap (λ k. column_of k place) is ∙ (key_column row keys place lt ∙ ap (column_of row) at))

-- what holds of the order of two values at the place of their keys holds of the values of the column
placed : (P : Ordering → Type 0) (keys : List ℕ) (c place : ℕ) (rows : List Keyed) (i j : ℕ) (d : Keyed) → place < length keys → slice_index_or keys place 0 ≡ c → StandUnder keys rows → i < length rows → j < length rows
    → P (value_order (column_of (slice_index_or rows i d).key place) (column_of (slice_index_or rows j d).key place)) → P (value_order (column_of (slice_index_or rows i d).row c) (column_of (slice_index_or rows j d).row c))
placed P keys c place rows i j d lt at own first second h =
    subst (λ v. P (value_order v (column_of (slice_index_or rows j d).row c))) (key_there keys c place rows i d lt at own first).1
    (subst (λ w. P (value_order (column_of (slice_index_or rows i d).key place) w)) (key_there keys c place rows j d lt at own second).1 h)

-- where the value at a place of the key never falls, the key column at this place never does
pub column_never_falls : (keys : List ℕ) (tests : List Test) (c place : ℕ) → place < length keys → slice_index_or keys place 0 ≡ c → NeverFallsAt tests place → NeverFalls keys tests c
column_never_falls keys tests c place lt at order rows h = λ i j d less within.
    let before : i < length rows = omega (arith, less, within) in
    let low : length (slice_index_or rows i d).key ≡ length keys = (key_there keys c place rows i d lt at h.own before).0 in
    let high : length (slice_index_or rows j d).key ≡ length keys = (key_there keys c place rows j d lt at h.own within).0 in
    placed (λ o. is_le o ≡ true) keys c place rows i j d lt at h.own before within
    (order (slice_index_or rows i d).key (slice_index_or rows j d).key (omega (arith, lt, low)) (omega (arith, lt, high)) (h.admitted i d before) (h.admitted j d within) (h.rising i j d less within))

-- the last key column rises where the value at its place does
pub column_rises : (keys : List ℕ) (tests : List Test) (c place : ℕ) → place + 1 ≡ length keys → slice_index_or keys place 0 ≡ c → RisesAt tests place → Rises keys tests c
column_rises keys tests c place ends at order rows h = λ i j d less within.
    let before : i < length rows = omega (arith, less, within) in
    let lt : place < length keys = omega (arith, ends) in
    let low : length (slice_index_or rows i d).key ≡ length keys = (key_there keys c place rows i d lt at h.own before).0 in
    let high : length (slice_index_or rows j d).key ≡ length keys = (key_there keys c place rows j d lt at h.own within).0 in
    placed (λ o. o ≡ Less) keys c place rows i j d lt at h.own before within
    (order (slice_index_or rows i d).key (slice_index_or rows j d).key (low ∙ sym ends) (high ∙ sym ends) (h.admitted i d before) (h.admitted j d within) (h.rising i j d less within))

-- Its least and greatest value

abbrev Under : Value → List Value → Type 0
Under v [] = Unit {0}
Under v (w ∷ ws) = (is_le (value_order v w) ≡ true) × Under v ws

abbrev Climb : List Value → Type 0
Climb [] = Unit {0}
Climb (v ∷ vs) = Under v vs × Climb vs

under_all : (c : ℕ) (item : Keyed) (rows : List Keyed) → ((j : ℕ) (d : Keyed) → j < length rows → is_le (value_order (column_of item.row c) (column_of (slice_index_or rows j d).row c)) ≡ true) → Under (column_of item.row c) (column c rows)
under_all c item [] h = tt
under_all c item (x ∷ rows) h = (h 0 x (omega arith), under_all c item rows (λ j d lt. h (suc j) d (omega (arith, lt))))

climbs : (c : ℕ) (rows : List Keyed) → AllPairs (λ (a b : Keyed). is_le (value_order (column_of a.row c) (column_of b.row c)) ≡ true) rows → Climb (column c rows)
climbs c [] h = tt
climbs c (x ∷ rows) h =
    (under_all c x rows (λ j d lt. h 0 (suc j) d (omega arith) (omega (arith, lt))), climbs c rows (λ i j d less lt. h (suc i) (suc j) d (omega (arith, less)) (omega (arith, lt))))

least_first : (vs : List Value) → Climb vs → least vs ≡ first vs
least_first [] h = refl
least_first (v ∷ vs) h = ap (λ o. Some (lesser v o)) (least_first vs h.1) ∙ ap (λ w. Some w) (by vs h.0)
  where
    by : (ws : List Value) → Under v ws → lesser v (first ws) ≡ v
    by [] u = refl
    by (w ∷ ws) u = rw u.0 refl

greatest_last : (vs : List Value) → Climb vs → greatest vs ≡ last vs
greatest_last [] h = refl
greatest_last (v ∷ vs) h = ap (λ o. Some (greater v o)) (greatest_last vs h.1) ∙ ap (λ w. Some w) (by vs h.0)
  where
    under_last : (w : Value) (ws : List Value) → is_le (value_order v w) ≡ true → Under v ws → is_le (value_order v (unwrap_or (last ws) w)) ≡ true
    under_last w [] le u = le
    under_last w (x ∷ xs) le u = under_last x xs u.0 u.1

    by : (ws : List Value) → Under v ws → greater v (last ws) ≡ unwrap_or (last ws) v
    by [] u = refl
    by (w ∷ ws) u = rw (under_last w ws u.0 u.1) refl

pub min_told : (keys : List ℕ) (tests : List Test) (c : ℕ) → NeverFalls keys tests c → IsFromEnd (Min c) keys tests c Forward
min_told keys tests c h rows are = ap (λ o. Ok o) (least_first (column c rows) (climbs c rows (h rows are)) ∙ foremost_mapped (λ item. column_of item.row c) Forward rows)

pub max_told : (keys : List ℕ) (tests : List Test) (c : ℕ) → NeverFalls keys tests c → IsFromEnd (Max c) keys tests c Backward
max_told keys tests c h rows are = ap (λ o. Ok o) (greatest_last (column c rows) (climbs c rows (h rows are)) ∙ foremost_mapped (λ item. column_of item.row c) Backward rows)

from_first : (agg : RAgg) (keys : List ℕ) (tests : List Test) (c : ℕ) (d : Direction) (r : Option (ℕ × Direction)) → (NeverFalls keys tests c → IsFromEnd agg keys tests c d)
    → IfSome r (λ t. (t.0 ≡ c) × (t.1 ≡ d) × NeverFalls keys tests c) → IfSome r (λ t. IsFromEnd agg keys tests t.0 t.1)
from_first agg keys tests c d None told h = tt
from_first agg keys tests c d (Some t) told h = subst (λ x. IsFromEnd agg keys tests x t.1) (sym h.0) (subst (IsFromEnd agg keys tests c) (sym h.1) (told h.2))

-- where a column is told only if it never falls
pub told_if : (keys : List ℕ) (tests : List Test) (c : ℕ) (d : Direction) (so : Bool) (r : Option (ℕ × Direction)) → r ≡ then_some so (c, d) → (so ≡ true → NeverFalls keys tests c) → IfSome r (λ t. (t.0 ≡ c) × (t.1 ≡ d) × NeverFalls keys tests c)
told_if keys tests c d true r is h = rw is (refl, refl, h refl)
told_if keys tests c d false r is h = rw is tt

pub min_from : (agg : RAgg) (keys : List ℕ) (tests : List Test) (c : ℕ) (r : Option (ℕ × Direction)) → agg ≡ Min c → IfSome r (λ t. (t.0 ≡ c) × (t.1 ≡ Forward) × NeverFalls keys tests c) → IfSome r (λ t. IsFromEnd agg keys tests t.0 t.1)
min_from agg keys tests c r is = from_first agg keys tests c Forward r (λ h. subst (λ a. IsFromEnd a keys tests c Forward) (sym is) (min_told keys tests c h))

pub max_from : (agg : RAgg) (keys : List ℕ) (tests : List Test) (c : ℕ) (r : Option (ℕ × Direction)) → agg ≡ Max c → IfSome r (λ t. (t.0 ≡ c) × (t.1 ≡ Backward) × NeverFalls keys tests c) → IfSome r (λ t. IsFromEnd agg keys tests t.0 t.1)
max_from agg keys tests c r is = from_first agg keys tests c Backward r (λ h. subst (λ a. IsFromEnd a keys tests c Backward) (sym is) (max_told keys tests c h))

-- ORDER BY

module _ {A : Type 0} where
  abbrev Each : (A → Type 0) → List A → Type 0
  Each P [] = Unit {0}
  Each P (x ∷ xs) = P x × Each P xs

  abbrev Pairs : (A → A → Type 0) → List A → Type 0
  Pairs R [] = Unit {0}
  Pairs R (x ∷ xs) = Each (R x) xs × Pairs R xs

  each_from : (P : A → Type 0) (xs : List A) → All P xs → Each P xs
  each_from P [] h = tt
  each_from P (x ∷ xs) h = (All-head P x xs h, each_from P xs (All-tail P x xs h))

  pairs_from : (R : A → A → Type 0) (xs : List A) → AllPairs R xs → Pairs R xs
  pairs_from R [] h = tt
  pairs_from R (x ∷ xs) h =
      (each_from (R x) xs (λ j d lt. h 0 (suc j) d (omega arith) (omega (arith, lt))), pairs_from R xs (λ i j d less lt. h (suc i) (suc j) d (omega (arith, less)) (omega (arith, lt))))

  module _ (order : A → A → Ordering) where
    each_put : (P : A → Type 0) (x : A) (ys : List A) → P x → Each P ys → Each P (put_in order x ys)
    each_put P x [] p h = (p, tt)
    each_put P x (y ∷ ys) p h = by (is_gt (order x y)) (each_put P x ys p h.1)
      where
        by : (b : Bool) → Each P (put_in order x ys) → Each P (cond b (y ∷ put_in order x ys) (x ∷ y ∷ ys))
        by true rest = (h.0, rest)
        by false rest = (p, h)

    each_sorted : (P : A → Type 0) (xs : List A) → Each P xs → Each P (sorted order xs)
    each_sorted P [] h = tt
    each_sorted P (x ∷ xs) h = each_put P x (sorted order xs) h.0 (each_sorted P xs h.1)

    -- an item that is above none of the others goes first
    put_first : (x : A) (ys : List A) → Each (λ y. is_gt (order x y) ≡ false) ys → first (put_in order x ys) ≡ Some x
    put_first x [] h = refl
    put_first x (y ∷ ys) h = rw h.0 refl

    -- one that is above the first leaves it there
    put_later : (x m : A) (ys : List A) → first ys ≡ Some m → is_gt (order x m) ≡ true → first (put_in order x ys) ≡ Some m
    put_later x m [] is h = cc
    put_later x m (y ∷ ys) is h =
        let same : y ≡ m = cc in
        let above : is_gt (order x y) ≡ true = ap (λ z. is_gt (order x z)) same ∙ h in
        rw above is

    sorted_forward : (xs : List A) → Pairs (λ a b. is_gt (order a b) ≡ false) xs → first (sorted order xs) ≡ first xs
    sorted_forward [] h = refl
    sorted_forward (x ∷ xs) h = put_first x (sorted order xs) (each_sorted (λ y. is_gt (order x y) ≡ false) xs h.0)

    each_last : (P : A → Type 0) (x : A) (xs : List A) → P x → Each P xs → P (unwrap_or (last xs) x)
    each_last P x [] p h = p
    each_last P x (y ∷ ys) p h = each_last P y ys h.0 h.1

    sorted_backward : (xs : List A) → Pairs (λ a b. is_gt (order a b) ≡ true) xs → first (sorted order xs) ≡ last xs
    sorted_backward [] h = refl
    sorted_backward (x ∷ []) h = refl
    sorted_backward (x ∷ y ∷ ys) h = put_later x (unwrap_or (last ys) y) (sorted order (y ∷ ys)) (sorted_backward (y ∷ ys) h.1) (each_last (λ z. is_gt (order x z) ≡ true) y ys h.0.0 h.0.1)

item_first : (rows : List Keyed) → item_at rows (pos 0) ≡ first rows
item_first [] = refl
item_first (x ∷ rows) = refl

-- where a direction is returned only if it leads
pub led_if : (sorts : List RSort) (keys : List ℕ) (tests : List Test) (d : Direction) (so : Bool) (r : Option Direction) → r ≡ then_some so d → (so ≡ true → Leads sorts keys tests d) → IfSome r (Leads sorts keys tests)
led_if sorts keys tests d true r is h = rw is (h refl)
led_if sorts keys tests d false r is h = rw is tt

pub leads_plain : (keys : List ℕ) (tests : List Test) → Leads [] keys tests Forward
leads_plain keys tests rows are = ap (λ l. item_at l (pos 0)) (sorted_rising rows are.rising) ∙ item_first rows

up_order : (o p : Ordering) → is_le o ≡ true → p ≡ Less → is_gt (then_by o p) ≡ false
up_order Less p h k = refl
up_order Equal p h k = ap is_gt k
up_order Greater p h k = cc

by_one : (s : RSort) (down : Bool) (a b : Keyed) → s.descending ≡ down → sort_order (s ∷ []) a b ≡ then_by (cond down (ordering_reverse (value_order (column_of a.row s.column) (column_of b.row s.column))) (value_order (column_of a.row s.column) (column_of b.row s.column))) (key_order a.key b.key)
by_one s down a b is = rw is refl

pub leads_up : (s : RSort) (keys : List ℕ) (tests : List Test) → s.descending ≡ false → NeverFalls keys tests s.column → Leads (s ∷ []) keys tests Forward
leads_up s keys tests is order rows are =
    item_first (ordered (s ∷ []) rows)
    ∙ sorted_forward (sort_order (s ∷ [])) rows
    (pairs_from (λ a b. is_gt (sort_order (s ∷ []) a b) ≡ false) rows
    (λ i j d less within.
    ap is_gt (by_one s false (slice_index_or rows i d) (slice_index_or rows j d) is)
    ∙ up_order (value_order (column_of (slice_index_or rows i d).row s.column) (column_of (slice_index_or rows j d).row s.column)) (key_order (slice_index_or rows i d).key (slice_index_or rows j d).key)
    (order rows are i j d less within) (are.rising i j d less within)))

pub leads_down : (s : RSort) (keys : List ℕ) (tests : List Test) → s.descending ≡ true → Rises keys tests s.column → Leads (s ∷ []) keys tests Backward
leads_down s keys tests is order rows are =
    item_first (ordered (s ∷ []) rows)
    ∙ sorted_backward (sort_order (s ∷ [])) rows
    (pairs_from (λ a b. is_gt (sort_order (s ∷ []) a b) ≡ true) rows
    (λ i j d less within.
    ap is_gt (by_one s true (slice_index_or rows i d) (slice_index_or rows j d) is)
    ∙ ap (λ o. is_gt (then_by (ordering_reverse o) (key_order (slice_index_or rows i d).key (slice_index_or rows j d).key))) (order rows are i j d less within)))

-- The column orders the rows

-- the last key column ranks them where all before it are fixed
pub ranked : (keys : List ℕ) (tests : List Test) (c place : ℕ) (fixed : Bool) → Some place ≡ position (λ k. k == c) keys → place + 1 ≡ length keys → fixed ≡ are_fixed_before tests place → fixed ≡ does_rank keys tests c
ranked keys tests c place fixed is ends so =
    let last : (place + 1 == length keys) ≡ true = grind (arith, eqb_tells) in
    so ∙ (ap (λ b. b && are_fixed_before tests place) (sym last) ∙ ap (λ o. is_last_of keys o && is_next_fixed tests o) is)

-- no other does
pub unranked : (keys : List ℕ) (tests : List Test) (c place : ℕ) → Some place ≡ position (λ k. k == c) keys → place + 1 ≢ length keys → (place + 1 == length keys) ≡ does_rank keys tests c
unranked keys tests c place is ends =
    let last : (place + 1 == length keys) ≡ false = grind (arith, eqb_tells) in
    last ∙ (ap (λ b. b && are_fixed_before tests place) (sym last) ∙ ap (λ o. is_last_of keys o && is_next_fixed tests o) is)

-- The rows that match

-- what holds of each row that the test keeps holds of all rows that it keeps
pub kept_all : (p : Keyed → Bool) (P : Keyed → Type 0) (rows : List Keyed) → All (λ item. p item ≡ true → P item) rows → All P (filter p rows)
kept_all p P [] h = All-nil P
kept_all p P (x ∷ rows) h = by (p x) refl (kept_all p P rows (All-tail (λ item. p item ≡ true → P item) x rows h))
  where
    by : (b : Bool) → p x ≡ b → All P (filter p rows) → All P (cond b (x ∷ filter p rows) (filter p rows))
    by true is rest = All-cons P x (filter p rows) (All-head (λ item. p item ≡ true → P item) x rows h is) rest
    by false is rest = rest

pub matches_admitted : (keys : List ℕ) (tests : List Test) (rows : List Keyed) → IsRising rows → StandUnder keys rows → AdmitMatches tests rows → AreAdmitted keys tests (matching tests rows)
matches_admitted keys tests rows rising own admit = record {
  rising = AllPairs-filter (λ a b. IsBelow b.key a) (λ item. meets tests item.row) rows rising;
  own = All-filter (λ item. meets tests item.row) (λ item. item.key ≡ columns_of item.row keys) rows own;
  admitted = kept_all (λ item. meets tests item.row) (λ item. Admits tests item.key) rows admit;
}

-- there is a first row exactly if there are rows
pub some_foremost : (d : Direction) (rows : List Keyed) → is_some (foremost d rows) ≡ is_some_row rows
some_foremost Forward [] = refl
some_foremost Forward (x ∷ rows) = refl
some_foremost Backward [] = refl
some_foremost Backward (x ∷ rows) = refl

pub some_mapped : {A B : Type 0} (f : A → B) (o : Option A) → is_some (option_map f o) ≡ is_some o
some_mapped f None = refl
some_mapped f (Some x) = refl

pub twice_mapped : {A B C : Type 0} (f : A → B) (g : B → C) (o : Option A) → option_map (λ x. g (f x)) o ≡ option_map g (option_map f o)
twice_mapped f g None = refl
twice_mapped f g (Some x) = refl

pub some_of : {A : Type 0} (f : A → Keyed) (xs : List A) (items : List Keyed) → map f xs ≡ items → not (length xs == 0) ≡ is_some_row items
some_of f [] items h = ap is_some_row h
some_of f (x ∷ xs) items h =
    let one : not (length (x ∷ xs) == 0) ≡ true = search rules in
    one ∙ ap is_some_row h

pub total_is : (agg : RAgg) (rows : List Keyed) (value : Option Value) (some : Bool) → aggregate agg rows ≡ Ok value → some ≡ is_some_row rows → total_found agg rows ≡ Ok (value, some)
total_is agg rows value some h is = rw h (ap (λ b. Ok (value, b)) (sym is))

pub told_is : (agg : RAgg) (keys : List ℕ) (tests : List Test) (rows : List Keyed) (c : ℕ) (d : Direction) (row : Option Keyed) (value : Option Value) (some : Bool) → IsRising rows → StandUnder keys rows
    → AdmitMatches tests rows → IsFromEnd agg keys tests c d → row ≡ foremost d (matching tests rows) → value ≡ option_map (λ (item : Keyed). column_of item.row c) row → some ≡ is_some row → total_found agg (matching tests rows) ≡ Ok (value, some)
told_is agg keys tests rows c d row value some rising own admit tells is holds any =
    let found : List Keyed = matching tests rows in
    total_is agg found value some
    (tells found (matches_admitted keys tests rows rising own admit) ∙ ap (λ o. Ok o) (ap (option_map (λ (item : Keyed). column_of item.row c)) (sym is) ∙ sym holds))
    (any ∙ (ap (λ (o : Option Keyed). is_some o) is ∙ some_foremost d found))

pub first_chosen : {E : Type 0} (r : Result (Option Entry) E) (sorts : List RSort) (keys : List ℕ) (tests : List Test) (rows : List Keyed) (d : Direction) (at : ℤ) → at ≡ pos 0 → StandUnder keys rows
    → AdmitMatches tests rows → Leads sorts keys tests d → IfOk r (λ row. option_map seen row ≡ foremost d (matching tests rows)) → IfOk r (λ row. IsRising rows)
    → IfOk r (λ row. option_map seen row ≡ item_at (ordered sorts (matching tests rows)) at)
first_chosen (Ok row) sorts keys tests rows d at none own admit leads is rising =
    is ∙ (sym (leads (matching tests rows) (matches_admitted keys tests rows rising own admit)) ∙ ap (item_at (ordered sorts (matching tests rows))) (sym none))
first_chosen (Err e) sorts keys tests rows d at none own admit leads is rising = tt

-- The first of stored rows

pub stored_met : (tests : List Test) (d : Direction) (key row : List Value) (left rest : List (List Value × List Value)) (all : Option Keyed) → left ≡ with_foremost d (key, row) rest → meets tests row ≡ true
    → foremost d (matching tests (stored left)) ≡ all → Some (record { key = key; row = row }) ≡ all
stored_met tests d key row left rest all is met so =
    sym (foremost_kept (λ item. meets tests item.row) d (record { key = key; row = row }) (stored rest) met)
    ∙ (sym (ap (λ es. foremost d (matching tests (stored es))) is ∙ ap (λ l. foremost d (matching tests l)) (with_mapped as_row d (key, row) rest)) ∙ so)

pub stored_passed : (tests : List Test) (d : Direction) (key row : List Value) (left rest : List (List Value × List Value)) (all : Option Keyed) → left ≡ with_foremost d (key, row) rest → meets tests row ≡ false
    → foremost d (matching tests (stored left)) ≡ all → foremost d (matching tests (stored rest)) ≡ all
stored_passed tests d key row left rest all is fails so =
    sym (foremost_passed (λ item. meets tests item.row) d (record { key = key; row = row }) (stored rest) fails)
    ∙ (sym (ap (λ es. foremost d (matching tests (stored es))) is ∙ ap (λ l. foremost d (matching tests l)) (with_mapped as_row d (key, row) rest)) ∙ so)

-- Rows with the same keys and the same values in some columns are in the same order, and come to the same.
use Rattle.std.proofs.Common.{◌≡◌, ◌⊎◌, inl, inr, ℕ, ℤ, pos, negsuc, zero, suc, ◌==◌, ◌<◌, Bool, true, false, cond, not, List, [], ◌∷◌, ◌++◌, Option, Some, None, Result, Ok, Err, map, length, slice_get, slice_set, if◌then◌else◌, refl, sym, ap, subst, ◌∙◌, arith}
use Rattle.std.proofs.lemmas.Bool.Decides.{eqb_tells}
use Rattle.std.proofs.lemmas.List.{get_or-set_other, get_or-set_same, length-set}
use Rattle.std.specs.Ordering.{is_gt, ordering_reverse}
use Rattle.std.specs.List.{filter, flat_map, list_any}
use Rattle.mv_values.specs.declared.value.Value.{Value}
use Rattle.mv_values.specs.declared.value.Value.TheVariants.{Int}
use Rattle.mv_values.specs.declared.rows.Keyed.{Keyed}
use Rattle.mv_values.specs.declared.patch.Assign.{Assign}
use Rattle.mv_values.specs.declared.patch.Patch.TheVariants as patch
use Rattle.mv_values.specs.declared.schema.Column.{Column}
use Rattle.mv_values.specs.declared.calls.End.{End}
use Rattle.mv_values.specs.Columns.{column_of, columns_of}
use Rattle.mv_values.specs.Order.{value_order, key_order}
use Rattle.mv_catalog.specs.declared.resolved.RSort.{RSort}
use Rattle.mv_catalog.specs.declared.resolved.RSetItem.{RSetItem}
use Rattle.mv_catalog.specs.declared.resolved.RAgg.{RAgg}
use Rattle.mv_catalog.specs.declared.resolved.RAgg.TheVariants.{CountAll, CountDistinct, Sum, Min, Max}
use Rattle.mv_eval.specs.declared.state.Env.{Env}
use Rattle.mv_eval.specs.Results.{then_do}
use Rattle.mv_eval.specs.Value.{value_of}
use Rattle.mv_eval.specs.Rows.{is_some_row, then_by, sort_order, put_in, ordered, item_at, distinct, projected, column, aggregate, total, sum_of, least, greatest, fit}
use Rattle.mv_eval.specs.Changes.{with_column, set_row}
use Rattle.mv_recorded.specs.Asking.{with_sorts, column_in, columns_in}
use Rattle.mv_recorded.specs.Doing.{write, set_patch}
use Rattle.mv_recorded.specs.Reading.{each_once, variables}
use Rattle.mv_recorded.specs.Effects.{changes}
use Rattle.mv_recorded.specs.Own.{Each, Within}
use Rattle.mv_recorded.specs.Alike.{Agree, AgreeIn, Alike}
use Rattle.mv_recorded.proofs.Values.{value_same}

-- Columns

pub agree_parts : (a b : List Value) (cs ds : List ℕ) → AgreeIn a b (cs ++ ds) → AgreeIn a b cs × AgreeIn a b ds
agree_parts a b [] ds h = (tt, h)
agree_parts a b (c ∷ cs) ds h = let rest = agree_parts a b cs ds h.1 in ((h.0, rest.0), rest.1)

unfiltered : (a b : List Value) (c : ℕ) (cs : List ℕ) → column_of a c ≡ column_of b c → AgreeIn a b (filter (λ m. not (m == c)) cs) → AgreeIn a b cs
unfiltered a b c [] e h = tt
unfiltered a b c (d ∷ cs) e h = by (λ k. unfiltered a b c cs e k) (d == c) refl h
  where
    by : (AgreeIn a b (filter (λ m. not (m == c)) cs) → AgreeIn a b cs) → (t : Bool) → (d == c) ≡ t → AgreeIn a b (cond (not t) (d ∷ filter (λ m. not (m == c)) cs) (filter (λ m. not (m == c)) cs)) → AgreeIn a b (d ∷ cs)
    by go true is k = let same : d ≡ c = grind (arith, eqb_tells) in (subst (λ z. column_of a z ≡ column_of b z) (sym same) e, go k)
    by go false is k = (k.0, go k.1)

pub agree_once : (a b : List Value) (cs : List ℕ) → AgreeIn a b (each_once cs) → AgreeIn a b cs
agree_once a b [] h = tt
agree_once a b (c ∷ cs) h = (h.0, agree_once a b cs (unfiltered a b c (each_once cs) h.0 h.1))

pub columns_same : (a b : List Value) (cs : List ℕ) → AgreeIn a b cs → columns_of a cs ≡ columns_of b cs
columns_same a b [] h = refl
columns_same a b (c ∷ cs) h = ap (λ v. v ∷ columns_of a cs) h.0 ∙ ap (λ vs. column_of b c ∷ vs) (columns_same a b cs h.1)

pub same_columns : (a b : List Value) (cs : List ℕ) → columns_of a cs ≡ columns_of b cs → AgreeIn a b cs
same_columns a b [] h = tt
same_columns a b (c ∷ cs) h = let first : column_of a c ≡ column_of b c = cc in let rest : columns_of a cs ≡ columns_of b cs = cc in (first, same_columns a b cs rest)

-- weaker by a step on each row
pub alike_by : (cs ds : List ℕ) → ((a b : List Value) → AgreeIn a b cs → AgreeIn a b ds) → (xs ys : List Keyed) → Alike cs xs ys → Alike ds xs ys
alike_by cs ds f [] [] h = tt
alike_by cs ds f (x ∷ xs) (y ∷ ys) h = (h.0, f x.row y.row h.1, alike_by cs ds f xs ys h.2)
alike_by cs ds f [] (y ∷ ys) h = absurd h
alike_by cs ds f (x ∷ xs) [] h = absurd h

-- Order

abbrev SeenSame : List ℕ → Keyed → Keyed → Type 0
SeenSame cs x y = (x.key ≡ y.key) × AgreeIn x.row y.row cs

abbrev sort_columns : List RSort → List ℕ
sort_columns sorts = map (λ s. s.column) sorts

sort_alike : (sorts : List RSort) (a b x y : Keyed) → SeenSame (sort_columns sorts) a x → SeenSame (sort_columns sorts) b y → sort_order sorts a b ≡ sort_order sorts x y
sort_alike [] a b x y h k = ap (λ l. key_order l b.key) h.0 ∙ ap (key_order x.key) k.0
sort_alike (s ∷ ss) a b x y h k =
    ap (λ v. then_by (if s.descending then ordering_reverse (value_order v (column_of b.row s.column)) else value_order v (column_of b.row s.column)) (sort_order ss a b)) h.1.0
    ∙ (ap (λ v. then_by (if s.descending then ordering_reverse (value_order (column_of x.row s.column) v) else value_order (column_of x.row s.column) v) (sort_order ss a b)) k.1.0
    ∙ ap (then_by (if s.descending then ordering_reverse (value_order (column_of x.row s.column) (column_of y.row s.column)) else value_order (column_of x.row s.column) (column_of y.row s.column)))
    (sort_alike ss a b x y (h.0, h.1.1) (k.0, k.1.1)))

put_alike : (cs : List ℕ) (sorts : List RSort) (a x : Keyed) (bs ys : List Keyed) → SeenSame (with_sorts cs sorts) a x → Alike (with_sorts cs sorts) bs ys
    → Alike (with_sorts cs sorts) (put_in (sort_order sorts) a bs) (put_in (sort_order sorts) x ys)
put_alike cs sorts a x [] [] h k = (h.0, h.1, tt)
put_alike cs sorts a x (b ∷ bs) (y ∷ ys) h k =
    let same : sort_order sorts a b ≡ sort_order sorts x y =
    sort_alike sorts a b x y (h.0, (agree_parts a.row x.row cs (sort_columns sorts) h.1).1) (k.0, (agree_parts b.row y.row cs (sort_columns sorts) k.1).1) in
    by (is_gt (sort_order sorts a b)) (is_gt (sort_order sorts x y)) (ap is_gt same) (put_alike cs sorts a x bs ys h k.2)
  where
    by : (p q : Bool) → p ≡ q → Alike (with_sorts cs sorts) (put_in (sort_order sorts) a bs) (put_in (sort_order sorts) x ys)
        → Alike (with_sorts cs sorts) (if p then b ∷ put_in (sort_order sorts) a bs else a ∷ b ∷ bs) (if q then y ∷ put_in (sort_order sorts) x ys else x ∷ y ∷ ys)
    by true true e rest = (k.0, k.1, rest)
    by false false e rest = (h.0, h.1, k)
    by true false e rest = cc
    by false true e rest = cc
put_alike cs sorts a x [] (y ∷ ys) h k = absurd k
put_alike cs sorts a x (b ∷ bs) [] h k = absurd k

pub ordered_alike : (cs : List ℕ) (sorts : List RSort) (xs ys : List Keyed) → Alike (with_sorts cs sorts) xs ys → Alike (with_sorts cs sorts) (ordered sorts xs) (ordered sorts ys)
ordered_alike cs sorts [] [] h = tt
ordered_alike cs sorts (x ∷ xs) (y ∷ ys) h = put_alike cs sorts x y (ordered sorts xs) (ordered sorts ys) (h.0, h.1) (ordered_alike cs sorts xs ys h.2)
ordered_alike cs sorts [] (y ∷ ys) h = absurd h
ordered_alike cs sorts (x ∷ xs) [] h = absurd h

-- both are nothing, or agree
abbrev pub ItemAlike : List ℕ → Option Keyed → Option Keyed → Type 0
ItemAlike cs None None = Unit {0}
ItemAlike cs (Some x) (Some y) = AgreeIn x.row y.row cs
ItemAlike cs None (Some y) = ⊥
ItemAlike cs (Some x) None = ⊥

get_alike : (cs : List ℕ) (xs ys : List Keyed) (n : ℕ) → Alike cs xs ys → ItemAlike cs (slice_get xs n) (slice_get ys n)
get_alike cs [] [] n h = tt
get_alike cs (x ∷ xs) (y ∷ ys) zero h = h.1
get_alike cs (x ∷ xs) (y ∷ ys) (suc n) h = get_alike cs xs ys n h.2
get_alike cs [] (y ∷ ys) n h = absurd h
get_alike cs (x ∷ xs) [] n h = absurd h

pub item_alike : (cs : List ℕ) (xs ys : List Keyed) (z : ℤ) → Alike cs xs ys → ItemAlike cs (item_at xs z) (item_at ys z)
item_alike cs xs ys (pos n) h = get_alike cs xs ys n h
item_alike cs xs ys (negsuc n) h = tt

-- What rows come to

pub projected_same : (cs : List ℕ) (xs ys : List Keyed) → Alike cs xs ys → projected cs xs ≡ projected cs ys
projected_same cs [] [] h = refl
projected_same cs (x ∷ xs) (y ∷ ys) h = ap (λ v. v ∷ projected cs xs) (columns_same x.row y.row cs h.1) ∙ ap (λ l. columns_of y.row cs ∷ l) (projected_same cs xs ys h.2)
projected_same cs [] (y ∷ ys) h = absurd h
projected_same cs (x ∷ xs) [] h = absurd h

pub some_same : (cs : List ℕ) (xs ys : List Keyed) → Alike cs xs ys → is_some_row xs ≡ is_some_row ys
some_same cs [] [] h = refl
some_same cs (x ∷ xs) (y ∷ ys) h = refl
some_same cs [] (y ∷ ys) h = absurd h
some_same cs (x ∷ xs) [] h = absurd h

long_same : (cs : List ℕ) (xs ys : List Keyed) → Alike cs xs ys → length xs ≡ length ys
long_same cs [] [] h = refl
long_same cs (x ∷ xs) (y ∷ ys) h = ap suc (long_same cs xs ys h.2)
long_same cs [] (y ∷ ys) h = absurd h
long_same cs (x ∷ xs) [] h = absurd h

column_same : (c : ℕ) (xs ys : List Keyed) → Alike (c ∷ []) xs ys → column c xs ≡ column c ys
column_same c [] [] h = refl
column_same c (x ∷ xs) (y ∷ ys) h = ap (λ v. v ∷ column c xs) h.1.0 ∙ ap (λ l. column_of y.row c ∷ l) (column_same c xs ys h.2)
column_same c [] (y ∷ ys) h = absurd h
column_same c (x ∷ xs) [] h = absurd h

pub aggregate_same : (agg : RAgg) (xs ys : List Keyed) → Alike (column_in agg) xs ys → aggregate agg xs ≡ aggregate agg ys
aggregate_same CountAll xs ys h = ap (λ n. total (pos n)) (long_same [] xs ys h)
aggregate_same (CountDistinct c) xs ys h = ap (λ l. total (pos (length (distinct l)))) (projected_same (c ∷ []) xs ys h)
aggregate_same (Sum c) xs ys h = ap (λ l. total (sum_of l)) (column_same c xs ys h)
aggregate_same (Min c) xs ys h = ap (λ l. Ok (least l)) (column_same c xs ys h)
aggregate_same (Max c) xs ys h = ap (λ l. Ok (greatest l)) (column_same c xs ys h)

pub deletes_same : (t : ℕ) (cs : List ℕ) (xs ys : List Keyed) → Alike cs xs ys → map (λ (item : Keyed). write t item.key patch.Delete) xs ≡ map (λ (item : Keyed). write t item.key patch.Delete) ys
deletes_same t cs [] [] h = refl
deletes_same t cs (x ∷ xs) (y ∷ ys) h = ap (λ k. write t k patch.Delete ∷ map (λ (item : Keyed). write t item.key patch.Delete) xs) h.0 ∙ ap (λ l. write t y.key patch.Delete ∷ l) (deletes_same t cs xs ys h.2)
deletes_same t cs [] (y ∷ ys) h = absurd h
deletes_same t cs (x ∷ xs) [] h = absurd h

-- SET

-- an item sets a column of a row that is so wide, and none of the key
abbrev pub Plain : List ℕ → ℕ → RSetItem → Type 0
Plain keys width i = (i.column < width) × (list_any (λ k. k == i.column) keys ≡ false)

abbrev set_columns : List RSetItem → List ℕ
set_columns items = map (λ i. i.column) items

-- behind SET the columns are the same that were so before, and those that it sets
abbrev RowsSame : List RSetItem → List Value → List Value → Result (List Value) End → Result (List Value) End → Type 0
RowsSame items a b (Ok x) (Ok y) = (c : ℕ) → (column_of a c ≡ column_of b c) ⊎ Within c (set_columns items) → column_of x c ≡ column_of y c
RowsSame items a b (Err d) (Err e) = d ≡ e
RowsSame items a b (Ok x) (Err e) = ⊥
RowsSame items a b (Err d) (Ok y) = ⊥

plain_is : (keys : List ℕ) (c : ℕ) (w : Value) (row : List Value) → list_any (λ k. k == c) keys ≡ false → with_column keys c w row ≡ slice_set row c w
plain_is keys c w row h = ap (λ b. if b then row else slice_set row c w) h

set_same : (columns : List Column) (keys : List ℕ) (width : ℕ) (e f : Env) (was old : List Value) (items : List RSetItem) (a b : List Value) → Agree e f (flat_map variables (map (λ i. i.right) items))
    → AgreeIn was old (flat_map (λ i. columns_in i.right) items) → Each (Plain keys width) items → length a ≡ width → length b ≡ width
    → RowsSame items a b (set_row columns keys e was items a) (set_row columns keys f old items b)
set_same columns keys width e f was old [] a b h k plain la lb = only
  where
    only : (c : ℕ) → (column_of a c ≡ column_of b c) ⊎ Within c [] → column_of a c ≡ column_of b c
    only c (inl same) = same
    only c (inr w) = absurd w
set_same columns keys width e f was old (i ∷ is) a b h k plain la lb =
    let hs = agree_vars (variables i.right) (flat_map variables (map (λ i. i.right) is)) h in
    let ks = agree_parts was old (columns_in i.right) (flat_map (λ i. columns_in i.right) is) k in
    by (λ w. set_same columns keys width e f was old is (slice_set a i.column w) (slice_set b i.column w) hs.1 ks.1 plain.1 (length-set a i.column w ∙ la) (length-set b i.column w ∙ lb))
    (value_of i.right e was) (value_of i.right f old) (value_same i.right e f was old hs.0 ks.0)
  where
    agree_vars : (xs ys : List ℕ) → Agree e f (xs ++ ys) → Agree e f xs × Agree e f ys
    agree_vars [] ys h = (tt, h)
    agree_vars (x ∷ xs) ys h = let rest = agree_vars xs ys h.1 in ((h.0, rest.0), rest.1)

    next : (w : Value) (x y : Result (List Value) End) → RowsSame is (slice_set a i.column w) (slice_set b i.column w) x y → RowsSame (i ∷ is) a b x y
    next w (Ok x) (Ok y) go = λ c from. go c (step c from)
      where
        step : (c : ℕ) → (column_of a c ≡ column_of b c) ⊎ ((c ≡ i.column) ⊎ Within c (set_columns is))
            → (column_of (slice_set a i.column w) c ≡ column_of (slice_set b i.column w) c) ⊎ Within c (set_columns is)
        step c (inr (inr w')) = inr w'
        step c (inr (inl at)) = inl (subst (λ d. column_of (slice_set a i.column w) d ≡ column_of (slice_set b i.column w) d) (sym at)
            (get_or-set_same a i.column w (Int (pos 0)) (omega (arith, la, plain.0.0)) ∙ sym (get_or-set_same b i.column w (Int (pos 0)) (omega (arith, lb, plain.0.0)))))
        step c (inl same) = by_test (c == i.column) refl
          where
            by_test : (t : Bool) → (c == i.column) ≡ t → (column_of (slice_set a i.column w) c ≡ column_of (slice_set b i.column w) c) ⊎ Within c (set_columns is)
            by_test true at' =
                let at : c ≡ i.column = grind (arith, eqb_tells) in
                inl (subst (λ d. column_of (slice_set a i.column w) d ≡ column_of (slice_set b i.column w) d) (sym at)
                (get_or-set_same a i.column w (Int (pos 0)) (omega (arith, la, plain.0.0)) ∙ sym (get_or-set_same b i.column w (Int (pos 0)) (omega (arith, lb, plain.0.0)))))
            by_test false at' =
                let apart : c ≡ i.column → ⊥ = λ at. grind (arith, eqb_tells) in
                inl (get_or-set_other a i.column c w (Int (pos 0)) apart ∙ (same ∙ sym (get_or-set_other b i.column c w (Int (pos 0)) apart)))
    next w (Err d) (Err e') go = go
    next w (Ok x) (Err e') go = absurd go
    next w (Err d) (Ok y) go = absurd go

    fitted : ((w : Value) → RowsSame is (slice_set a i.column w) (slice_set b i.column w) (set_row columns keys e was is (slice_set a i.column w)) (set_row columns keys f old is (slice_set b i.column w)))
        → (r : Result Value End) → RowsSame (i ∷ is) a b (then_do r (λ w. set_row columns keys e was is (with_column keys i.column w a))) (then_do r (λ w. set_row columns keys f old is (with_column keys i.column w b)))
    fitted go (Err d) = refl
    fitted go (Ok w) =
        subst (λ x. RowsSame (i ∷ is) a b (set_row columns keys e was is x) (set_row columns keys f old is (with_column keys i.column w b))) (sym (plain_is keys i.column w a plain.0.1))
        (subst (λ y. RowsSame (i ∷ is) a b (set_row columns keys e was is (slice_set a i.column w)) (set_row columns keys f old is y)) (sym (plain_is keys i.column w b plain.0.1))
        (next w (set_row columns keys e was is (slice_set a i.column w)) (set_row columns keys f old is (slice_set b i.column w)) (go w)))

    by : ((w : Value) → RowsSame is (slice_set a i.column w) (slice_set b i.column w) (set_row columns keys e was is (slice_set a i.column w)) (set_row columns keys f old is (slice_set b i.column w)))
        → (p q : Result Value End) → p ≡ q
        → RowsSame (i ∷ is) a b (then_do p (λ v. then_do (fit columns i.column v) (λ w. set_row columns keys e was is (with_column keys i.column w a))))
        (then_do q (λ v. then_do (fit columns i.column v) (λ w. set_row columns keys f old is (with_column keys i.column w b))))
    by go (Ok v) (Ok u) same = subst (λ z. RowsSame (i ∷ is) a b (then_do (fit columns i.column v) (λ w. set_row columns keys e was is (with_column keys i.column w a)))
        (then_do (fit columns i.column z) (λ w. set_row columns keys f old is (with_column keys i.column w b)))) (let e : v ≡ u = cc in e) (fitted go (fit columns i.column v))
    by go (Err d) (Err u) same = cc
    by go (Ok v) (Err u) same = cc
    by go (Err d) (Ok u) same = cc

-- what SET writes to a row
abbrev assigns : List Value → List RSetItem → List Assign
assigns x is = map (λ i. record { column = i.column; value = column_of x i.column }) is

changed_same : (is : List RSetItem) (x y : List Value) → ((c : ℕ) → Within c (set_columns is) → column_of x c ≡ column_of y c) → assigns x is ≡ assigns y is
changed_same [] x y h = refl
changed_same (i ∷ is) x y h =
    ap (λ v. record { column = i.column; value = v } ∷ assigns x is) (h i.column (inl refl))
    ∙ ap (λ l. record { column = i.column; value = column_of y i.column } ∷ l) (changed_same is x y (λ c w. h c (inr w)))

abbrev Wide : ℕ → List Keyed → Type 0
Wide width rows = Each (λ (item : Keyed). length item.row ≡ width) rows

pub changes_same : (t : ℕ) (columns : List Column) (keys : List ℕ) (width : ℕ) (e f : Env) (items : List RSetItem) (xs ys : List Keyed) → Agree e f (flat_map variables (map (λ i. i.right) items))
    → Alike (flat_map (λ i. columns_in i.right) items) xs ys → Each (Plain keys width) items → Wide width xs → Wide width ys
    → changes t items (λ row. set_row columns keys e row items row) xs ≡ changes t items (λ row. set_row columns keys f row items row) ys
changes_same t columns keys width e f items [] [] h k plain wx wy = refl
changes_same t columns keys width e f items (x ∷ xs) (y ∷ ys) h k plain wx wy =
    by (set_row columns keys e x.row items x.row) (set_row columns keys f y.row items y.row) (set_same columns keys width e f x.row y.row items x.row y.row h k.1 plain wx.0 wy.0)
    (changes_same t columns keys width e f items xs ys h k.2 plain wx.1 wy.1)
  where
    by : (p q : Result (List Value) End) → RowsSame items x.row y.row p q
        → changes t items (λ row. set_row columns keys e row items row) xs ≡ changes t items (λ row. set_row columns keys f row items row) ys
        → then_do p (λ row. then_do (changes t items (λ row. set_row columns keys e row items row) xs) (λ ws. Ok (write t x.key (set_patch items row) ∷ ws)))
        ≡ then_do q (λ row. then_do (changes t items (λ row. set_row columns keys f row items row) ys) (λ ws. Ok (write t y.key (set_patch items row) ∷ ws)))
    by (Ok p) (Ok q) same rest =
        ap (λ r. then_do r (λ ws. Ok (write t x.key (set_patch items p) ∷ ws))) rest
        ∙ (ap (λ l. then_do (changes t items (λ row. set_row columns keys f row items row) ys) (λ ws. Ok (write t l (set_patch items p) ∷ ws))) k.0
        ∙ ap (λ l. then_do (changes t items (λ row. set_row columns keys f row items row) ys) (λ ws. Ok (write t y.key (patch.Set l) ∷ ws))) (changed_same items p q (λ c w. same c (inr w))))
    by (Err d) (Err g) same rest = ap Err same
    by (Ok p) (Err g) same rest = absurd same
    by (Err d) (Ok q) same rest = absurd same
changes_same t columns keys width e f items [] (y ∷ ys) h k plain wx wy = absurd k
changes_same t columns keys width e f items (x ∷ xs) [] h k plain wx wy = absurd k

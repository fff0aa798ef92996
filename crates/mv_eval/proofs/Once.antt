-- Each row once, in the order of their values.
use Rattle.std.proofs.Common.{◌≡◌, Bool, true, false, not, cond, List, [], ◌∷◌, ◌++◌, Option, Some, None, refl, sym, ap, subst, ◌∙◌, append_assoc}
use Rattle.std.specs.Ordering.{is_gt, ordering_reverse}
use Rattle.std.specs.declared.cmp.Ordering.{Ordering}
use Rattle.std.specs.declared.cmp.Ordering.TheVariants.{Less, Equal, Greater}
use Rattle.mv_values.specs.declared.value.Value.{Value}
use Rattle.mv_values.specs.Order.{key_order}
use Rattle.mv_values.proofs.KeyOrder.{key_order_total, exact_keys}
use Rattle.mv_eval.specs.Rows.{put_in, sorted, put_once, distinct}
use Rattle.mv_eval.specs.Once.{is_same, once_each}

abbrev Row : Type 0
Row = List Value

turned : (x y : Row) (o : Ordering) → key_order y x ≡ o → key_order x y ≡ ordering_reverse o
turned x y o h = key_order_total.antisymm x y ∙ ap ordering_reverse h

-- what is greater is another
other_less : (l x : Row) → key_order l x ≡ Less → is_same (Some l) x ≡ false
other_less l x h = rw h refl

same_itself : (x y : Row) → key_order x y ≡ Equal → is_same (Some x) y ≡ true
same_itself x y h = rw h refl

taken : (l x : Row) (xs : List Row) → is_same (Some l) x ≡ false → once_each (Some l) (x ∷ xs) ≡ x ∷ once_each (Some x) xs
taken l x xs h = rw h refl

left_out : (l x : Row) (xs : List Row) → is_same (Some l) x ≡ true → once_each (Some l) (x ∷ xs) ≡ once_each (Some x) xs
left_out l x xs h = rw h refl

in_before : (x y : Row) (ys : List Row) → is_gt (key_order x y) ≡ false → put_in key_order x (y ∷ ys) ≡ x ∷ y ∷ ys
in_before x y ys h = rw h refl

in_after : (x y : Row) (ys : List Row) → key_order x y ≡ Greater → put_in key_order x (y ∷ ys) ≡ y ∷ put_in key_order x ys
in_after x y ys h = rw h refl

once_before : (x y : Row) (ys : List Row) → key_order x y ≡ Less → put_once x (y ∷ ys) ≡ x ∷ y ∷ ys
once_before x y ys h = rw h refl

once_there : (x y : Row) (ys : List Row) → key_order x y ≡ Equal → put_once x (y ∷ ys) ≡ y ∷ ys
once_there x y ys h = rw h refl

once_after : (x y : Row) (ys : List Row) → key_order x y ≡ Greater → put_once x (y ∷ ys) ≡ y ∷ put_once x ys
once_after x y ys h = rw h refl

not_gt : (x y : Row) (o : Ordering) → key_order x y ≡ o → is_gt o ≡ false → is_gt (key_order x y) ≡ false
not_gt x y o h k = ap is_gt h ∙ k

-- a row put in before the next one, or in its place
put_here : (x y : Row) (ys : List Row) (o : Ordering) → key_order x y ≡ o → is_gt o ≡ false → x ∷ once_each (Some x) (y ∷ ys) ≡ put_once x (y ∷ once_each (Some y) ys)
put_here x y ys Less e h = ap (λ l. x ∷ l) (taken x y ys (other_less x y e)) ∙ sym (once_before x y (once_each (Some y) ys) e)
put_here x y ys Equal e h =
    ap (λ l. x ∷ l) (left_out x y ys (same_itself x y e)) ∙ (ap (λ r. r ∷ once_each (Some y) ys) (exact_keys x y e) ∙ sym (once_there x y (once_each (Some y) ys) e))
put_here x y ys Greater e h = cc

-- what isn't less than a row that is greater is greater
greater_on : (l x y : Row) (o : Ordering) → key_order l x ≡ Less → key_order x y ≡ o → is_gt o ≡ false → key_order l y ≡ Less
greater_on l x y Less h e k = key_order_total.trans l x y h e
greater_on l x y Equal h e k = subst (λ r. key_order l r ≡ Less) (exact_keys x y e) h
greater_on l x y Greater h e k = cc

-- putting in before taking each once, behind a lesser row
put_behind : (l x : Row) (ys : List Row) → key_order l x ≡ Less → once_each (Some l) (put_in key_order x ys) ≡ put_once x (once_each (Some l) ys)
put_behind l x [] h = taken l x [] (other_less l x h)
put_behind l x (y ∷ ys) h = by (key_order x y) refl (λ less. put_behind y x ys less)
  where
    here : (o : Ordering) → key_order x y ≡ o → is_gt o ≡ false → once_each (Some l) (put_in key_order x (y ∷ ys)) ≡ put_once x (once_each (Some l) (y ∷ ys))
    here o e k =
        ap (once_each (Some l)) (in_before x y ys (not_gt x y o e k))
        ∙ (taken l x (y ∷ ys) (other_less l x h)
        ∙ (put_here x y ys o e k ∙ sym (ap (put_once x) (taken l y ys (other_less l y (greater_on l x y o h e k))))))

    on : (b : Bool) → is_same (Some l) y ≡ b → key_order x y ≡ Greater → once_each (Some y) (put_in key_order x ys) ≡ put_once x (once_each (Some y) ys)
        → once_each (Some l) (put_in key_order x (y ∷ ys)) ≡ put_once x (once_each (Some l) (y ∷ ys))
    on true same e later =
        ap (once_each (Some l)) (in_after x y ys e) ∙ (left_out l y (put_in key_order x ys) same ∙ (later ∙ sym (ap (put_once x) (left_out l y ys same))))
    on false same e later =
        ap (once_each (Some l)) (in_after x y ys e)
        ∙ (taken l y (put_in key_order x ys) same
        ∙ (ap (λ r. y ∷ r) later ∙ (sym (once_after x y (once_each (Some y) ys) e) ∙ sym (ap (put_once x) (taken l y ys same)))))

    by : (o : Ordering) → key_order x y ≡ o → (key_order y x ≡ Less → once_each (Some y) (put_in key_order x ys) ≡ put_once x (once_each (Some y) ys))
        → once_each (Some l) (put_in key_order x (y ∷ ys)) ≡ put_once x (once_each (Some l) (y ∷ ys))
    by Less e later = here Less e refl
    by Equal e later = here Equal e refl
    by Greater e later = on (is_same (Some l) y) refl e (later (turned y x Greater e))

put_first : (x : Row) (ys : List Row) → once_each None (put_in key_order x ys) ≡ put_once x (once_each None ys)
put_first x [] = refl
put_first x (y ∷ ys) = by (key_order x y) refl
  where
    by : (o : Ordering) → key_order x y ≡ o → once_each None (put_in key_order x (y ∷ ys)) ≡ put_once x (y ∷ once_each (Some y) ys)
    by Less e = ap (once_each None) (in_before x y ys (not_gt x y Less e refl)) ∙ put_here x y ys Less e refl
    by Equal e = ap (once_each None) (in_before x y ys (not_gt x y Equal e refl)) ∙ put_here x y ys Equal e refl
    by Greater e =
        ap (once_each None) (in_after x y ys e) ∙ (ap (λ r. y ∷ r) (put_behind y x ys (turned y x Greater e)) ∙ sym (once_after x y (once_each (Some y) ys) e))

-- rows in order, each taken once
pub distinct_is : (xs : List Row) → once_each None (sorted key_order xs) ≡ distinct xs
distinct_is [] = refl
distinct_is (x ∷ xs) = put_first x (sorted key_order xs) ∙ ap (put_once x) (distinct_is xs)

-- a turn that takes the row
pub turn_taken : (all : List Row) (before : Option Row) (row : Row) (rows meant : List Row) → true ≡ not (is_same before row) → all ++ once_each before (row ∷ rows) ≡ meant → (all ++ row ∷ []) ++ once_each (Some row) rows ≡ meant
turn_taken all before row rows meant new so_far = by (is_same before row) refl new so_far
  where
    by : (b : Bool) → is_same before row ≡ b → true ≡ not b → all ++ cond b (once_each (Some row) rows) (row ∷ once_each (Some row) rows) ≡ meant → (all ++ row ∷ []) ++ once_each (Some row) rows ≡ meant
    by true e n h = cc
    by false e n h = append_assoc all (row ∷ []) (once_each (Some row) rows) ∙ h

-- a turn that leaves it out
pub turn_left_out : (all : List Row) (before : Option Row) (row : Row) (rows meant : List Row) → false ≡ not (is_same before row) → all ++ once_each before (row ∷ rows) ≡ meant → all ++ once_each (Some row) rows ≡ meant
turn_left_out all before row rows meant new so_far = by (is_same before row) new so_far
  where
    by : (b : Bool) → false ≡ not b → all ++ cond b (once_each (Some row) rows) (row ∷ once_each (Some row) rows) ≡ meant → all ++ once_each (Some row) rows ≡ meant
    by true n h = h
    by false n h = cc

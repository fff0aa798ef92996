-- Which values versions have in a column.
use Rattle.std.proofs.Common.{◌≡◌, ◌∷◌, ◌<◌, ◌≤◌, ◌+◌, ℕ, zero, suc, Bool, true, false, inl, inr, List, [], length, drop, get_or, Option, Some, None, refl, ap, sym, ◌∙◌, arith, rules, cond}
use Rattle.std.specs.Prelude.{slice_set, nat_lt, pos, ◌==◌, ◌||◌, ◌&&◌}
use Rattle.std.specs.List.{list_any, filter}
use Rattle.std.proofs.lemmas.Bool.{cases_Bool, eqb-true, eqb-false}
use Rattle.std.proofs.lemmas.List.{get_or-set_other, get_or-set_same, length-set, drop_all, drop_more}
use Rattle.mv_values.specs.declared.value.Value.{Value}
use Rattle.mv_values.specs.declared.value.Value.TheVariants.{Int}
use Rattle.mv_values.specs.declared.patch.Assign.{Assign}
use Rattle.mv_values.specs.declared.patch.Patch.{Patch}
use Rattle.mv_values.specs.declared.patch.Patch.TheVariants.{Insert, Set, Delete}
use Rattle.mv_values.specs.Patching.{with_columns}
use Rattle.mv_chain.specs.declared.undo.Undo.{Undo}
use Rattle.mv_chain.specs.Undoing.{set_back, item_on, before, undone}
use Rattle.mv_chain.specs.Having.{is_value, row_has, is_in, has_column, ends, ends_at, is_set_past, undone_have, has_after}
use Rattle.mv_chain.proofs.Values.{back_length}

-- Bools

both_no : (a b r all : Bool) → (r ≡ true → all ≡ true) → ((a && false) || (r || all)) ≡ ((b && false) || all)
both_no false false false all h = refl
both_no false true false all h = refl
both_no true false false all h = refl
both_no true true false all h = refl
both_no false false true all h = sym (h refl)
both_no false true true all h = sym (h refl)
both_no true false true all h = sym (h refl)
both_no true true true all h = sym (h refl)

one_first : (a f all : Bool) → ((a && true) || (f || all)) ≡ (((a || f) && true) || all)
one_first false false all = refl
one_first false true all = refl
one_first true f all = refl

none_first : (a r all : Bool) → (r ≡ true → all ≡ true) → ((a && true) || (r || all)) ≡ (((a || false) && true) || all)
none_first false false all h = refl
none_first false true all h = sym (h refl)
none_first true r all h = refl

turned : (a b all : Bool) → (a || (b || all)) ≡ ((b || a) || all)
turned false false all = refl
turned false true all = refl
turned true false all = refl
turned true true all = refl

none_then : (a all : Bool) → ((a && false) || all) ≡ all
none_then false all = refl
none_then true all = refl

either_end : (a b : Bool) → (a || (b || false)) ≡ (b || a)
either_end false false = refl
either_end false true = refl
either_end true false = refl
either_end true true = refl

is_first : (a x y r was f all : Bool) → x ≡ true → y ≡ true → r ≡ f → ((a && x) || (r || all)) ≡ (((a || f) && y) || all)
is_first a x y r was f all p q s = rw (p, q, s) (one_first a f all)

not_first : (a x y r was f all : Bool) → x ≡ true → y ≡ true → r ≡ was → f ≡ false → (was ≡ true → all ≡ true) → ((a && x) || (r || all)) ≡ (((a || f) && y) || all)
not_first a x y r was f all p q s t h = rw (p, q, s, t) (none_first a was all h)

is_past : (a x y r was f all : Bool) → x ≡ false → y ≡ false → r ≡ was → (was ≡ true → all ≡ true) → ((a && x) || (r || all)) ≡ (((a || f) && y) || all)
is_past a x y r was f all p q s h = rw (p, q, s) (both_no a (a || f) was all h)

-- The value of a column that was set back

back_here : (c : ℕ) (items : List Assign) (row : List Value) (v d : Value) → c < length row → item_on c items ≡ Some v → get_or (set_back items row) c d ≡ v
back_here c [] row v d within h = cc
back_here c (a ∷ as') row v d within h = elim (cases_Bool (a.column == c)) [
  | inl t ↦
      let is : Some a.value ≡ Some v = rw t at h in
      let same : a.value ≡ v = cc in
      rw (eqb-true a.column c t) (get_or-set_same (set_back as' row) c a.value d (omega (arith, back_length as' row)) ∙ same)
  | inr f ↦ get_or-set_other (set_back as' row) a.column c a.value d (λ e. eqb-false a.column c f (sym e)) ∙ back_here c as' row v d within (rw f at h)
]

back_none : (c : ℕ) (items : List Assign) (row : List Value) (d : Value) → item_on c items ≡ None → get_or (set_back items row) c d ≡ get_or row c d
back_none c [] row d h = refl
back_none c (a ∷ as') row d h = elim (cases_Bool (a.column == c)) [
  | inl t ↦ let bad : Some a.value ≡ None = rw t at h in cc
  | inr f ↦ get_or-set_other (set_back as' row) a.column c a.value d (λ e. eqb-false a.column c f (sym e)) ∙ back_none c as' row d (rw f at h)
]

pub past_end : (row : List Value) (c : ℕ) (d : Value) → length row ≤ c → get_or row c d ≡ d
past_end [] c d h = refl
past_end (w ∷ ws) zero d h = absurd (omega arith)
past_end (w ∷ ws) (suc c) d h = past_end ws c d (omega arith)

-- One commit more is taken back

set_past : (c : ℕ) (v : Value) (set : Bool) (items : List Assign) (row : List Value) (all : Bool) (item : Option Value) → item_on c items ≡ item → (row_has c v (Some row) ≡ true → all ≡ true)
    → ((set && has_column c (Some (set_back items row))) || (row_has c v (Some (set_back items row)) || all)) ≡ (((set || is_in v (item_on c items)) && has_column c (Some row)) || all)
set_past c v set items row all item is h =
    let size : nat_lt c (length (set_back items row)) ≡ nat_lt c (length row) = ap (nat_lt c) (back_length items row) in
    elim (cases_Bool (nat_lt c (length row))) [
      | inl t ↦ within c v set items row all item is h t (size ∙ t)
      | inr f ↦
          let over : length row ≤ c = search (rules, f) in
          let zero_is : Value = Int (pos 0) in
          let value : get_or (set_back items row) c (Int (pos 0)) ≡ get_or row c (Int (pos 0)) =
          past_end (set_back items row) c (Int (pos 0)) (omega (arith, back_length items row)) ∙ sym (past_end row c (Int (pos 0)) over) in
          is_past set _ _ _ (row_has c v (Some row)) (is_in v (item_on c items)) all (size ∙ f) f (ap (is_value v) value) h
    ]
  where
    within : (c : ℕ) (v : Value) (set : Bool) (items : List Assign) (row : List Value) (all : Bool) (item : Option Value) → item_on c items ≡ item → (row_has c v (Some row) ≡ true → all ≡ true) → nat_lt c (length row) ≡ true
        → nat_lt c (length (set_back items row)) ≡ true
        → ((set && has_column c (Some (set_back items row))) || (row_has c v (Some (set_back items row)) || all)) ≡ (((set || is_in v (item_on c items)) && has_column c (Some row)) || all)
    within c v set items row all None is h t t2 =
        not_first set _ _ _ (row_has c v (Some row)) (is_in v (item_on c items)) all t2 t (ap (is_value v) (back_none c items row (Int (pos 0)) is)) (ap (is_in v) is) h
    within c v set items row all (Some w) is h t t2 =
        let lt : c < length row = search (rules, t) in
        is_first set _ _ _ (row_has c v (Some row)) (is_in v (item_on c items)) all t2 t (ap (is_value v) (back_here c items row w (Int (pos 0)) lt is) ∙ sym (ap (is_in v) is))

-- whether a row before these commits has the value, or has it if the row before the first of them has the column
abbrev pub seek : ℕ → Value → Bool → List Undo → Option (List Value) → Bool
seek c v set us now = (set && has_column c (before us now)) || undone_have c v us now

past : (c : ℕ) (v : Value) (set : Bool) (p : Patch) (row : Option (List Value)) (all : Bool) → (row_has c v row ≡ true → all ≡ true)
    → ((set && has_column c (undone p row)) || (row_has c v (undone p row) || all)) ≡ (ends_at c v set p || ((is_set_past c v set p && has_column c row) || all))
past c v set (Insert new) row all h = turned (set && has_column c (Some new)) (row_has c v (Some new)) all
past c v set (Set items) None all h = both_no set (set || is_in v (item_on c items)) false all (λ e. cc)
past c v set (Set items) (Some row) all h = set_past c v set items row all (item_on c items) refl h
past c v set Delete row all h = none_then set all

seek_step : (c : ℕ) (v : Value) (set : Bool) (u : Undo) (us : List Undo) (now : Option (List Value)) → seek c v set (u ∷ us) now ≡ (ends_at c v set u.patch || seek c v (is_set_past c v set u.patch) us now)
seek_step c v set u us now = past c v set u.patch (before us now) (undone_have c v us now) (λ e. rw e refl)

pub seek_at : (c : ℕ) (v : Value) (set : Bool) (us : List Undo) (now : Option (List Value)) (i : ℕ) (u : Undo) → i < length us → u ≡ get_or us i u
    → seek c v set (drop i us) now ≡ (ends_at c v set u.patch || seek c v (is_set_past c v set u.patch) (drop (i + 1) us) now)
seek_at c v set us now i u within is =
    ap (λ l. seek c v set l now) (drop_more us i u within ∙ ap (λ x. x ∷ drop (i + 1) us) (sym is)) ∙ seek_step c v set u (drop (i + 1) us) now

pub seek_end : (c : ℕ) (v : Value) (set : Bool) (us : List Undo) (now : Option (List Value)) (i : ℕ) → length us ≤ i → seek c v set (drop i us) now ≡ ends c v set now
seek_end c v set us now i over = ap (λ l. seek c v set l now) (drop_all i us over) ∙ either_end (set && has_column c now) (row_has c v now)

-- Columns that are set

set_one : (c : ℕ) (v : Value) (a : Assign) (row : List Value) → c < length row → cond (a.column == c) (is_value v a.value) (row_has c v (Some row)) ≡ row_has c v (Some (slice_set row a.column a.value))
set_one c v a row within = elim (cases_Bool (a.column == c)) [
  | inl t ↦ rw (t, eqb-true a.column c t) (ap (is_value v) (sym (get_or-set_same row c a.value (Int (pos 0)) within)))
  | inr f ↦ rw f (ap (is_value v) (sym (get_or-set_other row a.column c a.value (Int (pos 0)) (λ e. eqb-false a.column c f (sym e)))))
]

pub set_all : (c : ℕ) (v : Value) (items : List Assign) (row : List Value) → c < length row → has_after c v items (row_has c v (Some row)) ≡ row_has c v (Some (with_columns items row))
set_all c v [] row within = refl
set_all c v (a ∷ as') row within =
    ap (has_after c v as') (set_one c v a row within) ∙ set_all c v as' (slice_set row a.column a.value) (omega (arith, length-set row a.column a.value))

columns_length : (items : List Assign) (row : List Value) → length (with_columns items row) ≡ length row
columns_length [] row = refl
columns_length (a ∷ as') row = columns_length as' (slice_set row a.column a.value) ∙ length-set row a.column a.value

pub set_past_end : (c : ℕ) (v : Value) (items : List Assign) (row : List Value) → length row ≤ c → row_has c v (Some row) ≡ row_has c v (Some (with_columns items row))
set_past_end c v items row over =
    ap (is_value v) (past_end row c (Int (pos 0)) over ∙ sym (past_end (with_columns items row) c (Int (pos 0)) (omega (arith, columns_length items row))))

-- Patches of other calls

pub any_of_filter : {A : Type 0} (f g : A → Bool) (xs : List A) → list_any (λ x. g x && f x) xs ≡ list_any f (filter g xs)
any_of_filter f g [] = refl
any_of_filter f g (x ∷ xs) = elim (cases_Bool (g x)) [
  | inl t ↦ rw t (ap (λ b. f x || b) (any_of_filter f g xs))
  | inr e ↦ rw e (any_of_filter f g xs)
]

-- The newest row is one of them

either_true : (b : Bool) → (b || true) ≡ true
either_true false = refl
either_true true = refl

newest_in : (c : ℕ) (v : Value) (us : List Undo) (now : Option (List Value)) → row_has c v now ≡ true → undone_have c v us now ≡ true
newest_in c v [] now h = rw h refl
newest_in c v (u ∷ us) now h = rw (newest_in c v us now h) (either_true (row_has c v (undone u.patch (before us now))))

needless : (a b : Bool) → (a ≡ true → b ≡ true) → (a || b) ≡ b
needless false b h = refl
needless true b h = sym (h refl)

pub newest_first : (c : ℕ) (v : Value) (us : List Undo) (now : Option (List Value)) → (row_has c v now || undone_have c v us now) ≡ undone_have c v us now
newest_first c v us now = needless (row_has c v now) (undone_have c v us now) (newest_in c v us now)

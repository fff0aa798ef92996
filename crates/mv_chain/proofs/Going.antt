-- Which values come and go when versions change.
use Rattle.std.proofs.Common.{◌≡◌, ◌∷◌, ◌++◌, ◌<◌, ◌≤◌, ◌+◌, ℕ, zero, suc, Bool, true, false, inl, inr, List, [], length, take, drop, get_or, Option, Some, None, refl, ap, sym, ◌∙◌, arith, rules}
use Rattle.std.specs.Prelude.{slice_set, nat_le, nat_lt, pos, ◌==◌, ◌||◌}
use Rattle.std.specs.List.{list_any, filter}
use Rattle.std.proofs.lemmas.Bool.{cases_Bool, eqb-true, eqb-false}
use Rattle.std.proofs.lemmas.List.{get_or-set_other, get_or-set_same, length-set}
use Rattle.std.proofs.lemmas.List.Folds.{list_any-append}
use Rattle.mv_values.specs.declared.value.Value.{Value}
use Rattle.mv_values.specs.declared.value.Value.TheVariants.{Int}
use Rattle.mv_values.specs.declared.patch.Assign.{Assign}
use Rattle.mv_values.specs.declared.patch.Patch.{Patch}
use Rattle.mv_values.specs.declared.patch.Patch.TheVariants.{Insert, Set, Delete}
use Rattle.mv_values.specs.Patching.{with_columns, patched, is_set}
use Rattle.mv_chain.specs.declared.pending.Pending.{Pending}
use Rattle.mv_chain.specs.declared.undo.Undo.{Undo}
use Rattle.mv_chain.specs.Undoing.{set_back, before, commits_of, undone, later as later_of, Rises}
use Rattle.mv_chain.specs.Versions.{Versions, Commit, row_after, row_at, newest_of, newest, own_of, without, with_own, with_patch, stamped_by, stamped, collected, joined, compact}
use Rattle.mv_chain.specs.Having.{is_value, row_has, item_has, patch_has, rows_have, own_has, has_value, undone_have, undos_have, call_has, earlier_has}
use Rattle.mv_chain.proofs.Having.{past_end}
use Rattle.mv_chain.proofs.Versions.{shown, collect_is}

-- Bools

left : (a b : Bool) → a ≡ true → (a || b) ≡ true
left a b h = rw h refl

right : (a b : Bool) → b ≡ true → (a || b) ≡ true
right false b h = h
right true b h = refl

either : {P : Type 0} (a b : Bool) → (a || b) ≡ true → (a ≡ true → P) → (b ≡ true → P) → P
either false b h f g = g h
either true b h f g = f refl

widened : (a b c d : Bool) → (a || b) ≡ true → (a ≡ true → c ≡ true) → (b ≡ true → d ≡ true) → (c || d) ≡ true
widened a b c d h f g = either a b h (λ e. left c d (f e)) (λ e. right c d (g e))

-- A column that is set

set_one : (c : ℕ) (v : Value) (a : Assign) (row : List Value) → row_has c v (Some (slice_set row a.column a.value)) ≡ true → (item_has c v a || row_has c v (Some row)) ≡ true
set_one c v a row h = elim (cases_Bool (a.column == c)) [
  | inl t ↦ elim (cases_Bool (nat_lt c (length row))) [
    | inl w ↦
        let lt : c < length row = search (rules, w) in
        let is : get_or (slice_set row c a.value) c (Int (pos 0)) ≡ a.value = get_or-set_same row c a.value (Int (pos 0)) lt in
        let here : is_value v a.value ≡ true = sym (ap (is_value v) is) ∙ (sym (ap (λ k. is_value v (get_or (slice_set row k a.value) c (Int (pos 0)))) (eqb-true a.column c t)) ∙ h) in
        rw (t, here) refl
    | inr w ↦
        let over : length row ≤ c = search (rules, w) in
        let out : get_or (slice_set row a.column a.value) c (Int (pos 0)) ≡ get_or row c (Int (pos 0)) =
        past_end (slice_set row a.column a.value) c (Int (pos 0)) (omega (arith, over, length-set row a.column a.value)) ∙ sym (past_end row c (Int (pos 0)) over) in
        right (item_has c v a) _ (sym (ap (is_value v) out) ∙ h)
  ]
  | inr f ↦
      let out : get_or (slice_set row a.column a.value) c (Int (pos 0)) ≡ get_or row c (Int (pos 0)) = get_or-set_other row a.column c a.value (Int (pos 0)) (λ e. eqb-false a.column c f (sym e)) in
      right (item_has c v a) _ (sym (ap (is_value v) out) ∙ h)
]

-- What undoes a commit gives the values that only the row before it has

back_has : (c : ℕ) (v : Value) (items : List Assign) (row : List Value) → row_has c v (Some (set_back items row)) ≡ true → (list_any (item_has c v) items || row_has c v (Some row)) ≡ true
back_has c v [] row h = h
back_has c v (a ∷ as') row h =
    either (item_has c v a) (row_has c v (Some (set_back as' row))) (set_one c v a (set_back as' row) h)
    (λ e. left _ _ (left (item_has c v a) (list_any (item_has c v) as') e))
    (λ e. widened (list_any (item_has c v) as') (row_has c v (Some row)) (list_any (item_has c v) (a ∷ as')) (row_has c v (Some row)) (back_has c v as' row e) (λ i. right (item_has c v a) (list_any (item_has c v) as') i) (λ r. r))

undone_has : (c : ℕ) (v : Value) (p : Patch) (row : Option (List Value)) → row_has c v (undone p row) ≡ true → (patch_has c v p || row_has c v row) ≡ true
undone_has c v (Insert new) row h = left _ _ h
undone_has c v (Set items) None h = cc
undone_has c v (Set items) (Some row) h = back_has c v items row h
undone_has c v Delete row h = cc

later : (d t all p r : Bool) → (r || all) ≡ true → (all ≡ true → (d || t) ≡ true) → (r ≡ true → (p || all) ≡ true) → (d || (p || t)) ≡ true
later true t all p r h f g = refl
later false t all true r h f g = refl
later false t true false r h f g = f refl
later false t false false true h f g = let e : false ≡ true = g refl in cc
later false t false false false h f g = cc

-- the row before commits is one of them
by_row : (c : ℕ) (v : Value) (us : List Undo) (now : Option (List Value)) → row_has c v (before us now) ≡ true → undone_have c v us now ≡ true
by_row c v us now h = left (row_has c v (before us now)) (list_any (λ k. row_has c v k.row) (commits_of us now)) h

pub dropped_values : (c : ℕ) (v : Value) (us : List Undo) (now : Option (List Value)) (first : ℕ) → undone_have c v us now ≡ true → (undone_have c v (drop first us) now || undos_have c v (take first us)) ≡ true
dropped_values c v [] now zero h = left _ _ h
dropped_values c v [] now (suc first) h = left _ _ h
dropped_values c v (u ∷ us) now zero h = left _ _ h
dropped_values c v (u ∷ us) now (suc first) h =
    later (undone_have c v (drop first us) now) (undos_have c v (take first us)) (undone_have c v us now) (patch_has c v u.patch) (row_has c v (undone u.patch (before us now))) h
    (dropped_values c v us now first)
    (λ e. widened (patch_has c v u.patch) (row_has c v (before us now)) (patch_has c v u.patch) (undone_have c v us now) (undone_has c v u.patch (before us now) e) (λ p. p) (λ r. by_row c v us now r))

-- What patches give

columns_from : (c : ℕ) (v : Value) (items : List Assign) (row : List Value) → row_has c v (Some (with_columns items row)) ≡ true → (list_any (item_has c v) items || row_has c v (Some row)) ≡ true
columns_from c v [] row h = h
columns_from c v (a ∷ as') row h =
    either (list_any (item_has c v) as') (row_has c v (Some (slice_set row a.column a.value))) (columns_from c v as' (slice_set row a.column a.value) h)
    (λ i. left (list_any (item_has c v) (a ∷ as')) (row_has c v (Some row)) (right (item_has c v a) (list_any (item_has c v) as') i))
    (λ r. widened (item_has c v a) (row_has c v (Some row)) (list_any (item_has c v) (a ∷ as')) (row_has c v (Some row)) (set_one c v a row r) (λ i. left (item_has c v a) (list_any (item_has c v) as') i) (λ e. e))

patched_from : (c : ℕ) (v : Value) (p : Patch) (row : Option (List Value)) → row_has c v (patched p row) ≡ true → (patch_has c v p || row_has c v row) ≡ true
patched_from c v (Insert new) row h = left _ _ h
patched_from c v (Set items) None h = cc
patched_from c v (Set items) (Some row) h = columns_from c v items row h
patched_from c v Delete row h = cc

compact_from : (c : ℕ) (v : Value) (items : List Assign) → list_any (item_has c v) (compact items) ≡ true → list_any (item_has c v) items ≡ true
compact_from c v [] h = h
compact_from c v (a ∷ as') h = elim (cases_Bool (is_set a.column as')) [
  | inl t ↦ right (item_has c v a) _ (compact_from c v as' (rw t at h))
  | inr f ↦ widened (item_has c v a) (list_any (item_has c v) (compact as')) _ _ (rw f at h) (λ e. e) (compact_from c v as')
]

turned : (a b : Bool) → (a || b) ≡ true → (b || a) ≡ true
turned a false h = either a false h (λ e. e) (λ e. cc)
turned a true h = refl

joined_from : (c : ℕ) (v : Value) (first second : Patch) → patch_has c v (joined first second) ≡ true → (patch_has c v first || patch_has c v second) ≡ true
joined_from c v first (Insert row) h = right (patch_has c v first) _ h
joined_from c v (Insert row) (Set items) h = turned (list_any (item_has c v) items) (row_has c v (Some row)) (columns_from c v items row h)
joined_from c v (Set earlier) (Set items) h = sym (list_any-append (item_has c v) earlier items) ∙ compact_from c v (earlier ++ items) h
joined_from c v Delete (Set items) h = cc
joined_from c v first Delete h = cc

-- The patches of calls

without_from : (c : ℕ) (v : Value) (call : ℕ) (own : List Pending) → own_has c v (without call own) ≡ true → own_has c v own ≡ true
without_from c v call [] h = h
without_from c v call (p ∷ ps) h = elim (cases_Bool (p.call == call)) [
  | inl t ↦ right (patch_has c v p.patch) _ (without_from c v call ps (rw t at h))
  | inr f ↦ widened (patch_has c v p.patch) (own_has c v (without call ps)) _ _ (rw f at h) (λ e. e) (without_from c v call ps)
]

without_or : (c : ℕ) (v : Value) (call : ℕ) (own : List Pending) → own_has c v own ≡ true → (own_has c v (without call own) || call_has c v call own) ≡ true
without_or c v call [] h = cc
without_or c v call (p ∷ ps) h = elim (cases_Bool (p.call == call)) [
  | inl t ↦
      rw t (either (patch_has c v p.patch) (own_has c v ps) h
      (λ e. right (own_has c v (without call ps)) _ (left (patch_has c v p.patch) _ e))
      (λ e. widened (own_has c v (without call ps)) (call_has c v call ps) (own_has c v (without call ps)) (patch_has c v p.patch || call_has c v call ps) (without_or c v call ps e) (λ o. o) (λ o. right (patch_has c v p.patch) (call_has c v call ps) o)))
  | inr f ↦
      rw f (either (patch_has c v p.patch) (own_has c v ps) h
      (λ e. left (patch_has c v p.patch || own_has c v (without call ps)) (call_has c v call ps) (left (patch_has c v p.patch) (own_has c v (without call ps)) e))
      (λ e. widened (own_has c v (without call ps)) (call_has c v call ps) (patch_has c v p.patch || own_has c v (without call ps)) (call_has c v call ps) (without_or c v call ps e) (λ o. right (patch_has c v p.patch) (own_has c v (without call ps)) o) (λ o. o)))
]

own_from : (c : ℕ) (v : Value) (call : ℕ) (own : List Pending) (patch : Patch) → own_of call own ≡ Some patch → patch_has c v patch ≡ true → own_has c v own ≡ true
own_from c v call [] patch is h = cc
own_from c v call (p ∷ ps) patch is h = elim (cases_Bool (p.call == call)) [
  | inl t ↦ let same : Some p.patch ≡ Some patch = rw t at is in let one : p.patch ≡ patch = cc in left _ _ (ap (patch_has c v) one ∙ h)
  | inr f ↦ right (patch_has c v p.patch) _ (own_from c v call ps patch (rw f at is) h)
]

put_from : (c : ℕ) (v : Value) (call : ℕ) (patch : Patch) (own : List Pending) → own_has c v (with_own call patch own) ≡ true → (own_has c v own || patch_has c v patch) ≡ true
put_from c v call patch [] h = either (patch_has c v patch) false h (λ e. e) (λ e. cc)
put_from c v call patch (p ∷ ps) h = elim (cases_Bool (p.call == call)) [
  | inl t ↦
      either (patch_has c v (joined p.patch patch)) (own_has c v ps) (rw t at h)
      (λ e. widened (patch_has c v p.patch) (patch_has c v patch) (patch_has c v p.patch || own_has c v ps) (patch_has c v patch) (joined_from c v p.patch patch e) (λ o. left (patch_has c v p.patch) (own_has c v ps) o) (λ o. o))
      (λ e. left (patch_has c v p.patch || own_has c v ps) (patch_has c v patch) (right (patch_has c v p.patch) (own_has c v ps) e))
  | inr f ↦
      either (patch_has c v p.patch) (own_has c v (with_own call patch ps)) (rw f at h)
      (λ e. left (patch_has c v p.patch || own_has c v ps) (patch_has c v patch) (left (patch_has c v p.patch) (own_has c v ps) e))
      (λ e. widened (own_has c v ps) (patch_has c v patch) (patch_has c v p.patch || own_has c v ps) (patch_has c v patch) (put_from c v call patch ps e) (λ o. right (patch_has c v p.patch) (own_has c v ps) o) (λ o. o))
]

put_or : (c : ℕ) (v : Value) (call : ℕ) (patch : Patch) (own : List Pending) → own_has c v own ≡ true → (own_has c v (with_own call patch own) || earlier_has c v (own_of call own)) ≡ true
put_or c v call patch [] h = cc
put_or c v call patch (p ∷ ps) h = elim (cases_Bool (p.call == call)) [
  | inl t ↦
      rw t (either (patch_has c v p.patch) (own_has c v ps) h
      (λ e. right (patch_has c v (joined p.patch patch) || own_has c v ps) _ e)
      (λ e. left (patch_has c v (joined p.patch patch) || own_has c v ps) (patch_has c v p.patch) (right (patch_has c v (joined p.patch patch)) (own_has c v ps) e)))
  | inr f ↦
      rw f (either (patch_has c v p.patch) (own_has c v ps) h
      (λ e. left (patch_has c v p.patch || own_has c v (with_own call patch ps)) (earlier_has c v (own_of call ps)) (left (patch_has c v p.patch) (own_has c v (with_own call patch ps)) e))
      (λ e. widened (own_has c v (with_own call patch ps)) (earlier_has c v (own_of call ps)) (patch_has c v p.patch || own_has c v (with_own call patch ps)) (earlier_has c v (own_of call ps)) (put_or c v call patch ps e) (λ o. right (patch_has c v p.patch) (own_has c v (with_own call patch ps)) o) (λ o. o)))
]

-- Rows

newest_from : (c : ℕ) (v : Value) (row : Option (List Value)) (cs : List Commit) → row_has c v (newest_of row cs) ≡ true → rows_have c v row cs ≡ true
newest_from c v row [] h = left _ _ h
newest_from c v row (k ∷ ks) h = right (row_has c v row) _ (newest_from c v k.row ks h)

after_from : (c : ℕ) (v : Value) (n : ℕ) (row : Option (List Value)) (cs : List Commit) → row_has c v (row_after n row cs) ≡ true → rows_have c v row cs ≡ true
after_from c v n row [] h = left _ _ h
after_from c v n row (k ∷ ks) h = elim (cases_Bool (nat_le k.number n)) [
  | inl t ↦ right (row_has c v row) _ (after_from c v n k.row ks (rw t at h))
  | inr f ↦ left _ _ (rw f at h)
]

some_from : {A : Type 0} (f g : A → Bool) (xs : List A) → list_any f (filter g xs) ≡ true → list_any f xs ≡ true
some_from f g [] h = h
some_from f g (x ∷ xs) h = elim (cases_Bool (g x)) [
  | inl t ↦ widened (f x) (list_any f (filter g xs)) _ _ (rw t at h) (λ e. e) (some_from f g xs)
  | inr e ↦ right (f x) _ (some_from f g xs (rw e at h))
]

-- Changes

pub dropped_from : (c : ℕ) (v : Value) (call : ℕ) (w : Versions) → has_value c v (record w { own = without call w.own }) ≡ true → has_value c v w ≡ true
dropped_from c v call w h = widened _ _ _ _ h (λ e. e) (without_from c v call w.own)

swapped : (a b d e : Bool) → (a || b) ≡ true → (b ≡ true → (d || e) ≡ true) → ((a || d) || e) ≡ true
swapped true b d e h f = refl
swapped false b d e h f = f h

pub dropped_or : (c : ℕ) (v : Value) (call : ℕ) (w : Versions) → has_value c v w ≡ true → (has_value c v (record w { own = without call w.own }) || call_has c v call w.own) ≡ true
dropped_or c v call w h = swapped (rows_have c v w.base w.commits) (own_has c v w.own) _ _ h (without_or c v call w.own)

-- with one commit more
rows_more : (c : ℕ) (v : Value) (base row : Option (List Value)) (n : ℕ) (cs : List Commit) → rows_have c v base (cs ++ record { number = n; row = row } ∷ []) ≡ (rows_have c v base cs || row_has c v row)
rows_more c v base row n cs =
    ap (λ b. row_has c v base || b) (list_any-append (λ k. row_has c v k.row) cs (record { number = n; row = row } ∷ [])) ∙ last (row_has c v base) (list_any (λ k. row_has c v k.row) cs) (row_has c v row)
  where
    last : (a b d : Bool) → (a || (b || (d || false))) ≡ ((a || b) || d)
    last true b d = refl
    last false true d = refl
    last false false true = refl
    last false false false = refl

stamp_from : (c : ℕ) (v : Value) (call n : ℕ) (w : Versions) (own : Option Patch) → own_of call w.own ≡ own → has_value c v (stamped_by own call n w) ≡ true → has_value c v w ≡ true
stamp_from c v call n w None is h = h
stamp_from c v call n w (Some patch) is h =
    either (rows_have c v w.base (w.commits ++ record { number = n; row = patched patch (newest w) } ∷ [])) (own_has c v (without call w.own)) h
    (λ r. either (rows_have c v w.base w.commits) (row_has c v (patched patch (newest w))) (sym (rows_more c v w.base (patched patch (newest w)) n w.commits) ∙ r)
    (λ e. left _ _ e)
    (λ e. either (patch_has c v patch) (row_has c v (newest w)) (patched_from c v patch (newest w) e)
    (λ p. right (rows_have c v w.base w.commits) _ (own_from c v call w.own patch is p))
    (λ q. left _ _ (newest_from c v w.base w.commits q))))
    (λ o. right (rows_have c v w.base w.commits) _ (without_from c v call w.own o))

pub stamped_from : (c : ℕ) (v : Value) (call n : ℕ) (w : Versions) → has_value c v (stamped call n w) ≡ true → has_value c v w ≡ true
stamped_from c v call n w h = stamp_from c v call n w (own_of call w.own) refl h

stamp_or : (c : ℕ) (v : Value) (call n : ℕ) (w : Versions) (own : Option Patch) → own_of call w.own ≡ own → has_value c v w ≡ true → (has_value c v (stamped_by own call n w) || call_has c v call w.own) ≡ true
stamp_or c v call n w None is h = left _ _ h
stamp_or c v call n w (Some patch) is h =
    widened (has_value c v (record w { own = without call w.own })) (call_has c v call w.own) (has_value c v (stamped_by (Some patch) call n w)) (call_has c v call w.own) (dropped_or c v call w h)
    (λ e. widened (rows_have c v w.base w.commits) (own_has c v (without call w.own)) _ _ e (λ r. rows_more c v w.base (patched patch (newest w)) n w.commits ∙ left _ _ r) (λ o. o))
    (λ e. e)

pub stamped_or : (c : ℕ) (v : Value) (call n : ℕ) (w : Versions) → has_value c v w ≡ true → (has_value c v (stamped call n w) || call_has c v call w.own) ≡ true
stamped_or c v call n w h = stamp_or c v call n w (own_of call w.own) refl h

pub collected_from : (c : ℕ) (v : Value) (low : ℕ) (w : Versions) → has_value c v (collected low w) ≡ true → has_value c v w ≡ true
collected_from c v low w h =
    widened (rows_have c v (row_at w low) (filter (λ k. nat_lt low k.number) w.commits)) (own_has c v w.own) _ _ h
    (λ r. either (row_has c v (row_at w low)) (list_any (λ k. row_has c v k.row) (filter (λ k. nat_lt low k.number) w.commits)) r
    (after_from c v low w.base w.commits)
    (λ e. right (row_has c v w.base) _ (some_from (λ k. row_has c v k.row) (λ k. nat_lt low k.number) w.commits e)))
    (λ o. o)

pub put_values_from : (c : ℕ) (v : Value) (call : ℕ) (patch : Patch) (w : Versions) → has_value c v (with_patch call patch w) ≡ true → (has_value c v w || patch_has c v patch) ≡ true
put_values_from c v call patch w h = swapped (rows_have c v w.base w.commits) (own_has c v (with_own call patch w.own)) _ _ h (put_from c v call patch w.own)

pub put_values_or : (c : ℕ) (v : Value) (call : ℕ) (patch : Patch) (w : Versions) → has_value c v w ≡ true → (has_value c v (with_patch call patch w) || earlier_has c v (own_of call w.own)) ≡ true
put_values_or c v call patch w h = swapped (rows_have c v w.base w.commits) (own_has c v w.own) _ _ h (put_or c v call patch w.own)

-- What is found of versions is what their rows and patches have

pub stamp_found : (c : ℕ) (v : Value) (call n : ℕ) (w : Versions) (patch : Patch) → own_of call w.own ≡ Some patch
    → (row_has c v (patched patch (newest w)) || has_value c v (record w { own = without call w.own })) ≡ has_value c v (stamped call n w)
stamp_found c v call n w patch is =
    moved (row_has c v (patched patch (newest w))) (rows_have c v w.base w.commits) (own_has c v (without call w.own))
    ∙ (sym (ap (λ r. r || own_has c v (without call w.own)) (rows_more c v w.base (patched patch (newest w)) n w.commits)) ∙ sym (ap (λ o. has_value c v (stamped_by o call n w)) is))
  where
    moved : (a b d : Bool) → (a || (b || d)) ≡ ((b || a) || d)
    moved true true d = refl
    moved true false d = refl
    moved false true d = refl
    moved false false d = refl

-- a row that is read is one of them
pub at_from : (c : ℕ) (v : Value) (n : ℕ) (w : Versions) → row_has c v (row_at w n) ≡ true → has_value c v w ≡ true
at_from c v n w h = left _ _ (after_from c v n w.base w.commits h)

-- versions once the commits up to low are collected
from_is : (low : ℕ) (us : List Undo) (now : Option (List Value)) (own : List Pending) (first : ℕ) (w : Versions) → shown us now own ≡ w → Rises us → drop first us ≡ later_of low us → shown (drop first us) now own ≡ collected low w
from_is low us now own first w is rises left_is = ap (λ l. shown l now own) left_is ∙ (collect_is low us now own rises ∙ ap (collected low) is)

pub from_found : (c : ℕ) (v : Value) (low : ℕ) (us : List Undo) (now : Option (List Value)) (own : List Pending) (first : ℕ) (w : Versions) → shown us now own ≡ w → Rises us → drop first us ≡ later_of low us
    → (undone_have c v (drop first us) now || own_has c v own) ≡ has_value c v (collected low w)
from_found c v low us now own first w is rises left_is = ap (has_value c v) (from_is low us now own first w is rises left_is)

-- what undoes the commits up to low gives the values that go
pub dropped_all : (c : ℕ) (v : Value) (low : ℕ) (us : List Undo) (now : Option (List Value)) (own : List Pending) (first : ℕ) (w : Versions) → shown us now own ≡ w → Rises us → drop first us ≡ later_of low us → has_value c v w ≡ true
    → (has_value c v (collected low w) || undos_have c v (take first us)) ≡ true
dropped_all c v low us now own first w is rises left_is h =
    sym (ap (λ x. has_value c v x || undos_have c v (take first us)) (from_is low us now own first w is rises left_is))
    ∙ either (undone_have c v us now) (own_has c v own) (ap (has_value c v) is ∙ h)
    (λ e. widened (undone_have c v (drop first us) now) (undos_have c v (take first us)) _ _ (dropped_values c v us now first e) (λ d. left _ _ d) (λ t. t))
    (λ e. left _ _ (right (undone_have c v (drop first us) now) _ e))

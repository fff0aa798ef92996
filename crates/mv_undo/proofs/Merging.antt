-- Rows put into other rows, from the least key to the greatest.
use Rattle.std.proofs.Common.{◌≡◌, ◌<◌, ◌≤◌, ℕ, zero, suc, Bool, true, false, List, [], ◌∷◌, ◌++◌, Option, None, All, length, slice_index_or, refl, sym, ap, subst, ◌∙◌, arith, ◌+◌, length-append}
use Rattle.std.specs.Prelude.{AllPairs}
use Rattle.std.proofs.Math.ListN.{get_or-append}
use Rattle.std.proofs.Math.Seq.{get_or-append_seam}
use Rattle.std.proofs.lemmas.List.{append_assoc, append-nil}
use Rattle.std.proofs.lemmas.List.Elements.{All-tail, All-head, All-push, All-weaker}
use Rattle.std.specs.Ordering.{is_eq, is_le, is_lt}
use Rattle.std.specs.declared.cmp.Ordering.{Ordering}
use Rattle.std.specs.declared.cmp.Ordering.TheVariants.{Less, Equal, Greater}
use Rattle.mv_values.specs.declared.value.Value.{Value}
use Rattle.mv_values.specs.declared.rows.Keyed.{Keyed}
use Rattle.mv_values.specs.Keys.{IsRising, IsBelow}
use Rattle.mv_values.specs.Order.{key_order}
use Rattle.mv_values.specs.Patching.{row_of, placed, standing}
use Rattle.mv_values.proofs.KeyOrder.{key_order_total, tied}
use Rattle.mv_record.proofs.Patching.{row_of-placed_same, placed_other, rising_placed, rows_same, placed_before, placed_here, placed_past}
use Rattle.mv_undo.specs.Overlaying.{begins_up_to}

-- A row put under a key

-- behind rows below its key
put_behind : (key : List Value) (row : Option (List Value)) (done ahead : List Keyed) → All (IsBelow key) done → placed key row (done ++ ahead) ≡ done ++ placed key row ahead
put_behind key row [] ahead h = refl
put_behind key row (x ∷ xs) ahead h =
    placed_before key row x (xs ++ ahead) (All-head (IsBelow key) x xs h) ∙ ap (λ l. x ∷ l) (put_behind key row xs ahead (All-tail (IsBelow key) x xs h))

-- in front of rows above its key
put_front : (key : List Value) (row : Option (List Value)) (ahead : List Keyed) → begins_up_to key ahead ≡ false → placed key row ahead ≡ standing key row ++ ahead
put_front key row [] h = sym (append-nil (standing key row))
put_front key row (x ∷ xs) h = by (key_order x.key key) refl h
  where
    by : (o : Ordering) → key_order x.key key ≡ o → is_le o ≡ false → placed key row (x ∷ xs) ≡ standing key row ++ x ∷ xs
    by Less e g = cc
    by Equal e g = cc
    by Greater e g = placed_past key row x xs e

pub put_between : (key : List Value) (row : Option (List Value)) (done ahead rest : List Keyed) → All (IsBelow key) done → begins_up_to key ahead ≡ false → rest ≡ ahead → placed key row (done ++ ahead) ≡ done ++ standing key row ++ rest
put_between key row done ahead rest below past same =
    put_behind key row done ahead below ∙ (ap (λ l. done ++ l) (put_front key row ahead past) ∙ (ap (λ l. done ++ (standing key row ++ l)) (sym same) ∙ sym (append_assoc done (standing key row) rest)))

-- put under a key twice, the later row stands
put_again : (key : List Value) (was row : Option (List Value)) (rows : List Keyed) → IsRising rows → placed key row (placed key was rows) ≡ placed key row rows
put_again key was row rows h =
    rows_same (placed key row (placed key was rows)) (placed key row rows) (rising_placed key row (placed key was rows) once) (rising_placed key row rows h) (λ other. by other (is_eq (key_order key other)) refl)
  where
    once : IsRising (placed key was rows)
    once = rising_placed key was rows h

    by : (other : List Value) (b : Bool) → is_eq (key_order key other) ≡ b → row_of (placed key row (placed key was rows)) other ≡ row_of (placed key row rows) other
    by other true e =
        subst (λ k. row_of (placed key row (placed key was rows)) k ≡ row_of (placed key row rows) k) (tied key other e)
        (row_of-placed_same key row (placed key was rows) once ∙ sym (row_of-placed_same key row rows h))
    by other false e = placed_other key row (placed key was rows) other e ∙ (placed_other key was rows other e ∙ sym (placed_other key row rows other e))

-- Row after row

-- the rows in front of a row are below its key
pub below_next : (xs : List Keyed) (x : Keyed) (ys : List Keyed) → IsRising (xs ++ x ∷ ys) → All (IsBelow x.key) xs
below_next xs x ys h k d lt =
    let left : slice_index_or (xs ++ x ∷ ys) k d ≡ slice_index_or xs k d = get_or-append xs (x ∷ ys) d k lt in
    let right : slice_index_or (xs ++ x ∷ ys) (length xs) d ≡ x = get_or-append_seam xs x ys d in
    let pair : IsBelow (slice_index_or (xs ++ x ∷ ys) (length xs) d).key (slice_index_or (xs ++ x ∷ ys) k d) = h k (length xs) d lt (omega (arith, length-append xs (x ∷ ys))) in
    subst (λ (y : Keyed). IsBelow x.key y) left (subst (λ (y : Keyed). IsBelow y.key (slice_index_or (xs ++ x ∷ ys) k d)) right pair)

moved : (xs : List Keyed) (x : Keyed) (ys : List Keyed) → (xs ++ x ∷ []) ++ ys ≡ xs ++ x ∷ ys
moved xs x ys = append_assoc xs (x ∷ []) ys

-- the rows that are left where one isn't moved on
without : (xs : List Keyed) (x : Keyed) (ys : List Keyed) (key : List Value) → key_order x.key key ≡ Equal → All (IsBelow key) xs → placed key None (xs ++ x ∷ ys) ≡ xs ++ ys
without xs x ys key e below = put_behind key None xs (x ∷ ys) below ∙ ap (λ l. xs ++ l) (placed_here key None x ys e)

pub dropped_rising : (xs : List Keyed) (x : Keyed) (ys : List Keyed) (key : List Value) → key_order x.key key ≡ Equal → All (IsBelow key) xs → IsRising (xs ++ x ∷ ys) → IsRising (xs ++ ys)
dropped_rising xs x ys key e below h = subst IsRising (without xs x ys key e below) (rising_placed key None (xs ++ x ∷ ys) h)

pub dropped_same : (xs : List Keyed) (x : Keyed) (ys : List Keyed) (key : List Value) → key_order x.key key ≡ Equal → All (IsBelow key) xs → IsRising (xs ++ x ∷ ys) → (row : Option (List Value)) → placed key row (xs ++ ys) ≡ placed key row (xs ++ x ∷ ys)
dropped_same xs x ys key e below h row = ap (placed key row) (sym (without xs x ys key e below)) ∙ put_again key None row (xs ++ x ∷ ys) h

-- at most a key and not below it is the key
pub at_key : (o : Ordering) → is_le o ≡ true → is_lt o ≡ false → o ≡ Equal
at_key Less h g = cc
at_key Equal h g = refl
at_key Greater h g = cc

-- what is below a key is below each greater one
pub below_later : (key later : List Value) (xs : List Keyed) → key_order key later ≡ Less → All (IsBelow key) xs → All (IsBelow later) xs
below_later key later xs e h = All-weaker (IsBelow key) (IsBelow later) (λ (x : Keyed) lt. key_order_total.trans x.key key later lt e) xs h

pub below_put : (key later row : List Value) (xs : List Keyed) → key_order key later ≡ Less → All (IsBelow key) xs → All (IsBelow later) (xs ++ record { key = key; row = row } ∷ [])
below_put key later row xs e h = All-push (IsBelow later) xs (record { key = key; row = row }) (below_later key later xs e h) e

-- the row taken from the rows ahead, in front of those that are left

abbrev pub IsTaken : List Keyed → List Keyed → List Keyed → List Keyed → Keyed → Type 0
IsTaken was from done ahead item = (done ≡ was) × (from ≡ item ∷ ahead)

pub taken_same : (was from done ahead : List Keyed) (item : Keyed) → IsTaken was from done ahead item → done ++ item ∷ ahead ≡ was ++ from
taken_same was from done ahead item h = ap (λ l. l ++ item ∷ ahead) h.0 ∙ ap (λ l. was ++ l) (sym h.1)

pub pushed_same : (was from done ahead more : List Keyed) (item : Keyed) → IsTaken was from done ahead item → more ≡ done ++ item ∷ [] → more ++ ahead ≡ was ++ from
pushed_same was from done ahead more item h is = ap (λ l. l ++ ahead) is ∙ (moved done item ahead ∙ taken_same was from done ahead item h)

any_default : (keys : List (List Value)) (i : ℕ) (d e : List Value) → i < length keys → slice_index_or keys i d ≡ slice_index_or keys i e
any_default [] i d e lt = absurd (omega (arith, lt))
any_default (k ∷ ks) zero d e lt = refl
any_default (k ∷ ks) (suc i) d e lt = any_default ks i d e (omega (arith, lt))

-- of keys that rise each is below those after it
pub next_above : (keys : List (List Value)) (i k : ℕ) (key d : List Value) → AllPairs (λ a b. key_order a b ≡ Less) keys → key ≡ slice_index_or keys i key → i + 1 ≤ k → k < length keys → key_order key (slice_index_or keys k d) ≡ Less
next_above keys i k key d rising is low lt =
    subst (λ a. key_order a (slice_index_or keys k d) ≡ Less) (any_default keys i d key (omega (arith, low, lt)) ∙ sym is) (rising i k d (omega (arith, low)) lt)

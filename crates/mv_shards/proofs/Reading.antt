-- Reads of several shards.
use Rattle.std.proofs.Common.{◌≡◌, ◌<◌, ◌≤◌, ◌+◌, ℕ, zero, suc, Bool, true, false, cond, List, [], ◌∷◌, Option, Some, None, All, drop, length, refl, sym, ap, subst, ◌∙◌, arith}
use Rattle.std.specs.Prelude.{◌||◌, ℤ, slice_index_or}
use Rattle.std.specs.List.{filter, list_any}
use Rattle.std.specs.Option.{option_or}
use Rattle.std.specs.Ordering.{is_eq}
use Rattle.std.proofs.lemmas.Bool.{both_ways, eq-eqb}
use Rattle.mv_values.specs.declared.value.Value.{Value}
use Rattle.mv_values.specs.declared.value.Value.TheVariants.{Int, Text}
use Rattle.mv_values.specs.declared.rows.Keyed.{Keyed}
use Rattle.mv_values.specs.declared.pred.Pred.{Pred}
use Rattle.mv_values.specs.declared.pred.Test.{Test}
use Rattle.mv_values.specs.declared.op.Op.TheVariants.{Eq}
use Rattle.mv_table.specs.Spans.{Admits, HoldsAt}
use Rattle.std.specs.Cmp.{Equal-is}
use Rattle.mv_values.specs.Comparing.{op_holds}
use Rattle.mv_values.specs.Columns.{column_of}
use Rattle.mv_values.specs.Keys.{IsRising}
use Rattle.mv_values.specs.Order.{key_order, value_order}
use Rattle.mv_values.specs.Preds.{matches, matched, admits}
use Rattle.mv_values.specs.Patching.{row_of, placed, found_by}
use Rattle.mv_values.specs.Tables.{Tables, rows_at}
use Rattle.mv_values.proofs.KeyOrder.{tied, exact_values}
use Rattle.mv_record.specs.Admitting.{Admitted}
use Rattle.mv_record.specs.Writes.{AreRising}
use Rattle.mv_record.proofs.Rising.{Rises, rises_from, row_below}
use Rattle.mv_record.proofs.Patching.{placed_other, row_of-placed_same, rising_placed, rows_same, row_of-found, rising_found}
use Rattle.mv_seats.specs.Scripts.{BoardScript}
use Rattle.mv_seats.specs.Knowing.{Knows}
use Rattle.mv_seats.proofs.Prefixes.{prefix_length}
use Rattle.mv_shards.specs.Parts.{shard_of, is_in, part, first_int, eight}
use Rattle.mv_shards.specs.Histories.{tables_at}
use Rattle.mv_shards.specs.Kept.{HasGrown}
use Rattle.mv_shards.specs.Reads.{MayRead, Fixes, added, gathered}
use Rattle.mv_shards.proofs.Pieces.{at_part, row_part, rising_part}
use Rattle.mv_shards.proofs.Histories.{tables_front, touch_front}
use Rattle.mv_shards.proofs.Stored.{in_eight, in_rest}

-- One shard

-- what fails the second test matches nowhere, so it may be left out first
only_kept : (m p : Keyed → Bool) (xs : List Keyed) → All (λ x. m x ≡ true → p x ≡ true) xs → filter m (filter p xs) ≡ filter m xs
only_kept m p [] h = refl
only_kept m p (x ∷ xs) h = by (only_kept m p xs (λ k d lt. h (suc k) d (omega (arith, lt)))) (p x) refl (m x) refl
  where
    by : filter m (filter p xs) ≡ filter m xs → (b : Bool) → p x ≡ b → (c : Bool) → m x ≡ c → filter m (cond b (x ∷ filter p xs) (filter p xs)) ≡ cond c (x ∷ filter m xs) (filter m xs)
    by more true e true f = rw f (ap (λ l. x ∷ l) more)
    by more true e false f = rw f more
    by more false e true f = absurd (both_ways (p x) e (h 0 x (omega arith) f))
    by more false e false f = more

in_is : (q t : ℕ) (key : List Value) → shard_of t key ≡ q → is_in q t key ≡ true
in_is q t key e = eq-eqb (shard_of t key) q e

all_then : (p q : Keyed → Type 0) (xs : List Keyed) → ((x : Keyed) → p x → q x) → All p xs → All q xs
all_then p q xs f h = λ k d lt. f (slice_index_or xs k d) (h k d lt)

-- all rows of a predicate that fixes a shard are in its part
pub fixed_part : (q : ℕ) (pred : Pred) (db : Tables) → Fixes q pred → Admitted pred (rows_at db pred.table) → found_by pred (part q db) ≡ found_by pred db
fixed_part q pred db fix h =
    ap (filter (λ item. matches pred item.row)) (at_part q pred.table db)
    ∙ only_kept (λ item. matches pred item.row) (λ item. is_in q pred.table item.key) (rows_at db pred.table)
    (all_then (λ item. matches pred item.row ≡ true → admits pred item.key ≡ true) (λ item. matches pred item.row ≡ true → is_in q pred.table item.key ≡ true) (rows_at db pred.table) (λ x may m. in_is q pred.table x.key (fix x.key (may m))) h)

-- the row under a key is in the key's shard
pub row_there : (t : ℕ) (key : List Value) (db : Tables) → AreRising db → row_of (rows_at (part (shard_of t key) db) t) key ≡ row_of (rows_at db t) key
row_there t key db h = row_part (shard_of t key) t db key h ∙ ap (λ b. cond b (row_of (rows_at db t) key) None) (in_is (shard_of t key) t key refl)

-- Which shard tests fix

pub at_place : (key : List Value) (p : ℕ) (n : ℤ) → column_of key p ≡ Int n → first_int (drop p key) ≡ n
at_place [] zero n e = cc
at_place [] (suc p) n e = cc
at_place (v ∷ vs) zero n e = ap (λ w. first_int (w ∷ vs)) e
at_place (v ∷ vs) (suc p) n e = at_place vs p n e

at_text : (key : List Value) (p : ℕ) (t : List ℕ) → column_of key p ≡ Text t → first_int (drop p key) ≡ first_int (drop (suc p) key)
at_text [] zero t e = cc
at_text [] (suc p) t e = cc
at_text (v ∷ vs) zero t e = ap (λ w. first_int (w ∷ vs)) e
at_text (v ∷ vs) (suc p) t e = at_text vs p t e

value_is : (tests : List Test) (test : Test) (p : ℕ) (key : List Value) → test.op ≡ Eq → HoldsAt tests p test → Admits tests key → column_of key p ≡ test.value
value_is tests test p key e h so = exact_values (column_of key p) test.value ((Equal-is (value_order (column_of key p) test.value)).0 (subst (λ op. op_holds op (value_order (column_of key p) test.value) ≡ true) e (h key so)))

-- a number is fixed, after texts
pub int_fixed : (tests : List Test) (test : Test) (p : ℕ) (n : ℤ) → ((key : List Value) → Admits tests key → first_int (drop p key) ≡ first_int key) → test.op ≡ Eq → HoldsAt tests p test → test.value ≡ Int n
    → (key : List Value) → Admits tests key → first_int key ≡ n
int_fixed tests test p n inv e h is key so = sym (inv key so) ∙ at_place key p n (value_is tests test p key e h so ∙ is)

-- one more text is fixed
pub text_fixed : (tests : List Test) (test : Test) (p : ℕ) (t : List ℕ) → ((key : List Value) → Admits tests key → first_int (drop p key) ≡ first_int key) → test.op ≡ Eq → HoldsAt tests p test → test.value ≡ Text t
    → (key : List Value) → Admits tests key → first_int (drop (p + 1) key) ≡ first_int key
text_fixed tests test p t inv e h is key so =
    let one : suc p ≡ p + 1 = omega arith in
    subst (λ k. first_int (drop k key) ≡ first_int key) one (sym (at_text key p t (value_is tests test p key e h so ∙ is)) ∙ inv key so)

-- Several shards

or_none : (o : Option (List Value)) → option_or o None ≡ o
or_none None = refl
or_none (Some x) = refl

no_rows_rise : IsRising []
no_rows_rise = λ i j d lt within. absurd (omega (arith, within))

pub added_rises : (xs was : List Keyed) → IsRising was → IsRising (added xs was)
added_rises [] was h = h
added_rises (x ∷ xs) was h = added_rises xs (placed x.key (Some x.row) was) (rising_placed x.key (Some x.row) was h)

added_row : (xs was : List Keyed) (key : List Value) → Rises xs → IsRising was → row_of (added xs was) key ≡ option_or (row_of xs key) (row_of was key)
added_row [] was key h r = refl
added_row (x ∷ xs) was key h r = added_row xs (placed x.key (Some x.row) was) key h.1 (rising_placed x.key (Some x.row) was r) ∙ by (is_eq (key_order x.key key)) refl
  where
    by : (b : Bool) → is_eq (key_order x.key key) ≡ b → option_or (row_of xs key) (row_of (placed x.key (Some x.row) was) key) ≡ option_or (cond b (Some x.row) (row_of xs key)) (row_of was key)
    by true e =
        let same = tied x.key key e in
        ap (λ o. option_or o (row_of (placed x.key (Some x.row) was) key)) (subst (λ k. row_of xs k ≡ None) same (row_below x.key xs h.0))
        ∙ subst (λ k. row_of (placed x.key (Some x.row) was) k ≡ Some x.row) same (row_of-placed_same x.key (Some x.row) was r)
    by false e = ap (option_or (row_of xs key)) (placed_other x.key (Some x.row) was key e)

matched_in : (pred : Pred) (b : Bool) (o : Option (List Value)) → matched pred (cond b o None) ≡ cond b (matched pred o) None
matched_in pred true o = refl
matched_in pred false o = refl

-- the row under a key that is found in a part
found_row : (q : ℕ) (pred : Pred) (db : Tables) (key : List Value) → AreRising db → row_of (found_by pred (part q db)) key ≡ cond (is_in q pred.table key) (row_of (found_by pred db) key) None
found_row q pred db key h =
    row_of-found pred (part q db) key (rising_part q db h)
    ∙ (ap (matched pred) (row_part q pred.table db key h)
    ∙ (matched_in pred (is_in q pred.table key) (row_of (rows_at db pred.table) key)
    ∙ ap (λ o. cond (is_in q pred.table key) o None) (sym (row_of-found pred db key h))))

once : (f w : Option (List Value)) → option_or f (option_or f w) ≡ option_or f w
once None w = refl
once (Some x) w = refl

fold_in : (b c : Bool) (f w : Option (List Value)) → cond c (option_or f (option_or (cond b f None) w)) (option_or (cond b f None) w) ≡ cond (b || c) (option_or f w) w
fold_in true true f w = once f w
fold_in true false f w = refl
fold_in false true f w = refl
fold_in false false f w = refl

gathered_rises : (qs : List ℕ) (pred : Pred) (db : Tables) (was : List Keyed) → IsRising was → IsRising (gathered qs pred db was)
gathered_rises [] pred db was h = h
gathered_rises (q ∷ qs) pred db was h = gathered_rises qs pred db (added (found_by pred (part q db)) was) (added_rises (found_by pred (part q db)) was h)

gathered_row : (qs : List ℕ) (pred : Pred) (db : Tables) (was : List Keyed) (key : List Value) → AreRising db → IsRising was
    → row_of (gathered qs pred db was) key ≡ cond (list_any (λ q. is_in q pred.table key) qs) (option_or (row_of (found_by pred db) key) (row_of was key)) (row_of was key)
gathered_row [] pred db was key h r = refl
gathered_row (q ∷ qs) pred db was key h r =
    let now = added (found_by pred (part q db)) was in
    let one : row_of now key ≡ option_or (cond (is_in q pred.table key) (row_of (found_by pred db) key) None) (row_of was key) =
    added_row (found_by pred (part q db)) was key (rises_from (found_by pred (part q db)) (rising_found pred (part q db) (rising_part q db h))) r ∙ ap (λ o. option_or o (row_of was key)) (found_row q pred db key h) in
    gathered_row qs pred db now key h (added_rises (found_by pred (part q db)) was r)
    ∙ (ap (λ o. cond (list_any (λ p. is_in p pred.table key) qs) (option_or (row_of (found_by pred db) key) o) o) one
    ∙ fold_in (is_in q pred.table key) (list_any (λ p. is_in p pred.table key) qs) (row_of (found_by pred db) key) (row_of was key))

pub below_8 : (t : ℕ) (key : List Value) → shard_of t key < 8
below_8 t key = omega arith

-- all eight shards have all rows
pub gathered_all : (pred : Pred) (db : Tables) → AreRising db → gathered eight pred db [] ≡ found_by pred db
gathered_all pred db h =
    rows_same (gathered eight pred db []) (found_by pred db) (gathered_rises eight pred db [] no_rows_rise) (rising_found pred db h) (λ key.
    gathered_row eight pred db [] key h no_rows_rise
    ∙ (ap (λ b. cond b (option_or (row_of (found_by pred db) key) None) None) (in_eight (shard_of pred.table key) (below_8 pred.table key)) ∙ or_none (row_of (found_by pred db) key)))

-- Passes that grow

pub reads_still : (s : BoardScript) (qs : List ℕ) (n : ℕ) (old new : Knows) → MayRead s qs n old → HasGrown old new → MayRead s qs n new
reads_still s qs n old new h g =
    let longer = prefix_length old.seen new.seen g.seen in record {
      role = g.role ∙ h.role;
      script = h.script;
      past = let past = h.past in omega (arith, past, longer);
      marks = λ q own. let m = h.marks q own in let u = g.marks q in let same = touch_front s q old.seen new.seen n g.seen h.past in omega (arith, m, u, same);
    }

pub reads_rest : (s : BoardScript) (q : ℕ) (qs : List ℕ) (n : ℕ) (k : Knows) → MayRead s (q ∷ qs) n k → MayRead s qs n k
reads_rest s q qs n k h = record { role = h.role; script = h.script; past = h.past; marks = λ p own. h.marks p (in_rest p q qs own) }

-- the history that it has seen begins as before
pub sees_still : (s : BoardScript) (n : ℕ) (old new : Knows) → n ≤ length old.seen → HasGrown old new → tables_at s old.seen n ≡ tables_at s new.seen n
sees_still s n old new le g = tables_front s old.seen new.seen n g.seen le

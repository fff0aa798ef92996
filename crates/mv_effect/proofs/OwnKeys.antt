-- Own keys that are taken one after another, and what they were asked for.
use Rattle.std.proofs.Common.{◌≡◌, ◌≤◌, ◌+◌, ◌-◌, ◌⊎◌, inl, inr, ℕ, suc, Bool, true, false, List, [], ◌∷◌, ◌++◌, Option, Some, None, Ok, Err, All, length, slice_index_or, refl, sym, ap, subst, ◌∙◌, arith}
use Rattle.std.proofs.Math.ListN.{get_or-append}
use Rattle.std.proofs.Math.Seq.{get_or-append_seam}
use Rattle.std.proofs.lemmas.List.{length-append}
use Rattle.std.specs.Prelude.{AllPairs, ◌||◌, IsTrue}
use Rattle.std.specs.Ordering.{is_eq, is_lt}
use Rattle.std.specs.declared.cmp.Ordering.TheVariants.{Less}
use Rattle.std.proofs.lemmas.Bool.{both_ways}
use Rattle.mv_values.specs.declared.value.Value.{Value}
use Rattle.mv_values.specs.declared.rows.Keyed.{Keyed}
use Rattle.mv_values.specs.declared.pred.Pred.{Pred}
use Rattle.mv_values.specs.Order.{key_order}
use Rattle.mv_values.specs.Patching.{row_of}
use Rattle.mv_values.specs.Counts.{one_more, Rose}
use Rattle.mv_values.proofs.KeyOrder.{tied}
use Rattle.mv_table.specs.declared.scan.Direction.{Direction}
use Rattle.mv_table.specs.declared.scan.Direction.TheVariants.{Forward, Backward}
use Rattle.mv_table.specs.Scans.{with_foremost}
use Rattle.mv_undo.specs.Taking.{meets_first}
use Rattle.mv_undo.specs.Owned.{Owned}
use Rattle.mv_undo.specs.Owning.{earlier, is_among, is_sought}
use Rattle.mv_undo.proofs.Taking.{never_itself}
use Rattle.mv_view.specs.Viewing.{Sight}
use Rattle.mv_view.specs.declared.view.Refused.{Refused}
use Rattle.mv_view.specs.declared.view.Refused.TheVariants.{NoMemory, Stale}
use Rattle.mv_effect.specs.Firsts.{is_met_before, IsFirstOf}
use Rattle.mv_effect.specs.Looking.{AskedAtMost, IsSameView, OnlyAsks, WasNeverStale}
use Rattle.mv_effect.proofs.Asked.{WasAsked}
use Rattle.mv_effect.proofs.Foremost.{met_after, not_both}

-- One key and the others

length_with : (d : Direction) (k : List Value) (rest : List (List Value)) → length (with_foremost d k rest) ≡ suc (length rest)
length_with Forward k rest = refl
length_with Backward k rest = length-append rest (k ∷ []) ∙ omega arith

pub one_fewer : (d : Direction) (k : List Value) (keys rest : List (List Value)) → keys ≡ with_foremost d k rest → length keys ≡ suc (length rest)
one_fewer d k keys rest is = ap length is ∙ length_with d k rest

among_with : (d : Direction) (k x : List Value) (rest : List (List Value)) → is_among (with_foremost d k rest) x ≡ true → (x ≡ k) ⊎ (is_among rest x ≡ true)
among_with Forward k x rest h = by (is_eq (key_order k x)) refl h
  where
    by : (b : Bool) → is_eq (key_order k x) ≡ b → b || is_among rest x ≡ true → (x ≡ k) ⊎ (is_among rest x ≡ true)
    by true e h = inl (sym (tied k x e))
    by false e h = inr h
among_with Backward k x [] h = by (is_eq (key_order k x)) refl h
  where
    by : (b : Bool) → is_eq (key_order k x) ≡ b → b || false ≡ true → (x ≡ k) ⊎ (false ≡ true)
    by true e h = inl (sym (tied k x e))
    by false e h = inr h
among_with Backward k x (y ∷ ys) h = by (is_eq (key_order y x)) h (among_with Backward k x ys)
  where
    by : (b : Bool) → b || is_among (ys ++ k ∷ []) x ≡ true → (is_among (ys ++ k ∷ []) x ≡ true → (x ≡ k) ⊎ (is_among ys x ≡ true)) → (x ≡ k) ⊎ (b || is_among ys x ≡ true)
    by true h more = inr refl
    by false h more = more h

-- a fact on all keys is one on each that is among them
all_among : (P : List Value → Type 0) (keys : List (List Value)) (x : List Value) → All P keys → is_among keys x ≡ true → P x
all_among P [] x h e = absurd (both_ways false refl e)
all_among P (k ∷ ks) x h e = by (is_eq (key_order k x)) refl e (all_among P ks x (λ i d lt. h (suc i) d (omega (arith, lt))))
  where
    by : (b : Bool) → is_eq (key_order k x) ≡ b → b || is_among ks x ≡ true → (is_among ks x ≡ true → P x) → P x
    by true g e more = subst P (tied k x g) (h 0 k (omega arith))
    by false g e more = more e

rest_rises : (d : Direction) (k : List Value) (rest : List (List Value)) → AllPairs (λ a b. key_order a b ≡ Less) (with_foremost d k rest) → AllPairs (λ a b. key_order a b ≡ Less) rest
rest_rises Forward k rest h = λ i j e lt within. h (suc i) (suc j) e (omega (arith, lt)) (omega (arith, within))
rest_rises Backward k rest h = λ i j e lt within.
    let low : slice_index_or (rest ++ k ∷ []) i e ≡ slice_index_or rest i e = get_or-append rest (k ∷ []) e i (omega (arith, lt, within)) in
    let up : slice_index_or (rest ++ k ∷ []) j e ≡ slice_index_or rest j e = get_or-append rest (k ∷ []) e j within in
    subst (λ x. key_order x (slice_index_or rest j e) ≡ Less) low (subst (λ x. key_order (slice_index_or (rest ++ k ∷ []) i e) x ≡ Less) up (h i j e lt (omega (arith, within, length-append rest (k ∷ [])))))

rest_later : (d : Direction) (k : List Value) (rest : List (List Value)) → AllPairs (λ a b. key_order a b ≡ Less) (with_foremost d k rest) → All (λ x. meets_first d k x ≡ true) rest
rest_later Forward k rest h = λ i e lt. ap is_lt (h 0 (suc i) e (omega arith) (omega (arith, lt)))
rest_later Backward k rest h = λ i e lt.
    let low : slice_index_or (rest ++ k ∷ []) i e ≡ slice_index_or rest i e = get_or-append rest (k ∷ []) e i lt in
    let last : slice_index_or (rest ++ k ∷ []) (length rest) e ≡ k = get_or-append_seam rest k [] e in
    let so : key_order (slice_index_or (rest ++ k ∷ []) i e) (slice_index_or (rest ++ k ∷ []) (length rest) e) ≡ Less = h i (length rest) e lt (omega (arith, length-append rest (k ∷ []))) in
    ap is_lt (subst (λ x. key_order x k ≡ Less) low (subst (λ x. key_order (slice_index_or (rest ++ k ∷ []) i e) x ≡ Less) last so))

pub rises_later : (d : Direction) (k : List Value) (keys rest : List (List Value)) → keys ≡ with_foremost d k rest → AllPairs (λ a b. key_order a b ≡ Less) keys → AllPairs (λ a b. key_order a b ≡ Less) rest
rises_later d k keys rest is h = rest_rises d k rest (subst (AllPairs (λ a b. key_order a b ≡ Less)) is h)

-- each sought key has no row, or is still to be taken
abbrev pub EachLeft : (List Value → Bool) → List Keyed → List (List Value) → Type 0
EachLeft sought rows keys = (key : List Value) → sought key ≡ true → (row_of rows key ≡ None) ⊎ (is_among keys key ≡ true)

module _ (d : Direction) (sought : List Value → Bool) (rows : List Keyed) (k : List Value) (keys rest : List (List Value)) (is : keys ≡ with_foremost d k rest) (rising : AllPairs (λ a b. key_order a b ≡ Less) keys) (each : EachLeft sought rows keys) where
  -- a sought key that has a row is the first, or is met later
  first_or_later : (x : List Value) → sought x ≡ true → (row_of rows x ≡ None) ⊎ ((x ≡ k) ⊎ (meets_first d k x ≡ true))
  first_or_later x so = elim (each x so) [
    | inl none ↦ inl none
    | inr among ↦ elim (among_with d k x rest (subst (λ ks. is_among ks x ≡ true) is among)) [
      | inl here ↦ inr (inl here)
      | inr later ↦ inr (inr (all_among (λ y. meets_first d k y ≡ true) rest x (rest_later d k rest (subst (AllPairs (λ a b. key_order a b ≡ Less)) is rising)) later))
    ]
  ]

  -- the first has no row
  pub each_later : row_of rows k ≡ None → EachLeft sought rows rest
  each_later none x so = elim (each x so) [
    | inl gone ↦ inl gone
    | inr among ↦ elim (among_with d k x rest (subst (λ ks. is_among ks x ≡ true) is among)) [
      | inl here ↦ inl (ap (row_of rows) here ∙ none)
      | inr later ↦ inr later
    ]
  ]

  -- the first isn't met before the other row
  pub none_before : (other : Option Keyed) → is_met_before d k other ≡ false → IsFirstOf d sought rows other None
  none_before other behind x so before = elim (first_or_later x so) [
    | inl none ↦ none
    | inr more ↦ absurd (both_ways (is_met_before d k other) behind (by other before more))
  ]
    where
      by : (other : Option Keyed) → is_met_before d x other ≡ true → (x ≡ k) ⊎ (meets_first d k x ≡ true) → is_met_before d k other ≡ true
      by None before more = refl
      by (Some item) before (inl here) = ap (λ j. meets_first d j item.key) (sym here) ∙ before
      by (Some item) before (inr later) = met_after d k x item.key later before

  -- it has a row, and is met before the other
  pub first_with_row : (other : Option Keyed) (row : List Value) → is_met_before d k other ≡ true → row_of rows k ≡ Some row → IsFirstOf d sought rows other (Some (record { key = k; row = row }))
  first_with_row other row before there = (
    there,
    before,
    λ x so met. elim (first_or_later x so) [
      | inl none ↦ none
      | inr more ↦ absurd (by x met more)
    ],
  )
    where
      by : (x : List Value) → meets_first d x k ≡ true → (x ≡ k) ⊎ (meets_first d k x ≡ true) → ⊥
      by x met (inl here) = both_ways (meets_first d k k) (never_itself d k) (ap (λ j. meets_first d j k) (sym here) ∙ met)
      by x met (inr later) = not_both d x k met later

-- none is left
pub none_left : (d : Direction) (sought : List Value → Bool) (rows : List Keyed) (keys : List (List Value)) (other : Option Keyed) → keys ≡ [] → EachLeft sought rows keys → IsFirstOf d sought rows other None
none_left d sought rows keys other is each x so before = elim (each x so) [
  | inl none ↦ none
  | inr among ↦ absurd (both_ways false refl (subst (λ ks. is_among ks x ≡ true) is among))
]

-- without writes there is none
pub none_written : (number : ℕ) (undo : List Owned) (d : Direction) (pred : Pred) (rows : List Keyed) (other : Option Keyed) → length undo ≡ 0 → IsFirstOf d (is_sought pred (earlier number undo)) rows other None
none_written number [] d pred rows other none key so before = absurd (both_ways false refl so)
none_written number (o ∷ os) d pred rows other none key so before = absurd (omega (arith, none))

-- What was asked for them

pub asked_nothing : (n : ℕ) (s : Sight) → WasAsked 0 n s s
asked_nothing n s = record {
  same = record { database = refl; start = refl; may_be_stale = refl };
  stale = record { answers = refl; last_low = refl };
  counts = record { for_rows = omega arith; for_row = omega arith };
}

pub same_then : (s t u : Sight) → IsSameView s t → IsSameView t u → IsSameView s u
same_then s t u same more = record { database = more.database ∙ same.database; start = more.start ∙ same.start; may_be_stale = more.may_be_stale ∙ same.may_be_stale }

pub never_then : (s t u : Sight) → WasNeverStale s t → WasNeverStale t u → WasNeverStale s u
never_then s t u never more = record { answers = more.answers ∙ never.answers; last_low = more.last_low ∙ never.last_low }

-- a view that never answered Stale, and then was only asked
pub asks_well : {A B : Type 0} (s t u : Sight) (x : A) (y : B) → IsSameView s t → WasNeverStale s t → OnlyAsks {A = A} t u (Ok x) → OnlyAsks {A = B} s u (Ok y)
asks_well s t u x y same never only = record { same = same_then s t u same only.same; may_refuse = only.may_refuse; passes_on = never_then s t u never only.passes_on }

pub asks_in_vain : {A B : Type 0} (s t u : Sight) (e : Refused) → IsSameView s t → WasNeverStale s t → OnlyAsks {A = A} t u (Err e) → OnlyAsks {A = B} s u (Err e)
asks_in_vain s t u NoMemory same never only = record { same = same_then s t u same only.same; may_refuse = only.may_refuse; passes_on = never_then s t u never only.passes_on }
asks_in_vain s t u (Stale start low) same never only = record {
  same = same_then s t u same only.same;
  may_refuse = record {
    may_be = subst (λ b. IsTrue b) same.may_be_stale only.may_refuse.may_be;
    own_start = only.may_refuse.own_start ∙ same.start;
    too_late = only.may_refuse.too_late;
    rose = subst (λ n. Rose n u.stale_answers) never.answers only.may_refuse.rose;
  };
  passes_on = record { answers = only.passes_on.answers ∙ ap one_more never.answers; last_low = only.passes_on.last_low };
}

-- one more row
pub asked_again : (n : ℕ) (d : Direction) (k : List Value) (keys rest : List (List Value)) (s t u : Sight) → keys ≡ with_foremost d k rest → length keys ≤ n → WasAsked 0 (n - length keys) s t → IsSameView t u → WasNeverStale t u → AskedAtMost 0 1 t u
    → WasAsked 0 (n - length rest) s u
asked_again n d k keys rest s t u is le asked same never looks = record {
  same = same_then s t u asked.same same;
  stale = never_then s t u asked.stale never;
  counts = record {
    for_rows = omega (arith, looks.for_rows, asked.counts.for_rows);
    for_row = omega (arith, looks.for_row, asked.counts.for_row, le, one_fewer d k keys rest is);
  };
}

-- what was asked so far is within the bound
pub asked_within : (n m : ℕ) (s t : Sight) → WasAsked 0 (n - m) s t → AskedAtMost 0 n s t
asked_within n m s t asked = record { for_rows = asked.counts.for_rows; for_row = omega (arith, asked.counts.for_row) }

-- so it is with one more row
pub failed_within : (n : ℕ) (d : Direction) (k : List Value) (keys rest : List (List Value)) (s t u : Sight) → keys ≡ with_foremost d k rest → length keys ≤ n → WasAsked 0 (n - length keys) s t → AskedAtMost 0 1 t u → AskedAtMost 0 n s u
failed_within n d k keys rest s t u is le asked looks =
    record { for_rows = omega (arith, looks.for_rows, asked.counts.for_rows); for_row = omega (arith, looks.for_row, asked.counts.for_row, le, one_fewer d k keys rest is) }

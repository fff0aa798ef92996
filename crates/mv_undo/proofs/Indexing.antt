-- The places of the last writes to keys, and what a search among them finds.
use Rattle.std.proofs.Common.{◌≡◌, ℕ, ◌+◌, ◌-◌, ◌<◌, ◌≤◌, Bool, true, false, List, ◌∷◌, Option, Some, None, length, drop, slice_index_or, slice_range, refl, sym, ap, subst, ◌∙◌, inl, inr, arith}
use Rattle.std.specs.Prelude.{AllPairs, pos, not, ◌&&◌, ◌==◌}
use Rattle.std.specs.List.Sorted.{IsPartitionedBy}
use Rattle.std.specs.Ordering.{is_lt, is_le, is_eq, is_gt}
use Rattle.std.specs.declared.cmp.Ordering.{Ordering}
use Rattle.std.specs.declared.cmp.Ordering.TheVariants.{Equal}
use Rattle.std.proofs.lemmas.Bool.{cases_lt, and_parts, eq-eqb, eqb-true, false_from_ne_true}
use Rattle.std.proofs.lemmas.Cmp.{tied_itself}
use Rattle.std.proofs.lemmas.List.{get_or_default, get_or-take, get_or-drop, length-drop, length-take}
use Rattle.mv_values.specs.declared.value.Value.{Value}
use Rattle.mv_values.specs.declared.value.Value.TheVariants.{Int}
use Rattle.mv_values.specs.Order.{key_order}
use Rattle.mv_values.proofs.KeyOrder.{key_order_total, tied, same_table}
use Rattle.mv_record.specs.Writes.{is_on}
use Rattle.mv_undo.specs.Owned.{Owned}
use Rattle.mv_table.specs.declared.span.Span.{Span}
use Rattle.mv_table.specs.Spans.{is_past, is_within, RunsTo, IsForward}
use Rattle.mv_undo.specs.Indexing.{owned_at, full_key, key_at, AreLast, HasNone, IsLast, IsCut, is_below, is_up_to, end_of, end_in}
use Rattle.mv_undo.proofs.KeyPlaces.{parted_below, parted_by_key, below_more, lt_le, lt_trans, not_under, under_end, next_table}

-- A write on a key

pub on_full : (t : ℕ) (key : List Value) (o : Owned) → is_on t key o.write ≡ true → full_key o ≡ Int (pos t) ∷ key
on_full t key o on =
    let two = and_parts (o.write.table == t) (is_eq (key_order o.write.key key)) on in
    ap (λ n. Int (pos n) ∷ o.write.key) (eqb-true o.write.table t two.0) ∙ ap (λ k. Int (pos t) ∷ k) (tied o.write.key key two.1)

pub below_misses : (o : Ordering) → is_lt o ≡ true → o ≡ Equal → ⊥
below_misses o lt e = let no : is_lt Equal ≡ true = subst (λ p. is_lt p ≡ true) e lt in cc

pub above_misses : (o : Ordering) → is_le o ≡ false → o ≡ Equal → ⊥
above_misses o le e = let no : is_le Equal ≡ false = subst (λ p. is_le p ≡ false) e le in cc

pub on_own : (t : ℕ) (key : List Value) (o : Owned) → full_key o ≡ Int (pos t) ∷ key → is_on t key o.write ≡ true
on_own t key o is = by parts.0 parts.1
  where
    parts : (o.write.table ≡ t) × (o.write.key ≡ key)
    parts = (cc, cc)

    by : o.write.table ≡ t → o.write.key ≡ key → is_on t key o.write ≡ true
    by e f =
        ap (λ b. b && is_eq (key_order o.write.key key)) (eq-eqb o.write.table t e)
        ∙ ap is_eq (ap (λ k. key_order k key) f ∙ tied_itself key_order_total key)

pub on_itself : (o : Owned) → is_on o.write.table o.write.key o.write ≡ true
on_itself o = on_own o.write.table o.write.key o refl

pub on_parts : (t : ℕ) (key : List Value) (o : Owned) → is_on t key o.write ≡ true → (o.write.table ≡ t) × (o.write.key ≡ key)
on_parts t key o on =
    let two = and_parts (o.write.table == t) (is_eq (key_order o.write.key key)) on in (eqb-true o.write.table t two.0, tied o.write.key key two.1)

-- A part of the places

abbrev pub Searched : (ℕ → Bool) → List ℕ → ℕ → Type 0
Searched test order at = IsPartitionedBy test order → IsCut test order at

weaker : (K : ℕ → List Value) (order : List ℕ) → AllPairs (λ p q. is_lt (key_order (K p) (K q)) ≡ true) order → AllPairs (λ p q. is_le (key_order (K p) (K q)) ≡ true) order
weaker K order h i j d lt within = lt_le (key_order (K (slice_index_or order i d)) (K (slice_index_or order j d))) (h i j d lt within)

pub cut_below : (items : List Owned) (order : List ℕ) (key : List Value) (at : ℕ) → AreLast items order → Searched (is_below items key) order at → IsCut (is_below items key) order at
cut_below items order key at are h = h (parted_below (key_at items) key order (weaker (key_at items) order are.sorted))

pub cut_up_to : (items : List Owned) (order : List ℕ) (key : List Value) (at : ℕ) → AreLast items order → Searched (is_up_to items key) order at → IsCut (is_up_to items key) order at
cut_up_to items order key at are h = h (parted_by_key (key_at items) key order (weaker (key_at items) order are.sorted))

pub cut_order : (p q : ℕ → Bool) (order : List ℕ) (from to : ℕ) → ((n : ℕ) → p n ≡ true → q n ≡ true) → from ≤ length order → IsCut p order from → IsCut q order to → from ≤ to
cut_order p q order from to more low first last =
    elim (cases_lt to from) [
      | inl crossed ↦ absurd (clash (slice_index_or order to 0) (first.0 to 0 (omega arith) crossed) (last.1 to 0 (omega arith) (omega (arith, crossed, low))))
      | inr fine ↦ fine
    ]
  where
    clash : (n : ℕ) → p n ≡ true → q n ≡ false → ⊥
    clash n h k = let so = more n h in cc

pub part_last : (items : List Owned) (order : List ℕ) (from to : ℕ) → to ≤ length order → AreLast items order → AreLast items (slice_range order from to)
part_last items order from to high h = record {
  last = λ k d lt. subst (IsLast items) (sym (there k d (inside k lt))) (h.last (from + k) d (omega (arith, inside k lt, high)));
  sorted = λ i j d lt within.
      let up : j < to - from = inside j within in
      let low : i < to - from = omega (arith, lt, up) in
      subst (λ p. is_lt (key_order (key_at items p) (key_at items (slice_index_or (slice_range order from to) j d))) ≡ true) (sym (there i d low))
      (subst (λ p. is_lt (key_order (key_at items (slice_index_or order (from + i) d)) (key_at items p)) ≡ true) (sym (there j d up)) (h.sorted (from + i) (from + j) d (omega (arith, lt)) (omega (arith, up, high))));
}
  where
    inside : (k : ℕ) → k < length (slice_range order from to) → k < to - from
    inside k lt = omega (arith, lt, length-take (to - from) (drop from order))

    there : (k d : ℕ) → k < to - from → slice_index_or (slice_range order from to) k d ≡ slice_index_or order (from + k) d
    there k d lt = get_or-take (to - from) (drop from order) k d lt ∙ get_or-drop from order k d

-- The places in a span

end_above : (t : ℕ) (low : List Value) (high : Option (List Value)) → RunsTo low high → is_gt (key_order (Int (pos t) ∷ low) (end_of t high)) ≡ false
end_above t low None h = ap is_gt (next_table t low)
end_above t low (Some high) h = ap is_gt (same_table t low high) ∙ h

pub span_cut : (items : List Owned) (t : ℕ) (span : Span) → IsForward span → (n : ℕ) → is_below items (Int (pos t) ∷ span.low) n ≡ true → is_below items (end_in t span) n ≡ true
span_cut items t span forward n = below_more (key_at items n) (Int (pos t) ∷ span.low) (end_in t span) (end_above t span.low span.high forward)

before_end : (t : ℕ) (high : Option (List Value)) (key : List Value) → not (is_past high key) ≡ true → is_lt (key_order (Int (pos t) ∷ key) (end_of t high)) ≡ true
before_end t None key h = ap is_lt (next_table t key)
before_end t (Some high) key h = ap is_lt (same_table t key high) ∙ under_end high key h

-- where no place of the part is of a write to a key of the span, none is
pub none_in : (items : List Owned) (order : List ℕ) (from to t : ℕ) (span : Span) → to ≤ length order → IsCut (is_below items (Int (pos t) ∷ span.low)) order from → IsCut (is_below items (end_in t span)) order to
    → (key : List Value) → is_within span key ≡ true → HasNone items t key (slice_range order from to) → HasNone items t key order
none_in items order from to t span high first last key within none k d lt =
    elim (cases_lt k from) [
      | inl front ↦ false_from_ne_true _ (λ on.
          let no : true ≡ false =
          sym (first.0 k d (omega arith) front)
          ∙ (ap (λ j. is_lt (key_order j (Int (pos t) ∷ span.low))) (on_full t key (owned_at items (slice_index_or order k d)) on) ∙ (ap is_lt (same_table t key span.low) ∙ not_under span.low key parts.0)) in
          cc)
      | inr more ↦ elim (cases_lt k to) [
        | inl front ↦
            let back : from + (k - from) ≡ k = omega (arith, more) in
            let short : k - from < to - from = omega (arith, more, front) in
            let inside : k - from < length (slice_range order from to) = omega (arith, short, high, length-take (to - from) (drop from order), length-drop from order) in
            let is : slice_index_or (slice_range order from to) (k - from) d ≡ slice_index_or order k d = get_or-take (to - from) (drop from order) (k - from) d short ∙ (get_or-drop from order (k - from) d ∙ ap (λ n. slice_index_or order n d) back) in
            subst (λ p. is_on t key (owned_at items p).write ≡ false) is (none (k - from) d inside)
        | inr behind ↦ false_from_ne_true _ (λ on.
            let no : false ≡ true = sym (last.1 k d behind lt) ∙ (ap (λ j. is_lt (key_order j (end_in t span))) (on_full t key (owned_at items (slice_index_or order k d)) on) ∙ before_end t span.high key parts.1) in cc)
      ]
    ]
  where
    parts : (is_le (key_order span.low key) ≡ true) × (not (is_past span.high key) ≡ true)
    parts = and_parts (is_le (key_order span.low key)) (not (is_past span.high key)) within

-- The place of the last write to a key

-- where the last place up to a key isn't of a write to it, none is
pub none_found : (items : List Owned) (order : List ℕ) (at t : ℕ) (key : List Value) → AreLast items order → at ≤ length order → IsCut (is_up_to items (Int (pos t) ∷ key)) order at
    → (0 < at → is_on t key (owned_at items (slice_index_or order (at - 1) 0)).write ≡ false) → HasNone items t key order
none_found items order at t key are high cut off k d lt =
    elim (cases_lt k at) [
      | inr behind ↦ false_from_ne_true _ (λ on.
          above_misses (key_order (key_at items (slice_index_or order k d)) (Int (pos t) ∷ key)) (cut.1 k d behind lt)
          (ap (λ j. key_order j (Int (pos t) ∷ key)) (on_full t key (owned_at items (slice_index_or order k d)) on) ∙ tied_itself key_order_total (Int (pos t) ∷ key)))
      | inl front ↦ elim (cases_lt k (at - 1)) [
        | inl before ↦ false_from_ne_true _ (λ on.
            let top : ℕ = slice_index_or order (at - 1) d in
            let less : is_lt (key_order (Int (pos t) ∷ key) (key_at items top)) ≡ true =
            ap (λ j. is_lt (key_order j (key_at items top))) (sym (on_full t key (owned_at items (slice_index_or order k d)) on)) ∙ are.sorted k (at - 1) d before (omega (arith, front, high)) in
            let most : is_le (key_order (key_at items top) (Int (pos t) ∷ key)) ≡ true = cut.0 (at - 1) d (omega arith) (omega (arith, front)) in
            below_misses (key_order (key_at items top) (key_at items top)) (lt_trans (key_at items top) (Int (pos t) ∷ key) (key_at items top) most less) (tied_itself key_order_total (key_at items top)))
        | inr there ↦
            let is : k ≡ at - 1 = omega (arith, there, front) in
            subst (λ p. is_on t key (owned_at items p).write ≡ false) (get_or_default order (at - 1) 0 d (omega (arith, is, lt)) ∙ ap (λ n. slice_index_or order n d) (sym is)) (off (omega (arith, front)))
      ]
    ]

-- Own writes with one more.
use Rattle.std.proofs.Common.{◌≡◌, ◌⊎◌, ℕ, zero, suc, ◌+◌, ◌-◌, ◌<◌, ◌≤◌, true, false, cond, List, [], ◌∷◌, ◌++◌, Option, Some, None, All, insert, length, map, slice_index_or, take, refl, sym, ap, subst, ◌∙◌, inl, inr, arith}
use Rattle.std.proofs.Math.ListN.{set, get_or-append}
use Rattle.std.proofs.Math.Seq.{get_or-append_seam, take-append_seam}
use Rattle.std.specs.Prelude.{AllPairs, IfSome, slice_set}
use Rattle.std.specs.List.Sorted.{IsPartitionPoint}
use Rattle.std.specs.Ordering.{is_lt, is_le, ordering_reverse}
use Rattle.std.specs.declared.cmp.Ordering.{Ordering}
use Rattle.std.specs.declared.cmp.Ordering.TheVariants.{Less, Equal, Greater}
use Rattle.std.proofs.lemmas.Bool.{both_ways, cases_lt, false_from_ne_true}
use Rattle.std.proofs.lemmas.Cmp.{tied_itself}
use Rattle.std.proofs.lemmas.List.{append-nil, get_or_default, get_or-set_same, get_or-set_other, length-append, length-set, map-append, take-append-le, take_all}
use Rattle.std.proofs.lemmas.List.Elements.{All-cons, All-nil, filter-append}
use Rattle.std.proofs.lemmas.List.Kept.{AllPairs-cons}
use Rattle.mv_values.specs.declared.value.Value.{Value}
use Rattle.mv_values.specs.declared.patch.Patch.{Patch}
use Rattle.mv_values.specs.declared.patch.Patch.TheVariants.{Insert, Delete}
use Rattle.mv_values.specs.declared.patch.Write.{Write}
use Rattle.mv_values.specs.Order.{key_order}
use Rattle.mv_values.specs.Patching.{patched}
use Rattle.mv_values.proofs.KeyOrder.{exact_keys, key_order_total}
use Rattle.mv_record.specs.Writes.{is_on, writes_on, patched_by}
use Rattle.mv_record.proofs.Patching.{patched_append}
use Rattle.mv_undo.specs.declared.links.Link.{Link}
use Rattle.mv_undo.specs.Owned.{Owned}
use Rattle.mv_undo.specs.Indexing.{owned_at, owned_on, full_key, key_at, link_at, no_link, AreToOneKey, HasNone, IsComposed, IsComposedOf, IsCut, IsFound, IsIndexed, IsLast, IsLastOn, IsLinked, is_up_to, patch_at, patch_or, renewed}
use Rattle.mv_undo.proofs.Indexing.{below_misses, on_full, on_itself, on_own, on_parts}
use Rattle.mv_undo.proofs.Linking.{at_key, at_last, at_more, some_weaker, writes_lined}

-- A write behind others

pub whole_last : (w : Write) (ws : List Write) (row : List Value) → w.patch ≡ Insert row → IsComposedOf w.patch (ws ++ w ∷ [])
whole_last w ws row is was = ap (λ p. patched p was) is ∙ sym (patched_append ws (w ∷ []) was ∙ ap (λ p. patched p (patched_by ws was)) is)

pub delete_last : (w : Write) (ws : List Write) → w.patch ≡ Delete → IsComposedOf w.patch (ws ++ w ∷ [])
delete_last w ws is was = ap (λ p. patched p was) is ∙ sym (patched_append ws (w ∷ []) was ∙ ap (λ p. patched p (patched_by ws was)) is)

pub both_last : (first both : Patch) (w : Write) (ws : List Write) → IsComposedOf first ws → ((was : Option (List Value)) → patched both was ≡ patched w.patch (patched first was)) → IsComposedOf both (ws ++ w ∷ [])
both_last first both w ws h made was = made was ∙ (ap (patched w.patch) (h was) ∙ sym (patched_append ws (w ∷ []) was))

-- Lists with one more

length_more : {A : Type 0} (xs : List A) (x : A) → length (xs ++ x ∷ []) ≡ length xs + 1
length_more xs x = length-append xs (x ∷ [])

all_insert : (P : ℕ → Type 0) (xs : List ℕ) (at n : ℕ) → All P xs → P n → All P (insert xs at n)
all_insert P xs zero n h p = All-cons P n xs p h
all_insert P [] (suc at) n h p = All-cons P n [] p h
all_insert P (x ∷ xs) (suc at) n h p = All-cons P x (insert xs at n) (h 0 x (omega arith)) (all_insert P xs at n (λ k d lt. h (suc k) d (omega (arith, lt))) p)

pairs_insert : (R : ℕ → ℕ → Type 0) (xs : List ℕ) (at n : ℕ) → AllPairs R xs → IsPartitionPoint (λ x. R x n) (λ x. R n x) xs at → AllPairs R (insert xs at n)
pairs_insert R xs zero n h point = AllPairs-cons R n xs (λ k d lt. point.1 k d (omega arith) lt) h
pairs_insert R [] (suc at) n h point = AllPairs-cons R n [] (All-nil (R n)) h
pairs_insert R (x ∷ xs) (suc at) n h point =
    AllPairs-cons R x (insert xs at n) (all_insert (R x) xs at n (λ k d lt. h 0 (suc k) d (omega arith) (omega (arith, lt))) (point.0 0 x (omega arith) (omega arith)))
    (pairs_insert R xs at n (λ i j d lt within. h (suc i) (suc j) d (omega (arith, lt)) (omega (arith, within)))
    (λ k d low lt. point.0 (suc k) d (omega arith) (omega (arith, lt)), λ k d low lt. point.1 (suc k) d (omega (arith, low)) (omega (arith, lt))))

uninserted : (P : ℕ → Type 0) (xs : List ℕ) (at n : ℕ) → All P (insert xs at n) → All P xs × P n
uninserted P xs zero n h = (λ k d lt. h (suc k) d (omega (arith, lt)), h 0 n (omega arith))
uninserted P [] (suc at) n h = (All-nil P, h 0 n (omega arith))
uninserted P (x ∷ xs) (suc at) n h =
    let more = uninserted P xs at n (λ k d lt. h (suc k) d (omega (arith, lt))) in (All-cons P x xs (h 0 x (omega arith)) more.0, more.1)

-- Places of other writes

module _ (items : List Owned) (o : Owned) where
  -- a write that isn't on the key of the new one keeps what it has
  on_more : (t : ℕ) (key : List Value) → is_on t key o.write ≡ false → owned_on t key (items ++ o ∷ []) ≡ owned_on t key items
  on_more t key off = filter-append (λ (x : Owned). is_on t key x.write) items (o ∷ []) ∙ (ap (λ b. owned_on t key items ++ cond b (o ∷ []) []) off ∙ append-nil (owned_on t key items))

  -- a write is on the key of another if that is on its key
  on_turned : (x : Owned) → is_on o.write.table o.write.key x.write ≡ false → is_on x.write.table x.write.key o.write ≡ false
  on_turned x off = false_from_ne_true _ (λ on. both_ways (is_on o.write.table o.write.key x.write) off (on_own o.write.table o.write.key x (sym (on_full x.write.table x.write.key o on))))

  last_kept : (p : ℕ) → is_on o.write.table o.write.key (owned_at items p).write ≡ false → IsLast items p → IsLast (items ++ o ∷ []) p
  last_kept p off h =
      subst (λ (x : Owned). IsLastOn (items ++ o ∷ []) x.write.table x.write.key (Some p)) (sym (at_more items o p h.0)) (
        omega (arith, h.0, length_more items o),
        subst (λ (x : Owned). is_on (owned_at items p).write.table (owned_at items p).write.key x.write ≡ true) (sym (at_more items o p h.0)) h.1,
        on_more (owned_at items p).write.table (owned_at items p).write.key (on_turned (owned_at items p) off)
            ∙ (h.2 ∙ ap (owned_on (owned_at items p).write.table (owned_at items p).write.key) (sym (take-append-le (p + 1) items (o ∷ []) (omega (arith, h.0))))),
      )

  last_new : IsLast (items ++ o ∷ []) (length items)
  last_new =
      subst (λ (x : Owned). IsLastOn (items ++ o ∷ []) x.write.table x.write.key (Some (length items))) (sym (at_last items o)) (
        omega (arith, length_more items o),
        subst (λ (x : Owned). is_on o.write.table o.write.key x.write ≡ true) (sym (at_last items o)) (on_itself o),
        ap (owned_on o.write.table o.write.key) (sym (take_all (length items + 1) (items ++ o ∷ []) (omega (arith, length_more items o)))),
      )

  key_kept : (p : ℕ) → p < length items → key_at (items ++ o ∷ []) p ≡ key_at items p
  key_kept p lt = ap full_key (at_more items o p lt)

  key_new : key_at (items ++ o ∷ []) (length items) ≡ full_key o
  key_new = ap full_key (at_last items o)

abbrev Rises : (ℕ → List Value) → ℕ → ℕ → Type 0
Rises K p q = is_lt (key_order (K p) (K q)) ≡ true

-- places of the same keys rise as well
pub rises_same : (K J : ℕ → List Value) (xs ys : List ℕ) → length ys ≡ length xs → ((k d : ℕ) → k < length xs → J (slice_index_or ys k d) ≡ K (slice_index_or xs k d)) → AllPairs (Rises K) xs → AllPairs (Rises J) ys
rises_same K J xs ys size same h i j d lt within =
    ap (λ a. is_lt (key_order a (J (slice_index_or ys j d)))) (same i d (omega (arith, lt, within, size)))
    ∙ (ap (λ b. is_lt (key_order (K (slice_index_or xs i d)) b)) (same j d (omega (arith, within, size))) ∙ h i j d lt (omega (arith, within, size)))

le_lt : (o : Ordering) → is_le o ≡ true → (o ≡ Equal → ⊥) → is_lt o ≡ true
le_lt Less h odd = refl
le_lt Equal h odd = absurd (odd refl)
le_lt Greater h odd = cc

above_lt : (a k : List Value) → is_le (key_order a k) ≡ false → is_lt (key_order k a) ≡ true
above_lt a k h = by (key_order a k) refl h
  where
    by : (o : Ordering) → key_order a k ≡ o → is_le o ≡ false → is_lt (key_order k a) ≡ true
    by Less e g = cc
    by Equal e g = cc
    by Greater e g = ap is_lt (key_order_total.antisymm k a ∙ ap ordering_reverse e)

-- The order

module _ (items : List Owned) (order : List ℕ) (o : Owned) (at : ℕ) (ix : IsIndexed items order) (high : at ≤ length order) where
  within : (k d : ℕ) → k < length order → slice_index_or order k d < length items
  within k d lt = (ix.are.last k d lt).0

  -- the first write to its key
  module _ (cut : IsCut (is_up_to items (full_key o)) order at) (none : HasNone items o.write.table o.write.key order) where
    other : (k d : ℕ) → k < length order → key_order (key_at items (slice_index_or order k d)) (full_key o) ≡ Equal → ⊥
    other k d lt e =
        both_ways (is_on o.write.table o.write.key (owned_at items (slice_index_or order k d)).write) (none k d lt)
        (on_own o.write.table o.write.key (owned_at items (slice_index_or order k d)) (exact_keys (key_at items (slice_index_or order k d)) (full_key o) e))

    first_last : All (IsLast (items ++ o ∷ [])) (insert order at (length items))
    first_last = all_insert (IsLast (items ++ o ∷ [])) order at (length items) (λ k d lt. last_kept items o (slice_index_or order k d) (none k d lt) (ix.are.last k d lt)) (last_new items o)

    first_rises : AllPairs (Rises (key_at (items ++ o ∷ []))) (insert order at (length items))
    first_rises = pairs_insert (Rises (key_at (items ++ o ∷ []))) order at (length items)
        (rises_same (key_at items) (key_at (items ++ o ∷ [])) order order refl (λ k d lt. key_kept items o (slice_index_or order k d) (within k d lt)) ix.are.sorted) (
          λ k d low lt.
              ap (λ j. is_lt (key_order (key_at (items ++ o ∷ []) (slice_index_or order k d)) j)) (key_new items o)
              ∙ (ap (λ j. is_lt (key_order j (full_key o))) (key_kept items o (slice_index_or order k d) (within k d (omega (arith, lt, high))))
              ∙ le_lt (key_order (key_at items (slice_index_or order k d)) (full_key o)) (cut.0 k d low lt) (other k d (omega (arith, lt, high)))),
          λ k d low lt.
              ap (λ j. is_lt (key_order j (key_at (items ++ o ∷ []) (slice_index_or order k d)))) (key_new items o)
              ∙ (ap (λ j. is_lt (key_order (full_key o) j)) (key_kept items o (slice_index_or order k d) (within k d lt)) ∙ above_lt (key_at items (slice_index_or order k d)) (full_key o) (cut.1 k d low lt)),
        )

    indexed_first : IsIndexed (items ++ o ∷ []) (insert order at (length items))
    indexed_first = record {
      are = record { last = first_last; sorted = first_rises };
      each = λ t key empty.
          let parts = uninserted (λ p. is_on t key (owned_at (items ++ o ∷ []) p).write ≡ false) order at (length items) empty in
          on_more items o t key (subst (λ (x : Owned). is_on t key x.write ≡ false) (at_last items o) parts.1)
          ∙ ix.each t key (λ k d lt. subst (λ (x : Owned). is_on t key x.write ≡ false) (at_more items o (slice_index_or order k d) (within k d lt)) (parts.0 k d lt));
    }

  -- a further one
  module _ (p : ℕ) (low : 0 < at) (is : slice_index_or order (at - 1) 0 ≡ p) (on : is_on o.write.table o.write.key (owned_at items p).write ≡ true) where
    i : ℕ
    i = at - 1

    inside : at - 1 < length order
    inside = omega (arith, low, high)

    there : (d : ℕ) → slice_index_or order (at - 1) d ≡ p
    there d = get_or_default order (at - 1) d 0 inside ∙ is

    key_there : (d : ℕ) → key_at items (slice_index_or order (at - 1) d) ≡ full_key o
    key_there d = ap (key_at items) (there d) ∙ on_full o.write.table o.write.key (owned_at items p) on

    -- the places before and behind it are of writes to other keys
    apart : (k d : ℕ) → k < length order → (k ≡ at - 1 → ⊥) → is_on o.write.table o.write.key (owned_at items (slice_index_or order k d)).write ≡ false
    apart k d lt odd = false_from_ne_true _ (λ here.
        let same : key_at items (slice_index_or order k d) ≡ full_key o = on_full o.write.table o.write.key (owned_at items (slice_index_or order k d)) here in
        elim (cases_lt k (at - 1)) [
          | inl before ↦ below_misses (key_order (key_at items (slice_index_or order k d)) (key_at items (slice_index_or order (at - 1) d))) (ix.are.sorted k (at - 1) d before inside)
              (ap (λ j. key_order j (key_at items (slice_index_or order (at - 1) d))) same ∙ (ap (key_order (full_key o)) (key_there d) ∙ tied_itself key_order_total (full_key o)))
          | inr more ↦ elim (cases_lt (at - 1) k) [
            | inl behind ↦ below_misses (key_order (key_at items (slice_index_or order (at - 1) d)) (key_at items (slice_index_or order k d))) (ix.are.sorted (at - 1) k d behind lt)
                (ap (key_order (key_at items (slice_index_or order (at - 1) d))) same ∙ (ap (λ j. key_order j (full_key o)) (key_there d) ∙ tied_itself key_order_total (full_key o)))
            | inr fewer ↦ odd (omega (arith, more, fewer))
          ]
        ])

    -- what is so of the new place and of the others is so of all
    all_set : (P : ℕ → Type 0) → P (length items) → ((k d : ℕ) → k < length order → (k ≡ at - 1 → ⊥) → P (slice_index_or order k d)) → All P (slice_set order (at - 1) (length items))
    all_set P new old k d lt =
        let short : k < length order = omega (arith, lt, length-set order (at - 1) (length items)) in
        elim (cases_lt k (at - 1)) [
          | inl before ↦ subst P (sym (get_or-set_other order (at - 1) k (length items) d (λ e. omega (arith, e, before)))) (old k d short (λ e. omega (arith, e, before)))
          | inr more ↦ elim (cases_lt (at - 1) k) [
            | inl behind ↦ subst P (sym (get_or-set_other order (at - 1) k (length items) d (λ e. omega (arith, e, behind)))) (old k d short (λ e. omega (arith, e, behind)))
            | inr fewer ↦
                let here : k ≡ at - 1 = omega (arith, more, fewer) in
                subst P (sym (ap (λ n. slice_index_or (set order (at - 1) (length items)) n d) here ∙ get_or-set_same order (at - 1) (length items) d inside)) new
          ]
        ]

    again_rises : AllPairs (Rises (key_at (items ++ o ∷ []))) (slice_set order (at - 1) (length items))
    again_rises = rises_same (key_at items) (key_at (items ++ o ∷ [])) order (slice_set order (at - 1) (length items)) (length-set order (at - 1) (length items)) same ix.are.sorted
      where
        same : (k d : ℕ) → k < length order → key_at (items ++ o ∷ []) (slice_index_or (slice_set order (at - 1) (length items)) k d) ≡ key_at items (slice_index_or order k d)
        same k d lt =
            elim (cases_lt k (at - 1)) [
              | inl before ↦ ap (key_at (items ++ o ∷ [])) (get_or-set_other order (at - 1) k (length items) d (λ e. omega (arith, e, before))) ∙ key_kept items o (slice_index_or order k d) (within k d lt)
              | inr more ↦ elim (cases_lt (at - 1) k) [
                | inl behind ↦ ap (key_at (items ++ o ∷ [])) (get_or-set_other order (at - 1) k (length items) d (λ e. omega (arith, e, behind))) ∙ key_kept items o (slice_index_or order k d) (within k d lt)
                | inr fewer ↦
                    let here : k ≡ at - 1 = omega (arith, more, fewer) in
                    ap (key_at (items ++ o ∷ [])) (ap (λ n. slice_index_or (set order (at - 1) (length items)) n d) here ∙ get_or-set_same order (at - 1) (length items) d inside)
                    ∙ (key_new items o ∙ (sym (key_there d) ∙ ap (λ n. key_at items (slice_index_or order n d)) (sym here)))
              ]
            ]

    indexed_again : IsIndexed (items ++ o ∷ []) (slice_set order (at - 1) (length items))
    indexed_again = record {
      are = record { last = all_set (IsLast (items ++ o ∷ [])) (last_new items o) (λ k d lt odd. last_kept items o (slice_index_or order k d) (apart k d lt odd) (ix.are.last k d lt)); sorted = again_rises };
      each = λ t key empty. on_more items o t key (off t key empty) ∙ ix.each t key (λ k d lt. before t key empty k d lt);
    }
      where
        off : (t : ℕ) (key : List Value) → HasNone (items ++ o ∷ []) t key (slice_set order (at - 1) (length items)) → is_on t key o.write ≡ false
        off t key empty =
            subst (λ (x : Owned). is_on t key x.write ≡ false) (at_last items o)
            (subst (λ n. is_on t key (owned_at (items ++ o ∷ []) n).write ≡ false) (get_or-set_same order (at - 1) (length items) 0 inside) (empty (at - 1) 0 (omega (arith, inside, length-set order (at - 1) (length items)))))

        kept : (t : ℕ) (key : List Value) (k d : ℕ) → k < length order → (k ≡ at - 1 → ⊥) → HasNone (items ++ o ∷ []) t key (slice_set order (at - 1) (length items)) → is_on t key (owned_at items (slice_index_or order k d)).write ≡ false
        kept t key k d lt odd empty =
            subst (λ (x : Owned). is_on t key x.write ≡ false) (at_more items o (slice_index_or order k d) (within k d lt))
            (subst (λ n. is_on t key (owned_at (items ++ o ∷ []) n).write ≡ false) (get_or-set_other order (at - 1) k (length items) d odd) (empty k d (omega (arith, lt, length-set order (at - 1) (length items)))))

        before : (t : ℕ) (key : List Value) → HasNone (items ++ o ∷ []) t key (slice_set order (at - 1) (length items)) → (k d : ℕ) → k < length order → is_on t key (owned_at items (slice_index_or order k d)).write ≡ false
        before t key empty k d lt =
            elim (cases_lt k (at - 1)) [
              | inl front ↦ kept t key k d lt (λ e. omega (arith, e, front)) empty
              | inr more ↦ elim (cases_lt (at - 1) k) [
                | inl behind ↦ kept t key k d lt (λ e. omega (arith, e, behind)) empty
                | inr fewer ↦
                    let here : k ≡ at - 1 = omega (arith, more, fewer) in
                    false_from_ne_true _ (λ so.
                    both_ways (is_on t key o.write) (off t key empty)
                    (on_own t key o (sym (key_there d) ∙ (ap (λ n. key_at items (slice_index_or order n d)) (sym here) ∙ on_full t key (owned_at items (slice_index_or order k d)) so))))
              ]
            ]

pub indexed_more : (items : List Owned) (order : List ℕ) (o : Owned) (at : ℕ) (found : Option ℕ) → IsIndexed items order → at ≤ length order → IsCut (is_up_to items (full_key o)) order at → IsFound items order at o.write.table o.write.key found
    → IsIndexed (items ++ o ∷ []) (renewed order at found (length items))
indexed_more items order o at None ix high cut found = indexed_first items order o at ix high cut found
indexed_more items order o at (Some p) ix high cut found = indexed_again items order o at ix high p found.0 found.1 found.2

-- what was found is the last of all
pub found_last : (items : List Owned) (order : List ℕ) (at t : ℕ) (key : List Value) (found : Option ℕ) → IsIndexed items order → at ≤ length order → IsFound items order at t key found → IsLastOn items t key found
found_last items order at t key None ix high found = ix.each t key found
found_last items order at t key (Some p) ix high found =
    at_key items (owned_at items p) t key (Some p) found.2 (subst (IsLast items) found.1 (ix.are.last (at - 1) 0 (omega (arith, found.0, high))))

-- Links and patches

-- the place that a new write skips to is of a write to its key
pub far_on : (items : List Owned) (o : Owned) (m far : Option ℕ) → IsLastOn items o.write.table o.write.key m → IfSome far (λ q. IfSome m (λ p. (q ≤ p) × AreToOneKey items p q)) → (m ≡ None → far ≡ None)
    → IfSome far (λ q. (q < length items) × (is_on o.write.table o.write.key (owned_at items q).write ≡ true))
far_on items o m None last h none = tt
far_on items o None (Some q) last h none = absurd (no_place q (none refl))
  where
    no_place : (q : ℕ) → Some q ≡ None → ⊥
    no_place q e = cc
far_on items o (Some p) (Some q) last h none =
    let two = on_parts o.write.table o.write.key (owned_at items p) last.1 in (
      omega (arith, h.0, last.0),
      subst (λ u. is_on u o.write.key (owned_at items q).write ≡ true) two.0 (subst (λ k. is_on (owned_at items p).write.table k (owned_at items q).write ≡ true) two.1 h.1),
    )

pub linked_more : (items : List Owned) (links : List Link) (o : Owned) (link : Link) → IsLinked items links → IsLastOn items o.write.table o.write.key link.before
    → IfSome link.far (λ q. (q < length items) × (is_on o.write.table o.write.key (owned_at items q).write ≡ true)) → IsLinked (items ++ o ∷ []) (links ++ link ∷ [])
linked_more items links o link linked last skips = record {
  size = omega (arith, linked.size, length_more links link, length_more items o);
  each = λ p lt. by p (cases_lt p (length items)) lt;
  far = λ p lt. far_by p (cases_lt p (length items)) lt;
}
  where
    kept : (p : ℕ) → p < length items → link_at links p ≡ link_at (links ++ link ∷ []) p
    kept p low = sym (get_or-append links (link ∷ []) no_link p (omega (arith, low, linked.size)))

    new : link ≡ link_at (links ++ link ∷ []) (length items)
    new = sym (ap (λ n. slice_index_or (links ++ link ∷ []) n no_link) (sym linked.size) ∙ get_or-append_seam links link [] no_link)

    by : (p : ℕ) → (p < length items) ⊎ (length items ≤ p) → p < length (items ++ o ∷ []) → IsLastOn (take p (items ++ o ∷ [])) (owned_at (items ++ o ∷ []) p).write.table (owned_at (items ++ o ∷ []) p).write.key (link_at (links ++ link ∷ []) p).before
    by p (inl low) lt =
        subst (λ xs. IsLastOn xs (owned_at (items ++ o ∷ []) p).write.table (owned_at (items ++ o ∷ []) p).write.key (link_at (links ++ link ∷ []) p).before) (sym (take-append-le p items (o ∷ []) (omega (arith, low))))
        (subst (λ (x : Owned). IsLastOn (take p items) x.write.table x.write.key (link_at (links ++ link ∷ []) p).before) (sym (at_more items o p low))
        (subst (λ (l : Link). IsLastOn (take p items) (owned_at items p).write.table (owned_at items p).write.key l.before) (kept p low) (linked.each p low)))
    by p (inr high) lt =
        let here : length items ≡ p = omega (arith, high, lt, length_more items o) in
        subst (λ n. IsLastOn (take n (items ++ o ∷ [])) (owned_at (items ++ o ∷ []) n).write.table (owned_at (items ++ o ∷ []) n).write.key (link_at (links ++ link ∷ []) n).before) here
        (subst (λ xs. IsLastOn xs (owned_at (items ++ o ∷ []) (length items)).write.table (owned_at (items ++ o ∷ []) (length items)).write.key (link_at (links ++ link ∷ []) (length items)).before) (sym (take-append_seam items (o ∷ [])))
        (subst (λ (x : Owned). IsLastOn items x.write.table x.write.key (link_at (links ++ link ∷ []) (length items)).before) (sym (at_last items o))
        (subst (λ (l : Link). IsLastOn items o.write.table o.write.key l.before) new last)))

    far_by : (p : ℕ) → (p < length items) ⊎ (length items ≤ p) → p < length (items ++ o ∷ []) → IfSome (link_at (links ++ link ∷ []) p).far (λ q. (q < p) × AreToOneKey (items ++ o ∷ []) p q)
    far_by p (inl low) lt =
        some_weaker (link_at (links ++ link ∷ []) p).far (λ q. (q < p) × AreToOneKey items p q) (λ q. (q < p) × AreToOneKey (items ++ o ∷ []) p q)
        (λ q h. (
          h.0,
          subst (λ (x : Owned). is_on x.write.table x.write.key (owned_at (items ++ o ∷ []) q).write ≡ true) (sym (at_more items o p low))
              (subst (λ (x : Owned). is_on (owned_at items p).write.table (owned_at items p).write.key x.write ≡ true) (sym (at_more items o q (omega (arith, h.0, low)))) h.1),
        ))
        (subst (λ (l : Link). IfSome l.far (λ q. (q < p) × AreToOneKey items p q)) (kept p low) (linked.far p low))
    far_by p (inr high) lt =
        let here : length items ≡ p = omega (arith, high, lt, length_more items o) in
        subst (λ n. IfSome (link_at (links ++ link ∷ []) n).far (λ q. (q < n) × AreToOneKey (items ++ o ∷ []) n q)) here
        (some_weaker (link_at (links ++ link ∷ []) (length items)).far (λ q. (q < length items) × (is_on o.write.table o.write.key (owned_at items q).write ≡ true)) (λ q. (q < length items) × AreToOneKey (items ++ o ∷ []) (length items) q)
        (λ q h. (
          h.0,
          subst (λ (x : Owned). is_on x.write.table x.write.key (owned_at (items ++ o ∷ []) q).write ≡ true) (sym (at_last items o))
              (subst (λ (x : Owned). is_on o.write.table o.write.key x.write ≡ true) (sym (at_more items o q h.0)) h.1),
        ))
        (subst (λ (l : Link). IfSome l.far (λ q. (q < length items) × (is_on o.write.table o.write.key (owned_at items q).write ≡ true))) new skips))

-- a patch does what those of these writes do that are to the key of this one
abbrev Kept : Patch → Owned → List Owned → Type 0
Kept patch x xs = IsComposedOf patch (map (λ o. o.write) (owned_on x.write.table x.write.key xs))

pub composed_more : (items : List Owned) (composed : List (Option Patch)) (o : Owned) (made : Option Patch) → IsComposed items composed → IsComposedOf (patch_or made o.write.patch) (writes_on o.write.table o.write.key (map (λ o. o.write) items) ++ o.write ∷ [])
    → IsComposed (items ++ o ∷ []) (composed ++ made ∷ [])
composed_more items composed o made kept does = record { size = omega (arith, kept.size, length_more composed made, length_more items o); each = λ p lt. by p (cases_lt p (length items)) lt }
  where
    all : writes_on o.write.table o.write.key (map (λ o. o.write) items) ++ o.write ∷ [] ≡ map (λ o. o.write) (owned_on o.write.table o.write.key (items ++ o ∷ []))
    all =
        ap (λ l. l ++ o.write ∷ []) (writes_lined o.write.table o.write.key items)
        ∙ (sym (map-append (λ (x : Owned). x.write) (owned_on o.write.table o.write.key items) (o ∷ []))
        ∙ ap (map (λ (x : Owned). x.write)) (sym (filter-append (λ (x : Owned). is_on o.write.table o.write.key x.write) items (o ∷ []) ∙ ap (λ b. owned_on o.write.table o.write.key items ++ cond b (o ∷ []) []) (on_itself o))))

    by : (p : ℕ) → (p < length items) ⊎ (length items ≤ p) → p < length (items ++ o ∷ [])
        → IsComposedOf (patch_at (items ++ o ∷ []) (composed ++ made ∷ []) p) (map (λ o. o.write) (owned_on (owned_at (items ++ o ∷ []) p).write.table (owned_at (items ++ o ∷ []) p).write.key (take (p + 1) (items ++ o ∷ []))))
    by p (inl low) lt =
        subst (λ xs. Kept (patch_at (items ++ o ∷ []) (composed ++ made ∷ []) p) (owned_at (items ++ o ∷ []) p) xs) (sym (take-append-le (p + 1) items (o ∷ []) (omega (arith, low))))
        (subst (λ (x : Owned). Kept (patch_or (slice_index_or (composed ++ made ∷ []) p None) x.write.patch) x (take (p + 1) items)) (sym (at_more items o p low))
        (subst (λ c. Kept (patch_or c (owned_at items p).write.patch) (owned_at items p) (take (p + 1) items)) (sym (get_or-append composed (made ∷ []) None p (omega (arith, low, kept.size)))) (kept.each p low)))
    by p (inr high) lt =
        let here : length items ≡ p = omega (arith, high, lt, length_more items o) in
        subst (λ n. Kept (patch_at (items ++ o ∷ []) (composed ++ made ∷ []) n) (owned_at (items ++ o ∷ []) n) (take (n + 1) (items ++ o ∷ []))) here
        (subst (λ xs. Kept (patch_at (items ++ o ∷ []) (composed ++ made ∷ []) (length items)) (owned_at (items ++ o ∷ []) (length items)) xs) (sym (take_all (length items + 1) (items ++ o ∷ []) (omega (arith, length_more items o))))
        (subst (λ (x : Owned). Kept (patch_or (slice_index_or (composed ++ made ∷ []) (length items) None) x.write.patch) x (items ++ o ∷ [])) (sym (at_last items o))
        (subst (λ c. Kept (patch_or c o.write.patch) o (items ++ o ∷ [])) (sym (ap (λ n. slice_index_or (composed ++ made ∷ []) n None) (sym kept.size) ∙ get_or-append_seam composed made [] None))
        (subst (IsComposedOf (patch_or made o.write.patch)) all does))))

-- Own writes without those of the last records.
use Rattle.std.proofs.Common.{◌≡◌, ◌⊎◌, ℕ, suc, ◌+◌, ◌<◌, ◌≤◌, Bool, true, false, cond, List, [], ◌∷◌, ◌++◌, Option, Some, None, All, drop, length, map, slice_index_or, take, refl, sym, ap, subst, ◌∙◌, inl, inr, arith, take-append-drop}
use Rattle.std.proofs.Math.ListN.{set}
use Rattle.std.specs.Prelude.{AllPairs, IfSome, nat_lt}
use Rattle.std.specs.List.{filter}
use Rattle.std.specs.Option.{unwrap_or}
use Rattle.std.specs.Ordering.{is_lt}
use Rattle.std.proofs.lemmas.Bool.{both_ways, cases_lt, ltb-true, lt-ltb}
use Rattle.std.proofs.lemmas.List.{get_or_default, get_or-set_other, get_or-set_same, get_or-take, length-set, length-take, take-take}
use Rattle.std.proofs.lemmas.List.Elements.{All-cons, All-nil, filter-append, filter_passes}
use Rattle.std.proofs.lemmas.List.Kept.{AllPairs-filter}
use Rattle.mv_values.specs.declared.value.Value.{Value}
use Rattle.mv_values.specs.declared.patch.Patch.{Patch}
use Rattle.mv_values.specs.Order.{key_order}
use Rattle.mv_record.specs.Writes.{is_on}
use Rattle.mv_undo.specs.declared.links.Link.{Link}
use Rattle.mv_undo.specs.Owned.{Owned}
use Rattle.mv_undo.specs.Owning.{before}
use Rattle.mv_undo.specs.Indexing.{owned_at, owned_on, full_key, key_at, link_at, no_link, AreToOneKey, GoesBack, HasNone, IsComposed, IsComposedOf, IsIndexed, IsLast, IsLastOn, IsLinked, patch_at, patch_or}
use Rattle.mv_undo.proofs.Indexing.{on_full, on_itself, on_parts}
use Rattle.mv_undo.proofs.Linking.{at_key, at_take, not_none, some_weaker}
use Rattle.mv_undo.proofs.Growing.{rises_same}

-- A part of the places

all_left : (P : ℕ → Type 0) (f : ℕ → Bool) (xs : List ℕ) → All (λ x. f x ≡ true → P x) xs → All P (filter f xs)
all_left P f [] h = All-nil P
all_left P f (x ∷ xs) h = by (f x) refl (all_left P f xs (λ k d lt. h (suc k) d (omega (arith, lt))))
  where
    by : (b : Bool) → f x ≡ b → All P (filter f xs) → All P (cond b (x ∷ filter f xs) (filter f xs))
    by true e more = All-cons P x (filter f xs) (h 0 x (omega arith) e) more
    by false e more = more

left_all : (P : ℕ → Type 0) (f : ℕ → Bool) (xs : List ℕ) → All P (filter f xs) → All (λ x. f x ≡ true → P x) xs
left_all P f [] h = All-nil (λ x. f x ≡ true → P x)
left_all P f (x ∷ xs) h = by (f x) refl h (left_all P f xs)
  where
    by : (b : Bool) → f x ≡ b → All P (cond b (x ∷ filter f xs) (filter f xs)) → (All P (filter f xs) → All (λ x. f x ≡ true → P x) xs) → All (λ x. f x ≡ true → P x) (x ∷ xs)
    by true e h more = All-cons (λ x. f x ≡ true → P x) x xs (λ so. h 0 x (omega arith)) (more (λ k d lt. h (suc k) d (omega (arith, lt))))
    by false e h more = All-cons (λ x. f x ≡ true → P x) x xs (λ so. absurd (both_ways (f x) e so)) (more h)

-- a place whose write passes a test, or none
found_or_none : (f : ℕ → Bool) (xs : List ℕ) → All (λ x. f x ≡ false) xs ⊎ ((k : ℕ) × (k < length xs) × (f (slice_index_or xs k 0) ≡ true))
found_or_none f [] = inl (All-nil (λ x. f x ≡ false))
found_or_none f (x ∷ xs) = by (f x) refl (found_or_none f xs)
  where
    by : (b : Bool) → f x ≡ b → All (λ x. f x ≡ false) xs ⊎ ((k : ℕ) × (k < length xs) × (f (slice_index_or xs k 0) ≡ true)) → All (λ x. f x ≡ false) (x ∷ xs) ⊎ ((k : ℕ) × (k < length (x ∷ xs)) × (f (slice_index_or (x ∷ xs) k 0) ≡ true))
    by true e more = inr (0, omega arith, e)
    by false e (inl none) = inl (All-cons (λ x. f x ≡ false) x xs e none)
    by false e (inr (k, lt, so)) = inr (suc k, omega (arith, lt), so)

nothing_left : (xs ys : List Owned) → xs ++ ys ≡ [] → xs ≡ []
nothing_left [] ys h = refl
nothing_left (x ∷ xs) ys h = cc

none_front : (t : ℕ) (key : List Value) (n : ℕ) (items : List Owned) → owned_on t key items ≡ [] → owned_on t key (take n items) ≡ []
none_front t key n items none =
    nothing_left (owned_on t key (take n items)) (owned_on t key (drop n items))
    (sym (filter-append (λ (x : Owned). is_on t key x.write) (take n items) (drop n items)) ∙ (ap (owned_on t key) (take-append-drop n items) ∙ none))

-- The order

module _ (items : List Owned) (order back : List ℕ) (number len : ℕ) (ix : IsIndexed items order) (high : len ≤ length items) (is : take len items ≡ before number items) (size : length back ≡ length order)
    (goes : (k : ℕ) → k < length order → GoesBack items number (slice_index_or order k 0) (slice_index_or back k 0)) where
  short : length (take len items) ≡ len
  short = omega (arith, length-take len items, high)

  record Back (p b : ℕ) : Type 0 where
    key : key_at items b ≡ key_at items p
    last : b < len → IsLast (take len items) b
    none : (t : ℕ) (key : List Value) → is_on t key (owned_at items p).write ≡ true → (b < len → is_on t key (owned_at (take len items) b).write ≡ false) → owned_on t key (take len items) ≡ []

  back_is : (p b : ℕ) → GoesBack items number p b → Back p b
  back_is p b (inl last) =
      let L : IsLastOn (take len items) (owned_at items p).write.table (owned_at items p).write.key (Some b) = subst (λ xs. IsLastOn xs (owned_at items p).write.table (owned_at items p).write.key (Some b)) (sym is) last in
      let low : b < len = omega (arith, L.0, short) in
      let same : owned_at (take len items) b ≡ owned_at items b = at_take items len b low in
      let two = on_parts (owned_at items p).write.table (owned_at items p).write.key (owned_at (take len items) b) L.1 in
      record {
        key = ap full_key (sym same) ∙ on_full (owned_at items p).write.table (owned_at items p).write.key (owned_at (take len items) b) L.1;
        last = λ lt. subst (λ u. IsLastOn (take len items) u (owned_at (take len items) b).write.key (Some b)) (sym two.0) (subst (λ k. IsLastOn (take len items) (owned_at items p).write.table k (Some b)) (sym two.1) L);
        none = λ t key on off.
            let here = at_key (take len items) (owned_at items p) t key (Some b) on L in absurd (both_ways (is_on t key (owned_at (take len items) b).write) (off low) here.1);
      }
  back_is p b (inr (none, same)) = record {
    key = ap (key_at items) same;
    last = λ lt. absurd (lost lt);
    none = λ t key on off. subst (λ xs. owned_on t key xs ≡ []) (sym is) (at_key (before number items) (owned_at items p) t key None on none);
  }
    where
      lost : b < len → ⊥
      lost lt =
          let low : p < len = subst (λ n. n < len) same lt in
          not_none (take len items) p (owned_at items p).write.table (owned_at items p).write.key (omega (arith, low, short))
          (subst (λ (x : Owned). is_on (owned_at items p).write.table (owned_at items p).write.key x.write ≡ true) (sym (at_take items len p low)) (on_itself (owned_at items p)))
          (subst (λ xs. owned_on (owned_at items p).write.table (owned_at items p).write.key xs ≡ []) (sym is) none)

  -- at any default
  back_at : (k d : ℕ) → k < length order → Back (slice_index_or order k d) (slice_index_or back k d)
  back_at k d lt =
      subst (λ p. Back p (slice_index_or back k d)) (get_or_default order k 0 d lt)
      (subst (Back (slice_index_or order k 0)) (get_or_default back k 0 d (omega (arith, lt, size))) (back_is (slice_index_or order k 0) (slice_index_or back k 0) (goes k lt)))

  left : List ℕ
  left = filter (λ p. nat_lt p len) back

  pub indexed_less : IsIndexed (take len items) (filter (λ p. nat_lt p len) back)
  indexed_less = record { are = record { last = lasts; sorted = rises }; each = empty }
    where
      lasts : All (IsLast (take len items)) (filter (λ p. nat_lt p len) back)
      lasts = all_left (IsLast (take len items)) (λ p. nat_lt p len) back (λ k d lt so. (back_at k d (omega (arith, lt, size))).last (ltb-true _ _ so))

      rises : AllPairs (λ p q. is_lt (key_order (key_at (take len items) p) (key_at (take len items) q)) ≡ true) (filter (λ p. nat_lt p len) back)
      rises = rises_same (key_at items) (key_at (take len items)) (filter (λ p. nat_lt p len) back) (filter (λ p. nat_lt p len) back) refl
          (λ k d lt. ap full_key (at_take items len (slice_index_or (filter (λ p. nat_lt p len) back) k d) (ltb-true _ _ (filter_passes (λ p. nat_lt p len) back k d lt))))
          (AllPairs-filter (λ p q. is_lt (key_order (key_at items p) (key_at items q)) ≡ true) (λ p. nat_lt p len) back (rises_same (key_at items) (key_at items) order back size (λ k d lt. (back_at k d lt).key) ix.are.sorted))

      empty : (t : ℕ) (key : List Value) → HasNone (take len items) t key (filter (λ p. nat_lt p len) back) → owned_on t key (take len items) ≡ []
      empty t key none = by (found_or_none (λ p. is_on t key (owned_at items p).write) order)
        where
          by : All (λ p. is_on t key (owned_at items p).write ≡ false) order ⊎ ((k : ℕ) × (k < length order) × (is_on t key (owned_at items (slice_index_or order k 0)).write ≡ true)) → owned_on t key (take len items) ≡ []
          by (inl all) = none_front t key len items (ix.each t key all)
          by (inr (k, lt, on)) =
              (back_at k 0 lt).none t key on (λ low.
              left_all (λ p. is_on t key (owned_at (take len items) p).write ≡ false) (λ p. nat_lt p len) back none k 0 (omega (arith, lt, size)) (lt-ltb _ _ low))

-- Links and patches

pub linked_less : (items : List Owned) (links : List Link) (len : ℕ) → IsLinked items links → IsLinked (take len items) (take len links)
linked_less items links len linked = record {
  size = omega (arith, linked.size, length-take len items, length-take len links);
  each = λ p lt.
      subst (λ xs. IsLastOn xs (owned_at (take len items) p).write.table (owned_at (take len items) p).write.key (link_at (take len links) p).before) (sym (take-take p len items (omega (arith, low p lt))))
      (subst (λ (x : Owned). IsLastOn (take p items) x.write.table x.write.key (link_at (take len links) p).before) (sym (at_take items len p (low p lt)))
      (subst (λ (l : Link). IsLastOn (take p items) (owned_at items p).write.table (owned_at items p).write.key l.before) (kept p lt) (linked.each p (inside p lt))));
  far = λ p lt.
      some_weaker (link_at (take len links) p).far (λ q. (q < p) × AreToOneKey items p q) (λ q. (q < p) × AreToOneKey (take len items) p q)
      (λ q h. (
        h.0,
        subst (λ (x : Owned). is_on x.write.table x.write.key (owned_at (take len items) q).write ≡ true) (sym (at_take items len p (low p lt)))
            (subst (λ (x : Owned). is_on (owned_at items p).write.table (owned_at items p).write.key x.write ≡ true) (sym (at_take items len q (omega (arith, h.0, low p lt)))) h.1),
      ))
      (subst (λ (l : Link). IfSome l.far (λ q. (q < p) × AreToOneKey items p q)) (kept p lt) (linked.far p (inside p lt)));
}
  where
    low : (p : ℕ) → p < length (take len items) → p < len
    low p lt = omega (arith, lt, length-take len items)

    inside : (p : ℕ) → p < length (take len items) → p < length items
    inside p lt = omega (arith, lt, length-take len items)

    kept : (p : ℕ) → p < length (take len items) → link_at links p ≡ link_at (take len links) p
    kept p lt = sym (get_or-take len links p no_link (low p lt))

pub composed_less : (items : List Owned) (composed : List (Option Patch)) (len : ℕ) → IsComposed items composed → IsComposed (take len items) (take len composed)
composed_less items composed len kept = record {
  size = omega (arith, kept.size, length-take len items, length-take len composed);
  each = λ p lt.
      let low : p < len = omega (arith, lt, length-take len items) in
      let inside : p < length items = omega (arith, lt, length-take len items) in
      subst (λ xs. IsComposedOf (patch_at (take len items) (take len composed) p) (map (λ o. o.write) (owned_on (owned_at (take len items) p).write.table (owned_at (take len items) p).write.key xs))) (sym (take-take (p + 1) len items (omega (arith, low))))
      (subst (λ (x : Owned). IsComposedOf (patch_or (slice_index_or (take len composed) p None) x.write.patch) (map (λ o. o.write) (owned_on x.write.table x.write.key (take (p + 1) items)))) (sym (at_take items len p low))
      (subst (λ c. IsComposedOf (patch_or c (owned_at items p).write.patch) (map (λ o. o.write) (owned_on (owned_at items p).write.table (owned_at items p).write.key (take (p + 1) items)))) (sym (get_or-take len composed p None low))
      (kept.each p inside)));
}

-- Going back

-- the places before an index have gone back, and the others stand as they were
pub record AreBack (items : List Owned) (number : ℕ) (first now : List ℕ) (index : ℕ) : Type 0 where
  pub len : length now ≡ length first
  pub back : (k : ℕ) → k < index → GoesBack items number (slice_index_or first k 0) (slice_index_or now k 0)
  pub rest : (k : ℕ) → index ≤ k → k < length first → slice_index_or now k 0 ≡ slice_index_or first k 0

pub none_back : (items : List Owned) (number : ℕ) (first : List ℕ) → AreBack items number first first 0
none_back items number first = record { len = refl; back = λ k lt. absurd (omega (arith, lt)); rest = λ k low lt. refl }

pub one_back : (items : List Owned) (number : ℕ) (first now new : List ℕ) (index place back : ℕ) → AreBack items number first now index → index < length first → place ≡ slice_index_or now index 0 → new ≡ set now index back → GoesBack items number place back
    → AreBack items number first new (index + 1)
one_back items number first now new index place back h within is made goes =
    subst (λ l. AreBack items number first l (index + 1)) (sym made) (record {
      len = length-set now index back ∙ h.len;
      back = λ k lt. elim (cases_lt k index) [
        | inl low ↦ subst (GoesBack items number (slice_index_or first k 0)) (sym (get_or-set_other now index k back 0 (λ e. omega (arith, e, low)))) (h.back k low)
        | inr high ↦
            let here : k ≡ index = omega (arith, high, lt) in
            subst (λ n. GoesBack items number (slice_index_or first n 0) (slice_index_or (set now index back) n 0)) (sym here)
            (subst (GoesBack items number (slice_index_or first index 0)) (sym (get_or-set_same now index back 0 (omega (arith, within, h.len)))) (subst (λ p. GoesBack items number p back) (is ∙ h.rest index (omega arith) within) goes))
      ];
      rest = λ k low lt. get_or-set_other now index k back 0 (λ e. omega (arith, e, low)) ∙ h.rest k (omega (arith, low)) lt;
    })

-- the last place before, if there is one, else the place itself
pub goes_back : (items : List Owned) (number place : ℕ) (m : Option ℕ) → IsLastOn (before number items) (owned_at items place).write.table (owned_at items place).write.key m → GoesBack items number place (unwrap_or m place)
goes_back items number place None last = inr (last, refl)
goes_back items number place (Some b) last = inl last

-- The writes to a key, from the last one back.
use Rattle.std.proofs.Common.{◌≡◌, ℕ, zero, suc, ◌+◌, ◌<◌, ◌≤◌, Bool, true, false, cond, List, [], ◌∷◌, ◌++◌, Option, Some, None, length, map, take, slice_index_or, refl, sym, ap, subst, ◌∙◌, arith}
use Rattle.std.specs.Prelude.{nat_lt, ◌||◌, IfSome}
use Rattle.std.specs.List.{filter}
use Rattle.std.specs.Option.{is_some, option_map}
use Rattle.std.proofs.lemmas.Bool.{both_ways}
use Rattle.std.proofs.lemmas.List.{append-nil, length-take, take-take, take_all, take_more}
use Rattle.std.proofs.lemmas.List.Elements.{filter-append}
use Rattle.mv_values.specs.declared.value.Value.{Value}
use Rattle.mv_values.specs.declared.patch.Patch.{Patch}
use Rattle.mv_record.specs.Writes.{is_on, writes_on, patched_by}
use Rattle.mv_undo.specs.declared.links.Link.{Link}
use Rattle.mv_undo.specs.Owned.{Owned}
use Rattle.mv_undo.specs.Owning.{IsInOrder, before, earlier, touches}
use Rattle.mv_undo.specs.Indexing.{owned_at, owned_on, AreToOneKey, IsLastOn, IsLinked, IsUpTo, IsComposed, DoesAll, link_at, patch_at}
use Rattle.mv_undo.proofs.Indexing.{on_parts}
use Rattle.mv_undo.proofs.Owning.{smaller}

-- Writes at places

pub at_index : (items : List Owned) (p : ℕ) (d : Owned) → p < length items → slice_index_or items p d ≡ owned_at items p
at_index [] p d lt = absurd (omega (arith, lt))
at_index (x ∷ xs) zero d lt = refl
at_index (x ∷ xs) (suc p) d lt = at_index xs p d (omega (arith, lt))

pub at_more : (items : List Owned) (o : Owned) (p : ℕ) → p < length items → owned_at (items ++ o ∷ []) p ≡ owned_at items p
at_more [] o p lt = absurd (omega (arith, lt))
at_more (x ∷ xs) o zero lt = refl
at_more (x ∷ xs) o (suc p) lt = at_more xs o p (omega (arith, lt))

pub at_last : (items : List Owned) (o : Owned) → owned_at (items ++ o ∷ []) (length items) ≡ o
at_last [] o = refl
at_last (x ∷ xs) o = at_last xs o

pub at_take : (items : List Owned) (n p : ℕ) → p < n → owned_at (take n items) p ≡ owned_at items p
at_take items zero p lt = absurd (omega (arith, lt))
at_take [] (suc n) p lt = refl
at_take (x ∷ xs) (suc n) zero lt = refl
at_take (x ∷ xs) (suc n) (suc p) lt = at_take xs n p (omega (arith, lt))

pub filter_turned : (p q : Owned → Bool) (xs : List Owned) → filter p (filter q xs) ≡ filter q (filter p xs)
filter_turned p q [] = refl
filter_turned p q (x ∷ xs) = by (p x) (q x) refl refl (filter_turned p q xs)
  where
    by : (a b : Bool) → p x ≡ a → q x ≡ b → filter p (filter q xs) ≡ filter q (filter p xs) → filter p (cond b (x ∷ filter q xs) (filter q xs)) ≡ filter q (cond a (x ∷ filter p xs) (filter p xs))
    by true true e f more = rw (e, f) (ap (λ l. x ∷ l) more)
    by true false e f more = rw f more
    by false true e f more = rw e more
    by false false e f more = more

-- those to a key among those of earlier records
on_before : (n t : ℕ) (key : List Value) (xs : List Owned) → owned_on t key (before n xs) ≡ before n (owned_on t key xs)
on_before n t key xs = filter_turned (λ o. is_on t key o.write) (λ o. nat_lt o.number n) xs

-- what is so at the key of a write is so at a key that it is on
pub at_key : (xs : List Owned) (o : Owned) (t : ℕ) (key : List Value) (m : Option ℕ) → is_on t key o.write ≡ true → IsLastOn xs o.write.table o.write.key m → IsLastOn xs t key m
at_key xs o t key m on h = let two = on_parts t key o on in subst (λ u. IsLastOn xs u key m) two.0 (subst (λ k. IsLastOn xs o.write.table k m) two.1 h)

-- a write on a key is among those on it
pub not_none : (xs : List Owned) (p t : ℕ) (key : List Value) → p < length xs → is_on t key (owned_at xs p).write ≡ true → owned_on t key xs ≡ [] → ⊥
not_none [] p t key lt on none = omega (arith, lt)
not_none (x ∷ xs) zero t key lt on none = by (is_on t key x.write) on none
  where
    by : (b : Bool) → b ≡ true → cond b (x ∷ owned_on t key xs) (owned_on t key xs) ≡ [] → ⊥
    by true e none = cc
    by false e none = cc
not_none (x ∷ xs) (suc p) t key lt on none = by (is_on t key x.write) none (not_none xs p t key (omega (arith, lt)) on)
  where
    by : (b : Bool) → cond b (x ∷ owned_on t key xs) (owned_on t key xs) ≡ [] → (owned_on t key xs ≡ [] → ⊥) → ⊥
    by true none more = cc
    by false none more = more none

-- Those of earlier records

-- how far back it may go
abbrev pub reach : Option ℕ → ℕ
reach None = 0
reach (Some p) = p + 1

pub up_to_last : (n : ℕ) (items : List Owned) (t : ℕ) (key : List Value) (m : Option ℕ) → IsLastOn items t key m → IsUpTo n items t key m
up_to_last n items t key None h = on_before n t key items ∙ ap (before n) h
up_to_last n items t key (Some p) h = (h.0, h.1, on_before n t key items ∙ (ap (before n) h.2 ∙ sym (on_before n t key (take (p + 1) items))))

-- one step back
pub up_to_link : (n : ℕ) (items : List Owned) (links : List Link) (p : ℕ) (m : Option ℕ) → IsLinked items links → p < length items → m ≡ (link_at links p).before → nat_lt (owned_at items p).number n ≡ false
    → (t : ℕ) (key : List Value) → IsUpTo n items t key (Some p) → IsUpTo n items t key m
up_to_link n items links p m linked lt is late t key h = by m (at_key (take p items) (owned_at items p) t key m h.1 (subst (IsLastOn (take p items) (owned_at items p).write.table (owned_at items p).write.key) (sym is) (linked.each p lt)))
  where
    o : Owned
    o = owned_at items p

    without : before n (take (p + 1) items) ≡ before n (take p items)
    without =
        ap (before n) (take_more items p o lt)
        ∙ (filter-append (λ o. nat_lt o.number n) (take p items) (slice_index_or items p o ∷ [])
        ∙ (ap (λ (x : Owned). before n (take p items) ++ cond (nat_lt x.number n) (x ∷ []) []) (at_index items p o lt)
        ∙ (ap (λ b. before n (take p items) ++ cond b (o ∷ []) []) late ∙ append-nil (before n (take p items)))))

    front : owned_on t key (before n items) ≡ before n (owned_on t key (take p items))
    front = h.2 ∙ (ap (owned_on t key) without ∙ on_before n t key (take p items))

    by : (m : Option ℕ) → IsLastOn (take p items) t key m → IsUpTo n items t key m
    by None last = front ∙ ap (before n) last
    by (Some q) last =
        let low : q < p = omega (arith, last.0, length-take p items) in (
          omega (arith, low, lt),
          subst (λ (x : Owned). is_on t key x.write ≡ true) (at_take items p q low) last.1,
          front ∙ (ap (before n) (last.2 ∙ ap (owned_on t key) (take-take (q + 1) p items (omega (arith, low)))) ∙ sym (on_before n t key (take (q + 1) items))),
        )

all_late : (n : ℕ) (x : Owned) (xs : List Owned) → IsInOrder (x ∷ xs) → nat_lt x.number n ≡ false → before n xs ≡ []
all_late n x [] order late = refl
all_late n x (y ∷ ys) order late = by (nat_lt y.number n) refl (all_late n y ys (λ i j d lt within. order (suc i) (suc j) d (omega (arith, lt)) (omega (arith, within))))
  where
    by : (b : Bool) → nat_lt y.number n ≡ b → (nat_lt y.number n ≡ false → before n ys ≡ []) → cond b (y ∷ before n ys) (before n ys) ≡ []
    by true e more = absurd (both_ways (nat_lt x.number n) late (smaller x.number y.number n (order 0 1 y (omega arith) (omega arith)) e))
    by false e more = more e

-- from a write by a record without a smaller number on, none is by one with a smaller number
late_from : (n : ℕ) (items : List Owned) (p : ℕ) → IsInOrder items → p < length items → nat_lt (owned_at items p).number n ≡ false → before n items ≡ before n (take (suc p) items)
late_from n [] p order lt late = absurd (omega (arith, lt))
late_from n (x ∷ xs) zero order lt late = ap (λ l. cond (nat_lt x.number n) (x ∷ l) l) (all_late n x xs order late)
late_from n (x ∷ xs) (suc p) order lt late = ap (λ l. cond (nat_lt x.number n) (x ∷ l) l) (late_from n xs p (λ i j d low within. order (suc i) (suc j) d (omega (arith, low)) (omega (arith, within))) (omega (arith, lt)) late)

-- a skip to an earlier write to the key
pub up_to_far : (n : ℕ) (items : List Owned) (p q : ℕ) → IsInOrder items → p < length items → q < p → AreToOneKey items p q → nat_lt (owned_at items q).number n ≡ false
    → (t : ℕ) (key : List Value) → IsUpTo n items t key (Some p) → IsUpTo n items t key (Some q)
up_to_far n items p q order lt low one late t key h =
    let two = on_parts t key (owned_at items p) h.1 in
    let there : q < length items = omega (arith, low, lt) in
    let next : suc q ≡ q + 1 = omega arith in (
      there,
      subst (λ u. is_on u key (owned_at items q).write ≡ true) two.0 (subst (λ k. is_on (owned_at items p).write.table k (owned_at items q).write ≡ true) two.1 one),
      ap (owned_on t key) (late_from n items q order there late ∙ ap (λ k. before n (take k items)) next),
    )

-- what a write of an earlier record has in front of it is by earlier records
record IsFront (n : ℕ) (items : List Owned) (p : ℕ) : Type 0 where
  within : p < length (before n items)
  same : owned_at (before n items) p ≡ owned_at items p
  all : before n (take (suc p) items) ≡ take (suc p) (before n items)

front_of : (n : ℕ) (items : List Owned) (p : ℕ) → IsInOrder items → p < length items → nat_lt (owned_at items p).number n ≡ true → IsFront n items p
front_of n [] p order lt early = absurd (omega (arith, lt))
front_of n (x ∷ xs) zero order lt early = by (nat_lt x.number n) refl early
  where
    by : (b : Bool) → nat_lt x.number n ≡ b → b ≡ true → IsFront n (x ∷ xs) zero
    by true e h = record { within = rw e (omega arith); same = rw e refl; all = rw e refl }
    by false e h = cc
front_of n (x ∷ xs) (suc p) order lt early =
    let d : Owned = owned_at xs p in
    let le : x.number ≤ (slice_index_or xs p d).number = order 0 (suc p) d (omega arith) lt in
    let first : nat_lt x.number n ≡ true = smaller x.number d.number n (subst (λ (y : Owned). x.number ≤ y.number) (at_index xs p d (omega (arith, lt))) le) early in
    let more = front_of n xs p (λ i j e low within. order (suc i) (suc j) e (omega (arith, low)) (omega (arith, within))) (omega (arith, lt)) early in
    record { within = rw first (omega (arith, more.within)); same = rw first more.same; all = rw first (ap (λ l. x ∷ l) more.all) }

pub last_early : (n : ℕ) (items : List Owned) (p : ℕ) → IsInOrder items → nat_lt (owned_at items p).number n ≡ true → (t : ℕ) (key : List Value) → IsUpTo n items t key (Some p) → IsLastOn (before n items) t key (Some p)
last_early n items p order early t key h =
    let front = front_of n items p order h.0 early in
    let one : p + 1 ≡ suc p = omega arith in (
      front.within,
      subst (λ (x : Owned). is_on t key x.write ≡ true) (sym front.same) h.1,
      h.2 ∙ ap (owned_on t key) (ap (λ k. before n (take k items)) one ∙ (front.all ∙ ap (λ k. take k (before n items)) (sym one))),
    )

-- What they tell

pub untouched : (n t : ℕ) (key : List Value) (items : List Owned) → owned_on t key items ≡ [] → touches t key (earlier n items) ≡ false
untouched n t key [] none = refl
untouched n t key (x ∷ xs) none = by (nat_lt x.number n) (is_on t key x.write) refl none (untouched n t key xs)
  where
    by : (a b : Bool) → is_on t key x.write ≡ b → cond b (x ∷ owned_on t key xs) (owned_on t key xs) ≡ [] → (owned_on t key xs ≡ [] → touches t key (earlier n xs) ≡ false)
        → touches t key (map (λ (o : Owned). o.write) (cond a (x ∷ before n xs) (before n xs))) ≡ false
    by true true e none more = cc
    by true false e none more = ap (λ b. b || touches t key (earlier n xs)) e ∙ more none
    by false b e none more = by_rest b none
      where
        by_rest : (b : Bool) → cond b (x ∷ owned_on t key xs) (owned_on t key xs) ≡ [] → touches t key (earlier n xs) ≡ false
        by_rest true none = cc
        by_rest false none = more none

touched_by : (t : ℕ) (key : List Value) (xs : List Owned) (m : Option ℕ) → IsLastOn xs t key m → touches t key (map (λ (o : Owned). o.write) xs) ≡ is_some m
touched_by t key [] None last = refl
touched_by t key [] (Some p) last = absurd (omega (arith, last.0))
touched_by t key (x ∷ xs) None last = by (is_on t key x.write) refl last (touched_by t key xs None)
  where
    by : (b : Bool) → is_on t key x.write ≡ b → cond b (x ∷ owned_on t key xs) (owned_on t key xs) ≡ [] → (owned_on t key xs ≡ [] → touches t key (map (λ (o : Owned). o.write) xs) ≡ false) → b || touches t key (map (λ (o : Owned). o.write) xs) ≡ false
    by true e none more = cc
    by false e none more = more none
touched_by t key (x ∷ xs) (Some p) last = reached (x ∷ xs) p last.0 last.1
  where
    reached : (ys : List Owned) (p : ℕ) → p < length ys → is_on t key (owned_at ys p).write ≡ true → touches t key (map (λ (o : Owned). o.write) ys) ≡ true
    reached [] p lt on = absurd (omega (arith, lt))
    reached (y ∷ ys) zero lt on = ap (λ b. b || touches t key (map (λ (o : Owned). o.write) ys)) on
    reached (y ∷ ys) (suc p) lt on = by (is_on t key y.write) (reached ys p (omega (arith, lt)) on)
      where
        by : (b : Bool) → touches t key (map (λ (o : Owned). o.write) ys) ≡ true → b || touches t key (map (λ (o : Owned). o.write) ys) ≡ true
        by true more = refl
        by false more = more

pub touched_last : (n t : ℕ) (key : List Value) (items : List Owned) (m : Option ℕ) → IsLastOn (before n items) t key m → is_some m ≡ touches t key (earlier n items)
touched_last n t key items m last = sym (touched_by t key (before n items) m last)

pub writes_lined : (t : ℕ) (key : List Value) (ys : List Owned) → writes_on t key (map (λ o. o.write) ys) ≡ map (λ o. o.write) (owned_on t key ys)
writes_lined t key [] = refl
writes_lined t key (y ∷ ys) = by (is_on t key y.write) (writes_lined t key ys)
  where
    by : (b : Bool) → writes_on t key (map (λ (o : Owned). o.write) ys) ≡ map (λ (o : Owned). o.write) (owned_on t key ys)
        → cond b (y.write ∷ writes_on t key (map (λ (o : Owned). o.write) ys)) (writes_on t key (map (λ (o : Owned). o.write) ys)) ≡ map (λ (o : Owned). o.write) (cond b (y ∷ owned_on t key ys) (owned_on t key ys))
    by true more = ap (λ l. y.write ∷ l) more
    by false more = more

-- what is kept for the last write to a key does what all do; `front` are the first of the writes
pub kept_last : (items : List Owned) (composed : List (Option Patch)) (len : ℕ) (front : List Owned) (t : ℕ) (key : List Value) (m : Option ℕ) → IsComposed items composed → front ≡ take len items → IsLastOn front t key m
    → DoesAll (option_map (patch_at items composed) m) (writes_on t key (map (λ o. o.write) front))
kept_last items composed len front t key None kept is last = writes_lined t key front ∙ ap (map (λ (o : Owned). o.write)) last
kept_last items composed len front t key (Some p) kept is last = λ was.
    kept.each p within was
    ∙ ap (λ ws. patched_by ws was)
    (ap (map (λ (o : Owned). o.write))
    (ap (λ u. owned_on u (owned_at items p).write.key (take (p + 1) items)) two.0
    ∙ (ap (λ k. owned_on t k (take (p + 1) items)) two.1 ∙ (ap (owned_on t key) (sym (ap (take (p + 1)) is ∙ take-take (p + 1) len items (omega (arith, low)))) ∙ sym last.2)))
    ∙ sym (writes_lined t key front))
  where
    low : p < len
    low = omega (arith, subst (λ (xs : List Owned). p < length xs) is last.0, length-take len items)

    within : p < length items
    within = omega (arith, subst (λ (xs : List Owned). p < length xs) is last.0, length-take len items)

    two : ((owned_at items p).write.table ≡ t) × ((owned_at items p).write.key ≡ key)
    two = on_parts t key (owned_at items p) (subst (λ (x : Owned). is_on t key x.write ≡ true) (ap (λ xs. owned_at xs p) is ∙ at_take items len p low) last.1)

pub kept_all : (items : List Owned) (composed : List (Option Patch)) (t : ℕ) (key : List Value) (m : Option ℕ) → IsComposed items composed → IsLastOn items t key m → DoesAll (option_map (patch_at items composed) m) (writes_on t key (map (λ o. o.write) items))
kept_all items composed t key m kept last = kept_last items composed (length items) items t key m kept (sym (take_all (length items) items (omega arith))) last

-- a place of a link
pub within_last : (xs : List Owned) (t : ℕ) (key : List Value) (m : Option ℕ) → IsLastOn xs t key m → IfSome m (λ p. p < length xs)
within_last xs t key None last = tt
within_last xs t key (Some p) last = last.0

pub within_longer : (n k : ℕ) (m : Option ℕ) → n ≤ k → IfSome m (λ p. p < n) → IfSome m (λ p. p < k)
within_longer n k None le h = tt
within_longer n k (Some p) le h = omega (arith, le, h)

-- a skip goes to an earlier write to the key
pub skip_at : (items : List Owned) (links : List Link) (p q : ℕ) → IsLinked items links → p < length items → (link_at links p).far ≡ Some q → (q < p) × AreToOneKey items p q
skip_at items links p q linked lt is = subst (λ m. IfSome m (λ q. (q < p) × AreToOneKey items p q)) is (linked.far p lt)

pub one_key_through : (items : List Owned) (p q r : ℕ) → AreToOneKey items p q → AreToOneKey items q r → AreToOneKey items p r
one_key_through items p q r h k =
    let two = on_parts (owned_at items p).write.table (owned_at items p).write.key (owned_at items q) h in
    subst (λ u. is_on u (owned_at items p).write.key (owned_at items r).write ≡ true) two.0 (subst (λ l. is_on (owned_at items q).write.table l (owned_at items r).write ≡ true) two.1 k)

pub some_weaker : (m : Option ℕ) (F G : ℕ → Type 0) → ((q : ℕ) → F q → G q) → IfSome m F → IfSome m G
some_weaker None F G f h = tt
some_weaker (Some q) F G f h = f q h

-- a link goes back
pub link_within : (items : List Owned) (links : List Link) (p : ℕ) (m : Option ℕ) → IsLinked items links → p < length items → m ≡ (link_at links p).before → IfSome m (λ q. q < p)
link_within items links p m linked lt is =
    within_longer (length (take p items)) p m (omega (arith, length-take p items)) (within_last (take p items) (owned_at items p).write.table (owned_at items p).write.key m (subst (IsLastOn (take p items) (owned_at items p).write.table (owned_at items p).write.key) (sym is) (linked.each p lt)))

pub reach_less : (p : ℕ) (m : Option ℕ) → IfSome m (λ q. q < p) → reach m < p + 1
reach_less p None h = omega arith
reach_less p (Some q) h = omega (arith, h)

-- The front of the writes

-- those of earlier records are the first ones
pub front_is : (n : ℕ) (items : List Owned) → IsInOrder items → before n items ≡ take (length (before n items)) items
front_is n [] order = refl
front_is n (x ∷ xs) order = by (nat_lt x.number n) refl (front_is n xs (λ i j d lt within. order (suc i) (suc j) d (omega (arith, lt)) (omega (arith, within))))
  where
    by : (b : Bool) → nat_lt x.number n ≡ b → before n xs ≡ take (length (before n xs)) xs → cond b (x ∷ before n xs) (before n xs) ≡ take (length (cond b (x ∷ before n xs) (before n xs))) (x ∷ xs)
    by true e more = ap (λ l. x ∷ l) more
    by false e more = let none = all_late n x xs order e in none ∙ sym (ap (λ l. take (length {A = Owned} l) (x ∷ xs)) none)

before_length : (n : ℕ) (items : List Owned) → length (before n items) ≤ length items
before_length n [] = omega arith
before_length n (x ∷ xs) = by (nat_lt x.number n) (before_length n xs)
  where
    by : (b : Bool) → length (before n xs) ≤ length xs → length (cond b (x ∷ before n xs) (before n xs)) ≤ length (x ∷ xs)
    by true more = omega (arith, more)
    by false more = omega (arith, more)

pub front_within : (n t : ℕ) (key : List Value) (items : List Owned) (m : Option ℕ) → IsLastOn (before n items) t key m → IfSome m (λ p. p < length items)
front_within n t key items m last = within_longer (length (before n items)) (length items) m (before_length n items) (within_last (before n items) t key m last)

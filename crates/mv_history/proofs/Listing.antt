-- The changes between two databases, in the order of tables and keys.
use Rattle.std.proofs.Common.{◌≡◌, ◌<◌, ℕ, zero, suc, ◌+◌, Bool, true, false, List, [], ◌∷◌, ◌++◌, Option, Some, None, All, length, if◌then◌else◌, refl, sym, ap, subst, ◌∙◌, arith, append-nil, append_assoc}
use Rattle.std.specs.Prelude.{◌==◌, ◌&&◌, nat_lt, pos}
use Rattle.std.specs.List.{filter, flat_map}
use Rattle.std.specs.Ordering.{is_eq}
use Rattle.std.specs.declared.cmp.Ordering.{Ordering}
use Rattle.std.specs.declared.cmp.Ordering.TheVariants.{Less, Equal, Greater}
use Rattle.std.proofs.lemmas.Bool.Decides.{nat_tests}
use Rattle.std.proofs.lemmas.List.Elements.{filter-append, All-nil, All-cons}
use Rattle.std.proofs.lemmas.List.Kept.{AllPairs-cons}
use Rattle.std.proofs.lemmas.Bool.{eqb-true, eq-eqb, ne_eqb, and_right, and_parts}
use Rattle.mv_values.specs.declared.value.Value.{Value}
use Rattle.mv_values.specs.declared.value.Value.TheVariants.{Int}
use Rattle.mv_values.specs.declared.rows.Keyed.{Keyed}
use Rattle.mv_values.specs.Order.{key_order}
use Rattle.mv_values.specs.Patching.{row_of, placed}
use Rattle.mv_values.specs.Tables.{rows_at}
use Rattle.mv_values.proofs.KeyOrder.{key_order_total, exact_keys, tied, same_key, turned, same_table}
use Rattle.mv_record.specs.Writes.{AreRising}
use Rattle.mv_record.proofs.Patching.{placed_other, placed_rises, row_of-placed_same}
use Rattle.mv_record.proofs.Rising.{Above, Rises, rises_from, rising_from, row_here, row_later, row_below}
use Rattle.mv_history.specs.declared.change.Change.{Change}
use Rattle.mv_history.specs.Changes.{is_same, change_of, united, changes_of, changes_upwards, changes_between, is_of, place, InOrder, ListsChanges}

-- One key

pub same_is : (a b : Option (List Value)) → is_same a b ≡ true → a ≡ b
same_is None None h = refl
same_is (Some a) (Some b) h = ap Some (tied a b h)
same_is None (Some b) h = cc
same_is (Some a) None h = cc

pub same_itself : (a : Option (List Value)) → is_same a a ≡ true
same_itself None = refl
same_itself (Some a) = ap is_eq (same_key a)

own_change : (t : ℕ) (key : List Value) → ((t == t) && is_eq (key_order key key)) ≡ true
own_change t key = ap (λ b. b && is_eq (key_order key key)) (eq-eqb t t refl) ∙ ap is_eq (same_key key)

filter_one : (p : Change → Bool) (c : Change) → p c ≡ true → filter p (c ∷ []) ≡ c ∷ []
filter_one p c h = rw h refl

filter_none : (p : Change → Bool) (c : Change) → p c ≡ false → filter p (c ∷ []) ≡ []
filter_none p c h = rw h refl

abbrev made : ℕ → List Value → Option (List Value) → Option (List Value) → Change
made t key before after = record { table = t; key = key; before = before; after = after }

one_own : (t : ℕ) (key : List Value) (before after : Option (List Value)) → filter (is_of t key) (change_of t key before after) ≡ change_of t key before after
one_own t key before after = by (is_same before after)
  where
    by : (b : Bool) → filter (is_of t key) (if b then [] else made t key before after ∷ []) ≡ (if b then [] else made t key before after ∷ [])
    by true = refl
    by false = filter_one (is_of t key) (made t key before after) (own_change t key)

one_other : (p : Change → Bool) (t : ℕ) (key : List Value) (before after : Option (List Value)) → p (made t key before after) ≡ false → filter p (change_of t key before after) ≡ []
one_other p t key before after h = by (is_same before after)
  where
    by : (b : Bool) → filter p (if b then [] else made t key before after ∷ []) ≡ []
    by true = refl
    by false = filter_none p (made t key before after) h

-- One table

abbrev from_row : (Change → Bool) → (Keyed → List Change) → List Value → Option (List Value) → List Change
from_row p f key None = []
from_row p f key (Some row) = filter p (f (record { key = key; row = row }))

only_one : (p : Change → Bool) (f : Keyed → List Change) (key : List Value) (xs : List Keyed) → Rises xs → ((item : Keyed) → is_eq (key_order item.key key) ≡ false → filter p (f item) ≡ [])
    → filter p (flat_map f xs) ≡ from_row p f key (row_of xs key)
only_one p f key [] h apart = refl
only_one p f key (x ∷ xs) h apart = filter-append p (f x) (flat_map f xs) ∙ by (key_order x.key key) refl (only_one p f key xs h.1 apart)
  where
    other : is_eq (key_order x.key key) ≡ false → filter p (flat_map f xs) ≡ from_row p f key (row_of xs key) → filter p (f x) ++ filter p (flat_map f xs) ≡ from_row p f key (row_of (x ∷ xs) key)
    other e more = ap (λ l. l ++ filter p (flat_map f xs)) (apart x e) ∙ (more ∙ sym (ap (from_row p f key) (row_later x xs key e)))

    by : (o : Ordering) → key_order x.key key ≡ o → filter p (flat_map f xs) ≡ from_row p f key (row_of xs key) → filter p (f x) ++ filter p (flat_map f xs) ≡ from_row p f key (row_of (x ∷ xs) key)
    by Less e more = other (ap is_eq e) more
    by Greater e more = other (ap is_eq e) more
    by Equal e more =
        let k : x.key ≡ key = exact_keys x.key key e in
        let none : row_of xs key ≡ None = row_below key xs (subst (λ k. Above k xs) k h.0) in
        let rest : filter p (flat_map f xs) ≡ [] = more ∙ ap (from_row p f key) none in
        let it : x ≡ record { key = key; row = x.row } = ap (λ j. record { key = j; row = x.row }) k in
        ap (λ l. filter p (f x) ++ l) rest ∙ (append-nil (filter p (f x)) ∙ (ap (λ i. filter p (f i)) it ∙ sym (ap (from_row p f key) (row_here x xs key e))))

united_rises : (o n : List Keyed) → Rises n → Rises (united o n)
united_rises [] n h = h
united_rises (x ∷ xs) n h = placed_rises x.key (Some x.row) (united xs n) (united_rises xs n h)

-- a key that both tables lack
united_lacks : (o n : List Keyed) (key : List Value) → Rises n → row_of (united o n) key ≡ None → (row_of o key ≡ None) × (row_of n key ≡ None)
united_lacks [] n key h e = (refl, e)
united_lacks (x ∷ xs) n key h e = by (united_lacks xs n key h) (is_eq (key_order x.key key)) refl
  where
    by : (row_of (united xs n) key ≡ None → (row_of xs key ≡ None) × (row_of n key ≡ None)) → (b : Bool) → is_eq (key_order x.key key) ≡ b → (row_of (x ∷ xs) key ≡ None) × (row_of n key ≡ None)
    by more true k =
        let there : row_of (placed x.key (Some x.row) (united xs n)) x.key ≡ Some x.row = row_of-placed_same x.key (Some x.row) (united xs n) (rising_from (united xs n) (united_rises xs n h)) in
        let here : row_of (placed x.key (Some x.row) (united xs n)) x.key ≡ None = ap (row_of (placed x.key (Some x.row) (united xs n))) (tied x.key key k) ∙ e in
        absurd (clash x.row (sym there ∙ here))
      where
        clash : (row : List Value) → ◌≡◌ {A = Option (List Value)} (Some row) None → ⊥
        clash row h = cc
    by more false k =
        let rest = more (sym (placed_other x.key (Some x.row) (united xs n) key k) ∙ e) in
        (row_later x xs key k ∙ rest.0, rest.1)

abbrev pub change_at : ℕ → List Keyed → List Keyed → Keyed → List Change
change_at t o n item = change_of t item.key (row_of o item.key) (row_of n item.key)

table_lists : (t : ℕ) (key : List Value) (o n : List Keyed) → Rises n → filter (is_of t key) (changes_of t o n) ≡ change_of t key (row_of o key) (row_of n key)
table_lists t key o n h =
    only_one (is_of t key) (change_at t o n) key (united o n) (united_rises o n h) (λ item e. one_other (is_of t key) t item.key (row_of o item.key) (row_of n item.key) (apart item.key e))
    ∙ by (row_of (united o n) key) refl
  where
    apart : (j : List Value) → is_eq (key_order j key) ≡ false → ((t == t) && is_eq (key_order j key)) ≡ false
    apart j e = ap (λ b. (t == t) && b) e ∙ and_right (t == t) false refl

    by : (r : Option (List Value)) → row_of (united o n) key ≡ r → from_row (is_of t key) (change_at t o n) key r ≡ change_of t key (row_of o key) (row_of n key)
    by None e = let no = united_lacks o n key h e in sym (ap (λ r. change_of t key r (row_of n key)) no.0 ∙ ap (change_of t key None) no.1)
    by (Some r) e = one_own t key (row_of o key) (row_of n key)

-- All tables

none_from : (p : Change → Bool) (f : Keyed → List Change) (xs : List Keyed) → ((x : Keyed) → filter p (f x) ≡ []) → filter p (flat_map f xs) ≡ []
none_from p f [] h = refl
none_from p f (x ∷ xs) h = filter-append p (f x) (flat_map f xs) ∙ (ap (λ l. l ++ filter p (flat_map f xs)) (h x) ∙ none_from p f xs h)

table_other : (u t : ℕ) (key : List Value) (o n : List Keyed) → (u ≡ t → ⊥) → filter (is_of t key) (changes_of u o n) ≡ []
table_other u t key o n h =
    none_from (is_of t key) (change_at u o n) (united o n) (λ item. one_other (is_of t key) u item.key (row_of o item.key) (row_of n item.key) (ap (λ b. b && is_eq (key_order item.key key)) (ne_eqb u t h)))

higher : (u t : ℕ) (key : List Value) (os ns : List (List Keyed)) → t < u → filter (is_of t key) (changes_upwards u os ns) ≡ []
higher u t key [] ns h = refl
higher u t key (o ∷ os) [] h = refl
higher u t key (o ∷ os) (n ∷ ns) h =
    filter-append (is_of t key) (changes_of u o n) (changes_upwards (u + 1) os ns)
    ∙ (ap (λ l. l ++ filter (is_of t key) (changes_upwards (u + 1) os ns)) (table_other u t key o n (λ e. omega (arith, h, e))) ∙ higher (u + 1) t key os ns (omega (arith, h)))

upwards : (u t k : ℕ) (key : List Value) (os ns : List (List Keyed)) → t ≡ u + k → length os ≡ length ns → ((i : ℕ) → Rises (rows_at ns i))
    → filter (is_of t key) (changes_upwards u os ns) ≡ change_of t key (row_of (rows_at os k) key) (row_of (rows_at ns k) key)
upwards u t k key [] [] e len g = refl
upwards u t k key [] (n ∷ ns) e len g = absurd (omega (arith, len))
upwards u t k key (o ∷ os) [] e len g = absurd (omega (arith, len))
upwards u t zero key (o ∷ os) (n ∷ ns) e len g =
    let same : u ≡ t = omega (arith, e) in
    filter-append (is_of t key) (changes_of u o n) (changes_upwards (u + 1) os ns)
    ∙ (ap (λ l. filter (is_of t key) (changes_of u o n) ++ l) (higher (u + 1) t key os ns (omega (arith, e)))
    ∙ (append-nil (filter (is_of t key) (changes_of u o n))
    ∙ (ap (λ v. filter (is_of t key) (changes_of v o n)) same ∙ table_lists t key o n (g 0))))
upwards u t (suc k) key (o ∷ os) (n ∷ ns) e len g =
    filter-append (is_of t key) (changes_of u o n) (changes_upwards (u + 1) os ns)
    ∙ (ap (λ l. l ++ filter (is_of t key) (changes_upwards (u + 1) os ns)) (table_other u t key o n (λ s. omega (arith, e, s)))
    ∙ upwards (u + 1) t k key os ns (omega (arith, e)) (omega (arith, len)) (λ i. g (suc i)))

-- Order, by recursion

-- the place is before those of the changes
abbrev pub After : List Value → List Change → Type 0
After low [] = Unit {0}
After low (c ∷ cs) = (key_order low (place c) ≡ Less) × After low cs

abbrev pub Ordered : List Change → Type 0
Ordered [] = Unit {0}
Ordered (c ∷ cs) = After (place c) cs × Ordered cs

after_from : (low : List Value) (cs : List Change) → All (λ c. key_order low (place c) ≡ Less) cs → After low cs
after_from low [] h = tt
after_from low (c ∷ cs) h = (h 0 c (omega arith), after_from low cs (λ k d lt. h (suc k) d (omega (arith, lt))))

after_all : (low : List Value) (cs : List Change) → After low cs → All (λ c. key_order low (place c) ≡ Less) cs
after_all low [] h = All-nil (λ c. key_order low (place c) ≡ Less)
after_all low (c ∷ cs) h = All-cons (λ c. key_order low (place c) ≡ Less) c cs h.0 (after_all low cs h.1)

pub ordered_from : (cs : List Change) → InOrder cs → Ordered cs
ordered_from [] h = tt
ordered_from (c ∷ cs) h =
    (after_from (place c) cs (λ j d lt. h 0 (suc j) d (omega arith) (omega (arith, lt))), ordered_from cs (λ i j d lt within. h (suc i) (suc j) d (omega (arith, lt)) (omega (arith, within))))

pub in_order : (cs : List Change) → Ordered cs → InOrder cs
in_order [] h = λ i j d lt within. absurd (omega (arith, within))
in_order (c ∷ cs) h = AllPairs-cons (λ a b. key_order (place a) (place b) ≡ Less) c cs (after_all (place c) cs h.0) (in_order cs h.1)

lower : (low mid : List Value) (cs : List Change) → key_order low mid ≡ Less → After mid cs → After low cs
lower low mid [] e h = tt
lower low mid (c ∷ cs) e h = (key_order_total.trans low mid (place c) e h.0, lower low mid cs e h.1)

after_append : (low : List Value) (cs ds : List Change) → After low cs → After low ds → After low (cs ++ ds)
after_append low [] ds h k = k
after_append low (c ∷ cs) ds h k = (h.0, after_append low cs ds h.1 k)

lower_table : (t u : ℕ) (a b : List Value) → t < u → key_order (Int (pos t) ∷ a) (Int (pos u) ∷ b) ≡ Less
lower_table t u a b h = let lt : nat_lt t u ≡ true = grind (arith, nat_tests) in rw lt refl

-- the changes of keys above one of the same table, and of any keys of a higher table
one_after : (low : List Value) (t : ℕ) (key : List Value) (before after : Option (List Value)) → key_order low (Int (pos t) ∷ key) ≡ Less → After low (change_of t key before after)
one_after low t key before after h = by (is_same before after)
  where
    by : (b : Bool) → After low (if b then [] else made t key before after ∷ [])
    by true = tt
    by false = (h, tt)

rows_after : (t : ℕ) (o n : List Keyed) (key : List Value) (xs : List Keyed) → Above key xs → After (Int (pos t) ∷ key) (flat_map (change_at t o n) xs)
rows_after t o n key [] h = tt
rows_after t o n key (x ∷ xs) h =
    after_append (Int (pos t) ∷ key) (change_at t o n x) (flat_map (change_at t o n) xs)
    (one_after (Int (pos t) ∷ key) t x.key (row_of o x.key) (row_of n x.key) (same_table t key x.key ∙ h.0)) (rows_after t o n key xs h.1)

table_after : (t u : ℕ) (o n : List Keyed) (key : List Value) (xs : List Keyed) → t < u → After (Int (pos t) ∷ key) (flat_map (change_at u o n) xs)
table_after t u o n key [] h = tt
table_after t u o n key (x ∷ xs) h =
    after_append (Int (pos t) ∷ key) (change_at u o n x) (flat_map (change_at u o n) xs)
    (one_after (Int (pos t) ∷ key) u x.key (row_of o x.key) (row_of n x.key) (lower_table t u key x.key h)) (table_after t u o n key xs h)

upwards_after : (t u : ℕ) (key : List Value) (os ns : List (List Keyed)) → t < u → After (Int (pos t) ∷ key) (changes_upwards u os ns)
upwards_after t u key [] ns h = tt
upwards_after t u key (o ∷ os) [] h = tt
upwards_after t u key (o ∷ os) (n ∷ ns) h =
    after_append (Int (pos t) ∷ key) (changes_of u o n) (changes_upwards (u + 1) os ns) (table_after t u o n key (united o n) h) (upwards_after t (u + 1) key os ns (omega (arith, h)))

-- the changes of a table, before those of higher tables
one_first : (t : ℕ) (key : List Value) (before after : Option (List Value)) (cs : List Change) → After (Int (pos t) ∷ key) cs → Ordered cs → Ordered (change_of t key before after ++ cs)
one_first t key before after cs h k = by (is_same before after)
  where
    by : (b : Bool) → Ordered ((if b then [] else made t key before after ∷ []) ++ cs)
    by true = k
    by false = (h, k)

rows_ordered : (t : ℕ) (o n : List Keyed) (xs : List Keyed) (cs : List Change) → Rises xs → ((key : List Value) → After (Int (pos t) ∷ key) cs) → Ordered cs → Ordered (flat_map (change_at t o n) xs ++ cs)
rows_ordered t o n [] cs h above k = k
rows_ordered t o n (x ∷ xs) cs h above k =
    subst Ordered (sym (append_assoc (change_at t o n x) (flat_map (change_at t o n) xs) cs))
    (one_first t x.key (row_of o x.key) (row_of n x.key) (flat_map (change_at t o n) xs ++ cs)
    (after_append (Int (pos t) ∷ x.key) (flat_map (change_at t o n) xs) cs (rows_after t o n x.key xs h.0) (above x.key)) (rows_ordered t o n xs cs h.1 above k))

upwards_ordered : (u : ℕ) (os ns : List (List Keyed)) → length os ≡ length ns → ((i : ℕ) → Rises (rows_at ns i)) → Ordered (changes_upwards u os ns)
upwards_ordered u [] [] len g = tt
upwards_ordered u [] (n ∷ ns) len g = absurd (omega (arith, len))
upwards_ordered u (o ∷ os) [] len g = absurd (omega (arith, len))
upwards_ordered u (o ∷ os) (n ∷ ns) len g =
    rows_ordered u o n (united o n) (changes_upwards (u + 1) os ns) (united_rises o n (g 0)) (λ key. upwards_after u (u + 1) key os ns (omega arith))
    (upwards_ordered (u + 1) os ns (omega (arith, len)) (λ i. g (suc i)))

pub changes_listed : (old new : List (List Keyed)) → AreRising old → AreRising new → length old ≡ length new → ListsChanges (changes_between old new) old new
changes_listed old new h g len = record {
  order = in_order (changes_between old new) (upwards_ordered 0 old new len (λ i. rises_from (rows_at new i) (g i)));
  each = λ t key. upwards 0 t t key old new (omega arith) len (λ i. rises_from (rows_at new i) (g i));
}

-- One list alone

pub place_of : (t : ℕ) (key : List Value) (c : Change) → is_of t key c ≡ true → place c ≡ Int (pos t) ∷ key
place_of t key c h =
    let two = and_parts (c.table == t) (is_eq (key_order c.key key)) h in
    ap (λ n. Int (pos n) ∷ c.key) (eqb-true c.table t two.0) ∙ ap (λ k. Int (pos t) ∷ k) (tied c.key key two.1)

not_less : (low : List Value) (c : Change) → place c ≡ low → key_order low (place c) ≡ Less → ⊥
not_less low c e h = let same : key_order low (place c) ≡ Equal = ap (key_order low) e ∙ same_key low in clash (sym same ∙ h)
  where
    clash : ◌≡◌ {A = Ordering} Equal Less → ⊥
    clash h = cc

pub none_after : (t : ℕ) (key : List Value) (cs : List Change) → After (Int (pos t) ∷ key) cs → filter (is_of t key) cs ≡ []
none_after t key [] h = refl
none_after t key (c ∷ cs) h = by (is_of t key c) refl (none_after t key cs h.1)
  where
    by : (b : Bool) → is_of t key c ≡ b → filter (is_of t key) cs ≡ [] → filter (is_of t key) (c ∷ cs) ≡ []
    by true e more = absurd (not_less (Int (pos t) ∷ key) c (place_of t key c e) h.0)
    by false e more = rw e more

own_first : (c : Change) (cs : List Change) → filter (is_of c.table c.key) (c ∷ cs) ≡ c ∷ filter (is_of c.table c.key) cs
own_first c cs = rw (own_change c.table c.key) refl

some_none : (c : Change) (cs : List Change) → c ∷ cs ≡ [] → ⊥
some_none c cs h = cc

abbrev Same : List Change → List Change → Type 0
Same cs ds = (t : ℕ) (key : List Value) → filter (is_of t key) cs ≡ filter (is_of t key) ds

same_heads : (c : Change) (cs ds : List Change) → After (place c) ds → Same (c ∷ cs) ds → ⊥
same_heads c cs ds h same = some_none c (filter (is_of c.table c.key) cs) (sym (own_first c cs) ∙ (same c.table c.key ∙ none_after c.table c.key ds h))

pub listed_once : (cs ds : List Change) → Ordered cs → Ordered ds → ((t : ℕ) (key : List Value) → filter (is_of t key) cs ≡ filter (is_of t key) ds) → cs ≡ ds
listed_once [] [] h g same = refl
listed_once [] (d ∷ ds) h g same = absurd (same_heads d ds [] tt (λ t key. sym (same t key)))
listed_once (c ∷ cs) [] h g same = absurd (same_heads c cs [] tt same)
listed_once (c ∷ cs) (d ∷ ds) h g same = by (listed_once cs ds h.1 g.1) (key_order (place c) (place d)) refl
  where
    equal : (Same cs ds → cs ≡ ds) → place c ≡ place d → c ∷ cs ≡ d ∷ ds
    equal more e =
        let first : c ∷ filter (is_of c.table c.key) cs ≡ filter (is_of c.table c.key) (d ∷ ds) = sym (own_first c cs) ∙ same c.table c.key in
        let heads : c ≡ d = first_of c d (filter (is_of c.table c.key) cs) ds e first in
        ap (λ x. x ∷ cs) heads ∙ ap (λ l. d ∷ l) (more (λ t key. tails t key heads))
      where
        first_of : (c d : Change) (cs ds : List Change) → place c ≡ place d → c ∷ cs ≡ filter (is_of c.table c.key) (d ∷ ds) → c ≡ d
        first_of c d cs ds e h =
            let t : c.table ≡ d.table = (let n : ◌≡◌ {A = Value} (Int (pos c.table)) (Int (pos d.table)) = cc in cc) in
            let k : c.key ≡ d.key = cc in
            let there : filter (is_of c.table c.key) (d ∷ ds) ≡ d ∷ filter (is_of d.table d.key) ds = ap (λ n. filter (is_of n c.key) (d ∷ ds)) t ∙ (ap (λ k. filter (is_of d.table k) (d ∷ ds)) k ∙ own_first d ds) in
            heads_of (h ∙ there)
          where
            heads_of : {xs ys : List Change} → c ∷ xs ≡ d ∷ ys → c ≡ d
            heads_of h = cc

        strip : (t : ℕ) (key : List Value) (b : Bool) (xs ys : List Change) → (if b then d ∷ xs else xs) ≡ (if b then d ∷ ys else ys) → xs ≡ ys
        strip t key true xs ys h = cc
        strip t key false xs ys h = h

        tails : (t : ℕ) (key : List Value) → c ≡ d → filter (is_of t key) cs ≡ filter (is_of t key) ds
        tails t key heads =
            strip t key (is_of t key d) (filter (is_of t key) cs) (filter (is_of t key) ds) (ap (λ x. filter (is_of t key) (x ∷ cs)) (sym heads) ∙ same t key)

    by : (Same cs ds → cs ≡ ds) → (o : Ordering) → key_order (place c) (place d) ≡ o → c ∷ cs ≡ d ∷ ds
    by more Less e = absurd (same_heads c cs (d ∷ ds) (e, lower (place c) (place d) ds e g.0) same)
    by more Equal e = equal more (exact_keys (place c) (place d) e)
    by more Greater e =
        let back : key_order (place d) (place c) ≡ Less = turned (place c) (place d) Greater e in
        absurd (same_heads d ds (c ∷ cs) (back, lower (place d) (place c) cs back h.0) (λ t key. sym (same t key)))

pub only_these : (old new : List (List Keyed)) → AreRising old → AreRising new → length old ≡ length new → (changes : List Change) → ListsChanges changes old new → changes ≡ changes_between old new
only_these old new h g len changes lists =
    let these = changes_listed old new h g len in
    listed_once changes (changes_between old new) (ordered_from changes lists.order) (ordered_from (changes_between old new) these.order) (λ t key. lists.each t key ∙ sym (these.each t key))

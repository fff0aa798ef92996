-- How the changes of a commit are made of its writes.
use Rattle.std.proofs.Common.{◌≡◌, ℕ, ◌+◌, ◌<◌, ◌≤◌, Bool, true, false, cond, List, [], ◌∷◌, ◌++◌, Option, Some, None, zero, suc, length, if◌then◌else◌, refl, sym, ap, subst, ◌∙◌, arith, append_assoc, append-nil, length-append, slice_index_or, take, drop, take-append-drop}
use Rattle.std.specs.Prelude.{◌==◌, ◌&&◌, ◌||◌, nat_lt, pos, All}
use Rattle.std.specs.List.{filter, AllByRecursion}
use Rattle.std.specs.Ordering.{is_eq}
use Rattle.std.specs.declared.cmp.Ordering.{Ordering}
use Rattle.std.specs.declared.cmp.Ordering.TheVariants.{Less, Equal, Greater}
use Rattle.std.proofs.Math.ListN.{get_or-append}
use Rattle.std.proofs.lemmas.Grind.{flat_map-append}
use Rattle.std.proofs.lemmas.List.{take_more}
use Rattle.std.proofs.Math.Seq.{get_or-append_seam}
use Rattle.std.proofs.lemmas.Bool.Decides.{eqb_tells, nat_tests}
use Rattle.std.proofs.lemmas.List.Elements.{filter-append, All-from_recursion, recursion_from_All, All-nil}
use Rattle.std.proofs.lemmas.List.Folds.{list_any-append}
use Rattle.std.proofs.lemmas.Bool.{and_parts, eqb-true, ltb-true, lt-ltb, and_right, or_right}
use Rattle.mv_values.specs.declared.value.Value.{Value}
use Rattle.mv_values.specs.declared.value.Value.TheVariants.{Int}
use Rattle.mv_values.specs.declared.patch.Write.{Write}
use Rattle.mv_values.specs.Order.{key_order}
use Rattle.mv_values.specs.Patching.{row_of, patched, applied}
use Rattle.mv_values.specs.Tables.{rows_at, Tables}
use Rattle.mv_values.proofs.KeyOrder.{exact_keys, tied, same_key}
use Rattle.mv_values.proofs.Deciding.{or_none}
use Rattle.mv_record.specs.declared.record.Record.{Record}
use Rattle.mv_record.specs.Runs.{writes_in}
use Rattle.mv_record.specs.Writes.{AreRising, is_on, writes_on, patched_by}
use Rattle.mv_record.proofs.Patching.{row_applied, rising_applied, length_applied, applied_append, none_on}
use Rattle.mv_table.specs.Entries.{item_of, put_by, with_item, KeysRise}
use Rattle.mv_undo.specs.Owning.{touches}
use Rattle.mv_history.specs.declared.change.Change.{Change}
use Rattle.mv_history.specs.Changes.{is_same, change_of, changes_between, is_of, place, InOrder, ListsChanges}
use Rattle.mv_history.proofs.Listing.{same_itself, After, Ordered, in_order, none_after, place_of, only_these}
use Rattle.mv_changes.specs.Drafting.{changed_by, drafted, IsDraft, differing}

abbrev pub Entry : Type 0
Entry = List Value × Change

-- Keys with their tables

abbrev full : Write → List Value
full w = Int (pos w.table) ∷ w.key

pos_same : (a b : ℕ) → ◌≡◌ {A = Value} (Int (pos a)) (Int (pos b)) → a ≡ b
pos_same a b h = cc

full_table : (w : Write) (t : ℕ) (key : List Value) → full w ≡ Int (pos t) ∷ key → w.table ≡ t
full_table w t key h = let first : ◌≡◌ {A = Value} (Int (pos w.table)) (Int (pos t)) = cc in pos_same w.table t first

full_key : (w : Write) (t : ℕ) (key : List Value) → full w ≡ Int (pos t) ∷ key → w.key ≡ key
full_key w t key h = cc

on_full : (w : Write) (t : ℕ) (key : List Value) → is_on t key w ≡ true → full w ≡ Int (pos t) ∷ key
on_full w t key h =
    let two = and_parts (w.table == t) (is_eq (key_order w.key key)) h in
    ap (λ n. Int (pos n) ∷ w.key) (eqb-true w.table t two.0) ∙ ap (λ k. Int (pos t) ∷ k) (tied w.key key two.1)

on_itself : (w : Write) → is_on w.table w.key w ≡ true
on_itself w = let same : (w.table == w.table) ≡ true = grind (arith, eqb_tells) in ap (λ b. b && is_eq (key_order w.key w.key)) same ∙ ap is_eq (same_key w.key)

off : (w : Write) (t : ℕ) (key : List Value) → is_eq (key_order (full w) (Int (pos t) ∷ key)) ≡ false → is_on t key w ≡ false
off w t key h = by (is_on t key w) refl
  where
    by : (b : Bool) → is_on t key w ≡ b → b ≡ false
    by true e = absurd (clash (ap is_eq (ap (key_order (full w)) (sym (on_full w t key e)) ∙ same_key (full w))))
      where
        clash : is_eq (key_order (full w) (Int (pos t) ∷ key)) ≡ true → ⊥
        clash k = cc
    by false e = refl

-- Writes one after another

touches_more : (ws : List Write) (w : Write) (t : ℕ) (key : List Value) (b : Bool) → is_on t key w ≡ b → touches t key (ws ++ w ∷ []) ≡ (touches t key ws || b)
touches_more ws w t key b h = list_any-append (is_on t key) ws (w ∷ []) ∙ (ap (λ x. touches t key ws || (x || false)) h ∙ ap (λ x. touches t key ws || x) (or_none b))

-- the row of a key that no write has
unwritten : (ws : List Write) (db : Tables) (t : ℕ) (key : List Value) → t < length db → AreRising db → touches t key ws ≡ false → row_of (rows_at (applied ws db) t) key ≡ row_of (rows_at db t) key
unwritten ws db t key lt rising h = row_applied ws db t key lt rising ∙ ap (λ l. patched_by l (row_of (rows_at db t) key)) (none_on t key ws h)

one_on : (t : ℕ) (key : List Value) (w : Write) (b : Bool) → is_on t key w ≡ b → (was : Option (List Value)) → patched_by (writes_on t key (w ∷ [])) was ≡ cond b (patched w.patch was) was
one_on t key w b h was = ap (λ x. patched_by (cond x (w ∷ []) []) was) h ∙ by b
  where
    by : (b : Bool) → patched_by (cond b (w ∷ []) []) was ≡ cond b (patched w.patch was) was
    by true = refl
    by false = refl

-- the row of a key after a write more
row_more : (ws : List Write) (w : Write) (db : Tables) (t : ℕ) (key : List Value) (b : Bool) → t < length db → AreRising db → is_on t key w ≡ b
    → row_of (rows_at (applied (ws ++ w ∷ []) db) t) key ≡ cond b (patched w.patch (row_of (rows_at (applied ws db) t) key)) (row_of (rows_at (applied ws db) t) key)
row_more ws w db t key b lt rising h =
    ap (λ d. row_of (rows_at d t) key) (applied_append ws (w ∷ []) db)
    ∙ (row_applied (w ∷ []) (applied ws db) t key (omega (arith, lt, length_applied ws db)) (rising_applied ws db rising)
    ∙ one_on t key w b h (row_of (rows_at (applied ws db) t) key))

-- The entries under way

abbrev pub HasPlace : Entry → Type 0
HasPlace e = e.0 ≡ place e.1

abbrev OfItem : List Value → Option Change → Type 0
OfItem key None = Unit {0}
OfItem key (Some c) = key ≡ place c

places_with : (key : List Value) (item : Option Change) (es : List Entry) → OfItem key item → AllByRecursion HasPlace es → AllByRecursion HasPlace (with_item key item es)
places_with key None [] h all = tt
places_with key (Some c) [] h all = (h, tt)
places_with key item (e ∷ es) h all = by (key_order e.0 key) item h (places_with key item es h all.1)
  where
    by : (o : Ordering) (item : Option Change) → OfItem key item → AllByRecursion HasPlace (with_item key item es) → AllByRecursion HasPlace (put_by o key item e es (with_item key item es))
    by Less item h more = (all.0, more)
    by Equal None h more = all.1
    by Equal (Some c) h more = (h, all.1)
    by Greater None h more = all
    by Greater (Some c) h more = (h, all)

pub places_put : (key : List Value) (item : Option Change) (es new : List Entry) → OfItem key item → All HasPlace es → new ≡ with_item key item es → All HasPlace new
places_put key item es new h all is = subst (All HasPlace) (sym is) (All-from_recursion HasPlace (with_item key item es) (places_with key item es h (recursion_from_All HasPlace es all)))

pub draft_none : (db : Tables) → IsDraft [] [] db
draft_none db = record {
  places = All-nil HasPlace;
  each = λ t key. sym (ap (λ b. drafted b t key db db) (and_right (nat_lt t (length db)) false refl));
}

-- a key's change from a database to a row
abbrev change_to : Tables → Write → Option (List Value) → Change
change_to db w after = record { table = w.table; key = w.key; before = row_of (rows_at db w.table) w.key; after = after }

-- the change of a write's key after it
change_now : (ws : List Write) (w : Write) (db : Tables) (was : Option Change) → w.table < length db → AreRising db
    → was ≡ drafted (nat_lt w.table (length db) && touches w.table w.key ws) w.table w.key db (applied ws db)
    → changed_by w was (row_of (rows_at db w.table) w.key)
    ≡ record { table = w.table; key = w.key; before = row_of (rows_at db w.table) w.key; after = row_of (rows_at (applied (ws ++ w ∷ []) db) w.table) w.key }
change_now ws w db was lt rising is =
    by (touches w.table w.key ws) refl (is ∙ ap (λ b. drafted (b && touches w.table w.key ws) w.table w.key db (applied ws db)) (lt-ltb w.table (length db) lt))
  where
    after_is : patched w.patch (row_of (rows_at (applied ws db) w.table) w.key) ≡ row_of (rows_at (applied (ws ++ w ∷ []) db) w.table) w.key
    after_is = sym (row_more ws w db w.table w.key true lt rising (on_itself w))

    by : (b : Bool) → touches w.table w.key ws ≡ b → was ≡ drafted b w.table w.key db (applied ws db) → changed_by w was (row_of (rows_at db w.table) w.key) ≡ change_to db w (row_of (rows_at (applied (ws ++ w ∷ []) db) w.table) w.key)
    by true e k = ap (λ o. changed_by w o (row_of (rows_at db w.table) w.key)) k ∙ ap (change_to db w) after_is
    by false e k =
        ap (λ o. changed_by w o (row_of (rows_at db w.table) w.key)) k
        ∙ (ap (λ r. change_to db w (patched w.patch r)) (sym (unwritten ws db w.table w.key lt rising e)) ∙ ap (change_to db w) after_is)

-- the change of another key
other_now : (ws : List Write) (w : Write) (db : Tables) (t : ℕ) (key : List Value) → AreRising db → is_on t key w ≡ false
    → drafted (nat_lt t (length db) && touches t key ws) t key db (applied ws db) ≡ drafted (nat_lt t (length db) && touches t key (ws ++ w ∷ [])) t key db (applied (ws ++ w ∷ []) db)
other_now ws w db t key rising h =
    by (nat_lt t (length db)) refl ∙ ap (λ b. drafted (nat_lt t (length db) && b) t key db (applied (ws ++ w ∷ []) db)) (sym (touches_more ws w t key false h ∙ or_none (touches t key ws)))
  where
    by : (b : Bool) → nat_lt t (length db) ≡ b → drafted (b && touches t key ws) t key db (applied ws db) ≡ drafted (b && touches t key ws) t key db (applied (ws ++ w ∷ []) db)
    by true e = at (touches t key ws)
      where
        at : (x : Bool) → drafted x t key db (applied ws db) ≡ drafted x t key db (applied (ws ++ w ∷ []) db)
        at true = ap (λ r. Some (record { table = t; key = key; before = row_of (rows_at db t) key; after = r })) (sym (row_more ws w db t key false (ltb-true t (length db) e) rising h))
        at false = refl
    by false e = refl

pub draft_more : (es mid new : List Entry) (ws : List Write) (w : Write) (db : Tables) (was : Option Change) (c : Change) → w.table < length db → AreRising db → IsDraft es ws db
    → was ≡ item_of es (Int (pos w.table) ∷ w.key) → mid ≡ with_item (Int (pos w.table) ∷ w.key) None es
    → ((other : List Value) → item_of mid other ≡ cond (is_eq (key_order (Int (pos w.table) ∷ w.key) other)) None (item_of es other))
    → new ≡ with_item (Int (pos w.table) ∷ w.key) (Some c) mid
    → ((other : List Value) → item_of new other ≡ cond (is_eq (key_order (Int (pos w.table) ∷ w.key) other)) (Some c) (item_of mid other))
    → c ≡ changed_by w was (row_of (rows_at db w.table) w.key) → IsDraft new (ws ++ w ∷ []) db
draft_more es mid new ws w db was c lt rising draft had taken without put with' is = record {
  places = places_put (full w) (Some c) mid new (sym (ap place this)) (places_put (full w) None es mid tt draft.places taken) put;
  each = each;
}
  where
    this : c ≡ record { table = w.table; key = w.key; before = row_of (rows_at db w.table) w.key; after = row_of (rows_at (applied (ws ++ w ∷ []) db) w.table) w.key }
    this = is ∙ change_now ws w db was lt rising (had ∙ draft.each w.table w.key)

    each : (t : ℕ) (key : List Value) → item_of new (Int (pos t) ∷ key) ≡ drafted (nat_lt t (length db) && touches t key (ws ++ w ∷ [])) t key db (applied (ws ++ w ∷ []) db)
    each t key = with' (Int (pos t) ∷ key) ∙ by (is_eq (key_order (full w) (Int (pos t) ∷ key))) refl
      where
        here : drafted (nat_lt w.table (length db) && touches w.table w.key (ws ++ w ∷ [])) w.table w.key db (applied (ws ++ w ∷ []) db) ≡ Some c
        here =
            ap (λ b. drafted (b && touches w.table w.key (ws ++ w ∷ [])) w.table w.key db (applied (ws ++ w ∷ []) db)) (lt-ltb w.table (length db) lt)
            ∙ (ap (λ b. drafted b w.table w.key db (applied (ws ++ w ∷ []) db)) (touches_more ws w w.table w.key true (on_itself w) ∙ or_right (touches w.table w.key ws) true refl) ∙ ap Some (sym this))

        by : (b : Bool) → is_eq (key_order (full w) (Int (pos t) ∷ key)) ≡ b → cond b (Some c) (item_of mid (Int (pos t) ∷ key)) ≡ drafted (nat_lt t (length db) && touches t key (ws ++ w ∷ [])) t key db (applied (ws ++ w ∷ []) db)
        by true e =
            let same = tied (full w) (Int (pos t) ∷ key) e in
            sym (subst (λ k. drafted (nat_lt t (length db) && touches t k (ws ++ w ∷ [])) t k db (applied (ws ++ w ∷ []) db) ≡ Some c) (full_key w t key same)
            (subst (λ u. drafted (nat_lt u (length db) && touches u w.key (ws ++ w ∷ [])) u w.key db (applied (ws ++ w ∷ []) db) ≡ Some c) (full_table w t key same) here))
        by false e =
            without (Int (pos t) ∷ key)
            ∙ (ap (λ b. cond b None (item_of es (Int (pos t) ∷ key))) e ∙ (draft.each t key ∙ other_now ws w db t key rising (off w t key e)))

-- the same, where it is put in one step
pub draft_put : (es new : List Entry) (ws : List Write) (w : Write) (db : Tables) (was : Option Change) (c : Change) → w.table < length db → AreRising db → IsDraft es ws db → All HasPlace new
    → was ≡ item_of es (Int (pos w.table) ∷ w.key)
    → ((other : List Value) → item_of new other ≡ cond (is_eq (key_order (Int (pos w.table) ∷ w.key) other)) (Some c) (item_of es other))
    → c ≡ changed_by w was (row_of (rows_at db w.table) w.key) → IsDraft new (ws ++ w ∷ []) db
draft_put es new ws w db was c lt rising draft places had with' is = record {
  places = places;
  each = each;
}
  where
    this : c ≡ record { table = w.table; key = w.key; before = row_of (rows_at db w.table) w.key; after = row_of (rows_at (applied (ws ++ w ∷ []) db) w.table) w.key }
    this = is ∙ change_now ws w db was lt rising (had ∙ draft.each w.table w.key)

    each : (t : ℕ) (key : List Value) → item_of new (Int (pos t) ∷ key) ≡ drafted (nat_lt t (length db) && touches t key (ws ++ w ∷ [])) t key db (applied (ws ++ w ∷ []) db)
    each t key = with' (Int (pos t) ∷ key) ∙ by (is_eq (key_order (full w) (Int (pos t) ∷ key))) refl
      where
        here : drafted (nat_lt w.table (length db) && touches w.table w.key (ws ++ w ∷ [])) w.table w.key db (applied (ws ++ w ∷ []) db) ≡ Some c
        here =
            ap (λ b. drafted (b && touches w.table w.key (ws ++ w ∷ [])) w.table w.key db (applied (ws ++ w ∷ []) db)) (lt-ltb w.table (length db) lt)
            ∙ (ap (λ b. drafted b w.table w.key db (applied (ws ++ w ∷ []) db)) (touches_more ws w w.table w.key true (on_itself w) ∙ or_right (touches w.table w.key ws) true refl) ∙ ap Some (sym this))

        by : (b : Bool) → is_eq (key_order (full w) (Int (pos t) ∷ key)) ≡ b → cond b (Some c) (item_of es (Int (pos t) ∷ key)) ≡ drafted (nat_lt t (length db) && touches t key (ws ++ w ∷ [])) t key db (applied (ws ++ w ∷ []) db)
        by true e =
            let same = tied (full w) (Int (pos t) ∷ key) e in
            sym (subst (λ k. drafted (nat_lt t (length db) && touches t k (ws ++ w ∷ [])) t k db (applied (ws ++ w ∷ []) db) ≡ Some c) (full_key w t key same)
            (subst (λ u. drafted (nat_lt u (length db) && touches u w.key (ws ++ w ∷ [])) u w.key db (applied (ws ++ w ∷ []) db) ≡ Some c) (full_table w t key same) here))
        by false e = draft.each t key ∙ other_now ws w db t key rising (off w t key e)

-- a write of a table that isn't there
pub draft_skips : (es : List Entry) (ws : List Write) (w : Write) (db : Tables) → length db ≤ w.table → AreRising db → IsDraft es ws db → IsDraft es (ws ++ w ∷ []) db
draft_skips es ws w db far rising draft = record { places = draft.places; each = λ t key. draft.each t key ∙ by t key (nat_lt t (length db)) refl (is_on t key w) refl }
  where
    by : (t : ℕ) (key : List Value) (b : Bool) → nat_lt t (length db) ≡ b → (o : Bool) → is_on t key w ≡ o
        → drafted (nat_lt t (length db) && touches t key ws) t key db (applied ws db) ≡ drafted (nat_lt t (length db) && touches t key (ws ++ w ∷ [])) t key db (applied (ws ++ w ∷ []) db)
    by t key b e false h = other_now ws w db t key rising h
    by t key true e true h =
        let same : w.table ≡ t = eqb-true w.table t (and_parts (w.table == t) (is_eq (key_order w.key key)) h).0 in
        let lt : t < length db = ltb-true t (length db) e in
        absurd (omega (arith, far, same, lt))
    by t key false e true h =
        ap (λ x. drafted (x && touches t key ws) t key db (applied ws db)) e ∙ sym (ap (λ x. drafted (x && touches t key (ws ++ w ∷ [])) t key db (applied (ws ++ w ∷ []) db)) e)

-- What differs

-- the key is below those of the entries
abbrev AboveKey : List Value → List Entry → Type 0
AboveKey key [] = Unit {0}
AboveKey key (e ∷ es) = (key_order key e.0 ≡ Less) × AboveKey key es

abbrev RiseBy : List Entry → Type 0
RiseBy [] = Unit {0}
RiseBy (e ∷ es) = AboveKey e.0 es × RiseBy es

above_from : (key : List Value) (es : List Entry) → All (λ e. key_order key e.0 ≡ Less) es → AboveKey key es
above_from key [] h = tt
above_from key (e ∷ es) h = (h 0 e (omega arith), above_from key es (λ k d lt. h (suc k) d (omega (arith, lt))))

rise_from : (es : List Entry) → KeysRise es → RiseBy es
rise_from [] h = tt
rise_from (e ∷ es) h =
    (above_from e.0 es (λ j d lt. h 0 (suc j) d (omega arith) (omega (arith, lt))), rise_from es (λ i j d lt within. h (suc i) (suc j) d (omega (arith, lt)) (omega (arith, within))))

abbrev kept : Entry → List Change
kept e = if is_same e.1.before e.1.after then [] else e.1 ∷ []

differing_after : (key : List Value) (es : List Entry) → AboveKey key es → AllByRecursion HasPlace es → After key (differing es)
differing_after key [] h all = tt
differing_after key (e ∷ es) h all = by (is_same e.1.before e.1.after) (differing_after key es h.1 all.1)
  where
    by : (b : Bool) → After key (differing es) → After key ((if b then [] else e.1 ∷ []) ++ differing es)
    by true more = more
    by false more = (subst (λ k. key_order key k ≡ Less) all.0 h.0, more)

differing_ordered : (es : List Entry) → RiseBy es → AllByRecursion HasPlace es → Ordered (differing es)
differing_ordered [] h all = tt
differing_ordered (e ∷ es) h all = by (is_same e.1.before e.1.after) (differing_ordered es h.1 all.1)
  where
    by : (b : Bool) → Ordered (differing es) → Ordered ((if b then [] else e.1 ∷ []) ++ differing es)
    by true more = more
    by false more = (subst (λ k. After k (differing es)) all.0 (differing_after e.0 es h.0 all.1), more)

abbrev of_item : Option Change → List Change
of_item None = []
of_item (Some c) = if is_same c.before c.after then [] else c ∷ []

kept_on : (t : ℕ) (key : List Value) (e : Entry) → is_of t key e.1 ≡ true → filter (is_of t key) (kept e) ≡ kept e
kept_on t key e h = by (is_same e.1.before e.1.after)
  where
    by : (b : Bool) → filter (is_of t key) (if b then [] else e.1 ∷ []) ≡ (if b then [] else e.1 ∷ [])
    by true = refl
    by false = rw h refl

kept_off : (t : ℕ) (key : List Value) (e : Entry) → is_of t key e.1 ≡ false → filter (is_of t key) (kept e) ≡ []
kept_off t key e h = by (is_same e.1.before e.1.after)
  where
    by : (b : Bool) → filter (is_of t key) (if b then [] else e.1 ∷ []) ≡ []
    by true = refl
    by false = rw h refl

is_there : (t : ℕ) (key : List Value) (c : Change) → place c ≡ Int (pos t) ∷ key → is_of t key c ≡ true
is_there t key c h =
    let table : c.table ≡ t = (let first : ◌≡◌ {A = Value} (Int (pos c.table)) (Int (pos t)) = cc in pos_same c.table t first) in
    let same : c.key ≡ key = cc in
    let tables : (c.table == t) ≡ true = grind (arith, eqb_tells) in
    ap (λ b. b && is_eq (key_order c.key key)) tables ∙ (ap (λ k. is_eq (key_order k key)) same ∙ ap is_eq (same_key key))

not_there : (t : ℕ) (key : List Value) (e : Entry) → e.0 ≡ place e.1 → is_eq (key_order e.0 (Int (pos t) ∷ key)) ≡ false → is_of t key e.1 ≡ false
not_there t key e at h = by (is_of t key e.1) refl
  where
    by : (b : Bool) → is_of t key e.1 ≡ b → b ≡ false
    by true k = absurd (clash (ap (λ x. is_eq (key_order x (Int (pos t) ∷ key))) (at ∙ place_of t key e.1 k) ∙ ap is_eq (same_key (Int (pos t) ∷ key))))
      where
        clash : is_eq (key_order e.0 (Int (pos t) ∷ key)) ≡ true → ⊥
        clash k = cc
    by false k = refl

listed_at : (t : ℕ) (key : List Value) (es : List Entry) → RiseBy es → AllByRecursion HasPlace es → filter (is_of t key) (differing es) ≡ of_item (item_of es (Int (pos t) ∷ key))
listed_at t key [] h all = refl
listed_at t key (e ∷ es) h all = filter-append (is_of t key) (kept e) (differing es) ∙ by (key_order e.0 (Int (pos t) ∷ key)) refl (listed_at t key es h.1 all.1)
  where
    other : is_eq (key_order e.0 (Int (pos t) ∷ key)) ≡ false → filter (is_of t key) (differing es) ≡ of_item (item_of es (Int (pos t) ∷ key))
        → filter (is_of t key) (kept e) ++ filter (is_of t key) (differing es) ≡ of_item (item_of (e ∷ es) (Int (pos t) ∷ key))
    other n more =
        ap (λ l. l ++ filter (is_of t key) (differing es)) (kept_off t key e (not_there t key e all.0 n))
        ∙ (more ∙ sym (ap (λ b. of_item (cond b (Some e.1) (item_of es (Int (pos t) ∷ key)))) n))

    by : (o : Ordering) → key_order e.0 (Int (pos t) ∷ key) ≡ o → filter (is_of t key) (differing es) ≡ of_item (item_of es (Int (pos t) ∷ key))
        → filter (is_of t key) (kept e) ++ filter (is_of t key) (differing es) ≡ of_item (item_of (e ∷ es) (Int (pos t) ∷ key))
    by Less n more = other (ap is_eq n) more
    by Greater n more = other (ap is_eq n) more
    by Equal n more =
        let same : e.0 ≡ Int (pos t) ∷ key = exact_keys e.0 (Int (pos t) ∷ key) n in
        let rest : filter (is_of t key) (differing es) ≡ [] = none_after t key (differing es) (subst (λ k. After k (differing es)) same (differing_after e.0 es h.0 all.1)) in
        ap (λ l. filter (is_of t key) (kept e) ++ l) rest
        ∙ (append-nil (filter (is_of t key) (kept e))
        ∙ (kept_on t key e (is_there t key e.1 (sym all.0 ∙ same)) ∙ sym (ap (λ o. of_item (cond (is_eq o) (Some e.1) (item_of es (Int (pos t) ∷ key)))) n)))

no_table : (db : Tables) (t : ℕ) → length db ≤ t → rows_at db t ≡ []
no_table [] t h = refl
no_table (d ∷ db) zero h = absurd (omega (arith, h))
no_table (d ∷ db) (suc t) h = no_table db t (omega (arith, h))

same_change : (t : ℕ) (key : List Value) (a b : Option (List Value)) → a ≡ b → [] ≡ change_of t key a b
same_change t key a b h = sym (ap (λ x. change_of t key x b) h ∙ ap (λ s. if s then [] else record { table = t; key = key; before = b; after = b } ∷ []) (same_itself b))

pub lists_draft : (es : List Entry) (ws : List Write) (db : Tables) → KeysRise es → AreRising db → IsDraft es ws db → ListsChanges (differing es) db (applied ws db)
lists_draft es ws db rise rising draft = record {
  order = in_order (differing es) (differing_ordered es (rise_from es rise) places);
  each = λ t key. listed_at t key es (rise_from es rise) places ∙ (ap of_item (draft.each t key) ∙ by t key (nat_lt t (length db)) refl (touches t key ws) refl);
}
  where
    places : AllByRecursion HasPlace es
    places = recursion_from_All HasPlace es draft.places

    by : (t : ℕ) (key : List Value) (b : Bool) → nat_lt t (length db) ≡ b → (w : Bool) → touches t key ws ≡ w
        → of_item (drafted (nat_lt t (length db) && touches t key ws) t key db (applied ws db)) ≡ change_of t key (row_of (rows_at db t) key) (row_of (rows_at (applied ws db) t) key)
    by t key true e true f = rw (e, f) refl
    by t key true e false f = rw (e, f) (same_change t key (row_of (rows_at db t) key) (row_of (rows_at (applied ws db) t) key) (sym (unwritten ws db t key (ltb-true t (length db) e) rising f)))
    by t key false e w f =
        let far : length db ≤ t = grind (arith, nat_tests) in
        rw e (same_change t key (row_of (rows_at db t) key) (row_of (rows_at (applied ws db) t) key)
        (ap (λ l. row_of l key) (no_table db t far ∙ sym (no_table (applied ws db) t (omega (arith, far, length_applied ws db))))))

pub draft_is : (es : List Entry) (ws : List Write) (db : Tables) → KeysRise es → AreRising db → IsDraft es ws db → differing es ≡ changes_between db (applied ws db)
draft_is es ws db rise rising draft =
    only_these db (applied ws db) rising (rising_applied ws db rising) (sym (length_applied ws db)) (differing es) (lists_draft es ws db rise rising draft)

-- what differs is in order
pub differing_in_order : (es : List Entry) → KeysRise es → All HasPlace es → InOrder (differing es)
differing_in_order es rise places = in_order (differing es) (differing_ordered es (rise_from es rise) (recursion_from_All HasPlace es places))

-- those listed before a change are of lower places
pub listed_before : (front : List Change) (c : Change) (rest : List Change) → InOrder (front ++ c ∷ rest) → All (λ x. key_order (place x) (place c) ≡ Less) front
listed_before front c rest order k d lt =
    let size : length (front ++ c ∷ rest) ≡ length front + length (c ∷ rest) = length-append front (c ∷ rest) in
    let low = order k (length front) d lt (omega (arith, size)) in
    subst (λ (x : Change). key_order (place x) (place c) ≡ Less) (get_or-append front (c ∷ rest) d k lt)
    (subst (λ (x : Change). key_order (place (slice_index_or (front ++ c ∷ rest) k d)) (place x) ≡ Less) (get_or-append_seam front c rest d) low)

-- an entry more is listed
pub one_listed : (front : List Change) (key : List Value) (c : Change) (rest es : List Entry) (all : List Change) → is_same c.before c.after ≡ false → es ≡ (key, c) ∷ rest → front ++ differing es ≡ all → front ++ c ∷ differing rest ≡ all
one_listed front key c rest es all h is whole =
    ap (λ b. front ++ ((if b then [] else c ∷ []) ++ differing rest)) (sym h) ∙ (ap (λ l. front ++ differing l) (sym is) ∙ whole)

-- Over the writes of records

pub draft_taken : (es : List Entry) (ws vs : List Write) (i : ℕ) (w : Write) (db : Tables) → i < length vs → w ≡ slice_index_or vs i w → IsDraft es ((ws ++ take i vs) ++ w ∷ []) db → IsDraft es (ws ++ take (i + 1) vs) db
draft_taken es ws vs i w db lt is h =
    subst (λ l. IsDraft es l db) (append_assoc ws (take i vs) (w ∷ []) ∙ ap (λ l. ws ++ l) (ap (λ x. take i vs ++ x ∷ []) is ∙ sym (take_more vs i w lt))) h

pub writes_taken : (rs : List Record) (i : ℕ) (r : Record) → i < length rs → r ≡ slice_index_or rs i r → writes_in (take (i + 1) rs) ≡ writes_in (take i rs) ++ r.writes
writes_taken rs i r lt is =
    ap writes_in (take_more rs i r lt ∙ ap (λ (x : Record). take i rs ++ x ∷ []) (sym is))
    ∙ (flat_map-append (λ (r : Record). r.writes) (take i rs) (r ∷ []) ∙ ap (λ l. writes_in (take i rs) ++ l) (append-nil r.writes))

pub writes_fit : (rs : List Record) (i : ℕ) (r : Record) → i < length rs → r ≡ slice_index_or rs i r → length (writes_in (take i rs)) + length r.writes ≤ length (writes_in rs)
writes_fit rs i r lt is =
    let whole : writes_in rs ≡ writes_in (take (i + 1) rs) ++ writes_in (drop (i + 1) rs) =
    ap writes_in (sym (take-append-drop (i + 1) rs)) ∙ flat_map-append (λ (r : Record). r.writes) (take (i + 1) rs) (drop (i + 1) rs) in
    let one = ap length (writes_taken rs i r lt is) ∙ length-append (writes_in (take i rs)) r.writes in
    let all = ap length whole ∙ length-append (writes_in (take (i + 1) rs)) (writes_in (drop (i + 1) rs)) in
    omega (arith, one, all)

-- Keys that are taken from the ends of own writes.
use Rattle.std.proofs.Common.{◌≡◌, ◌<◌, ℕ, suc, Bool, true, false, cond, List, [], ◌∷◌, ◌++◌, Option, Some, None, All, length, map, slice_index_or, refl, sym, ap, subst, ◌∙◌, arith}
use Rattle.std.proofs.Math.ListN.{get_or-append}
use Rattle.std.proofs.Math.Seq.{get_or-append_seam}
use Rattle.std.proofs.lemmas.Bool.{both_ways, and_parts, eq-eqb, eqb-true, false_from_ne_true, true_from_ne_false}
use Rattle.std.proofs.lemmas.List.Elements.{All-cons, filter-append, filter_passes}
use Rattle.std.proofs.lemmas.List.Kept.{AllPairs-filter}
use Rattle.std.proofs.lemmas.List.{append-nil, get_or-map, length-append, length-map}
use Rattle.std.specs.Cmp.{both_ways as same_answers}
use Rattle.std.specs.Prelude.{◌&&◌, ◌||◌, ◌==◌, AllPairs, pos}
use Rattle.std.specs.List.{filter, list_any}
use Rattle.std.specs.Option.{is_some}
use Rattle.std.specs.Ordering.{is_eq, is_lt}
use Rattle.std.specs.declared.cmp.Ordering.TheVariants.{Less}
use Rattle.mv_values.specs.declared.value.Value.{Value}
use Rattle.mv_values.specs.declared.value.Value.TheVariants.{Int}
use Rattle.mv_values.specs.declared.rows.Keyed.{Keyed}
use Rattle.mv_values.specs.declared.patch.Write.{Write}
use Rattle.mv_values.specs.declared.pred.Pred.{Pred}
use Rattle.mv_values.specs.Order.{key_order}
use Rattle.mv_values.specs.Patching.{row_of}
use Rattle.mv_values.specs.Preds.{admits}
use Rattle.mv_values.proofs.KeyOrder.{tied, same_key, same_table}
use Rattle.mv_values.proofs.Deciding.{less_is}
use Rattle.mv_table.specs.declared.scan.Direction.{Direction}
use Rattle.mv_table.specs.declared.scan.Direction.TheVariants.{Forward, Backward}
use Rattle.mv_table.specs.Scans.{with_foremost}
use Rattle.mv_table.proofs.Scanning.{with_mapped}
use Rattle.mv_record.specs.Writes.{is_on}
use Rattle.mv_undo.specs.Owned.{Owned}
use Rattle.mv_undo.specs.Taking.{meets_first, is_sought_at, sought_keys, HasAdmitted}
use Rattle.mv_undo.specs.Indexing.{owned_at, key_at, AreLast, IsLast, IsLastOn}
use Rattle.mv_undo.specs.Owning.{before, earlier, touches, is_sought, is_among, AreSought}
use Rattle.mv_undo.proofs.Linking.{touched_last, untouched}

-- Keys in a direction

pub never_itself : (d : Direction) (a : List Value) → meets_first d a a ≡ false
never_itself Forward a = ap is_lt (same_key a)
never_itself Backward a = ap is_lt (same_key a)

row_last : (xs : List Keyed) (x : Keyed) (key : List Value) → row_of xs x.key ≡ None → row_of (xs ++ x ∷ []) key ≡ cond (is_eq (key_order x.key key)) (Some x.row) (row_of xs key)
row_last [] x key none = refl
row_last (y ∷ ys) x key none = by (is_eq (key_order y.key x.key)) refl none (row_last ys x key)
  where
    here : is_eq (key_order y.key x.key) ≡ false → (b : Bool) → is_eq (key_order y.key key) ≡ b → (c : Bool) → is_eq (key_order x.key key) ≡ c → row_of (ys ++ x ∷ []) key ≡ cond (is_eq (key_order x.key key)) (Some x.row) (row_of ys key)
        → cond b (Some y.row) (row_of (ys ++ x ∷ []) key) ≡ cond c (Some x.row) (cond b (Some y.row) (row_of ys key))
    here e true f true g more =
        let same : x.key ≡ key = tied x.key key g in
        absurd (both_ways (is_eq (key_order y.key x.key)) e (ap (λ k. is_eq (key_order y.key k)) same ∙ f))
    here e true f false g more = refl
    here e false f c g more = more ∙ ap (λ b. cond b (Some x.row) (row_of ys key)) g

    by : (b : Bool) → is_eq (key_order y.key x.key) ≡ b → cond b (Some y.row) (row_of ys x.key) ≡ None
        → (row_of ys x.key ≡ None → row_of (ys ++ x ∷ []) key ≡ cond (is_eq (key_order x.key key)) (Some x.row) (row_of ys key))
        → cond (is_eq (key_order y.key key)) (Some y.row) (row_of (ys ++ x ∷ []) key) ≡ cond (is_eq (key_order x.key key)) (Some x.row) (cond (is_eq (key_order y.key key)) (Some y.row) (row_of ys key))
    by true e h more = cc
    by false e h more = here e (is_eq (key_order y.key key)) refl (is_eq (key_order x.key key)) refl (more h)

pub row_with : (d : Direction) (x : Keyed) (xs : List Keyed) (key : List Value) → row_of xs x.key ≡ None → row_of (with_foremost d x xs) key ≡ cond (is_eq (key_order x.key key)) (Some x.row) (row_of xs key)
row_with Forward x xs key none = refl
row_with Backward x xs key none = row_last xs x key none

-- The places that a scan meets later

module _ (items : List Owned) where
  pub last_first : (d : Direction) (place : ℕ) (later places : List ℕ) → places ≡ with_foremost d place later → AreLast items places → IsLast items place
  last_first d place later places is h = by d (subst (AreLast items) is h)
    where
      by : (d : Direction) → AreLast items (with_foremost d place later) → IsLast items place
      by Forward h = h.last 0 0 (omega arith)
      by Backward h = subst (IsLast items) (get_or-append_seam later place [] 0) (h.last (length later) 0 (omega (arith, length-append later (place ∷ []))))

  pub last_later : (d : Direction) (place : ℕ) (later places : List ℕ) → places ≡ with_foremost d place later → AreLast items places → AreLast items later
  last_later d place later places is h = by d (subst (AreLast items) is h)
    where
      by : (d : Direction) → AreLast items (with_foremost d place later) → AreLast items later
      by Forward h = record {
        last = λ k e lt. h.last (suc k) e (omega (arith, lt));
        sorted = λ i j e lt within. h.sorted (suc i) (suc j) e (omega (arith, lt)) (omega (arith, within));
      }
      by Backward h = record {
        last = λ k e lt. subst (IsLast items) (get_or-append later (place ∷ []) e k lt) (h.last k e (omega (arith, lt, length-append later (place ∷ []))));
        sorted = λ i j e lt within.
            let low : slice_index_or (later ++ place ∷ []) i e ≡ slice_index_or later i e = get_or-append later (place ∷ []) e i (omega (arith, lt, within)) in
            let up : slice_index_or (later ++ place ∷ []) j e ≡ slice_index_or later j e = get_or-append later (place ∷ []) e j within in
            subst (λ p. is_lt (key_order (key_at items p) (key_at items (slice_index_or later j e))) ≡ true) low
            (subst (λ q. is_lt (key_order (key_at items (slice_index_or (later ++ place ∷ []) i e)) (key_at items q)) ≡ true) up (h.sorted i j e lt (omega (arith, within, length-append later (place ∷ [])))));
      }

pub fewer_later : (d : Direction) (place : ℕ) (later places : List ℕ) → places ≡ with_foremost d place later → length later < length places
fewer_later d place later places is = subst (λ (ps : List ℕ). length later < length ps) (sym is) (by d)
  where
    by : (d : Direction) → length later < length (with_foremost d place later)
    by Forward = omega arith
    by Backward = omega (arith, length-append later (place ∷ []))

module _ {A : Type 0} (f : A → Bool) where
  kept_with : (d : Direction) (x : A) (xs : List A) → f x ≡ true → filter f (with_foremost d x xs) ≡ with_foremost d x (filter f xs)
  kept_with Forward x xs h = rw h refl
  kept_with Backward x xs h = filter-append f xs (x ∷ []) ∙ ap (λ b. filter f xs ++ cond b (x ∷ []) []) h

  left_with : (d : Direction) (x : A) (xs : List A) → f x ≡ false → filter f (with_foremost d x xs) ≡ filter f xs
  left_with Forward x xs h = rw h refl
  left_with Backward x xs h = filter-append f xs (x ∷ []) ∙ (ap (λ b. filter f xs ++ cond b (x ∷ []) []) h ∙ append-nil (filter f xs))

module _ (pred : Pred) (number : ℕ) (items : List Owned) (d : Direction) (place : ℕ) (later places : List ℕ) (is : places ≡ with_foremost d place later) where
  -- the first key is sought
  pub sought_first : is_sought_at pred number items place ≡ true → sought_keys pred number items places ≡ with_foremost d (owned_at items place).write.key (sought_keys pred number items later)
  sought_first so =
      ap (sought_keys pred number items) is
      ∙ (ap (map (λ p. (owned_at items p).write.key)) (kept_with (is_sought_at pred number items) d place later so) ∙ with_mapped (λ p. (owned_at items p).write.key) d place (filter (is_sought_at pred number items) later))

  -- it isn't
  pub sought_later : is_sought_at pred number items place ≡ false → sought_keys pred number items places ≡ sought_keys pred number items later
  sought_later un = ap (sought_keys pred number items) is ∙ ap (map (λ p. (owned_at items p).write.key)) (left_with (is_sought_at pred number items) d place later un)

-- What they are

so_both : (a b : Bool) → a ≡ true → b ≡ true → a && b ≡ true
so_both a b e f = rw (e, f) refl

any_mapped : (items : List Owned) (f : ℕ → Bool) (key : List Value) (places : List ℕ)
    → is_among (map (λ p. (owned_at items p).write.key) (filter f places)) key ≡ list_any (λ p. f p && is_eq (key_order (owned_at items p).write.key key)) places
any_mapped items f key [] = refl
any_mapped items f key (p ∷ ps) = by (f p) (any_mapped items f key ps)
  where
    by : (b : Bool) → is_among (map (λ p. (owned_at items p).write.key) (filter f ps)) key ≡ list_any (λ p. f p && is_eq (key_order (owned_at items p).write.key key)) ps
        → is_among (map (λ p. (owned_at items p).write.key) (cond b (p ∷ filter f ps) (filter f ps))) key ≡ (b && is_eq (key_order (owned_at items p).write.key key)) || list_any (λ p. f p && is_eq (key_order (owned_at items p).write.key key)) ps
    by true more = ap (λ b. is_eq (key_order (owned_at items p).write.key key) || b) more
    by false more = more

any_so : (f : ℕ → Bool) (b : Bool) (ps : List ℕ) → ((p : ℕ) → f p ≡ true → b ≡ true) → list_any f ps ≡ true → b ≡ true
any_so f b [] h e = absurd (both_ways false refl e)
any_so f b (p ∷ ps) h e = by (f p) refl e (any_so f b ps h)
  where
    by : (c : Bool) → f p ≡ c → c || list_any f ps ≡ true → (list_any f ps ≡ true → b ≡ true) → b ≡ true
    by true g e more = h p g
    by false g e more = more e

none_any : (f : ℕ → Bool) (ps : List ℕ) → list_any f ps ≡ false → All (λ p. f p ≡ false) ps
none_any f [] e = λ k d lt. absurd (omega (arith, lt))
none_any f (p ∷ ps) e = by (f p) refl e (none_any f ps)
  where
    by : (c : Bool) → f p ≡ c → c || list_any f ps ≡ false → (list_any f ps ≡ false → All (λ p. f p ≡ false) ps) → All (λ p. f p ≡ false) (p ∷ ps)
    by true g e more = absurd (both_ways true e refl)
    by false g e more = All-cons (λ p. f p ≡ false) p ps g (more e)

module _ (pred : Pred) (number : ℕ) (items : List Owned) (places : List ℕ) where
  sought_rising : AreLast items places → AllPairs (λ a b. key_order a b ≡ Less) (sought_keys pred number items places)
  sought_rising h i j d lt within =
      let f : ℕ → Bool = is_sought_at pred number items in
      let size : length (sought_keys pred number items places) ≡ length (filter f places) = length-map (filter f places) (λ p. (owned_at items p).write.key) in
      let up : j < length (filter f places) = omega (arith, within, size) in
      let low : i < length (filter f places) = omega (arith, lt, up) in
      let p : ℕ = slice_index_or (filter f places) i 0 in
      let q : ℕ = slice_index_or (filter f places) j 0 in
      subst (λ a. key_order a (slice_index_or (sought_keys pred number items places) j d) ≡ Less) (sym (get_or-map (λ p. (owned_at items p).write.key) (filter f places) i 0 d low))
      (subst (λ b. key_order (owned_at items p).write.key b ≡ Less) (sym (get_or-map (λ p. (owned_at items p).write.key) (filter f places) j 0 d up))
      (less_is _
      (sym (ap is_lt (same_table pred.table (owned_at items p).write.key (owned_at items q).write.key))
      ∙ (ap (λ a. is_lt (key_order a (Int (pos pred.table) ∷ (owned_at items q).write.key))) (sym (whole p (filter_passes f places i 0 low)))
      ∙ (ap (λ b. is_lt (key_order (key_at items p) b)) (sym (whole q (filter_passes f places j 0 up)))
      ∙ AllPairs-filter (λ p q. is_lt (key_order (key_at items p) (key_at items q)) ≡ true) f places h.sorted i j 0 lt up)))))
    where
      whole : (p : ℕ) → is_sought_at pred number items p ≡ true → key_at items p ≡ Int (pos pred.table) ∷ (owned_at items p).write.key
      whole p so = ap (λ t. Int (pos t) ∷ (owned_at items p).write.key) (eqb-true (owned_at items p).write.table pred.table (and_parts ((owned_at items p).write.table == pred.table) _ so).0)

  pub sought_are : AreLast items places → HasAdmitted pred items places → AreSought pred (earlier number items) (sought_keys pred number items places)
  sought_are h admitted = record { rising = sought_rising h; are = λ key. same_answers (is_among (sought_keys pred number items places) key) (is_sought pred (earlier number items) key) (there key) (back key) }
    where
      there : (key : List Value) → is_among (sought_keys pred number items places) key ≡ true → is_sought pred (earlier number items) key ≡ true
      there key among =
          any_so (λ p. is_sought_at pred number items p && is_eq (key_order (owned_at items p).write.key key)) (is_sought pred (earlier number items) key) places (λ p so.
          let parts = and_parts (is_sought_at pred number items p) (is_eq (key_order (owned_at items p).write.key key)) so in
          let inner = and_parts ((owned_at items p).write.table == pred.table) (is_sought pred (earlier number items) (owned_at items p).write.key) parts.0 in
          subst (λ k. is_sought pred (earlier number items) k ≡ true) (tied (owned_at items p).write.key key parts.1) inner.1) (sym (any_mapped items (is_sought_at pred number items) key places) ∙ among)

      here : (key : List Value) (p : ℕ) → is_sought pred (earlier number items) key ≡ true → is_on pred.table key (owned_at items p).write ≡ true → is_sought_at pred number items p && is_eq (key_order (owned_at items p).write.key key) ≡ true
      here key p so on =
          let parts = and_parts ((owned_at items p).write.table == pred.table) (is_eq (key_order (owned_at items p).write.key key)) on in
          so_both (is_sought_at pred number items p) (is_eq (key_order (owned_at items p).write.key key))
          (so_both ((owned_at items p).write.table == pred.table) (is_sought pred (earlier number items) (owned_at items p).write.key) parts.0 (subst (λ k. is_sought pred (earlier number items) k ≡ true) (sym (tied (owned_at items p).write.key key parts.1)) so)) parts.1

      back : (key : List Value) → is_sought pred (earlier number items) key ≡ true → is_among (sought_keys pred number items places) key ≡ true
      back key so = any_mapped items (is_sought_at pred number items) key places ∙ true_from_ne_false _ (λ none. lost (none_any _ places none))
        where
          lost : All (λ p. is_sought_at pred number items p && is_eq (key_order (owned_at items p).write.key key) ≡ false) places → ⊥
          lost none =
              let parts = and_parts (touches pred.table key (earlier number items)) (admits pred key) so in
              both_ways (touches pred.table key (earlier number items))
              (untouched number pred.table key items (admitted key parts.1 (λ k d lt. false_from_ne_true _ (λ on. both_ways _ (none k d lt) (here key (slice_index_or places k d) so on))))) parts.0

-- Whether a key is one of them

module _ (pred : Pred) (number : ℕ) (items : List Owned) (place : ℕ) (w : Write) (m : Option ℕ) (there : w ≡ (owned_at items place).write) (same : w.table ≡ pred.table)
    (last : IsLastOn (before number items) (owned_at items place).write.table (owned_at items place).write.key m) where
  tests : (b : Bool) → is_some m ≡ b → is_sought_at pred number items place ≡ b && admits pred (owned_at items place).write.key
  tests b is =
      ap (λ c. c && is_sought pred (earlier number items) (owned_at items place).write.key) (eq-eqb (owned_at items place).write.table pred.table table)
      ∙ ap (λ c. c && admits pred (owned_at items place).write.key)
      (ap (λ t. touches t (owned_at items place).write.key (earlier number items)) (sym table) ∙ (sym (touched_last number (owned_at items place).write.table (owned_at items place).write.key items m last) ∙ is))
    where
      table : (owned_at items place).write.table ≡ pred.table
      table = ap (λ (x : Write). x.table) (sym there) ∙ same

  pub sought_there : is_some m ≡ true → admits pred w.key ≡ is_sought_at pred number items place
  sought_there is = ap (λ (x : Write). admits pred x.key) there ∙ sym (tests true is)

  pub sought_not : is_some m ≡ false → false ≡ is_sought_at pred number items place
  sought_not is = sym (tests false is)

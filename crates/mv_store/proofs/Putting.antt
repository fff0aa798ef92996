-- The entries of an index as a patch is put.
use Rattle.std.proofs.Common.{◌≡◌, ◌⊎◌, ◌==◌, ◌&&◌, ◌+◌, ◌<◌, ◌≤◌, ℕ, zero, suc, Bool, true, false, cond, inl, inr, List, [], ◌∷◌, Option, Some, None, length, take, slice_index_or, refl, sym, ap, subst, ◌∙◌}
use Rattle.std.specs.Prelude.{not, ◌||◌, MatchOption}
use Rattle.std.specs.List.{list_any}
use Rattle.std.specs.Ordering.{is_eq}
use Rattle.std.proofs.lemmas.Bool.{cases_Bool, eqb-true, eqb-false, eq-eqb, false≢true, both_ways, or_cases, or_left, or_right, and_parts}
use Rattle.std.proofs.lemmas.Cmp.{tied_itself}
use Rattle.std.proofs.lemmas.List.{take_all}
use Rattle.std.proofs.lemmas.List.Folds.{list_any_more}
use Rattle.mv_values.specs.declared.value.Value.{Value}
use Rattle.mv_values.specs.declared.patch.Assign.{Assign}
use Rattle.mv_values.specs.declared.patch.Patch.{Patch}
use Rattle.mv_values.specs.declared.patch.Patch.TheVariants.{Insert}
use Rattle.mv_values.specs.Columns.{column_of}
use Rattle.mv_values.specs.Order.{key_order, value_order}
use Rattle.mv_values.proofs.KeyOrder.{tied, same_key, value_order_total}
use Rattle.mv_chain.specs.declared.pending.Pending.{Pending}
use Rattle.mv_chain.specs.Versions.{Versions, is_blank, own_of, with_own, with_patch}
use Rattle.mv_chain.specs.Having.{is_value, row_has, item_has, patch_has, earlier_has, rows_have, own_has, has_value}
use Rattle.mv_chain.proofs.Going.{put_values_from, put_values_or}
use Rattle.mv_index.specs.Indexing.{Contents, is_indexed, stands, lens_of, is_known, is_pair, Keeps, AddsOnly, Has, Adds, no_pair, MayNoteLen}
use Rattle.mv_index.proofs.Values.{same_value}
use Rattle.mv_store.specs.Stored.{Entries}
use Rattle.mv_store.specs.Kept.{versions_of, IsChanged}
use Rattle.mv_store.specs.Indexed.{IsTableIndex, IsOfTable, Forgets, MayNote, HasNoted}
use Rattle.mv_store.proofs.Done.{changed_none}
use Rattle.mv_store.proofs.Indexing.{not_standing, left_out}

both_same : (a b : Bool) → (a ≡ true → b ≡ true) → (b ≡ true → a ≡ true) → a ≡ b
both_same false false f g = refl
both_same false true f g = g refl
both_same true b f g = sym (f refl)

both : (a b : Bool) → a ≡ true → b ≡ true → (a && b) ≡ true
both false b p q = p
both true b p q = q

-- A row

value_itself : (c : ℕ) (row : List Value) → row_has c (column_of row c) (Some row) ≡ true
value_itself c row = ap is_eq (tied_itself value_order_total (column_of row c))

pub row_noted : (t : ℕ) (key row : List Value) (i j : Contents) → Keeps i j → AddsOnly t key row i j → MayNote t key (λ c v. patch_has c v (Insert row)) i j
row_noted t key row i j keeps adds = record {
  indexed = keeps.indexed;
  kept = keeps.entries;
  only = λ u c v k h. elim (adds.entries u c v k h) [
    | inl was ↦ inl was
    | inr new ↦ inr (sym new.0, sym new.2, ap (λ w. row_has c w (Some row)) new.1 ∙ value_itself c row)
  ];
  known = keeps.lens;
  lens = λ u other. elim (adds.lens u) [
    | inl same ↦ same
    | inr new ↦ absurd (eqb-false t u other (sym new.0))
  ];
}

pub row_there : (t : ℕ) (key row : List Value) (j : Contents) → Has t key row j → HasNoted t key (λ c v. patch_has c v (Insert row)) j
row_there t key row j has = record { entries = λ c v on h. subst (λ w. stands j t c w key ≡ true) (same_value (column_of row c) v h) (has.entries c on); len = has.len }

-- No entry

pub key_noted : (t : ℕ) (key : List Value) (has : ℕ → Value → Bool) (i j : Contents) → MayNoteLen t i j → MayNote t key has i j
key_noted t key has i j notes = record {
  indexed = λ u c. ap (λ cs. is_indexed (record { columns = cs; key_lens = i.key_lens }) u c) notes.columns;
  kept = λ u c v k h. ap (λ cs. stands (record { columns = cs; key_lens = i.key_lens }) u c v k) notes.columns ∙ h;
  only = λ u c v k h. inl (sym (ap (λ cs. stands (record { columns = cs; key_lens = i.key_lens }) u c v k) notes.columns) ∙ h);
  known = notes.known;
  lens = notes.lens;
}

pub key_there : (t : ℕ) (key : List Value) (j : Contents) (has : ℕ → Value → Bool) → ((c : ℕ) (v : Value) → has c v ≡ false) → is_known (lens_of j t) (length key) ≡ true → HasNoted t key has j
key_there t key j has none known = record { entries = λ c v on h. absurd (both_ways (has c v) (none c v) h); len = known }

-- Items

note_wider : (t : ℕ) (key : List Value) (has more : ℕ → Value → Bool) (i j : Contents) → ((c : ℕ) (v : Value) → has c v ≡ true → more c v ≡ true) → MayNote t key has i j → MayNote t key more i j
note_wider t key has more i j wider h = record {
  indexed = h.indexed;
  kept = h.kept;
  only = λ u c v k is. elim (h.only u c v k is) [
    | inl was ↦ inl was
    | inr new ↦ inr (new.0, new.1, wider c v new.2)
  ];
  known = h.known;
  lens = h.lens;
}

abbrev pub first_have : List Assign → ℕ → ℕ → Value → Bool
first_have items at c v = list_any (item_has c v) (take at items)

more_have : (items : List Assign) (at : ℕ) (x : Assign) (c : ℕ) (v : Value) → at < length items → x ≡ slice_index_or items at x → first_have items (at + 1) c v ≡ (first_have items at c v || item_has c v x)
more_have items at x c v lt is = list_any_more (item_has c v) items at x lt ∙ ap (λ y. first_have items at c v || item_has c v y) (sym is)

one_of : (p : Assign → Bool) (items : List Assign) (at : ℕ) → list_any p (take at items) ≡ true → list_any p items ≡ true
one_of p items zero h = absurd (false≢true h)
one_of p [] (suc at) h = h
one_of p (x ∷ xs) (suc at) h = elim (or_cases (p x) (list_any p (take at xs)) h) [
  | inl here ↦ or_left (p x) (list_any p xs) here
  | inr later ↦ or_right (p x) (list_any p xs) (one_of p xs at later)
]

-- the entry of one item more
module _ (t : ℕ) (key : List Value) (items : List Assign) (at : ℕ) (x : Assign) (first i j : Contents) (lt : at < length items) (is : x ≡ slice_index_or items at x) where
  entry_of : Adds t x.column (is_pair x.value key) i j → MayNote t key (first_have items at) first i → (u c : ℕ) (v : Value) (k : List Value) → is_indexed first u c ≡ true
      → stands j u c v k ≡ (stands i u c v k || ((t == u) && ((x.column == c) && is_pair x.value key v k)))
  entry_of adds h u c v k on = adds.entries u c v k (h.indexed u c ∙ on)

  pub item_noted : Adds t x.column (is_pair x.value key) i j → MayNote t key (first_have items at) first i → MayNote t key (first_have items (at + 1)) first j
  item_noted adds h = record {
    indexed = λ u c. adds.indexed u c ∙ h.indexed u c;
    kept = λ u c v k was. by_kept u c v k was (is_indexed first u c) refl;
    only = λ u c v k now. by_only u c v k now (is_indexed first u c) refl;
    known = λ u len was. ap (λ o. is_known o len) (adds.lens u) ∙ h.known u len was;
    lens = λ u other. adds.lens u ∙ h.lens u other;
  }
    where
      by_kept : (u c : ℕ) (v : Value) (k : List Value) → stands first u c v k ≡ true → (b : Bool) → is_indexed first u c ≡ b → stands j u c v k ≡ true
      by_kept u c v k was true on = entry_of adds h u c v k on ∙ or_left (stands i u c v k) ((t == u) && ((x.column == c) && is_pair x.value key v k)) (h.kept u c v k was)
      by_kept u c v k was false off = absurd (both_ways (stands first u c v k) (not_standing first u c v k off) was)

      by_only : (u c : ℕ) (v : Value) (k : List Value) → stands j u c v k ≡ true → (b : Bool) → is_indexed first u c ≡ b → (stands first u c v k ≡ true) ⊎ ((t ≡ u) × (key ≡ k) × (first_have items (at + 1) c v ≡ true))
      by_only u c v k now false off = absurd (both_ways (stands j u c v k) (not_standing j u c v k (adds.indexed u c ∙ (h.indexed u c ∙ off))) now)
      by_only u c v k now true on = elim (or_cases (stands i u c v k) ((t == u) && ((x.column == c) && is_pair x.value key v k)) (sym (entry_of adds h u c v k on) ∙ now)) [
        | inl was ↦ elim (h.only u c v k was) [
          | inl before ↦ inl before
          | inr new ↦ inr (new.0, new.1, more_have items at x c v lt is ∙ or_left (first_have items at c v) (item_has c v x) new.2)
        ]
        | inr new ↦
            let one = and_parts (t == u) ((x.column == c) && is_pair x.value key v k) new in
            let two = and_parts (x.column == c) (is_pair x.value key v k) one.1 in
            let three = and_parts (is_eq (value_order x.value v)) (is_eq (key_order key k)) two.1 in
            inr (eqb-true t u one.0, tied key k three.1, more_have items at x c v lt is ∙ or_right (first_have items at c v) (item_has c v x) (both (x.column == c) (is_value v x.value) two.0 three.0))
      ]

  pub item_there : Adds t x.column (is_pair x.value key) i j → MayNote t key (first_have items at) first i → HasNoted t key (first_have items at) i → HasNoted t key (first_have items (at + 1)) j
  item_there adds h has = record {
    entries = λ c v on have.
        let was : is_indexed i t c ≡ true = sym (adds.indexed t c) ∙ on in
        adds.entries t c v key was
        ∙ here c v (or_cases (first_have items at c v) (item_has c v x) (sym (more_have items at x c v lt is) ∙ have)) was;
    len = ap (λ o. is_known o (length key)) (adds.lens t) ∙ has.len;
  }
    where
      here : (c : ℕ) (v : Value) → (first_have items at c v ≡ true) ⊎ (item_has c v x ≡ true) → is_indexed i t c ≡ true → (stands i t c v key || ((t == t) && ((x.column == c) && is_pair x.value key v key))) ≡ true
      here c v h on = elim h [
        | inl before ↦ or_left (stands i t c v key) ((t == t) && ((x.column == c) && is_pair x.value key v key)) (has.entries c v on before)
        | inr new ↦
            let parts = and_parts (x.column == c) (is_value v x.value) new in
            or_right (stands i t c v key) ((t == t) && ((x.column == c) && is_pair x.value key v key))
            (both (t == t) ((x.column == c) && is_pair x.value key v key) (eq-eqb t t refl) (both (x.column == c) (is_pair x.value key v key) parts.0 (both (is_eq (value_order x.value v)) (is_eq (key_order key key)) parts.1 (ap is_eq (same_key key)))))
      ]

  -- there was no memory for it
  pub item_missed : Adds t x.column no_pair i j → MayNote t key (first_have items at) first i → MayNote t key (λ c v. list_any (item_has c v) items) first j
  item_missed adds h = record {
    indexed = λ u c. adds.indexed u c ∙ h.indexed u c;
    kept = λ u c v k was. sym (same u c v k (is_indexed i u c) refl) ∙ h.kept u c v k was;
    only = λ u c v k now. elim (h.only u c v k (same u c v k (is_indexed i u c) refl ∙ now)) [
      | inl before ↦ inl before
      | inr new ↦ inr (new.0, new.1, one_of (item_has c v) items at new.2)
    ];
    known = λ u len was. ap (λ o. is_known o len) (adds.lens u) ∙ h.known u len was;
    lens = λ u other. adds.lens u ∙ h.lens u other;
  }
    where
      nothing : (s a b : Bool) → (s || (a && (b && false))) ≡ s
      nothing true a b = refl
      nothing false false b = refl
      nothing false true false = refl
      nothing false true true = refl

      same : (u c : ℕ) (v : Value) (k : List Value) (b : Bool) → is_indexed i u c ≡ b → stands i u c v k ≡ stands j u c v k
      same u c v k true on = sym (adds.entries u c v k on ∙ nothing (stands i u c v k) (t == u) (x.column == c))
      same u c v k false off = not_standing i u c v k off ∙ sym (not_standing j u c v k (adds.indexed u c ∙ off))

pub items_noted : (t : ℕ) (key : List Value) (items : List Assign) (at : ℕ) (i j : Contents) → length items ≤ at → MayNote t key (first_have items at) i j → MayNote t key (λ c v. list_any (item_has c v) items) i j
items_noted t key items at i j le h = note_wider t key (first_have items at) (λ c v. list_any (item_has c v) items) i j (λ c v. one_of (item_has c v) items at) h

pub items_there : (t : ℕ) (key : List Value) (items : List Assign) (at : ℕ) (j : Contents) → length items ≤ at → HasNoted t key (first_have items at) j → HasNoted t key (λ c v. list_any (item_has c v) items) j
items_there t key items at j le h = record { entries = λ c v on have. h.entries c v on (ap (list_any (item_has c v)) (take_all at items le) ∙ have); len = h.len }

-- A patch that is put

put_bool : (m n h p e : Bool) → (m ≡ true → (h || p) ≡ true) → (n ≡ true → m ≡ true) → (h ≡ true → (n || e) ≡ true) → (m && not ((p || e) && not n)) ≡ n
put_bool m true h true e f g k = rw (g refl) refl
put_bool m true h false true f g k = rw (g refl) refl
put_bool m true h false false f g k = rw (g refl) refl
put_bool false false h p e f g k = refl
put_bool true false h true e f g k = refl
put_bool true false true false e f g k = let is : e ≡ true = k refl in rw is refl
put_bool true false false false e f g k = absurd (false≢true (f refl))

module _ (t : ℕ) (key : List Value) (call : ℕ) (patch : Patch) (earlier : Option Patch) (old new : Entries) (i m j : Contents)
    (notes : MayNote t key (λ c v. patch_has c v patch) i m) (forgets : Forgets t key (λ c v. patch_has c v patch || earlier_has c v earlier) (versions_of new key) m j) where
  -- the entries of other keys
  others : (u c : ℕ) (v : Value) (k : List Value) → ((t == u) && is_eq (key_order key k)) ≡ false → stands j u c v k ≡ stands i u c v k
  others u c v k out =
      forgets.entries u c v k
      ∙ (left_out (stands m u c v k) (t == u) (is_eq (key_order key k)) ((patch_has c v patch || earlier_has c v earlier) && not (has_value c v (versions_of new key))) out
      ∙ both_same (stands m u c v k) (stands i u c v k)
      (λ now. elim (notes.only u c v k now) [
        | inl was ↦ was
        | inr new ↦ absurd (both_ways ((t == u) && is_eq (key_order key k)) out (both (t == u) (is_eq (key_order key k)) (eq-eqb t u new.0) (ap (λ l. is_eq (key_order key l)) (sym new.1) ∙ ap is_eq (same_key key))))
      ])
      (notes.kept u c v k))

  pub put_elsewhere : IsOfTable t i j
  put_elsewhere = record {
    indexed = λ u c. forgets.indexed u c ∙ notes.indexed u c;
    entries = λ u c v k other. others u c v k (ap (λ b. b && is_eq (key_order key k)) other);
    lens = λ u other. forgets.lens u ∙ notes.lens u other;
  }

  -- the entries of the key
  at_key : (c : ℕ) (v : Value) → (stands m t c v key ≡ true → (has_value c v (versions_of old key) || patch_has c v patch) ≡ true) → (has_value c v (versions_of new key) ≡ true → stands m t c v key ≡ true)
      → (has_value c v (versions_of old key) ≡ true → (has_value c v (versions_of new key) || earlier_has c v earlier) ≡ true) → stands j t c v key ≡ has_value c v (versions_of new key)
  at_key c v f g h =
      forgets.entries t c v key
      ∙ (ap (λ a. stands m t c v key && not (a && (is_eq (key_order key key) && ((patch_has c v patch || earlier_has c v earlier) && not (has_value c v (versions_of new key)))))) (eq-eqb t t refl)
      ∙ (ap (λ o. stands m t c v key && not (is_eq o && ((patch_has c v patch || earlier_has c v earlier) && not (has_value c v (versions_of new key))))) (same_key key)
      ∙ put_bool (stands m t c v key) (has_value c v (versions_of new key)) (has_value c v (versions_of old key)) (patch_has c v patch) (earlier_has c v earlier) f g h))

  from_old : IsTableIndex t old i → (c : ℕ) (v : Value) → is_indexed i t c ≡ true → stands m t c v key ≡ true → (has_value c v (versions_of old key) || patch_has c v patch) ≡ true
  from_old is c v on now = elim (notes.only t c v key now) [
    | inl was ↦ or_left (has_value c v (versions_of old key)) (patch_has c v patch) (sym (is.entries c on v key) ∙ was)
    | inr new ↦ or_right (has_value c v (versions_of old key)) (patch_has c v patch) new.2
  ]

  to_mid : IsTableIndex t old i → (c : ℕ) (v : Value) → is_indexed i t c ≡ true → has_value c v (versions_of old key) ≡ true → stands m t c v key ≡ true
  to_mid is c v on has = notes.kept t c v key (is.entries c on v key ∙ has)

  index_by : (f : Versions → Versions) → IsChanged key f old new → ((c : ℕ) (v : Value) → is_indexed i t c ≡ true → stands j t c v key ≡ has_value c v (versions_of new key))
      → ((k : List Value) → is_eq (key_order key k) ≡ true → is_blank (versions_of new k) ≡ false → is_known (lens_of m t) (length k) ≡ true) → IsTableIndex t old i → IsTableIndex t new j
  index_by f change here known is = record {
    entries = λ c on v k. by c (sym (forgets.indexed t c ∙ notes.indexed t c) ∙ on) v k (is_eq (key_order key k)) refl;
    lens = λ k full. ap (λ o. is_known o (length k)) (forgets.lens t) ∙ len k full (is_eq (key_order key k)) refl;
  }
    where
      by : (c : ℕ) → is_indexed i t c ≡ true → (v : Value) (k : List Value) (b : Bool) → is_eq (key_order key k) ≡ b → stands j t c v k ≡ has_value c v (versions_of new k)
      by c on v k true e = subst (λ l. stands j t c v l ≡ has_value c v (versions_of new l)) (tied key k e) (here c v on)
      by c on v k false e =
          others t c v k (ap (λ b. (t == t) && b) e ∙ none (t == t))
          ∙ (is.entries c on v k ∙ sym (ap (has_value c v) (change.at k ∙ ap (λ b. cond b (f (versions_of old k)) (versions_of old k)) e)))
        where
          none : (a : Bool) → (a && false) ≡ false
          none false = refl
          none true = refl

      len : (k : List Value) → is_blank (versions_of new k) ≡ false → (b : Bool) → is_eq (key_order key k) ≡ b → is_known (lens_of m t) (length k) ≡ true
      len k full true e = known k e full
      len k full false e = notes.known t (length k) (is.lens k (sym (ap is_blank (change.at k ∙ ap (λ b. cond b (f (versions_of old k)) (versions_of old k)) e)) ∙ full))

  -- the patch was put
  pub put_index : IsChanged key (with_patch call patch) old new → HasNoted t key (λ c v. patch_has c v patch) m → earlier ≡ own_of call (versions_of old key).own → IsTableIndex t old i → IsTableIndex t new j
  put_index ok has own is =
      index_by (with_patch call patch) ok
      (λ c v on. at_key c v (from_old is c v on)
      (λ h. elim (or_cases (has_value c v (versions_of old key)) (patch_has c v patch) (put_values_from c v call patch (versions_of old key) (sym (ap (has_value c v) now) ∙ h))) [
        | inl was ↦ to_mid is c v on was
        | inr new' ↦ has.entries c v (notes.indexed t c ∙ on) new'
      ])
      (λ h. ap (λ w. has_value c v w || earlier_has c v earlier) now ∙ (ap (λ o. has_value c v (with_patch call patch (versions_of old key)) || earlier_has c v o) own ∙ put_values_or c v call patch (versions_of old key) h)))
      (λ k e full. subst (λ l. is_known (lens_of m t) (length l) ≡ true) (tied key k e) has.len) is
    where
      now : versions_of new key ≡ with_patch call patch (versions_of old key)
      now = ok.at key ∙ ap (λ o. cond (is_eq o) (with_patch call patch (versions_of old key)) (versions_of old key)) (same_key key)

  -- there was no memory for it
  pub unput_index : IsChanged key (λ v. v) old new → IsTableIndex t old i → IsTableIndex t new j
  unput_index err is =
      index_by (λ v. v) err
      (λ c v on. at_key c v (from_old is c v on) (λ h. to_mid is c v on (sym (ap (has_value c v) (changed_none key old new err key)) ∙ h))
      (λ h. or_left (has_value c v (versions_of new key)) (earlier_has c v earlier) (ap (has_value c v) (changed_none key old new err key) ∙ h)))
      (λ k same full. notes.known t (length k) (is.lens k (sym (ap is_blank (changed_none key old new err k)) ∙ full))) is

-- a call's first patch under a key has all its values there
own_put : (c : ℕ) (v : Value) (call : ℕ) (patch : Patch) (own : List Pending) → own_of call own ≡ None → patch_has c v patch ≡ true → own_has c v (with_own call patch own) ≡ true
own_put c v call patch [] none h = or_left (patch_has c v patch) false h
own_put c v call patch (p ∷ ps) none h = elim (cases_Bool (p.call == call)) [
  | inl e ↦ let some : Some p.patch ≡ None = rw e at none in cc
  | inr e ↦ rw e (or_right (patch_has c v p.patch) (own_has c v (with_own call patch ps)) (own_put c v call patch ps (rw e at none) h))
]

first_has : (c : ℕ) (v : Value) (call : ℕ) (patch : Patch) (w : Versions) → own_of call w.own ≡ None → patch_has c v patch ≡ true → has_value c v (with_patch call patch w) ≡ true
first_has c v call patch w none h = or_right (rows_have c v w.base w.commits) (own_has c v (with_own call patch w.own)) (own_put c v call patch w.own none h)

-- nothing goes of what the versions have
needless : (t : ℕ) (key : List Value) (has : ℕ → Value → Bool) (w : Versions) (i : Contents) → ((c : ℕ) (v : Value) → has c v ≡ true → has_value c v w ≡ true) → Forgets t key has w i i
needless t key has w i h = record { indexed = λ u c. refl; entries = λ u c v k. by (stands i u c v k) (t == u) (is_eq (key_order key k)) (has c v) (has_value c v w) (h c v); lens = λ u. refl }
  where
    by : (s a b f n : Bool) → (f ≡ true → n ≡ true) → s ≡ (s && not (a && (b && (f && not n))))
    by false a b f n g = refl
    by true false b f n g = refl
    by true true false f n g = refl
    by true true true false n g = refl
    by true true true true n g = sym (ap (λ x. not (not x)) (g refl))

module _ (t : ℕ) (key : List Value) (call : ℕ) (patch : Patch) (earlier : Option Patch) (old new : Entries) (i m j : Contents)
    (notes : MayNote t key (λ c v. patch_has c v patch) i m) (went : MatchOption earlier (j ≡ m) (λ was. Forgets t key (λ c v. patch_has c v patch || patch_has c v was) (versions_of new key) m j)) (own : earlier ≡ own_of call (versions_of old key).own)
    (ok : IsChanged key (with_patch call patch) old new) where
  forgets : (o : Option Patch) → earlier ≡ o → Forgets t key (λ c v. patch_has c v patch || earlier_has c v o) (versions_of new key) m j
  forgets None is =
      subst (λ x. Forgets t key (λ c v. patch_has c v patch || earlier_has c v None) (versions_of new key) m x) (sym (subst (λ o. MatchOption o (j ≡ m) (λ was. Forgets t key (λ c v. patch_has c v patch || patch_has c v was) (versions_of new key) m j)) is went))
      (needless t key (λ c v. patch_has c v patch || earlier_has c v None) (versions_of new key) m (λ c v h. ap (has_value c v) now ∙ first_has c v call patch (versions_of old key) (sym own ∙ is) (one c v h)))
    where
      now : versions_of new key ≡ with_patch call patch (versions_of old key)
      now = ok.at key ∙ ap (λ o. cond (is_eq o) (with_patch call patch (versions_of old key)) (versions_of old key)) (same_key key)

      one : (c : ℕ) (v : Value) → (patch_has c v patch || false) ≡ true → patch_has c v patch ≡ true
      one c v h = elim (or_cases (patch_has c v patch) false h) [
        | inl e ↦ e
        | inr e ↦ absurd (false≢true e)
      ]
  forgets (Some was) is = subst (λ o. MatchOption o (j ≡ m) (λ x. Forgets t key (λ c v. patch_has c v patch || patch_has c v x) (versions_of new key) m j)) is went

  pub done_index : HasNoted t key (λ c v. patch_has c v patch) m → IsTableIndex t old i → IsTableIndex t new j
  done_index has is = put_index t key call patch earlier old new i m j notes (forgets earlier refl) ok has own is

  pub done_elsewhere : IsOfTable t i j
  done_elsewhere = put_elsewhere t key call patch earlier old new i m j notes (forgets earlier refl)

module _ (t : ℕ) (key : List Value) (call : ℕ) (patch : Patch) (old new : Entries) (i m j : Contents)
    (notes : MayNote t key (λ c v. patch_has c v patch) i m) (forgets : Forgets t key (λ c v. patch_has c v patch || earlier_has c v None) (versions_of new key) m j) where
  pub failed_index : IsChanged key (λ v. v) old new → IsTableIndex t old i → IsTableIndex t new j
  failed_index err is = unput_index t key call patch None old new i m j notes forgets err is

  pub failed_elsewhere : IsOfTable t i j
  failed_elsewhere = put_elsewhere t key call patch None old new i m j notes forgets

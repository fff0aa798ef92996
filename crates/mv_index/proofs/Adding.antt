-- Indexes that get the key of a row.
use Rattle.std.proofs.Common.{◌≡◌, ◌<◌, ◌≤◌, ◌+◌, ◌==◌, ◌⊎◌, ℕ, zero, suc, Bool, true, false, cond, List, [], ◌∷◌, ◌++◌, Option, Some, None, All, length, slice_index_or, slice_set, inl, inr, refl, sym, ap, subst, ◌∙◌, arith}
use Rattle.std.specs.Prelude.{◌||◌, ◌&&◌, Result, Ok, Err, OnOk, OnErr}
use Rattle.std.specs.List.{AllZip, AllWithin, list_any}
use Rattle.std.specs.BTreeMap.{is_at}
use Rattle.std.specs.Map.{lookup}
use Rattle.std.specs.Option.{is_some}
use Rattle.std.specs.Ordering.{is_eq, nat_cmp}
use Rattle.std.specs.Cmp.{Equal-is}
use Rattle.std.proofs.lemmas.Bool.{or_left, or_right, or_cases, eq-eqb, eqb-false}
use Rattle.std.proofs.lemmas.Cmp.{tied_itself, nat_cmp_total}
use Rattle.std.proofs.lemmas.List.Folds.{list_any-append}
use Rattle.std.proofs.lemmas.List.Elements.{All-head, All-tail, AllWithin-more_set}
use Rattle.std.proofs.lemmas.Map.Lookups.{exact_unsigned}
use Rattle.mv_values.specs.declared.value.Value.{Value}
use Rattle.mv_values.specs.Columns.{column_of}
use Rattle.mv_index.specs.Indexing.{Column, Contents, is_of, part_of, keys_of_part, has_key, is_pair, Keeps, AddsOnly, Has, Grows, HasKey, AreEmptyFor, NotesLen, MayNoteLen, is_known, with_len, AreOf}
use Rattle.mv_index.specs.declared.lens.KeyLens.{KeyLens}
use Rattle.mv_index.specs.declared.lens.KeyLens.TheVariants.{One, Several}
use Rattle.mv_values.specs.declared.tested.Tested.{Tested}
use Rattle.mv_index.proofs.Values.{or_false, same_pair, pair_itself}
use Rattle.mv_index.proofs.Parts.{has_in, same_columns}

module _ (table : ℕ) (key row : List Value) where
  abbrev pub Grow : Column → Column → Type 0
  Grow p q = Grows table key row p q

  pub grows_itself : (p : Column) → Grow p p
  grows_itself p = record { same_table = refl; same_column = refl; kept = λ v k h. h; only = λ v k h. inl h }

  pub all_grow : (ps : List Column) → AllZip Grow ps ps
  all_grow [] = tt
  all_grow (p ∷ ps) = (grows_itself p, all_grow ps)

  grows_then : (p q r : Column) → Grow p q → Grow q r → Grow p r
  grows_then p q r h g = record {
    same_table = g.same_table ∙ h.same_table;
    same_column = g.same_column ∙ h.same_column;
    kept = λ v k is. g.kept v k (h.kept v k is);
    only = λ v k is. elim (g.only v k is) [
      | inl was ↦ h.only v k was
      | inr new ↦ inr (sym h.same_table ∙ new.0, new.1 ∙ ap (column_of row) h.same_column, new.2)
    ];
  }

  -- one of the indexes grows more
  pub grow_set : (ps qs : List Column) (at : ℕ) (r : Column) → AllZip Grow ps qs → at < length qs → Grow (slice_index_or qs at r) r → AllZip Grow ps (slice_set qs at r)
  grow_set [] [] at r h lt g = tt
  grow_set [] (q ∷ qs) at r h lt g = absurd h
  grow_set (p ∷ ps) [] at r h lt g = absurd h
  grow_set (p ∷ ps) (q ∷ qs) zero r h lt g = (grows_then p q r h.0 g, h.1)
  grow_set (p ∷ ps) (q ∷ qs) (suc at) r h lt g = (h.0, grow_set ps qs at r h.1 (omega (arith, lt)) g)

  -- the index of a column before and after
  abbrev Both : ℕ → ℕ → Option Column → Option Column → Type 0
  Both t c None None = Unit {0}
  Both t c None (Some q) = ⊥
  Both t c (Some p) None = ⊥
  Both t c (Some p) (Some q) = Grow p q × (is_of t c p ≡ true)

  both_of : (ps qs : List Column) (t c : ℕ) → AllZip Grow ps qs → Both t c (part_of ps t c) (part_of qs t c)
  both_of [] [] t c h = tt
  both_of [] (q ∷ qs) t c h = absurd h
  both_of (p ∷ ps) [] t c h = absurd h
  both_of (p ∷ ps) (q ∷ qs) t c h =
      subst (λ b. Both t c (part_of (p ∷ ps) t c) (cond b (Some q) (part_of qs t c))) (sym same) (by (is_of t c p) refl (both_of ps qs t c h.1))
    where
      same : is_of t c q ≡ is_of t c p
      same = ap (λ n. (n == t) && (q.column == c)) h.0.same_table ∙ ap (λ n. (p.table == t) && (n == c)) h.0.same_column

      by : (b : Bool) → is_of t c p ≡ b → Both t c (part_of ps t c) (part_of qs t c) → Both t c (cond b (Some p) (part_of ps t c)) (cond b (Some q) (part_of qs t c))
      by true e more = (h.0, e)
      by false e more = more

  indexed_by : (t c : ℕ) (p q : Option Column) → Both t c p q → is_some q ≡ is_some p
  indexed_by t c None None h = refl
  indexed_by t c None (Some q) h = absurd h
  indexed_by t c (Some p) None h = absurd h
  indexed_by t c (Some p) (Some q) h = refl

  kept_by : (t c : ℕ) (p q : Option Column) → Both t c p q → (v : Value) (k : List Value) → has_in p v k ≡ true → has_in q v k ≡ true
  kept_by t c None None h v k is = is
  kept_by t c None (Some q) h v k is = absurd h
  kept_by t c (Some p) None h v k is = absurd h
  kept_by t c (Some p) (Some q) h v k is = h.0.kept v k is

  only_by : (t c : ℕ) (p q : Option Column) → Both t c p q → (v : Value) (k : List Value) → has_in q v k ≡ true → (has_in p v k ≡ true) ⊎ ((t ≡ table) × (v ≡ column_of row c) × (k ≡ key))
  only_by t c None None h v k is = inl is
  only_by t c None (Some q) h v k is = absurd h
  only_by t c (Some p) None h v k is = absurd h
  only_by t c (Some p) (Some q) h v k is = elim (h.0.only v k is) [
    | inl was ↦ inl was
    | inr new ↦ let own = same_columns p.table p.column t c h.1 in inr (sym own.0 ∙ new.0, new.1 ∙ ap (column_of row) own.1, new.2)
  ]

  pub grown_indexed : (ps qs : List Column) → AllZip Grow ps qs → (t c : ℕ) → is_some (part_of qs t c) ≡ is_some (part_of ps t c)
  grown_indexed ps qs h t c = indexed_by t c (part_of ps t c) (part_of qs t c) (both_of ps qs t c h)

  pub grown_kept : (ps qs : List Column) → AllZip Grow ps qs → (t c : ℕ) (v : Value) (k : List Value) → has_in (part_of ps t c) v k ≡ true → has_in (part_of qs t c) v k ≡ true
  grown_kept ps qs h t c v k is = kept_by t c (part_of ps t c) (part_of qs t c) (both_of ps qs t c h) v k is

  pub grown_only : (ps qs : List Column) → AllZip Grow ps qs → (t c : ℕ) (v : Value) (k : List Value) → has_in (part_of qs t c) v k ≡ true
      → (has_in (part_of ps t c) v k ≡ true) ⊎ ((t ≡ table) × (v ≡ column_of row c) × (k ≡ key))
  grown_only ps qs h t c v k is = only_by t c (part_of ps t c) (part_of qs t c) (both_of ps qs t c h) v k is

  -- the key stands in each column of the table
  pub have_all : (ps : List Column) → All (HasKey table key row) ps → (c : ℕ) → is_some (part_of ps table c) ≡ true → has_in (part_of ps table c) (column_of row c) key ≡ true
  have_all [] h c some = cc
  have_all (p ∷ ps) h c some = by (is_of table c p) refl some (have_all ps (All-tail (HasKey table key row) p ps h) c)
    where
      by : (b : Bool) → is_of table c p ≡ b → is_some (cond b (Some p) (part_of ps table c)) ≡ true → (is_some (part_of ps table c) ≡ true → has_in (part_of ps table c) (column_of row c) key ≡ true)
          → has_in (cond b (Some p) (part_of ps table c)) (column_of row c) key ≡ true
      by true e some' more =
          let own = same_columns p.table p.column table c e in
          ap (λ n. has_key p.entries (column_of row n) key) (sym own.1) ∙ All-head (HasKey table key row) p ps h own.0
      by false e some' more = more some'

  pub grow_then : (ps qs rs : List Column) → AllZip Grow ps qs → AllZip Grow qs rs → AllZip Grow ps rs
  grow_then [] [] [] h g = tt
  grow_then [] [] (r ∷ rs) h g = absurd g
  grow_then [] (q ∷ qs) rs h g = absurd h
  grow_then (p ∷ ps) [] rs h g = absurd h
  grow_then (p ∷ ps) (q ∷ qs) [] h g = absurd g
  grow_then (p ∷ ps) (q ∷ qs) (r ∷ rs) h g = (grows_then p q r h.0 g.0, grow_then ps qs rs h.1 g.1)

  pub same_count : (ps qs : List Column) → AllZip Grow ps qs → length qs ≡ length ps
  same_count [] [] h = refl
  same_count [] (q ∷ qs) h = absurd h
  same_count (p ∷ ps) [] h = absurd h
  same_count (p ∷ ps) (q ∷ qs) h = ap suc (same_count ps qs h.1)

  pub have_to_end : (ps : List Column) (at : ℕ) → length ps ≤ at → AllWithin (HasKey table key row) ps 0 at → All (HasKey table key row) ps
  have_to_end ps at le h = λ k d lt. h k d (omega arith) (omega (arith, lt, le))

  -- the key was put under the row's value, or there was no memory
  pub put_grows : {A E : Type 0} (r : Result A E) (value : Value) (p q : Column) → p.table ≡ table → q.table ≡ p.table → q.column ≡ p.column → value ≡ column_of row p.column
      → OnOk r ((v : Value) (k : List Value) → has_key q.entries v k ≡ (has_key p.entries v k || is_pair value key v k))
      → OnErr r ((v : Value) (k : List Value) → has_key q.entries v k ≡ has_key p.entries v k) → Grow p q
  put_grows (Ok x) value p q own same_table same_column is ok err = record {
    same_table = same_table;
    same_column = same_column;
    kept = λ v k h. ok v k ∙ or_left (has_key p.entries v k) (is_pair value key v k) h;
    only = λ v k h. elim (or_cases (has_key p.entries v k) (is_pair value key v k) (sym (ok v k) ∙ h)) [
      | inl was ↦ inl was
      | inr new ↦ let pair = same_pair value v key k new in inr (own, pair.0 ∙ is, pair.1)
    ];
  }
  put_grows (Err e) value p q own same_table same_column is ok err = record { same_table = same_table; same_column = same_column; kept = λ v k h. err v k ∙ h; only = λ v k h. inl (sym (err v k) ∙ h) }

  pub put_has : {A E : Type 0} (r : Result A E) (value : Value) (p q : Column) → q.column ≡ p.column → value ≡ column_of row p.column
      → OnOk r ((v : Value) (k : List Value) → has_key q.entries v k ≡ (has_key p.entries v k || is_pair value key v k)) → OnOk r (HasKey table key row q)
  put_has (Ok x) value p q same_column is ok = λ own.
      let at : column_of row q.column ≡ value = ap (column_of row) same_column ∙ sym is in
      ok (column_of row q.column) key ∙ or_right (has_key p.entries (column_of row q.column) key) (is_pair value key (column_of row q.column) key) (ap (λ w. is_pair value key w key) at ∙ pair_itself value key)
  put_has (Err e) value p q same_column is ok = tt

  -- one of the indexes got the key, or there was no memory
  pub have_more : {A E : Type 0} (r : Result A E) (ps : List Column) (at : ℕ) (q : Column) → at < length ps → OnOk r (HasKey table key row q) → OnOk r (AllWithin (HasKey table key row) ps 0 at → AllWithin (HasKey table key row) (slice_set ps at q) 0 (at + 1))
  have_more (Ok x) ps at q lt has = λ h. AllWithin-more_set ps at q lt (HasKey table key row) h has
  have_more (Err e) ps at q lt has = tt

-- Lengths

pub known_with : (o : Option KeyLens) (n len : ℕ) → is_known o len ≡ true → is_known (Some (with_len o n)) len ≡ true
known_with None n len h = cc
known_with (Some (One m)) n len h = by (m == n)
  where
    by : (b : Bool) → is_known (Some (cond b (One m) Several)) len ≡ true
    by true = h
    by false = refl
known_with (Some Several) n len h = refl

known_itself : (o : Option KeyLens) (n : ℕ) → is_known (Some (with_len o n)) n ≡ true
known_itself None n = eq-eqb n n refl
known_itself (Some (One m)) n = by (m == n) refl
  where
    by : (b : Bool) → m == n ≡ b → is_known (Some (cond b (One m) Several)) n ≡ true
    by true e = e
    by false e = refl
known_itself (Some Several) n = refl

-- a length that is known changes nothing
noted_again : (o : Option KeyLens) (n : ℕ) → is_known o n ≡ true → o ≡ Some (with_len o n)
noted_again None n h = cc
noted_again (Some (One m)) n h = by (m == n) h
  where
    by : (b : Bool) → b ≡ true → Some (One m) ≡ Some (cond b (One m) Several)
    by true e = refl
    by false e = cc
noted_again (Some Several) n h = refl

pub noted_before : (table len : ℕ) (lens : List (ℕ × KeyLens)) → is_known (lookup (is_at (nat_cmp table)) lens) len ≡ true → NotesLen table len lens lens
noted_before table len lens h t = by (is_eq (nat_cmp table t)) refl
  where
    by : (b : Bool) → is_eq (nat_cmp table t) ≡ b → lookup (is_at (nat_cmp t)) lens ≡ cond b (Some (with_len (lookup (is_at (nat_cmp table)) lens) len)) (lookup (is_at (nat_cmp t)) lens)
    by true e = ap (λ m. lookup (is_at (nat_cmp m)) lens) (sym (exact_unsigned table t ((Equal-is (nat_cmp table t)).0 e))) ∙ noted_again (lookup (is_at (nat_cmp table)) lens) len h
    by false e = refl

-- no other length is added
pub of_with : (o : Option KeyLens) (len n : ℕ) → AreOf len o → n ≡ len → AreOf len (Some (with_len o n))
of_with None len n h is = is
of_with (Some (One m)) len n h is = subst (λ b. AreOf len (Some (cond b (One m) Several))) (sym (eq-eqb m n (h ∙ sym is))) h
of_with (Some Several) len n h is = absurd h

module _ (table len : ℕ) (old new : List (ℕ × KeyLens)) (notes : NotesLen table len old new) where
  abbrev was : ℕ → Option KeyLens
  was t = lookup (is_at (nat_cmp t)) old

  abbrev is : ℕ → Option KeyLens
  is t = lookup (is_at (nat_cmp t)) new

  same : (t : ℕ) → is_eq (nat_cmp table t) ≡ true → table ≡ t
  same t e = exact_unsigned table t ((Equal-is (nat_cmp table t)).0 e)

  pub lens_kept : (t n : ℕ) → is_known (was t) n ≡ true → is_known (is t) n ≡ true
  lens_kept t n h = ap (λ o. is_known o n) (notes t) ∙ by (is_eq (nat_cmp table t)) refl
    where
      by : (b : Bool) → is_eq (nat_cmp table t) ≡ b → is_known (cond b (Some (with_len (was table) len)) (was t)) n ≡ true
      by true e = known_with (was table) len n (ap (λ m. is_known (was m) n) (same t e) ∙ h)
      by false e = h

  pub lens_only : (t : ℕ) → (is t ≡ was t) ⊎ ((t ≡ table) × (is t ≡ Some (with_len (was t) len)))
  lens_only t = by (is_eq (nat_cmp table t)) refl (notes t)
    where
      by : (b : Bool) → is_eq (nat_cmp table t) ≡ b → is t ≡ cond b (Some (with_len (was table) len)) (was t) → (is t ≡ was t) ⊎ ((t ≡ table) × (is t ≡ Some (with_len (was t) len)))
      by true e h = inr (sym (same t e), h ∙ ap (λ m. Some (with_len (was m) len)) (same t e))
      by false e h = inl h

  pub len_noted : is_known (is table) len ≡ true
  len_noted = ap (λ o. is_known o len) (notes table ∙ ap (λ b. cond b (Some (with_len (was table) len)) (was table)) (ap is_eq (tied_itself nat_cmp_total table))) ∙ known_itself (was table) len

-- the length of a key was noted, or there was no memory
pub notes_by : {A E : Type 0} (r : Result A E) (table len : ℕ) (columns : List Column) (old new : List (ℕ × KeyLens)) → OnOk r (NotesLen table len old new) → OnErr r (new ≡ old)
    → MayNoteLen table (record { columns = columns; key_lens = old }) (record { columns = columns; key_lens = new })
notes_by (Ok x) table len columns old new notes err = record {
  columns = refl;
  known = lens_kept table len old new notes;
  lens = λ t other. elim (lens_only table len old new notes t) [
    | inl same ↦ same
    | inr more ↦ absurd (eqb-false table t other (sym more.0))
  ];
}
notes_by (Err e) table len columns old new notes err = record {
  columns = refl;
  known = λ t n h. ap (λ es. is_known (lookup (is_at (nat_cmp t)) es) n) err ∙ h;
  lens = λ t other. ap (λ es. lookup (is_at (nat_cmp t)) es) err;
}

-- An index

-- with the columns and the lengths after an addition
pub keeps_by : (table : ℕ) (key row : List Value) (len : ℕ) (old new : Contents) → AllZip (Grows table key row) old.columns new.columns → NotesLen table len old.key_lens new.key_lens → Keeps old new
keeps_by table key row len old new grow notes = record {
  indexed = λ t c. grown_indexed table key row old.columns new.columns grow t c;
  entries = λ t c v k h. grown_kept table key row old.columns new.columns grow t c v k h;
  lens = lens_kept table len old.key_lens new.key_lens notes;
}

pub only_by_adding : (table : ℕ) (key row : List Value) (old new : Contents) → AllZip (Grows table key row) old.columns new.columns → NotesLen table (length key) old.key_lens new.key_lens → AddsOnly table key row old new
only_by_adding table key row old new grow notes = record {
  entries = λ t c v k h. grown_only table key row old.columns new.columns grow t c v k h;
  lens = lens_only table (length key) old.key_lens new.key_lens notes;
}

pub has_by : {A E : Type 0} (r : Result A E) (table : ℕ) (key row : List Value) (old new : Contents) → OnOk r (All (HasKey table key row) new.columns) → NotesLen table (length key) old.key_lens new.key_lens → OnOk r (Has table key row new)
has_by (Ok x) table key row old new have notes = record { entries = λ c on. have_all table key row new.columns have c on; len = len_noted table (length key) old.key_lens new.key_lens notes }
has_by (Err e) table key row old new have notes = tt

-- unchanged
pub keeps_itself : (index : Contents) → Keeps index index
keeps_itself index = record { indexed = λ t c. refl; entries = λ t c v k h. h; lens = λ t len h. h }

pub adds_nothing : (table : ℕ) (key row : List Value) (index : Contents) → AddsOnly table key row index index
adds_nothing table key row index = record { entries = λ t c v k h. inl h; lens = λ t. inl refl }

-- Empty indexes

part_append : (ps : List Column) (p : Column) (t c : ℕ) → part_of (ps ++ p ∷ []) t c ≡ cond (is_some (part_of ps t c)) (part_of ps t c) (cond (is_of t c p) (Some p) None)
part_append [] p t c = refl
part_append (q ∷ qs) p t c = by (is_of t c q) (part_append qs p t c)
  where
    by : (b : Bool) → part_of (qs ++ p ∷ []) t c ≡ cond (is_some (part_of qs t c)) (part_of qs t c) (cond (is_of t c p) (Some p) None)
        → cond b (Some q) (part_of (qs ++ p ∷ []) t c) ≡ cond (is_some (cond b (Some q) (part_of qs t c))) (cond b (Some q) (part_of qs t c)) (cond (is_of t c p) (Some p) None)
    by true more = refl
    by false more = more

abbrev is_tested : ℕ → ℕ → Tested → Bool
is_tested t c x = (x.table == t) && (x.column == c)

tested_more : (columns : List Tested) (x : Tested) (t c : ℕ) → list_any (is_tested t c) (columns ++ x ∷ []) ≡ (list_any (is_tested t c) columns || is_tested t c x)
tested_more columns x t c = list_any-append (is_tested t c) columns (x ∷ []) ∙ ap (λ b. list_any (is_tested t c) columns || b) (or_false (is_tested t c x))

pub empty_more : (columns : List Tested) (x : Tested) (ps : List Column) (p : Column) → p.table ≡ x.table → p.column ≡ x.column → p.entries ≡ [] → AreEmptyFor columns ps → AreEmptyFor (columns ++ x ∷ []) (ps ++ p ∷ [])
empty_more columns x ps p table column empty h = record {
  indexed = λ t c.
      ap is_some (part_append ps p t c)
      ∙ (known (part_of ps t c) (is_of t c p)
      ∙ (ap (λ b. b || is_of t c p) (h.indexed t c)
      ∙ (ap (λ b. list_any (is_tested t c) columns || b) (ap (λ n. (n == t) && (p.column == c)) table ∙ ap (λ n. (x.table == t) && (n == c)) column) ∙ sym (tested_more columns x t c))));
  none = λ t c v. ap (λ o. keys_of_part o v) (part_append ps p t c) ∙ none v (part_of ps t c) (is_of t c p) (h.none t c v);
}
  where
    known : (o : Option Column) (b : Bool) → is_some (cond (is_some o) o (cond b (Some p) None)) ≡ (is_some o || b)
    known None true = refl
    known None false = refl
    known (Some q) b = refl

    none : (v : Value) (o : Option Column) (b : Bool) → keys_of_part o v ≡ [] → keys_of_part (cond (is_some o) o (cond b (Some p) None)) v ≡ []
    none v None true g = rw empty refl
    none v None false g = refl
    none v (Some q) b g = g

-- a column that has its index already
pub empty_again : (columns : List Tested) (x : Tested) (ps : List Column) → is_some (part_of ps x.table x.column) ≡ true → AreEmptyFor columns ps → AreEmptyFor (columns ++ x ∷ []) ps
empty_again columns x ps some h = record {
  indexed = λ t c. known t c (is_tested t c x) refl ∙ (ap (λ b. b || is_tested t c x) (h.indexed t c) ∙ sym (tested_more columns x t c));
  none = h.none;
}
  where
    known : (t c : ℕ) (b : Bool) → is_tested t c x ≡ b → is_some (part_of ps t c) ≡ (is_some (part_of ps t c) || b)
    known t c true e =
        let own = same_columns x.table x.column t c e in
        let there : is_some (part_of ps t c) ≡ true = ap (λ n. is_some (part_of ps n c)) (sym own.0) ∙ (ap (λ n. is_some (part_of ps x.table n)) (sym own.1) ∙ some) in
        rw there refl
    known t c false e = sym (or_false (is_some (part_of ps t c)))

-- The entries of an index as versions change.
use Rattle.std.proofs.Common.{◌≡◌, ◌<◌, ◌≤◌, ◌+◌, ◌==◌, ◌&&◌, ℕ, Bool, true, false, cond, inl, inr, List, [], ◌∷◌, Option, Some, None, length, take, slice_index_or, slice_set, refl, sym, ap, subst, ◌∙◌}
use Rattle.std.specs.Prelude.{not, ◌||◌}
use Rattle.std.specs.List.{list_any}
use Rattle.std.specs.Option.{is_some}
use Rattle.std.specs.Ordering.{is_eq}
use Rattle.std.proofs.lemmas.Bool.{cases_Bool, eqb-true, eqb-false, eq-eqb, false≢true, both_ways}
use Rattle.std.proofs.lemmas.List.{take_all, get_or-set_same, get_or-set_other}
use Rattle.std.proofs.lemmas.List.Folds.{list_any_more}
use Rattle.mv_values.specs.declared.value.Value.{Value}
use Rattle.mv_values.specs.declared.tested.Tested.{Tested}
use Rattle.mv_values.specs.Columns.{column_of}
use Rattle.mv_values.specs.Order.{key_order}
use Rattle.mv_values.specs.Testing.{are_tested}
use Rattle.mv_values.proofs.KeyOrder.{tied, same_key}
use Rattle.mv_table.specs.Entries.{item_of}
use Rattle.mv_chain.specs.Versions.{Versions, blank, is_blank}
use Rattle.mv_chain.specs.Having.{is_value, row_has, call_has, has_value}
use Rattle.mv_chain.proofs.Blank.{blank_only}
use Rattle.mv_chain.proofs.Going.{dropped_from, dropped_or, stamped_from, stamped_or}
use Rattle.mv_index.specs.Indexing.{Contents, Column, part_of, keys_of_part, is_indexed, stands, is_known, Loses}
use Rattle.mv_index.proofs.Values.{same_value}
use Rattle.mv_store.specs.Stored.{Entries}
use Rattle.mv_store.specs.declared.change.Fate.{Fate}
use Rattle.mv_store.specs.declared.change.Fate.TheVariants.{Commit, Gone}
use Rattle.mv_store.specs.Kept.{versions_of, entries_at, finished, IsChanged}
use Rattle.mv_store.specs.Indexed.{IsTableIndex, IsIndexOf, IsOfColumns, IsOfTable, Forgets, Follows}

-- Bools

and_true : (s : Bool) → s ≡ (s && true)
and_true false = refl
and_true true = refl

none_gone : (s a b f k : Bool) → f ≡ false → s ≡ (s && not (a && (b && (f && k))))
none_gone s a b f k e = rw e (by s a b)
  where
    by : (s a b : Bool) → s ≡ (s && not (a && (b && false)))
    by false a b = refl
    by true false b = refl
    by true true false = refl
    by true true true = refl

both_gone : (s a b f g k : Bool) → ((s && not (a && (b && (f && not k)))) && not (a && (b && (g && not k)))) ≡ (s && not (a && (b && ((f || g) && not k))))
both_gone false a b f g k = refl
both_gone true false b f g k = refl
both_gone true true false f g k = refl
both_gone true true true false g k = refl
both_gone true true true true false true = refl
both_gone true true true true true true = refl
both_gone true true true true g false = refl

moved : (s a b x y h : Bool) → (b ≡ true → x ≡ true → h ≡ false) → (s && not (a && (b && (x && y)))) ≡ (s && not (a && (y && ((b && x) && not h))))
moved s false b x y h f = refl
moved s true false x false h f = refl
moved s true false x true h f = refl
moved s true true false false h f = refl
moved s true true false true h f = refl
moved s true true true false h f = refl
moved s true true true true h f = rw (f refl refl) refl

kept_only : (h g k : Bool) → (k ≡ true → h ≡ true) → (h ≡ true → (k || g) ≡ true) → (h && not (g && not k)) ≡ k
kept_only h false true f e = rw (f refl) refl
kept_only h true true f e = rw (f refl) refl
kept_only false g false f e = refl
kept_only true false false f e = absurd (false≢true (e refl))
kept_only true true false f e = refl

pub left_out : (s a b x : Bool) → (a && b) ≡ false → (s && not (a && (b && x))) ≡ s
left_out s false b x e = sym (and_true s)
left_out s true false x e = sym (and_true s)
left_out s true true x e = absurd (false≢true (sym e))

-- A column that isn't indexed

no_entry : (o : Option Column) (v : Value) (k : List Value) → is_some o ≡ false → is_some (item_of (keys_of_part o v) k) ≡ false
no_entry None v k h = refl
no_entry (Some part) v k h = absurd (false≢true (sym h))

pub not_standing : (i : Contents) (t c : ℕ) (v : Value) (k : List Value) → is_indexed i t c ≡ false → stands i t c v k ≡ false
not_standing i t c v k h = no_entry (part_of i.columns t c) v k h

-- Entries that go

module _ (t : ℕ) (key : List Value) (w : Versions) where
  pub forgets_itself : (has : ℕ → Value → Bool) (i : Contents) → ((c : ℕ) (v : Value) → has c v ≡ false) → Forgets t key has w i i
  forgets_itself has i h = record {
    indexed = λ u c. refl;
    entries = λ u c v k. none_gone (stands i u c v k) (t == u) (is_eq (key_order key k)) (has c v) (not (has_value c v w)) (h c v);
    lens = λ u. refl;
  }

  pub forgets_as : (has as' : ℕ → Value → Bool) (i j : Contents) → ((c : ℕ) (v : Value) → has c v ≡ as' c v) → Forgets t key has w i j → Forgets t key as' w i j
  forgets_as has as' i j same f = record {
    indexed = f.indexed;
    entries = λ u c v k. f.entries u c v k ∙ ap (λ b. stands i u c v k && not ((t == u) && (is_eq (key_order key k) && (b && not (has_value c v w))))) (same c v);
    lens = f.lens;
  }

  pub forgets_then : (has more all : ℕ → Value → Bool) (i j l : Contents) → ((c : ℕ) (v : Value) → all c v ≡ (has c v || more c v)) → Forgets t key has w i j → Forgets t key more w j l → Forgets t key all w i l
  forgets_then has more all i j l is f g = record {
    indexed = λ u c. g.indexed u c ∙ f.indexed u c;
    entries = λ u c v k.
        g.entries u c v k
        ∙ (ap (λ s. s && not ((t == u) && (is_eq (key_order key k) && (more c v && not (has_value c v w))))) (f.entries u c v k)
        ∙ (both_gone (stands i u c v k) (t == u) (is_eq (key_order key k)) (has c v) (more c v) (has_value c v w)
        ∙ ap (λ b. stands i u c v k && not ((t == u) && (is_eq (key_order key k) && (b && not (has_value c v w))))) (sym (is c v))));
    lens = λ u. g.lens u ∙ f.lens u;
  }

  -- one of a list more
  pub forgets_more : {A : Type 0} (p : A → ℕ → Value → Bool) (xs : List A) (at : ℕ) (x : A) (i j l : Contents) → at < length xs → x ≡ slice_index_or xs at x
      → Forgets t key (λ c v. list_any (λ y. p y c v) (take at xs)) w i j → Forgets t key (p x) w j l → Forgets t key (λ c v. list_any (λ y. p y c v) (take (at + 1) xs)) w i l
  forgets_more p xs at x i j l lt is f g =
      forgets_then (λ c v. list_any (λ y. p y c v) (take at xs)) (p x) (λ c v. list_any (λ y. p y c v) (take (at + 1) xs)) i j l
      (λ c v. list_any_more (λ y. p y c v) xs at x lt ∙ ap (λ y. list_any (λ z. p z c v) (take at xs) || p y c v) (sym is)) f g

  -- the same, where the one stands at a place
  pub forgets_at : {A : Type 0} (p : A → ℕ → Value → Bool) (xs : List A) (at : ℕ) (d : A) (i j l : Contents) → at < length xs → Forgets t key (λ c v. list_any (λ y. p y c v) (take at xs)) w i j → Forgets t key (p (slice_index_or xs at d)) w j l
      → Forgets t key (λ c v. list_any (λ y. p y c v) (take (at + 1) xs)) w i l
  forgets_at p xs at d i j l lt f g =
      forgets_then (λ c v. list_any (λ y. p y c v) (take at xs)) (p (slice_index_or xs at d)) (λ c v. list_any (λ y. p y c v) (take (at + 1) xs)) i j l (λ c v. list_any_more (λ y. p y c v) xs at d lt) f g

  pub forgets_all : {A : Type 0} (p : A → ℕ → Value → Bool) (xs : List A) (at : ℕ) (i j : Contents) → length xs ≤ at → Forgets t key (λ c v. list_any (λ y. p y c v) (take at xs)) w i j → Forgets t key (λ c v. list_any (λ y. p y c v) xs) w i j
  forgets_all p xs at i j le f = forgets_as (λ c v. list_any (λ y. p y c v) (take at xs)) (λ c v. list_any (λ y. p y c v) xs) i j (λ c v. ap (list_any (λ y. p y c v)) (take_all at xs le)) f

  -- one value of a column
  abbrev pub gives : ℕ → Value → ℕ → Value → Bool
  gives column value c v = (column == c) && is_value v value

  pub value_unindexed : (column : ℕ) (value : Value) (i : Contents) → is_indexed i t column ≡ false → Forgets t key (gives column value) w i i
  value_unindexed column value i none = record { indexed = λ u c. refl; entries = λ u c v k. by u c v k (t == u) refl (column == c) refl; lens = λ u. refl }
    where
      by : (u c : ℕ) (v : Value) (k : List Value) (a : Bool) → (t == u) ≡ a → (b : Bool) → (column == c) ≡ b
          → stands i u c v k ≡ (stands i u c v k && not (a && (is_eq (key_order key k) && ((b && is_value v value) && not (has_value c v w)))))
      by u c v k true e true f =
          let off : is_indexed i u c ≡ false = ap (λ n. is_indexed i n c) (sym (eqb-true t u e)) ∙ (ap (λ n. is_indexed i t n) (sym (eqb-true column c f)) ∙ none) in
          let none_is = not_standing i u c v k off in
          none_is ∙ sym (ap (λ s. s && not (is_eq (key_order key k) && (is_value v value && not (has_value c v w)))) none_is)
      by u c v k true e false f = none_gone (stands i u c v k) true (is_eq (key_order key k)) false (not (has_value c v w)) refl
      by u c v k false e b f = and_true (stands i u c v k)

  pub value_kept : (column : ℕ) (value : Value) (i : Contents) → has_value column value w ≡ true → Forgets t key (gives column value) w i i
  value_kept column value i there = record { indexed = λ u c. refl; entries = λ u c v k. by u c v k (column == c) refl (is_value v value) refl; lens = λ u. refl }
    where
      by : (u c : ℕ) (v : Value) (k : List Value) (b : Bool) → (column == c) ≡ b → (x : Bool) → is_value v value ≡ x
          → stands i u c v k ≡ (stands i u c v k && not ((t == u) && (is_eq (key_order key k) && ((b && x) && not (has_value c v w)))))
      by u c v k true e true f =
          let has : has_value c v w ≡ true = ap (λ n. has_value n v w) (sym (eqb-true column c e)) ∙ (ap (λ z. has_value column z w) (sym (same_value value v f)) ∙ there) in
          none_gone (stands i u c v k) (t == u) (is_eq (key_order key k)) false true refl ∙ ap (λ h. stands i u c v k && not ((t == u) && (is_eq (key_order key k) && not h))) (sym has)
      by u c v k true e false f = none_gone (stands i u c v k) (t == u) (is_eq (key_order key k)) false (not (has_value c v w)) refl
      by u c v k false e x f = none_gone (stands i u c v k) (t == u) (is_eq (key_order key k)) false (not (has_value c v w)) refl

  pub value_gone : (column : ℕ) (value : Value) (i j : Contents) → has_value column value w ≡ false → Loses t column value key i j → Forgets t key (gives column value) w i j
  value_gone column value i j none loses = record {
    indexed = loses.indexed;
    entries = λ u c v k.
        loses.entries u c v k
        ∙ moved (stands i u c v k) (t == u) (column == c) (is_value v value) (is_eq (key_order key k)) (has_value c v w) (λ e f. ap (λ n. has_value n v w) (sym (eqb-true column c e)) ∙ (ap (λ z. has_value column z w) (sym (same_value value v f)) ∙ none));
    lens = loses.lens;
  }

  -- the value of a row in one column
  abbrev pub row_in : List Value → Tested → ℕ → Value → Bool
  row_in row x c v = ((x.table == t) && (x.column == c)) && row_has c v (Some row)

  pub column_elsewhere : (row : List Value) (x : Tested) (i : Contents) → (x.table == t) ≡ false → Forgets t key (row_in row x) w i i
  column_elsewhere row x i other = forgets_itself (row_in row x) i (λ c v. ap (λ b. (b && (x.column == c)) && row_has c v (Some row)) other)

  pub column_here : (row : List Value) (x : Tested) (value : Value) (i j : Contents) → (x.table == t) ≡ true → value ≡ column_of row x.column → Forgets t key (gives x.column value) w i j → Forgets t key (row_in row x) w i j
  column_here row x value i j own is f = forgets_as (gives x.column value) (row_in row x) i j (λ c v. by c v (x.column == c) refl) f
    where
      by : (c : ℕ) (v : Value) (b : Bool) → (x.column == c) ≡ b → (b && is_value v value) ≡ (((x.table == t) && b) && row_has c v (Some row))
      by c v true e = ap (is_value v) (is ∙ ap (column_of row) (eqb-true x.column c e)) ∙ sym (ap (λ b. (b && true) && row_has c v (Some row)) own)
      by c v false e = sym (ap (λ b. (b && false) && row_has c v (Some row)) own)

  any_and : {A : Type 0} (p : A → Bool) (b : Bool) (xs : List A) → list_any (λ x. p x && b) xs ≡ (list_any p xs && b)
  any_and p b [] = refl
  any_and p b (x ∷ xs) = ap (λ r. (p x && b) || r) (any_and p b xs) ∙ by (p x) (list_any p xs) b
    where
      by : (a c b : Bool) → ((a && b) || (c && b)) ≡ ((a || c) && b)
      by true true true = refl
      by true false true = refl
      by true true false = refl
      by true false false = refl
      by false c b = refl

  pub row_gone : (row : List Value) (columns : List Tested) (i j : Contents) → Forgets t key (λ c v. list_any (λ x. row_in row x c v) columns) w i j → Forgets t key (λ c v. are_tested columns t c && row_has c v (Some row)) w i j
  row_gone row columns i j f =
      forgets_as (λ c v. list_any (λ x. row_in row x c v) columns) (λ c v. are_tested columns t c && row_has c v (Some row)) i j (λ c v. any_and (λ x. (x.table == t) && (x.column == c)) (row_has c v (Some row)) columns) f

  -- what is told of the indexed columns alone is all
  pub all_gone : (columns : List Tested) (has : ℕ → Value → Bool) (i j : Contents) → IsOfColumns columns i → Forgets t key (λ c v. are_tested columns t c && has c v) w i j → Forgets t key has w i j
  all_gone columns has i j of f = record { indexed = f.indexed; entries = λ u c v k. f.entries u c v k ∙ by u c v k (t == u) refl (is_indexed i t c) refl; lens = f.lens }
    where
      by : (u c : ℕ) (v : Value) (k : List Value) (a : Bool) → (t == u) ≡ a → (b : Bool) → is_indexed i t c ≡ b
          → (stands i u c v k && not (a && (is_eq (key_order key k) && ((are_tested columns t c && has c v) && not (has_value c v w))))) ≡ (stands i u c v k && not (a && (is_eq (key_order key k) && (has c v && not (has_value c v w)))))
      by u c v k true e true on = ap (λ b. stands i u c v k && not (is_eq (key_order key k) && ((b && has c v) && not (has_value c v w)))) (of t c on)
      by u c v k true e false off =
          let none_is = not_standing i u c v k (ap (λ n. is_indexed i n c) (sym (eqb-true t u e)) ∙ off) in
          ap (λ s. s && not (is_eq (key_order key k) && ((are_tested columns t c && has c v) && not (has_value c v w)))) none_is ∙ sym (ap (λ s. s && not (is_eq (key_order key k) && (has c v && not (has_value c v w)))) none_is)
      by u c v k false e b on = refl

pub of_columns : (columns : List Tested) (i j : Contents) → ((u c : ℕ) → is_indexed j u c ≡ is_indexed i u c) → IsOfColumns columns i → IsOfColumns columns j
of_columns columns i j same of t c on = of t c (sym (same t c) ∙ on)

-- Versions that lose values

pub follows_by : (t : ℕ) (key : List Value) (has : ℕ → Value → Bool) (was is : Versions) (i j : Contents) → Forgets t key has is i j → ((c : ℕ) (v : Value) → has_value c v is ≡ true → has_value c v was ≡ true)
    → ((c : ℕ) (v : Value) → has_value c v was ≡ true → (has_value c v is || has c v) ≡ true) → Follows t key was is i j
follows_by t key has was is i j f from or = record {
  indexed = f.indexed;
  there = λ c v same.
      f.entries t c v key
      ∙ (ap (λ a. stands i t c v key && not (a && (is_eq (key_order key key) && (has c v && not (has_value c v is))))) (eq-eqb t t refl)
      ∙ (ap (λ o. stands i t c v key && not (is_eq o && (has c v && not (has_value c v is)))) (same_key key)
      ∙ (ap (λ s. s && not (has c v && not (has_value c v is))) same ∙ kept_only (has_value c v was) (has c v) (has_value c v is) (from c v) (or c v))));
  elsewhere = λ u c v k out. f.entries u c v k ∙ left_out (stands i u c v k) (t == u) (is_eq (key_order key k)) (has c v && not (has_value c v is)) out;
  lens = f.lens;
}

finished_from : (fate : Fate) (call c : ℕ) (v : Value) (w : Versions) → has_value c v (finished fate call w) ≡ true → has_value c v w ≡ true
finished_from (Commit n) call c v w h = stamped_from c v call n w h
finished_from Gone call c v w h = dropped_from c v call w h

finished_or : (fate : Fate) (call c : ℕ) (v : Value) (w : Versions) → has_value c v w ≡ true → (has_value c v (finished fate call w) || call_has c v call w.own) ≡ true
finished_or (Commit n) call c v w h = stamped_or c v call n w h
finished_or Gone call c v w h = dropped_or c v call w h

pub call_follows : (t : ℕ) (key : List Value) (call : ℕ) (fate : Fate) (w : Versions) (i j : Contents) → Forgets t key (λ c v. call_has c v call w.own) (finished fate call w) i j → Follows t key w (finished fate call w) i j
call_follows t key call fate w i j f = follows_by t key (λ c v. call_has c v call w.own) w (finished fate call w) i j f (λ c v. finished_from fate call c v w) (λ c v. finished_or fate call c v w)

-- A key of a table

is_blank_blank : (w : Versions) → w ≡ blank → is_blank w ≡ true
is_blank_blank w e = ap is_blank e

-- versions that aren't blank after a change weren't before it
filled_before : (f : Versions → Versions) (w : Versions) → f blank ≡ blank → is_blank (f w) ≡ false → is_blank w ≡ false
filled_before f w stays full = elim (cases_Bool (is_blank w)) [
  | inl t ↦ absurd (both_ways (is_blank (f w)) full (is_blank_blank (f w) (ap f (blank_only w t) ∙ stays)))
  | inr e ↦ e
]

pub table_followed : (t : ℕ) (key : List Value) (f : Versions → Versions) (old new : Entries) (i j : Contents) → Follows t key (versions_of old key) (f (versions_of old key)) i j → IsChanged key f old new → f blank ≡ blank → IsTableIndex t old i
    → IsTableIndex t new j
table_followed t key f old new i j h change stays is = record {
  entries = λ c on v k.
      let was : stands i t c v k ≡ has_value c v (versions_of old k) = is.entries c (sym (h.indexed t c) ∙ on) v k in
      by c v k (is_eq (key_order key k)) refl was ∙ sym (ap (has_value c v) (change.at k));
  lens = λ k full. ap (λ o. is_known o (length k)) (h.lens t) ∙ is.lens k (before k (is_eq (key_order key k)) (ap is_blank (sym (change.at k)) ∙ full));
}
  where
    by : (c : ℕ) (v : Value) (k : List Value) (b : Bool) → is_eq (key_order key k) ≡ b → stands i t c v k ≡ has_value c v (versions_of old k) → stands j t c v k ≡ has_value c v (cond b (f (versions_of old k)) (versions_of old k))
    by c v k true e was =
        let same : key ≡ k = tied key k e in
        subst (λ l. stands j t c v l ≡ has_value c v (f (versions_of old l))) same (h.there c v (subst (λ l. stands i t c v l ≡ has_value c v (versions_of old l)) (sym same) was))
    by c v k false e was = h.elsewhere t c v k (ap (λ b. (t == t) && b) e ∙ none (t == t)) ∙ was
      where
        none : (a : Bool) → (a && false) ≡ false
        none false = refl
        none true = refl

    before : (k : List Value) (b : Bool) → is_blank (cond b (f (versions_of old k)) (versions_of old k)) ≡ false → is_blank (versions_of old k) ≡ false
    before k true full = filled_before f (versions_of old k) stays full
    before k false full = full

pub of_table : (t : ℕ) (key : List Value) (was is : Versions) (i j : Contents) → Follows t key was is i j → IsOfTable t i j
of_table t key was is i j h = record { indexed = h.indexed; entries = λ u c v k other. h.elsewhere u c v k (ap (λ a. a && is_eq (key_order key k)) other); lens = λ u other. h.lens u }

pub of_itself : (t : ℕ) (i : Contents) → IsOfTable t i i
of_itself t i = record { indexed = λ u c. refl; entries = λ u c v k other. refl; lens = λ u other. refl }

-- versions that are as before
pub table_same : (t : ℕ) (old new : Entries) (i : Contents) → ((k : List Value) → versions_of new k ≡ versions_of old k) → IsTableIndex t old i → IsTableIndex t new i
table_same t old new i same is = record { entries = λ c on v k. is.entries c on v k ∙ ap (has_value c v) (sym (same k)); lens = λ k full. is.lens k (ap is_blank (sym (same k)) ∙ full) }

-- Tables

table_moved : (t u : ℕ) (es : Entries) (i j : Contents) → (t == u) ≡ false → IsOfTable t i j → IsTableIndex u es i → IsTableIndex u es j
table_moved t u es i j other of is = record {
  entries = λ c on v k. of.entries u c v k other ∙ is.entries c (sym (of.indexed u c) ∙ on) v k;
  lens = λ k full. ap (λ o. is_known o (length k)) (of.lens u other) ∙ is.lens k full;
}

at_other : (old : List Entries) (t u : ℕ) (es : Entries) → (t == u) ≡ false → entries_at (slice_set old t es) u ≡ entries_at old u
at_other old t u es other = get_or-set_other old t u es [] (λ same. eqb-false t u other (sym same))

pub tables_followed : (t : ℕ) (old : List Entries) (es : Entries) (i j : Contents) → t < length old → IsOfTable t i j → (IsTableIndex t (entries_at old t) i → IsTableIndex t es j) → IsIndexOf old i → IsIndexOf (slice_set old t es) j
tables_followed t old es i j lt of step is u small = elim (cases_Bool (t == u)) [
  | inl e ↦
      let same : t ≡ u = eqb-true t u e in
      subst (λ n. IsTableIndex n (entries_at (slice_set old t es) n) j) same
      (subst (λ l. IsTableIndex t l j) (sym (get_or-set_same old t es [] lt)) (step (subst (λ n. IsTableIndex n (entries_at old n) i) (sym same) (is u small))))
  | inr e ↦ subst (λ l. IsTableIndex u l j) (sym (at_other old t u es e)) (table_moved t u (entries_at old u) i j e of (is u small))
]

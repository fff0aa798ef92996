-- The index of a column among those of all columns.
use Rattle.std.proofs.Common.{◌≡◌, ◌<◌, ◌==◌, ℕ, zero, suc, Bool, true, false, cond, List, [], ◌∷◌, Option, Some, None, All, length, slice_index_or, slice_set, refl, sym, ap, subst, ◌∙◌, arith, rules, inl, inr, ◌≤◌, ◌+◌}
use Rattle.std.specs.Prelude.{◌&&◌, ◌||◌, not, nat_lt, IfSome}
use Rattle.std.specs.List.{position, position_or_len}
use Rattle.std.specs.Option.{is_some}
use Rattle.std.proofs.lemmas.Bool.{eqb-true, false≢true, both_ways, and_parts, cases_Bool}
use Rattle.std.proofs.lemmas.List.Quantifiers.{position-Some}
use Rattle.std.proofs.lemmas.List.Elements.{All-head, All-tail, All-nil, All-cons}
use Rattle.mv_values.specs.declared.value.Value.{Value}
use Rattle.mv_table.specs.Entries.{item_of}
use Rattle.mv_index.specs.Forms.{KeyList}
use Rattle.mv_index.specs.Indexing.{Column, Contents, is_of, part_of, IsFirst, keys_of_part, is_pair, is_indexed, keys_under, keys_at, Shrinks, Loses, Gains, Adds}
use Rattle.mv_index.specs.declared.lens.KeyLens.{KeyLens}
use Rattle.mv_index.proofs.Values.{and_true, or_false}

-- a place that is found
pub is_first : (parts : List Column) (t c at : ℕ) → at < length parts → position (is_of t c) parts ≡ Some at → IsFirst parts t c at
is_first parts t c at lt h = (lt, λ d. (position-Some (is_of t c) parts at d h).1, λ k d low high. (position-Some (is_of t c) parts at d h).2 k high)

all_fail : {A : Type 0} (p : A → Bool) (xs : List A) → length xs ≤ position_or_len p xs → All (λ x. p x ≡ false) xs
all_fail p [] h = All-nil (λ x. p x ≡ false)
all_fail p (x ∷ xs) h = by (p x) refl h (λ le. all_fail p xs le)
  where
    by : (b : Bool) → p x ≡ b → length (x ∷ xs) ≤ cond (not b) (1 + position_or_len p xs) 0 → (length xs ≤ position_or_len p xs → All (λ y. p y ≡ false) xs) → All (λ y. p y ≡ false) (x ∷ xs)
    by true e g more = absurd (omega (arith, g))
    by false e g more = All-cons (λ y. p y ≡ false) x xs e (more (omega (arith, g)))

-- no place is found
pub no_first : (parts : List Column) (t c : ℕ) → position (is_of t c) parts ≡ None → All (λ part. is_of t c part ≡ false) parts
no_first parts t c h = elim (cases_Bool (nat_lt (position_or_len (is_of t c) parts) (length parts))) [
  | inl e ↦ let no : Some (position_or_len (is_of t c) parts) ≡ None = sym (ap (λ b. cond b (Some (position_or_len (is_of t c) parts)) None) e) ∙ h in cc
  | inr e ↦ let over : length parts ≤ position_or_len (is_of t c) parts = search (rules, e) in all_fail (is_of t c) parts over
]

-- the first index of a column is its index
pub first_part : (parts : List Column) (t c at : ℕ) (d : Column) → IsFirst parts t c at → part_of parts t c ≡ Some (slice_index_or parts at d)
first_part [] t c at d h = absurd (omega (arith, h.0))
first_part (p ∷ ps) t c zero d h = ap (λ b. cond b (Some p) (part_of ps t c)) (h.1 p)
first_part (p ∷ ps) t c (suc at) d h =
    ap (λ b. cond b (Some p) (part_of ps t c)) (h.2 0 p (omega arith) (omega arith)) ∙ first_part ps t c at d (omega (arith, h.0), λ e. h.1 e, λ k e low high. h.2 (suc k) e (omega arith) (omega (arith, high)))

pub no_part : (parts : List Column) (t c : ℕ) → All (λ part. is_of t c part ≡ false) parts → part_of parts t c ≡ None
no_part [] t c h = refl
no_part (p ∷ ps) t c h =
    ap (λ b. cond b (Some p) (part_of ps t c)) (All-head (λ part. is_of t c part ≡ false) p ps h) ∙ no_part ps t c (All-tail (λ part. is_of t c part ≡ false) p ps h)

-- a column with a place has its index
pub is_placed : (parts : List Column) (t c : ℕ) (o : Option ℕ) → o ≡ position (is_of t c) parts → IfSome o (λ at. at < length parts) → is_some o ≡ true → is_some (part_of parts t c) ≡ true
is_placed parts t c None is within some = cc
is_placed [] t c (Some at) is within some = absurd (omega (arith, within))
is_placed (p ∷ ps) t c (Some at) is within some = ap is_some (first_part (p ∷ ps) t c at p (is_first (p ∷ ps) t c at within (sym is)))

-- the index that is found is of the column
pub found_of : (parts : List Column) (t c : ℕ) (p : Column) → part_of parts t c ≡ Some p → is_of t c p ≡ true
found_of [] t c p h = cc
found_of (q ∷ qs) t c p h = by (is_of t c q) refl h (λ g. found_of qs t c p g)
  where
    by : (b : Bool) → is_of t c q ≡ b → cond b (Some q) (part_of qs t c) ≡ Some p → (part_of qs t c ≡ Some p → is_of t c p ≡ true) → is_of t c p ≡ true
    by true e g more = let is : q ≡ p = cc in subst (λ r. is_of t c r ≡ true) is e
    by false e g more = more g

-- whether two columns are the same
abbrev pub is_column : ℕ → ℕ → ℕ → ℕ → Bool
is_column table column t c = (table == t) && (column == c)

pub same_columns : (table column t c : ℕ) → is_column table column t c ≡ true → (table ≡ t) × (column ≡ c)
same_columns table column t c h = let both = and_parts (table == t) (column == c) h in (eqb-true table t both.0, eqb-true column c both.1)

-- another column's index is as it was, where one is replaced
pub part_set : (parts : List Column) (table column at : ℕ) (q : Column) → IsFirst parts table column at → q.table ≡ (slice_index_or parts at q).table → q.column ≡ (slice_index_or parts at q).column
    → (t c : ℕ) → part_of (slice_set parts at q) t c ≡ cond (is_column table column t c) (Some q) (part_of parts t c)
part_set [] table column at q h st sc t c = absurd (omega (arith, h.0))
part_set (p ∷ ps) table column zero q h st sc t c =
    let own = same_columns p.table p.column table column (h.1 p) in
    let tables : q.table ≡ table = st ∙ own.0 in
    let columns : q.column ≡ column = sc ∙ own.1 in
    let same : is_of t c q ≡ is_column table column t c = ap (λ n. (n == t) && (q.column == c)) tables ∙ ap (λ n. (table == t) && (n == c)) columns in
    let was : is_of t c p ≡ is_column table column t c = ap (λ n. (n == t) && (p.column == c)) own.0 ∙ ap (λ n. (table == t) && (n == c)) own.1 in
    ap (λ b. cond b (Some q) (part_of ps t c)) same ∙ (over (is_column table column t c) ∙ ap (λ b. cond (is_column table column t c) (Some q) (cond b (Some p) (part_of ps t c))) (sym was))
  where
    over : (b : Bool) → cond b (Some q) (part_of ps t c) ≡ cond b (Some q) (cond b (Some p) (part_of ps t c))
    over true = refl
    over false = refl
part_set (p ∷ ps) table column (suc at) q h st sc t c =
    let rest = part_set ps table column at q (omega (arith, h.0), λ e. h.1 e, λ k e low high. h.2 (suc k) e (omega arith) (omega (arith, high))) st sc t c in
    let differs : is_of table column p ≡ false = h.2 0 p (omega arith) (omega arith) in
    ap (cond (is_of t c p) (Some p)) rest ∙ by (is_column table column t c) refl (is_of t c p) refl differs
  where
    by : (m : Bool) → is_column table column t c ≡ m → (b : Bool) → is_of t c p ≡ b → is_of table column p ≡ false → cond b (Some p) (cond m (Some q) (part_of ps t c)) ≡ cond m (Some q) (cond b (Some p) (part_of ps t c))
    by true e true f other =
        let same = same_columns table column t c e in
        absurd (both_ways (is_of t c p) (ap (λ n. (p.table == n) && (p.column == c)) (sym same.0) ∙ (ap (λ n. (p.table == table) && (p.column == n)) (sym same.1) ∙ other)) f)
    by true e false f other = refl
    by false e true f other = refl
    by false e false f other = refl

-- One entry less

-- whether the index of a column has a key under a value
abbrev pub has_in : Option Column → Value → List Value → Bool
has_in part v k = is_some (item_of (keys_of_part part v) k)

module _ (table column : ℕ) (value : Value) (key : List Value) where
  pub loses_at : (lens : List (ℕ × KeyLens)) (parts : List Column) (at : ℕ) (q : Column) → IsFirst parts table column at → Shrinks value key (slice_index_or parts at q) q
      → Loses table column value key (record { columns = parts; key_lens = lens }) (record { columns = slice_set parts at q; key_lens = lens })
  loses_at lens parts at q h shrinks = record {
    indexed = λ t c. ap is_some (set t c) ∙ some t c (is_column table column t c) refl;
    entries = λ t c v k. ap (λ o. has_in o v k) (set t c) ∙ less t c v k (table == t) refl (column == c) refl;
    lens = λ t. refl;
  }
    where
      set : (t c : ℕ) → part_of (slice_set parts at q) t c ≡ cond (is_column table column t c) (Some q) (part_of parts t c)
      set t c = part_set parts table column at q h shrinks.same_table shrinks.same_column t c

      there : (t c : ℕ) → is_column table column t c ≡ true → part_of parts t c ≡ Some (slice_index_or parts at q)
      there t c e =
          let same = same_columns table column t c e in
          ap (λ n. part_of parts n c) (sym same.0) ∙ (ap (λ n. part_of parts table n) (sym same.1) ∙ first_part parts table column at q h)

      some : (t c : ℕ) (m : Bool) → is_column table column t c ≡ m → is_some (cond m (Some q) (part_of parts t c)) ≡ is_some (part_of parts t c)
      some t c true e = sym (ap is_some (there t c e))
      some t c false e = refl

      less : (t c : ℕ) (v : Value) (k : List Value) (a : Bool) → (table == t) ≡ a → (b : Bool) → (column == c) ≡ b
          → has_in (cond (a && b) (Some q) (part_of parts t c)) v k ≡ (has_in (part_of parts t c) v k && not (a && (b && is_pair value key v k)))
      less t c v k true e true f =
          let is = there t c (ap (λ x. x && (column == c)) e ∙ f) in
          shrinks.entries v k ∙ ap (λ o. has_in o v k && not (is_pair value key v k)) (sym is)
      less t c v k true e false f = sym (and_true (has_in (part_of parts t c) v k))
      less t c v k false e b f = sym (and_true (has_in (part_of parts t c) v k))

  -- a column that isn't indexed has no entry to lose
  pub loses_nothing : (lens : List (ℕ × KeyLens)) (parts : List Column) → All (λ part. is_of table column part ≡ false) parts → Loses table column value key (record { columns = parts; key_lens = lens }) (record { columns = parts; key_lens = lens })
  loses_nothing lens parts h = record {
    indexed = λ t c. refl;
    entries = λ t c v k. less t c v k (table == t) refl (column == c) refl;
    lens = λ t. refl;
  }
    where
      less : (t c : ℕ) (v : Value) (k : List Value) (a : Bool) → (table == t) ≡ a → (b : Bool) → (column == c) ≡ b → has_in (part_of parts t c) v k ≡ (has_in (part_of parts t c) v k && not (a && (b && is_pair value key v k)))
      less t c v k true e true f =
          let same : (table ≡ t) × (column ≡ c) = same_columns table column t c (ap (λ x. x && (column == c)) e ∙ f) in
          let none : part_of parts t c ≡ None = ap (λ n. part_of parts n c) (sym same.0) ∙ (ap (λ n. part_of parts table n) (sym same.1) ∙ no_part parts table column h) in
          rw none refl
      less t c v k true e false f = sym (and_true (has_in (part_of parts t c) v k))
      less t c v k false e b f = sym (and_true (has_in (part_of parts t c) v k))

-- Entries more

module _ (table column : ℕ) (pair : Value → List Value → Bool) where
  pub adds_at : (lens : List (ℕ × KeyLens)) (parts : List Column) (at : ℕ) (q : Column) → IsFirst parts table column at → Gains pair (slice_index_or parts at q) q
      → Adds table column pair (record { columns = parts; key_lens = lens }) (record { columns = slice_set parts at q; key_lens = lens })
  adds_at lens parts at q h gains = record {
    indexed = λ t c. ap is_some (set t c) ∙ some t c (is_column table column t c) refl;
    entries = λ t c v k on. ap (λ o. has_in o v k) (set t c) ∙ more t c v k (table == t) refl (column == c) refl;
    lens = λ t. refl;
  }
    where
      set : (t c : ℕ) → part_of (slice_set parts at q) t c ≡ cond (is_column table column t c) (Some q) (part_of parts t c)
      set t c = part_set parts table column at q h gains.same_table gains.same_column t c

      there : (t c : ℕ) → is_column table column t c ≡ true → part_of parts t c ≡ Some (slice_index_or parts at q)
      there t c e =
          let same = same_columns table column t c e in
          ap (λ n. part_of parts n c) (sym same.0) ∙ (ap (λ n. part_of parts table n) (sym same.1) ∙ first_part parts table column at q h)

      some : (t c : ℕ) (m : Bool) → is_column table column t c ≡ m → is_some (cond m (Some q) (part_of parts t c)) ≡ is_some (part_of parts t c)
      some t c true e = sym (ap is_some (there t c e))
      some t c false e = refl

      more : (t c : ℕ) (v : Value) (k : List Value) (a : Bool) → (table == t) ≡ a → (b : Bool) → (column == c) ≡ b
          → has_in (cond (a && b) (Some q) (part_of parts t c)) v k ≡ (has_in (part_of parts t c) v k || (a && (b && pair v k)))
      more t c v k true e true f =
          let is = there t c (ap (λ x. x && (column == c)) e ∙ f) in
          gains.entries v k ∙ ap (λ o. has_in o v k || pair v k) (sym is)
      more t c v k true e false f = sym (or_false (has_in (part_of parts t c) v k))
      more t c v k false e b f = sym (or_false (has_in (part_of parts t c) v k))

  -- a column that isn't indexed gets no entry
  pub adds_nowhere : (lens : List (ℕ × KeyLens)) (parts : List Column) → All (λ part. is_of table column part ≡ false) parts → Adds table column pair (record { columns = parts; key_lens = lens }) (record { columns = parts; key_lens = lens })
  adds_nowhere lens parts h = record {
    indexed = λ t c. refl;
    entries = λ t c v k on. more t c v k on (table == t) refl (column == c) refl;
    lens = λ t. refl;
  }
    where
      more : (t c : ℕ) (v : Value) (k : List Value) → is_some (part_of parts t c) ≡ true → (a : Bool) → (table == t) ≡ a → (b : Bool) → (column == c) ≡ b
          → has_in (part_of parts t c) v k ≡ (has_in (part_of parts t c) v k || (a && (b && pair v k)))
      more t c v k on true e true f =
          let same : (table ≡ t) × (column ≡ c) = same_columns table column t c (ap (λ x. x && (column == c)) e ∙ f) in
          let none : part_of parts t c ≡ None = ap (λ n. part_of parts n c) (sym same.0) ∙ (ap (λ n. part_of parts table n) (sym same.1) ∙ no_part parts table column h) in
          absurd (false≢true (sym (ap is_some none) ∙ on))
      more t c v k on true e false f = sym (or_false (has_in (part_of parts t c) v k))
      more t c v k on false e b f = sym (or_false (has_in (part_of parts t c) v k))

-- What an index lends

pub lends_none : (index : Contents) (t c : ℕ) (v : Value) → part_of index.columns t c ≡ None → None ≡ cond (is_indexed index t c) (Some (keys_under index t c v)) None
lends_none index t c v h = ap (λ o. cond (is_some o) (Some (keys_of_part o v)) None) (sym h)

pub lends_some : (index : Contents) (t c : ℕ) (v : Value) (part : Column) (keys : KeyList) → part_of index.columns t c ≡ Some part → keys ≡ keys_at part.entries v → Some keys ≡ cond (is_indexed index t c) (Some (keys_under index t c v)) None
lends_some index t c v part keys h is = ap Some is ∙ ap (λ o. cond (is_some o) (Some (keys_of_part o v)) None) (sym h)

pub are_lent : (index : Contents) (t c : ℕ) (v : Value) (keys : KeyList) → Some keys ≡ cond (is_indexed index t c) (Some (keys_under index t c v)) None → keys ≡ keys_under index t c v
are_lent index t c v keys h = by (part_of index.columns t c) h
  where
    by : (o : Option Column) → Some keys ≡ cond (is_some o) (Some (keys_of_part o v)) None → keys ≡ keys_of_part o v
    by None e = cc
    by (Some part) e = cc

pub none_are_lent : (index : Contents) (t c : ℕ) (v : Value) → None ≡ cond (is_indexed index t c) (Some (keys_under index t c v)) None → [] ≡ keys_under index t c v
none_are_lent index t c v h = by (part_of index.columns t c) h
  where
    by : (o : Option Column) → None ≡ cond (is_some o) (Some (keys_of_part o v)) None → [] ≡ keys_of_part o v
    by None e = refl
    by (Some part) e = cc

-- whether a column has a place
pub placed : (parts : List Column) (t c : ℕ) (o : Option ℕ) → o ≡ position (is_of t c) parts → IfSome o (λ at. at < length parts) → is_some o ≡ is_some (part_of parts t c)
placed parts t c None is within = ap is_some (sym (no_part parts t c (no_first parts t c (sym is))))
placed parts t c (Some at) is within = sym (is_placed parts t c (Some at) is within refl)

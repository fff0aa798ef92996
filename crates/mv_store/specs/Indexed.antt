-- Defines how an index keeps the values of the versions of tables. This project's own.
use Rattle.std.specs.Prelude.{◌≡◌, ◌<◌, ◌^◌, ◌==◌, ◌&&◌, ◌⊎◌, ℕ, Bool, true, false, not, List, length}
use Rattle.std.specs.Ordering.{is_eq}
use Rattle.mv_values.specs.declared.value.Value.{Value}
use Rattle.mv_values.specs.declared.tested.Tested.{Tested}
use Rattle.mv_values.specs.Order.{key_order}
use Rattle.mv_values.specs.Testing.{are_tested}
use Rattle.mv_chain.specs.Versions.{Versions, is_blank}
use Rattle.mv_chain.specs.Having.{has_value}
use Rattle.mv_index.specs.Indexing.{Contents, is_indexed, stands, lens_of, is_known}
use Rattle.mv_store.specs.Stored.{Entries}
use Rattle.mv_store.specs.Kept.{versions_of, entries_at}

-- a key of a table stands under a value exactly where one of its versions has the value in the column
pub record IsTableIndex (t : ℕ) (es : Entries) (index : Contents) : Type 0 where
  pub entries : (c : ℕ) → is_indexed index t c ≡ true → (v : Value) (key : List Value) → stands index t c v key ≡ has_value c v (versions_of es key)
  pub lens : (key : List Value) → is_blank (versions_of es key) ≡ false → is_known (lens_of index t) (length key) ≡ true

-- the same, of each table whose number has one byte
abbrev pub IsIndexOf : List Entries → Contents → Type 0
IsIndexOf tables index = (t : ℕ) → t < 2 ^ 8 → IsTableIndex t (entries_at tables t) index

-- it is an index of these columns alone
abbrev pub IsOfColumns : List Tested → Contents → Type 0
IsOfColumns columns index = (t c : ℕ) → is_indexed index t c ≡ true → are_tested columns t c ≡ true

-- Changes

-- the same columns are indexed, and nothing of other tables changed
pub record IsOfTable (t : ℕ) (old new : Contents) : Type 0 where
  pub indexed : (u c : ℕ) → is_indexed new u c ≡ is_indexed old u c
  pub entries : (u c : ℕ) (v : Value) (key : List Value) → (t == u) ≡ false → stands new u c v key ≡ stands old u c v key
  pub lens : (u : ℕ) → (t == u) ≡ false → lens_of new u ≡ lens_of old u

-- of a key's entries, those went that `has` has and that none of the versions does
pub record Forgets (t : ℕ) (key : List Value) (has : ℕ → Value → Bool) (w : Versions) (old new : Contents) : Type 0 where
  pub indexed : (u c : ℕ) → is_indexed new u c ≡ is_indexed old u c
  pub entries : (u c : ℕ) (v : Value) (k : List Value) → stands new u c v k ≡ (stands old u c v k && not ((t == u) && (is_eq (key_order key k) && (has c v && not (has_value c v w)))))
  pub lens : (u : ℕ) → lens_of new u ≡ lens_of old u

-- a key may have got entries that `has` has
pub record MayNote (t : ℕ) (key : List Value) (has : ℕ → Value → Bool) (old new : Contents) : Type 0 where
  pub indexed : (u c : ℕ) → is_indexed new u c ≡ is_indexed old u c
  pub kept : (u c : ℕ) (v : Value) (k : List Value) → stands old u c v k ≡ true → stands new u c v k ≡ true
  pub only : (u c : ℕ) (v : Value) (k : List Value) → stands new u c v k ≡ true → (stands old u c v k ≡ true) ⊎ ((t ≡ u) × (key ≡ k) × (has c v ≡ true))
  pub known : (u len : ℕ) → is_known (lens_of old u) len ≡ true → is_known (lens_of new u) len ≡ true
  pub lens : (u : ℕ) → (t == u) ≡ false → lens_of new u ≡ lens_of old u

-- it has them, and its length is known
pub record HasNoted (t : ℕ) (key : List Value) (has : ℕ → Value → Bool) (index : Contents) : Type 0 where
  pub entries : (c : ℕ) (v : Value) → is_indexed index t c ≡ true → has c v ≡ true → stands index t c v key ≡ true
  pub len : is_known (lens_of index t) (length key) ≡ true

-- the entries of a key are those of its versions after a change, if they were those before it
pub record Follows (t : ℕ) (key : List Value) (was is : Versions) (old new : Contents) : Type 0 where
  pub indexed : (u c : ℕ) → is_indexed new u c ≡ is_indexed old u c
  pub there : (c : ℕ) (v : Value) → stands old t c v key ≡ has_value c v was → stands new t c v key ≡ has_value c v is
  pub elsewhere : (u c : ℕ) (v : Value) (k : List Value) → ((t == u) && is_eq (key_order key k)) ≡ false → stands new u c v k ≡ stands old u c v k
  pub lens : (u : ℕ) → lens_of new u ≡ lens_of old u

-- The index of the own writes by table and key.
use Rattle.std.specs.Prelude.{◌≡◌, ◌<◌, ◌+◌, ◌-◌, ◌⊎◌, ℕ, Bool, true, false, List, [], ◌∷◌, Option, Some, None, All, AllPairs, IfSome, length, map, take, slice_get, slice_index_or, slice_set, pos}
use Rattle.std.specs.List.{filter, insert}
use Rattle.std.specs.List.Sorted.{IsPartitionPoint}
use Rattle.std.specs.Ordering.{is_lt, is_le}
use Rattle.mv_values.specs.declared.value.Value.{Value}
use Rattle.mv_values.specs.declared.value.Value.TheVariants.{Int}
use Rattle.mv_values.specs.declared.patch.Patch.{Patch}
use Rattle.mv_values.specs.declared.patch.Patch.TheVariants.{Delete}
use Rattle.mv_values.specs.declared.patch.Write.{Write}
use Rattle.mv_values.specs.Order.{key_order}
use Rattle.mv_values.specs.Patching.{patched}
use Rattle.mv_table.specs.declared.span.Span.{Span}
use Rattle.mv_record.specs.Writes.{is_on, patched_by}
use Rattle.mv_undo.specs.declared.links.Link.{Link}
use Rattle.mv_undo.specs.Owned.{Owned}
use Rattle.mv_undo.specs.Owning.{before}

-- the write at a place; a write to an empty key if there is none
abbrev pub owned_or : Option Owned → Owned
owned_or None = record { number = 0; write = record { table = 0; key = []; patch = Delete } }
owned_or (Some o) = o

abbrev pub owned_at : List Owned → ℕ → Owned
owned_at items place = owned_or (slice_get items place)

-- a key with its table in front
abbrev pub full_key : Owned → List Value
full_key o = Int (pos o.write.table) ∷ o.write.key

abbrev pub key_at : List Owned → ℕ → List Value
key_at items place = full_key (owned_at items place)

-- the writes to this key of this table
abbrev pub owned_on : ℕ → List Value → List Owned → List Owned
owned_on t key all = filter (λ o. is_on t key o.write) all

-- the write at this place is the last to this key of this table; or there is none
abbrev pub IsLastOn : List Owned → ℕ → List Value → Option ℕ → Type 0
IsLastOn items t key None = owned_on t key items ≡ []
IsLastOn items t key (Some place) = (place < length items) × (is_on t key (owned_at items place).write ≡ true) × (owned_on t key items ≡ owned_on t key (take (place + 1) items))

-- the write at a place is the last to its key
abbrev pub IsLast : List Owned → ℕ → Type 0
IsLast items place = IsLastOn items (owned_at items place).write.table (owned_at items place).write.key (Some place)

-- no write at these places is to this key of this table
abbrev pub HasNone : List Owned → ℕ → List Value → List ℕ → Type 0
HasNone items t key places = All (λ place. is_on t key (owned_at items place).write ≡ false) places

-- the places are of the last writes to keys, in the order of their tables and keys, each key once
pub record AreLast (items : List Owned) (places : List ℕ) : Type 0 where
  pub last : All (IsLast items) places
  pub sorted : AllPairs (λ p q. is_lt (key_order (key_at items p) (key_at items q)) ≡ true) places

-- so it is for each key that has writes
pub record IsIndexed (items : List Owned) (order : List ℕ) : Type 0 where
  pub are : AreLast items order
  pub each : (t : ℕ) (key : List Value) → HasNone items t key order → owned_on t key items ≡ []

-- the link of a write without earlier ones to its key
abbrev pub no_link : Link
no_link = record { before = None; far = None; depth = 0 }

-- the link of the write at a place
abbrev pub link_at : List Link → ℕ → Link
link_at links place = slice_index_or links place no_link

-- the writes at these places are to one key
abbrev pub AreToOneKey : List Owned → ℕ → ℕ → Type 0
AreToOneKey items place other = is_on (owned_at items place).write.table (owned_at items place).write.key (owned_at items other).write ≡ true

-- with each write stands the place of the last write to its key before it, and that of an earlier write to its key
pub record IsLinked (items : List Owned) (links : List Link) : Type 0 where
  pub size : length links ≡ length items
  pub each : (place : ℕ) → place < length items → IsLastOn (take place items) (owned_at items place).write.table (owned_at items place).write.key (link_at links place).before
  pub far : (place : ℕ) → place < length items → IfSome (link_at links place).far (λ far. (far < place) × AreToOneKey items place far)

-- the write at a place is to a key below this one, or up to and including it; each key has its table in front
abbrev pub is_below : List Owned → List Value → ℕ → Bool
is_below items key place = is_lt (key_order (key_at items place) key)

abbrev pub is_up_to : List Owned → List Value → ℕ → Bool
is_up_to items key place = is_le (key_order (key_at items place) key)

-- the place of the last write to a key among these places, of which `at` are up to and including the key
abbrev pub IsFound : List Owned → List ℕ → ℕ → ℕ → List Value → Option ℕ → Type 0
IsFound items order at t key None = HasNone items t key order
IsFound items order at t key (Some place) = (0 < at) × (slice_index_or order (at - 1) 0 ≡ place) × (is_on t key (owned_at items place).write ≡ true)

-- the places with one more, which takes the place of the one that was found, or stands behind those up to its key
abbrev pub renewed : List ℕ → ℕ → Option ℕ → ℕ → List ℕ
renewed order at None last = insert order at last
renewed order at (Some place) last = slice_set order (at - 1) last

-- no write to this key behind the place is by a record with a smaller number; or no such record wrote the key
abbrev pub IsUpTo : ℕ → List Owned → ℕ → List Value → Option ℕ → Type 0
IsUpTo n items t key None = owned_on t key (before n items) ≡ []
IsUpTo n items t key (Some p) = (p < length items) × (is_on t key (owned_at items p).write ≡ true) × (owned_on t key (before n items) ≡ owned_on t key (before n (take (p + 1) items)))

-- a place stands for the last write to its key by a record with a smaller number, if there is one, else for itself
abbrev pub GoesBack : List Owned → ℕ → ℕ → ℕ → Type 0
GoesBack items number place back =
    IsLastOn (before number items) (owned_at items place).write.table (owned_at items place).write.key (Some back)
    ⊎ ((owned_on (owned_at items place).write.table (owned_at items place).write.key (before number items) ≡ []) × (back ≡ place))

-- the first `at` places pass a test, and the others fail it
abbrev pub IsCut : (ℕ → Bool) → List ℕ → ℕ → Type 0
IsCut test order at = IsPartitionPoint (λ p. test p ≡ true) (λ p. test p ≡ false) order at

-- the end of a span of a table's keys
abbrev pub end_of : ℕ → Option (List Value) → List Value
end_of t None = Int (pos (t + 1)) ∷ []
end_of t (Some high) = Int (pos t) ∷ high

abbrev pub end_in : ℕ → Span → List Value
end_in t span = end_of t span.high

-- The patches of the writes to a key, one after the other

-- the patch does what these writes do, one after the other
abbrev pub IsComposedOf : Patch → List Write → Type 0
IsComposedOf patch ws = (was : Option (List Value)) → patched patch was ≡ patched_by ws was

-- the same, where there are writes
abbrev pub DoesAll : Option Patch → List Write → Type 0
DoesAll None ws = ws ≡ []
DoesAll (Some patch) ws = IsComposedOf patch ws

-- the patch that is kept, or the write's own where none is
abbrev pub patch_or : Option Patch → Patch → Patch
patch_or None own = own
patch_or (Some made) own = made

abbrev pub patch_at : List Owned → List (Option Patch) → ℕ → Patch
patch_at items composed place = patch_or (slice_index_or composed place None) (owned_at items place).write.patch

-- with each write is kept a patch that does what the writes to its key do up to it
pub record IsComposed (items : List Owned) (composed : List (Option Patch)) : Type 0 where
  pub size : length composed ≡ length items
  pub each : (place : ℕ) → place < length items
      → IsComposedOf (patch_at items composed place) (map (λ o. o.write) (owned_on (owned_at items place).write.table (owned_at items place).write.key (take (place + 1) items)))

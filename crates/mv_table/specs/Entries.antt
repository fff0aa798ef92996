-- Defines the entries of a map by key, in key order.
use Rattle.std.specs.Prelude.{◌≡◌, List, [], ◌∷◌, ◌++◌, Option, Some, None, AllPairs, if◌then◌else◌}
use Rattle.std.specs.Ordering.{is_eq}
use Rattle.std.specs.declared.cmp.Ordering.{Ordering}
use Rattle.std.specs.declared.cmp.Ordering.TheVariants.{Less, Equal, Greater}
use Rattle.mv_values.specs.declared.value.Value.{Value}
use Rattle.mv_values.specs.declared.rows.Keyed.{Keyed}
use Rattle.mv_values.specs.Order.{key_order}
use Rattle.mv_table.specs.declared.table.Entry.{Entry}

module _ {T : Type 0} where
  -- the item under a key
  abbrev pub item_of : List (List Value × T) → List Value → Option T
  item_of [] key = None
  item_of (e ∷ es) key = if is_eq (key_order e.0 key) then Some e.1 else item_of es key

  -- an item, or none, under a key
  abbrev pub alone_at : List Value → Option T → List (List Value × T)
  alone_at key None = []
  alone_at key (Some item) = (key, item) ∷ []

  abbrev pub put_by : Ordering → List Value → Option T → (List Value × T) → List (List Value × T) → List (List Value × T) → List (List Value × T)
  put_by Less key item e es later = e ∷ later
  put_by Equal key item e es later = alone_at key item ++ es
  put_by Greater key item e es later = alone_at key item ++ e ∷ es

  -- the entries with this item under the key, in its place by key, or with none there
  abbrev pub with_item : List Value → Option T → List (List Value × T) → List (List Value × T)
  with_item key item [] = alone_at key item
  with_item key item (e ∷ es) = put_by (key_order e.0 key) key item e es (with_item key item es)

  -- each key is less than those after it
  abbrev pub KeysRise : List (List Value × T) → Type 0
  KeysRise es = AllPairs (λ a b. key_order a.0 b.0 ≡ Less) es

-- what f leaves of the item under each key
abbrev pub picked : {A B : Type 0} → (A → Option B) → List (List Value × A) → List (List Value × B)
picked f [] = []
picked f (e ∷ es) = alone_at e.0 (f e.1) ++ picked f es

-- the row that an entry of a table borrows, with its key
abbrev pub seen : Entry → Keyed
seen e = record { key = e.key.now; row = e.row.now }

-- What a map's look-ups, insertions and removals are of its entries.
use Rattle.std.proofs.Common.{◌≡◌, List, [], ◌∷◌, Bool, cond, Option, None, Some, All, refl, sym, ap, ◌∙◌, arith}
use Rattle.std.proofs.lemmas.List.Elements.{All-nil, All-cons}
use Rattle.std.proofs.lemmas.List.Kept.{AllPairs-cons}
use Rattle.mv_values.specs.Order.{key_order}
use Rattle.std.specs.Prelude.{IfSome}
use Rattle.std.specs.Ordering.{is_eq, ordering_reverse}
use Rattle.std.specs.Map.{lookup, remove_entry, keys_of}
use Rattle.std.specs.List.{AllByRecursion, filter}
use Rattle.std.specs.BTreeMap.Range.{entries_between}
use Rattle.std.specs.declared.ops.Bound.TheVariants.{Included, Excluded, Unbounded}
use Rattle.mv_table.specs.Spans.{is_within}
use Rattle.std.specs.List.Sorted.{IsStrictlySortedBy}
use Rattle.std.specs.BTreeMap.{insert_entry, is_at}
use Rattle.std.specs.declared.cmp.Ordering.{Ordering}
use Rattle.std.specs.declared.cmp.Ordering.TheVariants.{Less, Equal, Greater}
use Rattle.mv_values.specs.declared.value.Value.{Value}
use Rattle.mv_values.proofs.KeyOrder.{key_order_total, exact_keys}
use Rattle.mv_table.specs.Entries.{item_of, with_item, KeysRise}

reversed : (a b : List Value) → key_order a b ≡ ordering_reverse (key_order b a)
reversed a b = key_order_total.antisymm a b

-- a key that ties with another is the same
pub tied_keys : {A : Type 0} (k : A → List Value) (key : List Value) (found : Option A) → IfSome found (λ e. key_order key (k e) ≡ Equal) → IfSome found (λ e. k e ≡ key)
tied_keys k key None same = tt
tied_keys k key (Some e) same = sym (exact_keys key (k e) same)

module _ {T : Type 0} where
  pub entries_looked_up : (key : List Value) (es : List (List Value × T)) → lookup (is_at (key_order key)) es ≡ item_of es key
  entries_looked_up key [] = refl
  entries_looked_up key (e ∷ es) = by (key_order key e.0) refl (entries_looked_up key es)
    where
      by : (o : Ordering) → key_order key e.0 ≡ o → lookup (is_at (key_order key)) es ≡ item_of es key → lookup (is_at (key_order key)) (e ∷ es) ≡ item_of (e ∷ es) key
      by Less h more = rw (reversed e.0 key, h) more
      by Equal h more = rw (reversed e.0 key, h) refl
      by Greater h more = rw (reversed e.0 key, h) more

  pub entries_inserted : (key : List Value) (item : T) (es : List (List Value × T)) → insert_entry key_order es key item ≡ with_item key (Some item) es
  entries_inserted key item [] = refl
  entries_inserted key item (e ∷ es) = by (key_order key e.0) refl (entries_inserted key item es)
    where
      by : (o : Ordering) → key_order key e.0 ≡ o → insert_entry key_order es key item ≡ with_item key (Some item) es → insert_entry key_order (e ∷ es) key item ≡ with_item key (Some item) (e ∷ es)
      by Less h more = rw (reversed e.0 key, h) refl
      by Equal h more = rw (reversed e.0 key, h, exact_keys key e.0 h) refl
      by Greater h more = rw (reversed e.0 key, h) (ap (λ l. e ∷ l) more)

  below : (key : List Value) (e : List Value × T) (es : List (List Value × T)) → key_order key e.0 ≡ Less → AllByRecursion (λ y. key_order e.0 y ≡ Less) (keys_of es) → remove_entry (is_at (key_order key)) es ≡ es
  below key e [] h all = refl
  below key e (f ∷ es) h all = rw (key_order_total.trans key e.0 f.0 h all.0) (ap (λ l. f ∷ l) (below key e es h all.1))

  pub entries_removed : (key : List Value) (es : List (List Value × T)) → IsStrictlySortedBy key_order (keys_of es) → remove_entry (is_at (key_order key)) es ≡ with_item key None es
  unfolding IsStrictlySortedBy
  entries_removed key [] sorted = refl
  entries_removed key (e ∷ es) sorted = by (key_order key e.0) refl (entries_removed key es sorted.1)
    where
      by : (o : Ordering) → key_order key e.0 ≡ o → remove_entry (is_at (key_order key)) es ≡ with_item key None es → remove_entry (is_at (key_order key)) (e ∷ es) ≡ with_item key None (e ∷ es)
      by Less h more = rw (reversed e.0 key, h) (ap (λ l. e ∷ l) (below key e es h sorted.0))
      by Equal h more = rw (reversed e.0 key, h) refl
      by Greater h more = rw (reversed e.0 key, h) (ap (λ l. e ∷ l) more)

  all_later : (e : List Value × T) (es : List (List Value × T)) → AllByRecursion (λ y. key_order e.0 y ≡ Less) (keys_of es) → All (λ (b : List Value × T). key_order e.0 b.0 ≡ Less) es
  all_later e [] h = All-nil (λ (b : List Value × T). key_order e.0 b.0 ≡ Less)
  all_later e (f ∷ es) h = All-cons (λ (b : List Value × T). key_order e.0 b.0 ≡ Less) f es h.0 (all_later e es h.1)

  pub entries_rise : (es : List (List Value × T)) → IsStrictlySortedBy key_order (keys_of es) → KeysRise es
  unfolding IsStrictlySortedBy
  entries_rise [] h = λ i j d lt within. absurd (omega (arith, within))
  entries_rise (e ∷ es) h = AllPairs-cons (λ (a b : List Value × T). key_order a.0 b.0 ≡ Less) e es (all_later e es h.0) (entries_rise es h.1)

  -- what an update of one key leaves under each
  pub entries_updated : (key other : List Value) (item : Option T) (es new : List (List Value × T)) → lookup (is_at (key_order other)) new ≡ cond (is_at (key_order key) other) item (lookup (is_at (key_order other)) es)
      → item_of new other ≡ cond (is_eq (key_order key other)) item (item_of es other)
  entries_updated key other item es new h = sym (entries_looked_up other new) ∙ (h ∙ ap (cond (is_eq (key_order key other)) item) (entries_looked_up other es))

  -- what a map gives between two keys, and from a key on

  pub entries_between_keys : (low high : List Value) (es : List (List Value × T)) → entries_between key_order (Included low) (Excluded high) es ≡ filter (λ e. is_within (record { low = low; high = Some high }) e.0) es
  entries_between_keys low high es = refl

  pub entries_from_key : (low : List Value) (es : List (List Value × T)) → entries_between key_order (Included low) Unbounded es ≡ filter (λ e. is_within (record { low = low; high = None }) e.0) es
  entries_from_key low es = refl

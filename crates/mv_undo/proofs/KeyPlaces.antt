-- Places in the order of the keys at them.
use Rattle.std.proofs.Common.{◌≡◌, ℕ, ◌+◌, true, false, List, [], ◌∷◌, slice_index_or, refl, sym, ap, subst, ◌∙◌, inl, inr, arith}
use Rattle.std.specs.Prelude.{AllPairs, pos, not, nat_lt}
use Rattle.std.proofs.lemmas.Bool.{cases_lt}
use Rattle.std.proofs.lemmas.Bool.Decides.{nat_tests}
use Rattle.std.specs.List.Sorted.{IsPartitionedBy}
use Rattle.std.specs.Ordering.{ordering_reverse, is_lt, is_le, is_gt, int_cmp}
use Rattle.std.specs.declared.cmp.Ordering.{Ordering}
use Rattle.std.specs.declared.cmp.Ordering.TheVariants.{Less, Equal, Greater}
use Rattle.mv_values.specs.declared.value.Value.{Value}
use Rattle.mv_values.specs.declared.value.Value.TheVariants.{Int}
use Rattle.mv_values.specs.Order.{key_order}
use Rattle.mv_values.proofs.KeyOrder.{key_order_total, exact_keys}

le_trans : (a b k : List Value) → is_le (key_order a b) ≡ true → is_le (key_order b k) ≡ true → is_le (key_order a k) ≡ true
le_trans a b k h g = by (key_order a b) (key_order b k) refl refl h g
  where
    by : (o p : Ordering) → key_order a b ≡ o → key_order b k ≡ p → is_le o ≡ true → is_le p ≡ true → is_le (key_order a k) ≡ true
    by Equal p e f h g = subst (λ x. is_le (key_order x k) ≡ true) (sym (exact_keys a b e)) (ap is_le f ∙ g)
    by Less Less e f h g = ap is_le (key_order_total.trans a b k e f)
    by Less Equal e f h g = subst (λ x. is_le (key_order a x) ≡ true) (exact_keys b k f) (ap is_le e)
    by Less Greater e f h g = cc
    by Greater p e f h g = cc

pub parted_by_key : (K : ℕ → List Value) (key : List Value) (order : List ℕ) → AllPairs (λ p q. is_le (key_order (K p) (K q)) ≡ true) order → IsPartitionedBy (λ p. is_le (key_order (K p) key)) order
parted_by_key K key order sorted i j d le lt h =
    elim (cases_lt i j) [
      | inl below ↦ le_trans (K (slice_index_or order i d)) (K (slice_index_or order j d)) key (sorted i j d below lt) h
      | inr above ↦ let same : j ≡ i = omega (arith, le, above) in subst (λ k. is_le (key_order (K (slice_index_or order k d)) key) ≡ true) same h
    ]

pub lt_trans : (a b k : List Value) → is_le (key_order a b) ≡ true → is_lt (key_order b k) ≡ true → is_lt (key_order a k) ≡ true
lt_trans a b k h g = by (key_order a b) (key_order b k) refl refl h g
  where
    by : (o p : Ordering) → key_order a b ≡ o → key_order b k ≡ p → is_le o ≡ true → is_lt p ≡ true → is_lt (key_order a k) ≡ true
    by Equal p e f h g = ap (λ x. is_lt (key_order x k)) (exact_keys a b e) ∙ (ap is_lt f ∙ g)
    by Less Less e f h g = ap is_lt (key_order_total.trans a b k e f)
    by Less Equal e f h g = cc
    by Less Greater e f h g = cc
    by Greater p e f h g = cc

pub parted_below : (K : ℕ → List Value) (key : List Value) (order : List ℕ) → AllPairs (λ p q. is_le (key_order (K p) (K q)) ≡ true) order → IsPartitionedBy (λ p. is_lt (key_order (K p) key)) order
parted_below K key order sorted i j d le lt h =
    elim (cases_lt i j) [
      | inl below ↦ lt_trans (K (slice_index_or order i d)) (K (slice_index_or order j d)) key (sorted i j d below lt) h
      | inr above ↦ let same : j ≡ i = omega (arith, le, above) in subst (λ k. is_lt (key_order (K (slice_index_or order k d)) key) ≡ true) same h
    ]

-- what is below a key is below each that isn't less
pub below_more : (k a b : List Value) → is_gt (key_order a b) ≡ false → is_lt (key_order k a) ≡ true → is_lt (key_order k b) ≡ true
below_more k a b g h = by (key_order k a) (key_order a b) refl refl h g
  where
    by : (o p : Ordering) → key_order k a ≡ o → key_order a b ≡ p → is_lt o ≡ true → is_gt p ≡ false → is_lt (key_order k b) ≡ true
    by Less Less e f h g = ap is_lt (key_order_total.trans k a b e f)
    by Less Equal e f h g = ap (λ x. is_lt (key_order k x)) (sym (exact_keys a b f)) ∙ ap is_lt e
    by Less Greater e f h g = cc
    by Equal p e f h g = cc
    by Greater p e f h g = cc

pub lt_le : (o : Ordering) → is_lt o ≡ true → is_le o ≡ true
lt_le Less h = refl
lt_le Equal h = cc
lt_le Greater h = cc

-- what is at least a low end isn't below it
pub not_under : (low key : List Value) → is_le (key_order low key) ≡ true → is_lt (key_order key low) ≡ false
not_under low key h = by (key_order low key) refl h
  where
    by : (o : Ordering) → key_order low key ≡ o → is_le o ≡ true → is_lt (key_order key low) ≡ false
    by Less e h = ap is_lt (key_order_total.antisymm key low ∙ ap ordering_reverse e)
    by Equal e h = ap is_lt (key_order_total.antisymm key low ∙ ap ordering_reverse e)
    by Greater e h = cc

-- what isn't at an end nor past it is below it
pub under_end : (end' key : List Value) → not (is_le (key_order end' key)) ≡ true → is_lt (key_order key end') ≡ true
under_end end' key h = by (key_order end' key) refl h
  where
    by : (o : Ordering) → key_order end' key ≡ o → not (is_le o) ≡ true → is_lt (key_order key end') ≡ true
    by Less e h = cc
    by Equal e h = cc
    by Greater e h = ap is_lt (key_order_total.antisymm key end' ∙ ap ordering_reverse e)

-- keys of one table stand as they do, and those of the next table behind them

next_number : (t : ℕ) → int_cmp (pos t) (pos (t + 1)) ≡ Less
next_number t = let lt : nat_lt t (t + 1) ≡ true = grind (arith, nat_tests) in rw lt refl

pub next_table : (t : ℕ) (key : List Value) → key_order (Int (pos t) ∷ key) (Int (pos (t + 1)) ∷ []) ≡ Less
next_table t key = rw (next_number t) refl

-- The part of rows in order that lies in a span.
use Rattle.std.proofs.Common.{◌≡◌, ℕ, ◌≤◌, Bool, true, false, not, ◌&&◌, List, Option, Some, None, length, slice_range, refl, ap, subst, ◌∙◌}
use Rattle.std.specs.List.{filter}
use Rattle.std.specs.List.Sorted.{IsPartitionedBy}
use Rattle.std.specs.Ordering.{ordering_reverse, is_le, is_gt}
use Rattle.std.specs.declared.cmp.Ordering.{Ordering}
use Rattle.std.specs.declared.cmp.Ordering.TheVariants.{Less, Equal, Greater}
use Rattle.mv_values.specs.declared.value.Value.{Value}
use Rattle.mv_values.specs.declared.rows.Keyed.{Keyed}
use Rattle.mv_values.specs.Keys.{IsRising}
use Rattle.mv_values.specs.Order.{key_order}
use Rattle.mv_values.proofs.KeyOrder.{key_order_total, exact_keys}
use Rattle.mv_table.specs.declared.span.Span.{Span}
use Rattle.mv_table.specs.Spans.{is_past, is_within, RunsTo, IsForward}
use Rattle.mv_table.proofs.Points.{IsPoint, parted, in_order, between}

abbrev pub under_span : Span → Keyed → Bool
under_span span item = not (is_le (key_order span.low item.key))

abbrev pub before_end : Span → Keyed → Bool
before_end span item = not (is_past span.high item.key)

-- a key below one that the end is above is below the end too
lower_too : (end' a b : List Value) → key_order a b ≡ Less → not (is_le (key_order end' b)) ≡ true → not (is_le (key_order end' a)) ≡ true
lower_too end' a b less h = by (key_order end' b) refl h
  where
    by : (o : Ordering) → key_order end' b ≡ o → not (is_le o) ≡ true → not (is_le (key_order end' a)) ≡ true
    by Less e k = cc
    by Equal e k = cc
    by Greater e k =
        let under : key_order b end' ≡ Less = key_order_total.antisymm b end' ∙ ap ordering_reverse e in
        let low : key_order a end' ≡ Less = key_order_total.trans a b end' less under in
        rw (key_order_total.antisymm end' a, low) refl

divided : (test : List Value → Bool) → ((a b : List Value) → key_order a b ≡ Less → test b ≡ true → test a ≡ true) → (rows : List Keyed) → IsRising rows → IsPartitionedBy (λ item. test item.key) rows
divided test lower rows = parted (λ (a b : Keyed). key_order a.key b.key ≡ Less) (λ item. test item.key) (λ a b. lower a.key b.key) rows

pub parted_under : (span : Span) (rows : List Keyed) → IsRising rows → IsPartitionedBy (under_span span) rows
parted_under span rows rising = divided (λ key. not (is_le (key_order span.low key))) (lower_too span.low) rows rising

pub parted_before : (span : Span) (rows : List Keyed) → IsRising rows → IsPartitionedBy (before_end span) rows
parted_before span rows rising = divided (λ key. not (is_past span.high key)) (by span.high) rows rising
  where
    by : (high : Option (List Value)) → (a b : List Value) → key_order a b ≡ Less → not (is_past high b) ≡ true → not (is_past high a) ≡ true
    by None a b less h = refl
    by (Some end') a b less h = lower_too end' a b less h

-- what is below a span that runs forward is before its end
under_before : (low : List Value) (high : Option (List Value)) (key : List Value) → RunsTo low high → not (is_le (key_order low key)) ≡ true → not (is_past high key) ≡ true
under_before low None key forward h = refl
under_before low (Some high) key forward h = by (key_order low key) refl (key_order low high) refl h forward
  where
    by : (o : Ordering) → key_order low key ≡ o → (p : Ordering) → key_order low high ≡ p → not (is_le o) ≡ true → is_gt p ≡ false → not (is_le (key_order high key)) ≡ true
    by Less e p f h k = cc
    by Equal e p f h k = cc
    by Greater e Greater f h k = cc
    by Greater e Equal f h k = subst (λ x. not (is_le (key_order x key)) ≡ true) (exact_keys low high f) (rw e refl)
    by Greater e Less f h k =
        let under : key_order key low ≡ Less = key_order_total.antisymm key low ∙ ap ordering_reverse e in
        let low' : key_order key high ≡ Less = key_order_total.trans key low high under f in
        rw (key_order_total.antisymm high key, low') refl

forward_both : (span : Span) → IsForward span → (y : Keyed) → under_span span y ≡ true → before_end span y ≡ true
forward_both span forward y = under_before span.low span.high y.key forward

pub span_order : (span : Span) (rows : List Keyed) (from to : ℕ) → IsForward span → from ≤ length rows → IsPoint (under_span span) rows from → IsPoint (before_end span) rows to → from ≤ to
span_order span rows from to forward = in_order (under_span span) (before_end span) (forward_both span forward) rows from to

pub span_part : (span : Span) (rows : List Keyed) (from to : ℕ) → IsForward span → from ≤ length rows → to ≤ length rows → IsPoint (under_span span) rows from → IsPoint (before_end span) rows to
    → slice_range rows from to ≡ filter (λ item. is_within span item.key) rows
span_part span rows from to forward = between (under_span span) (before_end span) (forward_both span forward) (λ item. is_within span item.key) under over inside rows from to
  where
    first : (a b : Bool) → not a ≡ true → a && b ≡ false
    first true b h = cc
    first false b h = refl

    second : (a b : Bool) → b ≡ false → a && b ≡ false
    second true b h = h
    second false b h = refl

    double : (a b : Bool) → not a ≡ false → b ≡ true → a && b ≡ true
    double true b h k = k
    double false b h k = cc

    under : (y : Keyed) → under_span span y ≡ true → is_within span y.key ≡ false
    under y = first (is_le (key_order span.low y.key)) (before_end span y)

    over : (y : Keyed) → before_end span y ≡ false → is_within span y.key ≡ false
    over y = second (is_le (key_order span.low y.key)) (before_end span y)

    inside : (y : Keyed) → under_span span y ≡ false → before_end span y ≡ true → is_within span y.key ≡ true
    inside y = double (is_le (key_order span.low y.key)) (before_end span y)

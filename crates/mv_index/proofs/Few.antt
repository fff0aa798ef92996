-- Keys in a list.
use Rattle.std.proofs.Common.{inl, inr, ◌≡◌, ◌<◌, ◌≤◌, ◌+◌, ℕ, zero, suc, Bool, true, false, cond, List, [], ◌∷◌, ◌++◌, Option, Some, None, All, Result, Ok, Err, length, slice_index_or, slice_range, take, map, not, ◌&&◌, refl, sym, ap, subst, ◌∙◌, arith}
use Rattle.std.specs.Prelude.{AllPairs, insert, remove, MatchResult}
use Rattle.std.specs.List.{filter}
use Rattle.std.specs.List.Sorted.{IsBinarySearchResult, IsNonDecreasingBy, IsSearchInRange, IsPartitionedBy, IsSortedBy}
use Rattle.std.specs.Option.{is_some}
use Rattle.std.specs.Result.{is_ok}
use Rattle.std.specs.Ordering.{is_eq, is_lt, is_le, is_gt, ordering_index, ordering_reverse}
use Rattle.std.specs.declared.cmp.Ordering.{Ordering}
use Rattle.std.specs.declared.cmp.Ordering.TheVariants.{Less, Equal, Greater}
use Rattle.std.proofs.lemmas.Bool.{cases_lt}
use Rattle.std.proofs.lemmas.List.{take_more}
use Rattle.std.proofs.lemmas.List.Elements.{All-nil, All-cons, All-head, All-tail, All-map}
use Rattle.std.proofs.lemmas.List.Kept.{AllPairs-cons}
use Rattle.std.proofs.lemmas.List.Quantifiers.{all_pairs_remove}
use Rattle.std.proofs.lemmas.List.Sorted.{searchable_from_sorted}
use Rattle.mv_values.specs.declared.value.Value.{Value}
use Rattle.mv_values.specs.Order.{key_order}
use Rattle.mv_values.proofs.KeyOrder.{key_order_total, exact_keys, same_key, turned}
use Rattle.mv_table.specs.declared.span.Span.{Span}
use Rattle.mv_table.specs.declared.scan.Direction.{Direction}
use Rattle.mv_table.specs.declared.scan.Direction.TheVariants.{Forward, Backward}
use Rattle.mv_table.specs.Entries.{item_of, KeysRise}
use Rattle.mv_table.specs.Scans.{with_foremost}
use Rattle.mv_table.specs.Spans.{is_past, is_within, RunsTo, IsForward}
use Rattle.mv_table.proofs.Points.{IsPoint, parted, in_order, between}
use Rattle.mv_index.specs.Listed.{listed, Rise, IsGapFor}
use Rattle.mv_index.proofs.Forms.{no_item, an_item, same}

abbrev item_in : List (List Value) → List Value → Option (Unit {0})
item_in keys k = item_of (listed keys) k

-- Keys that rise

lower : (x : List Value) (xs : List (List Value)) → Rise (x ∷ xs) → All (λ b. key_order x b ≡ Less) xs
lower x xs h k d lt = h zero (suc k) d (omega arith) (omega (arith, lt))

later : (x : List Value) (xs : List (List Value)) → Rise (x ∷ xs) → Rise xs
later x xs h i j d lt within = h (suc i) (suc j) d (omega (arith, lt)) (omega (arith, within))

pub one_rises : (key : List Value) → Rise (key ∷ [])
one_rises key i j d lt within = absurd (omega (arith, lt, within))

pub listed_rise : (keys : List (List Value)) → Rise keys → KeysRise (listed keys)
listed_rise [] h = λ i j d lt within. absurd (omega (arith, within))
listed_rise (x ∷ xs) h =
    AllPairs-cons (λ (a b : List Value × Unit {0}). key_order a.0 b.0 ≡ Less) (x, tt) (listed xs) (All-map (λ (b : List Value × Unit {0}). key_order x b.0 ≡ Less) (λ key. (key, tt)) xs (lower x xs h)) (listed_rise xs (later x xs h))

-- A key that is put in its gap

all_inserted : (P : List Value → Type 0) (keys : List (List Value)) (at : ℕ) (key : List Value) → All P keys → P key → All P (insert keys at key)
all_inserted P [] zero key all one = All-cons P key [] one all
all_inserted P [] (suc n) key all one = All-cons P key [] one all
all_inserted P (x ∷ xs) zero key all one = All-cons P key (x ∷ xs) one all
all_inserted P (x ∷ xs) (suc n) key all one = All-cons P x (insert xs n key) (All-head P x xs all) (all_inserted P xs n key (All-tail P x xs all) one)

pub rise_inserted : (keys : List (List Value)) (at : ℕ) (key : List Value) → Rise keys → IsGapFor keys key at → Rise (insert keys at key)
rise_inserted [] zero key h gap = one_rises key
rise_inserted [] (suc n) key h gap = one_rises key
rise_inserted (x ∷ xs) zero key h gap =
    AllPairs-cons (λ a b. key_order a b ≡ Less) key (x ∷ xs) (λ k d lt. turned (slice_index_or (x ∷ xs) k d) key Greater (gap.1.1 k d (omega arith) lt)) h
rise_inserted (x ∷ xs) (suc n) key h gap =
    AllPairs-cons (λ a b. key_order a b ≡ Less) x (insert xs n key)
    (all_inserted (λ b. key_order x b ≡ Less) xs n key (lower x xs h) (gap.1.0 zero x (omega arith) (omega arith)))
    (rise_inserted xs n key (later x xs h) (omega (arith, gap.0), ((λ k d low high. gap.1.0 (suc k) d (omega arith) (omega (arith, high))), (λ k d low high. gap.1.1 (suc k) d (omega (arith, low)) (omega (arith, high))))))

swapped : (a b : Bool) (o : Option (Unit {0})) → cond a an_item (cond b an_item o) ≡ cond b an_item (cond a an_item o)
swapped true true o = refl
swapped true false o = refl
swapped false true o = refl
swapped false false o = refl

pub item_inserted : (keys : List (List Value)) (at : ℕ) (key k : List Value) → item_of (listed (insert keys at key)) k ≡ cond (is_eq (key_order key k)) (Some tt) (item_of (listed keys) k)
item_inserted [] zero key k = refl
item_inserted [] (suc n) key k = refl
item_inserted (x ∷ xs) zero key k = refl
item_inserted (x ∷ xs) (suc n) key k =
    ap (cond (is_eq (key_order x k)) an_item) (item_inserted xs n key k) ∙ swapped (is_eq (key_order x k)) (is_eq (key_order key k)) (item_in xs k)

-- A key that is there

itself : (key : List Value) → is_eq (key_order key key) ≡ true
itself key = ap is_eq (same_key key)

pub item_there : (keys : List (List Value)) (at : ℕ) (key : List Value) → at < length keys → slice_index_or keys at key ≡ key → item_of (listed keys) key ≡ Some tt
item_there [] at key lt is = absurd (omega (arith, lt))
item_there (x ∷ xs) zero key lt is = rw (ap (λ a. is_eq (key_order a key)) is ∙ itself key) refl
item_there (x ∷ xs) (suc n) key lt is = by (is_eq (key_order x key)) (item_there xs n key (omega (arith, lt)) is)
  where
    by : (b : Bool) → item_in xs key ≡ an_item → cond b an_item (item_in xs key) ≡ an_item
    by true more = refl
    by false more = more

-- putting it again changes nothing
pub item_kept : (keys : List (List Value)) (at : ℕ) (key k : List Value) → at < length keys → slice_index_or keys at key ≡ key → item_of (listed keys) k ≡ cond (is_eq (key_order key k)) (Some tt) (item_of (listed keys) k)
item_kept keys at key k lt is = by (is_eq (key_order key k)) refl
  where
    by : (b : Bool) → is_eq (key_order key k) ≡ b → item_in keys k ≡ cond b an_item (item_in keys k)
    by true h = ap (item_in keys) (sym (same key k h)) ∙ item_there keys at key lt is
    by false h = refl

-- A key that isn't there

none_of : (keys : List (List Value)) (key : List Value) → All (λ b. is_eq (key_order b key) ≡ false) keys → item_in keys key ≡ no_item
none_of [] key h = refl
none_of (x ∷ xs) key h = rw (All-head (λ b. is_eq (key_order b key) ≡ false) x xs h) (none_of xs key (All-tail (λ b. is_eq (key_order b key) ≡ false) x xs h))

none_later : (x : List Value) (xs : List (List Value)) → Rise (x ∷ xs) → item_in xs x ≡ no_item
none_later x xs h = none_of xs x (λ k d lt. ap is_eq (turned x (slice_index_or xs k d) Less (lower x xs h k d lt)))

pub item_missing : (keys : List (List Value)) (at : ℕ) (key : List Value) → IsGapFor keys key at → item_of (listed keys) key ≡ None
item_missing keys at key gap = none_of keys key (λ k d lt. elim (cases_lt k at) [
  | inl before ↦ ap is_eq (gap.1.0 k d (omega arith) before)
  | inr after ↦ ap is_eq (gap.1.1 k d after lt)
])

-- taking it out changes nothing
pub item_absent : (keys : List (List Value)) (at : ℕ) (key k : List Value) → IsGapFor keys key at → item_of (listed keys) k ≡ cond (is_eq (key_order key k)) None (item_of (listed keys) k)
item_absent keys at key k gap = by (is_eq (key_order key k)) refl
  where
    by : (b : Bool) → is_eq (key_order key k) ≡ b → item_in keys k ≡ cond b None (item_in keys k)
    by true h = ap (item_in keys) (sym (same key k h)) ∙ item_missing keys at key gap
    by false h = refl

-- A key that is taken out

pub rise_removed : (keys : List (List Value)) (at : ℕ) → at < length keys → Rise keys → Rise (remove keys at)
rise_removed keys at lt h = all_pairs_remove (λ a b. key_order a b ≡ Less) keys at lt h

pub item_removed : (keys : List (List Value)) (at : ℕ) (key k : List Value) → Rise keys → at < length keys → slice_index_or keys at key ≡ key
    → item_of (listed (remove keys at)) k ≡ cond (is_eq (key_order key k)) None (item_of (listed keys) k)
item_removed [] at key k h lt is = absurd (omega (arith, lt))
item_removed (x ∷ xs) zero key k h lt is = by (is_eq (key_order key k)) refl
  where
    by : (b : Bool) → is_eq (key_order key k) ≡ b → item_in xs k ≡ cond b None (cond (is_eq (key_order x k)) an_item (item_in xs k))
    by true e = ap (item_in xs) (sym (is ∙ same key k e)) ∙ none_later x xs h
    by false e = ap (λ c. cond c an_item (item_in xs k)) (sym (ap (λ a. is_eq (key_order a k)) is ∙ e))
item_removed (x ∷ xs) (suc n) key k h lt is = ap (cond (is_eq (key_order x k)) an_item) (item_removed xs n key k (later x xs h) (omega (arith, lt)) is) ∙ by (is_eq (key_order x k)) refl (is_eq (key_order key k)) refl
  where
    less : key_order x key ≡ Less
    less = subst (λ b. key_order x b ≡ Less) is (lower x xs h n key (omega (arith, lt)))

    by : (a : Bool) → is_eq (key_order x k) ≡ a → (b : Bool) → is_eq (key_order key k) ≡ b → cond a an_item (cond b None (item_in xs k)) ≡ cond b None (cond a an_item (item_in xs k))
    by true e true f =
        let both : x ≡ key = same x k e ∙ sym (same key k f) in
        let clash : Less ≡ Equal = sym less ∙ (ap (key_order x) (sym both) ∙ same_key x) in
        cc
    by true e false f = refl
    by false e true f = refl
    by false e false f = refl

-- What a search answers

sorted : (keys : List (List Value)) → Rise keys → IsSortedBy (λ a b. is_lt (key_order a b)) keys
sorted keys h k d low within = ap is_lt (turned (slice_index_or keys k d) (slice_index_or keys (k + 1) d) Less (h k (k + 1) d (omega arith) within))

pub found_place : (keys : List (List Value)) (key : List Value) (r : Result ℕ ℕ) → Rise keys → IsSearchInRange r (length keys) → IsBinarySearchResult (λ other. key_order other key) keys r
    → MatchResult r (λ at. (at < length keys) × (slice_index_or keys at key ≡ key)) (IsGapFor keys key)
found_place keys key (Ok i) h bound found = (bound, exact_keys (slice_index_or keys i key) key (found key))
found_place keys key (Err i) h bound found = (bound, found (searchable_from_sorted key_order_total (λ other. other) keys key (sorted keys h)))

-- whether it has found the key
pub place_tells : (keys : List (List Value)) (key : List Value) (r : Result ℕ ℕ) → MatchResult r (λ at. (at < length keys) × (slice_index_or keys at key ≡ key)) (IsGapFor keys key) → is_ok r ≡ is_some (item_of (listed keys) key)
place_tells keys key (Ok at) there = sym (ap is_some (item_there keys at key there.0 there.1))
place_tells keys key (Err at) gap = sym (ap is_some (item_missing keys at key gap))

-- A map of them

item_pushed : (keys : List (List Value)) (key k : List Value) → item_in (keys ++ key ∷ []) k ≡ cond (is_eq (key_order key k)) an_item (item_in keys k)
item_pushed [] key k = refl
item_pushed (x ∷ xs) key k =
    ap (cond (is_eq (key_order x k)) an_item) (item_pushed xs key k) ∙ swapped (is_eq (key_order x k)) (is_eq (key_order key k)) (item_in xs k)

-- one key more
pub item_taken : (keys : List (List Value)) (i : ℕ) (key k : List Value) → i < length keys → slice_index_or keys i key ≡ key
    → item_of (listed (take (i + 1) keys)) k ≡ cond (is_eq (key_order key k)) (Some tt) (item_of (listed (take i keys)) k)
item_taken keys i key k lt is = ap (λ l. item_in l k) (take_more keys i key lt ∙ ap (λ x. take i keys ++ x ∷ []) is) ∙ item_pushed (take i keys) key k

-- The part in a span

abbrev pub under_span : Span → List Value → Bool
under_span span key = not (is_le (key_order span.low key))

abbrev pub before_end : Span → List Value → Bool
before_end span key = not (is_past span.high key)

-- a key below one that the end is above is below the end too
lower_too : (end' a b : List Value) → key_order a b ≡ Less → not (is_le (key_order end' b)) ≡ true → not (is_le (key_order end' a)) ≡ true
lower_too end' a b less h = by (key_order end' b) refl h
  where
    by : (o : Ordering) → key_order end' b ≡ o → not (is_le o) ≡ true → not (is_le (key_order end' a)) ≡ true
    by Less e k = cc
    by Equal e k = cc
    by Greater e k = ap (λ o. not (is_le o)) (turned a end' Less (key_order_total.trans a b end' less (turned end' b Greater e)))

pub parted_under : (span : Span) (keys : List (List Value)) → Rise keys → IsPartitionedBy (under_span span) keys
parted_under span keys h = parted (λ (a b : List Value). key_order a b ≡ Less) (under_span span) (lower_too span.low) keys h

pub parted_before : (span : Span) (keys : List (List Value)) → Rise keys → IsPartitionedBy (before_end span) keys
parted_before span keys h = parted (λ (a b : List Value). key_order a b ≡ Less) (before_end span) (by span.high) keys h
  where
    by : (high : Option (List Value)) → (a b : List Value) → key_order a b ≡ Less → not (is_past high b) ≡ true → not (is_past high a) ≡ true
    by None a b less h = refl
    by (Some end') a b less h = lower_too end' a b less h

-- what is below a span that runs forward is before its end
under_before : (low : List Value) (high : Option (List Value)) (key : List Value) → RunsTo low high → not (is_le (key_order low key)) ≡ true → not (is_past high key) ≡ true
under_before low None key forward h = refl
under_before low (Some high) key forward h = by (key_order low key) refl (key_order low high) refl h forward
  where
    by : (o : Ordering) → key_order low key ≡ o → (p : Ordering) → key_order low high ≡ p → not (is_le o) ≡ true → is_gt p ≡ false → not (is_le (key_order high key)) ≡ true
    by Less e p f h k = cc
    by Equal e p f h k = cc
    by Greater e Greater f h k = cc
    by Greater e Equal f h k = subst (λ x. not (is_le (key_order x key)) ≡ true) (exact_keys low high f) (rw e refl)
    by Greater e Less f h k = ap (λ o. not (is_le o)) (turned key high Less (key_order_total.trans key low high (turned low key Greater e) f))

forward_both : (span : Span) → IsForward span → (y : List Value) → under_span span y ≡ true → before_end span y ≡ true
forward_both span forward y = under_before span.low span.high y forward

pub span_order : (span : Span) (keys : List (List Value)) (from to : ℕ) → IsForward span → from ≤ length keys → IsPoint (under_span span) keys from → IsPoint (before_end span) keys to → from ≤ to
span_order span keys from to forward = in_order (under_span span) (before_end span) (forward_both span forward) keys from to

pub span_part : (span : Span) (keys : List (List Value)) (from to : ℕ) → IsForward span → from ≤ length keys → to ≤ length keys → IsPoint (under_span span) keys from → IsPoint (before_end span) keys to
    → slice_range keys from to ≡ filter (is_within span) keys
span_part span keys from to forward = between (under_span span) (before_end span) (forward_both span forward) (is_within span) under over inside keys from to
  where
    first : (a b : Bool) → not a ≡ true → a && b ≡ false
    first true b h = cc
    first false b h = refl

    second : (a b : Bool) → b ≡ false → a && b ≡ false
    second true b h = h
    second false b h = refl

    double : (a b : Bool) → not a ≡ false → b ≡ true → a && b ≡ true
    double true b h k = k
    double false b h k = cc

    under : (y : List Value) → under_span span y ≡ true → is_within span y ≡ false
    under y = first (is_le (key_order span.low y)) (before_end span y)

    over : (y : List Value) → before_end span y ≡ false → is_within span y ≡ false
    over y = second (is_le (key_order span.low y)) (before_end span y)

    inside : (y : List Value) → under_span span y ≡ false → before_end span y ≡ true → is_within span y ≡ true
    inside y = double (is_le (key_order span.low y)) (before_end span y)

pub listed_within : (p : List Value → Bool) (keys : List (List Value)) → listed (filter p keys) ≡ filter (λ e. p e.0) (listed keys)
listed_within p [] = refl
listed_within p (x ∷ xs) = by (p x) (listed_within p xs)
  where
    by : (b : Bool) → listed (filter p xs) ≡ filter (λ e. p e.0) (listed xs) → listed (cond b (x ∷ filter p xs) (filter p xs)) ≡ cond b ((x, tt) ∷ filter (λ e. p e.0) (listed xs)) (filter (λ e. p e.0) (listed xs))
    by true more = ap (λ l. (x, tt) ∷ l) more
    by false more = more

-- A scan of them

pub listed_foremost : (d : Direction) (key : List Value) (left : List (List Value)) → listed (with_foremost d key left) ≡ with_foremost d (key, tt) (listed left)
listed_foremost Forward key left = refl
listed_foremost Backward key [] = refl
listed_foremost Backward key (x ∷ xs) = ap (λ l. (x, tt) ∷ l) (listed_foremost Backward key xs)

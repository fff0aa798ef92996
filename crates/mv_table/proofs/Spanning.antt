-- Spans of keys that cover what tests admit.
use Rattle.std.proofs.Math.ListN.{get_or-append}
use Rattle.std.proofs.Math.Seq.{get_or-append_seam}
use Rattle.std.proofs.Common.{◌≡◌, ℕ, zero, suc, ◌+◌, ◌-◌, ◌<◌, ◌≤◌, true, false, List, [], ◌∷◌, ◌++◌, Option, Some, None, length, take, slice_index_or, refl, sym, ap, subst, ◌∙◌, inl, inr, arith, length-append}
use Rattle.std.specs.Prelude.{pos, IfSome}
use Rattle.std.proofs.lemmas.Bool.{cases_lt}
use Rattle.std.proofs.lemmas.Cmp.{tied_itself}
use Rattle.std.specs.Cmp.Lexicographic.{slice_cmp}
use Rattle.std.specs.Ordering.{ordering_then, ordering_reverse, is_lt, is_le, is_gt, nat_cmp}
use Rattle.std.specs.declared.cmp.Ordering.{Ordering}
use Rattle.std.specs.declared.cmp.Ordering.TheVariants.{Less, Equal, Greater}
use Rattle.std.specs.Cmp.{Equal-is}
use Rattle.mv_values.specs.declared.value.Value.{Value}
use Rattle.mv_values.specs.declared.value.Value.TheVariants.{Int, Text}
use Rattle.mv_values.specs.declared.op.Op.{Op}
use Rattle.mv_values.specs.declared.op.Op.TheVariants.{Eq, Ne, Lt, Le, Gt, Ge}
use Rattle.mv_values.specs.declared.pred.Test.{Test}
use Rattle.mv_values.specs.Comparing.{op_holds}
use Rattle.mv_values.specs.Columns.{column_of}
use Rattle.mv_values.specs.Order.{value_order, key_order}
use Rattle.mv_values.specs.Preds.{allows}
use Rattle.mv_values.proofs.KeyOrder.{value_order_total, exact_values, key_order_total, exact_keys}
use Rattle.mv_table.specs.declared.span.Side.TheVariants.{Both}
use Rattle.mv_table.specs.Spans.{is_past, is_within, Agrees, Admits, bounds, HoldsAt}

-- One more value of a front

both_only : (op : Op) → bounds Both op ≡ true → op ≡ Eq
both_only Eq h = refl
both_only Ne h = cc
both_only Lt h = cc
both_only Le h = cc
both_only Gt h = cc
both_only Ge h = cc

-- a test by `=` leaves its value alone
pub exactly : (test : Test) (v : Value) → bounds Both test.op ≡ true → allows test v ≡ true → v ≡ test.value
exactly test v side h = exact_values v test.value ((Equal-is (value_order v test.value)).0 (subst (λ op. op_holds op (value_order v test.value) ≡ true) (both_only test.op side) h))

pub agrees_none : (key : List Value) → Agrees key []
agrees_none key i lt = absurd (omega (arith, lt))

agrees_more : (key front : List Value) (v : Value) (n : ℕ) → n ≡ length front → Agrees key front → column_of key n ≡ v → Agrees key (front ++ v ∷ [])
agrees_more key front v n size h is i lt =
    elim (cases_lt i (length front)) [
      | inl low ↦ h i low ∙ sym (get_or-append front (v ∷ []) (Int (pos 0)) i low)
      | inr high ↦
          let there : i ≡ length front = omega (arith, high, lt, length-append front (v ∷ [])) in
          ap (column_of key) (there ∙ sym size) ∙ (is ∙ sym (ap (λ k. slice_index_or (front ++ v ∷ []) k (Int (pos 0))) there ∙ get_or-append_seam front v [] (Int (pos 0))))
    ]

pub given_more : (tests : List Test) (test : Test) (front new : List Value) (v : Value) (n : ℕ) → n ≡ length front → ((key : List Value) → Admits tests key → Agrees key front) → bounds Both test.op ≡ true → HoldsAt tests n test → v ≡ test.value
    → new ≡ front ++ v ∷ [] → (n + 1 ≡ length new) × ((key : List Value) → Admits tests key → Agrees key new)
given_more tests test front new v n size h side holds same made = (
  rw made (omega (arith, size, length-append front (v ∷ []))),
  λ key so. rw made (agrees_more key front v n size (h key so) (exactly test (column_of key n) side (holds key so) ∙ sym same)),
)

-- The high end

longer_text : (s t : List ℕ) (x : ℕ) → is_le (slice_cmp nat_cmp s t) ≡ true → slice_cmp nat_cmp s (t ++ x ∷ []) ≡ Less
longer_text [] [] x h = refl
longer_text [] (b ∷ t) x h = refl
longer_text (a ∷ s) [] x h = cc
longer_text (a ∷ s) (b ∷ t) x h = by (nat_cmp a b) refl (longer_text s t x)
  where
    by : (o : Ordering) → nat_cmp a b ≡ o → (is_le (slice_cmp nat_cmp s t) ≡ true → slice_cmp nat_cmp s (t ++ x ∷ []) ≡ Less) → slice_cmp nat_cmp (a ∷ s) (b ∷ t ++ x ∷ []) ≡ Less
    by Less e more = rw e refl
    by Equal e more = let rest : is_le (slice_cmp nat_cmp s t) ≡ true = rw e at h in rw e (more rest)
    by Greater e more = let no : false ≡ true = rw e at h in cc

pub text_above : (t : List ℕ) (x : ℕ) (v : Value) → is_le (value_order v (Text t)) ≡ true → value_order v (Text (t ++ x ∷ [])) ≡ Less
text_above t x (Int n) h = refl
text_above t x (Text s) h = longer_text s t x h

shifted : (w : Value) (ws vs : List Value) (v : Value) → Agrees (w ∷ ws) (v ∷ vs) → Agrees ws vs
shifted w ws vs v h i lt = h (suc i) (omega (arith, lt))

pub tied : (w v : Value) (o : Ordering) → w ≡ v → ordering_then (value_order w v) o ≡ o
tied w v o same = ap (λ x. ordering_then (value_order x v) o) same ∙ ap (λ p. ordering_then p o) (tied_itself value_order_total v)

-- a key that agrees with the values and has a lesser one behind them is below
below_end : (key front : List Value) (end' : Value) → Agrees key front → value_order (column_of key (length front)) end' ≡ Less → key_order key (front ++ end' ∷ []) ≡ Less
below_end [] [] end' h less = refl
below_end [] (v ∷ vs) end' h less = refl
below_end (w ∷ ws) [] end' h less = rw less refl
below_end (w ∷ ws) (v ∷ vs) end' h less = tied w v (key_order ws (vs ++ end' ∷ [])) (h 0 (omega arith)) ∙ below_end ws vs end' (shifted w ws vs v h) less

not_past : (end' key : List Value) → key_order key end' ≡ Less → is_past (Some end') key ≡ false
not_past end' key h = rw (key_order_total.antisymm end' key, h) refl

pub ends_above : (key front made : List Value) (end' : Value) → made ≡ front ++ end' ∷ [] → Agrees key front → value_order (column_of key (length front)) end' ≡ Less → is_past (Some made) key ≡ false
ends_above key front made end' is h less = not_past made key (ap (key_order key) is ∙ below_end key front end' h less)

pub at_most : (v w : Value) → v ≡ w → is_le (value_order v w) ≡ true
at_most v w same = ap (λ x. is_le (value_order x w)) same ∙ ap is_le (tied_itself value_order_total w)

-- the values before the last and the last
pub front_and_last : (key all front : List Value) (v : Value) → all ≡ front ++ v ∷ [] → Agrees key all → Agrees key front × (column_of key (length front) ≡ v)
front_and_last key all front v is h = (
  λ i lt. h i (omega (arith, lt, ap length is, length-append front (v ∷ []))) ∙ (ap (λ l. slice_index_or l i (Int (pos 0))) is ∙ get_or-append front (v ∷ []) (Int (pos 0)) i lt),
  h (length front) (omega (arith, ap length is, length-append front (v ∷ []))) ∙ (ap (λ l. slice_index_or l (length front) (Int (pos 0))) is ∙ get_or-append_seam front v [] (Int (pos 0))),
)

-- The low end

le_then : (o p : Ordering) → is_le o ≡ true → is_le p ≡ true → is_le (ordering_then o p) ≡ true
le_then Less p h k = refl
le_then Equal p h k = k
le_then Greater p h k = cc

none_above : (key : List Value) → is_le (key_order [] key) ≡ true
none_above [] = refl
none_above (w ∷ ws) = refl

turned_le : (v w : Value) → is_lt (value_order w v) ≡ false → is_le (value_order v w) ≡ true
turned_le v w h = by (value_order w v) refl h
  where
    by : (o : Ordering) → value_order w v ≡ o → is_lt o ≡ false → is_le (value_order v w) ≡ true
    by Less e k = cc
    by Equal e k = ap is_le (value_order_total.antisymm v w ∙ ap ordering_reverse e)
    by Greater e k = ap is_le (value_order_total.antisymm v w ∙ ap ordering_reverse e)

zero_past : (n : ℕ) → column_of [] n ≡ Int (pos 0)
zero_past n = refl

-- a key that agrees with the values and has one behind them that is above 0 and at least the least
pub above_least : (key front : List Value) (least : Value) → Agrees key front → is_lt (value_order (column_of key (length front)) least) ≡ false → value_order (Int (pos 0)) least ≡ Less → is_le (key_order (front ++ least ∷ []) key) ≡ true
above_least [] front least h at above = let no : true ≡ false = rw above at at in cc
above_least (w ∷ ws) [] least h at above = le_then (value_order least w) (key_order [] ws) (turned_le least w at) (none_above ws)
above_least (w ∷ ws) (v ∷ vs) least h at above =
    ap is_le (tied v w (key_order (vs ++ least ∷ []) ws) (sym (h 0 (omega arith)))) ∙ above_least ws vs least (shifted w ws vs v h) at above

-- the last of the first values isn't 0
abbrev pub EndsNonzero : List Value → ℕ → Type 0
EndsNonzero front n = (k : ℕ) → n ≡ suc k → slice_index_or front k (Int (pos 0)) ≡ Int (pos 0) → ⊥

-- up to a value that isn't 0 a key that agrees begins so
begins : (key front : List Value) (n : ℕ) → n ≤ length front → EndsNonzero front n → Agrees key front → is_le (key_order (take n front) key) ≡ true
begins key front zero high last h = none_above key
begins key [] (suc n) high last h = absurd (omega (arith, high))
begins [] (v ∷ vs) (suc n) high last h = absurd (last n refl (sym (h n (omega (arith, high)))))
begins (w ∷ ws) (v ∷ vs) (suc n) high last h =
    ap is_le (tied v w (key_order (take n vs) ws) (sym (h 0 (omega arith)))) ∙ begins ws vs n (omega (arith, high)) (λ k e. last (suc k) (ap suc e)) (shifted w ws vs v h)

pub begins_all : (key front items : List Value) (n i : ℕ) → items ≡ front → n ≤ i → i ≤ length items → (0 < n → slice_index_or items (n - 1) (Int (pos 0)) ≡ Int (pos 0) → ⊥) → Agrees key front → is_le (key_order (take n front) key) ≡ true
begins_all key front items n i same low high last h =
    begins key front n (omega (arith, low, high, ap length same))
    (λ k e is.
    let at : n - 1 ≡ k = omega (arith, e) in
    last (omega (arith, e)) (ap (λ j. slice_index_or items j (Int (pos 0))) at ∙ (ap (λ l. slice_index_or l k (Int (pos 0))) same ∙ is)))
    h

-- Both ends

gt_le : (o : Ordering) → is_gt o ≡ false → is_le o ≡ true
gt_le Less h = refl
gt_le Equal h = refl
gt_le Greater h = cc

-- what isn't below the low end nor past the high one is within
pub is_inside : (low : List Value) (high : Option (List Value)) (key : List Value) → is_le (key_order low key) ≡ true → is_past high key ≡ false → is_within (record { low = low; high = high }) key ≡ true
is_inside low high key h k = rw (h, k) refl

-- a low end above the high one leaves nothing
pub nothing_inside : (low high key : List Value) → is_gt (key_order low high) ≡ true → is_le (key_order low key) ≡ true → is_past (Some high) key ≡ false → ⊥
nothing_inside low high key above from before = by (key_order low high) refl (key_order low key) refl above from
  where
    by : (o : Ordering) → key_order low high ≡ o → (p : Ordering) → key_order low key ≡ p → is_gt o ≡ true → is_le p ≡ true → ⊥
    by Less e p f g k = cc
    by Equal e p f g k = cc
    by Greater e Greater f g k = cc
    by Greater e Equal f g k =
        let same : low ≡ key = exact_keys low key f in
        let over : key_order high key ≡ Less = ap (key_order high) (sym same) ∙ (key_order_total.antisymm high low ∙ ap ordering_reverse e) in
        let no : true ≡ false = rw over at before in
        cc
    by Greater e Less f g k =
        let over : key_order high key ≡ Less = key_order_total.trans high low key (key_order_total.antisymm high low ∙ ap ordering_reverse e) f in
        let no : true ≡ false = rw over at before in
        cc

pub itself_forward : (low : List Value) → is_gt (key_order low low) ≡ false
itself_forward low = ap is_gt (tied_itself key_order_total low)

-- the least value of a side that has one
pub low_with : (tests : List Test) (front made : List Value) (found : Option Value) (least : Value) → found ≡ Some least → IfSome found (λ v. (key : List Value) → Admits tests key → is_lt (value_order (column_of key (length front)) v) ≡ false) → IfSome found (λ v. value_order (Int (pos 0)) v ≡ Less)
    → made ≡ front ++ least ∷ [] → (key : List Value) → Admits tests key → Agrees key front → is_le (key_order made key) ≡ true
low_with tests front made None least is at above same key so agree = cc
low_with tests front made (Some v) least is at above same key so agree =
    let one : v ≡ least = cc in
    ap (λ k. is_le (key_order k key)) (same ∙ ap (λ x. front ++ x ∷ []) (sym one)) ∙ above_least key front v agree (at key so) above

-- Changes in the order of their places, one of which is put or changed.
use Rattle.std.proofs.Common.{◌≡◌, ℕ, zero, suc, ◌+◌, ◌<◌, ◌≤◌, Bool, true, false, cond, List, [], ◌∷◌, ◌++◌, Option, Some, None, length, drop, append-nil, refl, sym, ap, subst, ◌∙◌, arith, if◌then◌else◌}
use Rattle.std.specs.Prelude.{All, ◌||◌, slice_get, slice_set, slice_index_or}
use Rattle.std.specs.List.{insert, list_any}
use Rattle.std.specs.List.Sorted.{IsPartitionedBy}
use Rattle.std.specs.Ordering.{is_eq, is_lt}
use Rattle.std.specs.declared.cmp.Ordering.{Ordering}
use Rattle.std.specs.declared.cmp.Ordering.TheVariants.{Less, Equal, Greater}
use Rattle.std.proofs.lemmas.List.Elements.{All-nil, All-cons}
use Rattle.std.proofs.lemmas.List.Kept.{AllPairs-cons}
use Rattle.mv_values.specs.declared.value.Value.{Value}
use Rattle.mv_values.specs.declared.patch.Write.{Write}
use Rattle.mv_values.specs.Order.{key_order}
use Rattle.mv_values.proofs.KeyOrder.{key_order_total, tied, same_key, turned}
use Rattle.mv_values.proofs.Deciding.{less_is}
use Rattle.mv_table.specs.Entries.{item_of, KeysRise}
use Rattle.mv_table.proofs.Points.{parted}
use Rattle.mv_history.specs.declared.change.Change.{Change}
use Rattle.mv_history.specs.Changes.{is_same, place, InOrder}
use Rattle.mv_history.proofs.Listing.{After, Ordered, ordered_from}
use Rattle.mv_changes.specs.Tables.{IsCut}
use Rattle.mv_changes.specs.Drafting.{by_place, written, is_before, is_there, differing}
use Rattle.mv_changes.proofs.Drafting.{Entry, HasPlace, differing_in_order}

-- Orders

greater_is : (o : Ordering) → is_lt o ≡ false → is_eq o ≡ false → o ≡ Greater
greater_is Less h e = cc
greater_is Equal h e = cc
greater_is Greater h e = refl

less_apart : (o : Ordering) → o ≡ Less → is_eq o ≡ false
less_apart o h = rw h refl

-- a change before one that is before a place is before it, too
before_lower : (w : Write) (a b : Change) → key_order (place a) (place b) ≡ Less → is_before w b ≡ true → is_before w a ≡ true
before_lower w a b less low = ap is_lt (key_order_total.trans (place a) (place b) (written w) less (less_is (key_order (place b) (written w)) low))

pub cut_by_place : (w : Write) (cs : List Change) → InOrder cs → IsPartitionedBy (is_before w) cs
cut_by_place w cs = parted (λ a b. key_order (place a) (place b) ≡ Less) (is_before w) (λ a b. before_lower w a b) cs

cut_later : (w : Write) (c : Change) (cs : List Change) (n : ℕ) → IsCut (is_before w) (c ∷ cs) (suc n) → IsCut (is_before w) cs n
cut_later w c cs n cut = (λ k d lt low. cut.0 (suc k) d (omega (arith, lt)) (omega (arith, low)), λ k d lt high. cut.1 (suc k) d (omega (arith, lt)) (omega (arith, high)))

first_less : (w : Write) (c : Change) (cs : List Change) (n : ℕ) → IsCut (is_before w) (c ∷ cs) (suc n) → key_order (place c) (written w) ≡ Less
first_less w c cs n cut = less_is (key_order (place c) (written w)) (cut.0 0 c (omega arith) (omega arith))

first_greater : (w : Write) (c : Change) (cs : List Change) → IsCut (is_before w) (c ∷ cs) 0 → is_there w (slice_get (c ∷ cs) 0) ≡ false → key_order (place c) (written w) ≡ Greater
first_greater w c cs cut off = greater_is (key_order (place c) (written w)) (cut.1 0 c (omega arith) (omega arith)) off

-- The change of a place

-- a place before those of changes
none_under : (low : List Value) (cs : List Change) → After low cs → item_of (by_place cs) low ≡ None
none_under low [] h = refl
none_under low (c ∷ cs) h = ap (λ o. cond (is_eq o) (Some c) (item_of (by_place cs) low)) (turned low (place c) Less h.0) ∙ none_under low cs h.1

after_lower : (low mid : List Value) (cs : List Change) → key_order low mid ≡ Less → After mid cs → After low cs
after_lower low mid [] e h = tt
after_lower low mid (c ∷ cs) e h = (key_order_total.trans low mid (place c) e h.0, after_lower low mid cs e h.1)

pub none_there : (w : Write) (cs : List Change) (at : ℕ) → Ordered cs → at ≤ length cs → IsCut (is_before w) cs at → is_there w (slice_get cs at) ≡ false → item_of (by_place cs) (written w) ≡ None
none_there w [] at order le cut off = refl
none_there w (c ∷ cs) zero order le cut off =
    let up = turned (place c) (written w) Greater (first_greater w c cs cut off) in
    none_under (written w) (c ∷ cs) (up, after_lower (written w) (place c) cs up order.0)
none_there w (c ∷ cs) (suc n) order le cut off =
    ap (λ o. cond (is_eq o) (Some c) (item_of (by_place cs) (written w))) (first_less w c cs n cut) ∙ none_there w cs n order.1 (omega (arith, le)) (cut_later w c cs n cut) off

pub one_there : (w : Write) (cs : List Change) (at : ℕ) (c : Change) → IsCut (is_before w) cs at → slice_get cs at ≡ Some c → place c ≡ written w → item_of (by_place cs) (written w) ≡ Some c
one_there w [] at c cut is same = cc
one_there w (x ∷ cs) zero c cut is same =
    let it : x ≡ c = cc in
    ap (λ (y : Change). cond (is_eq (key_order (place y) (written w))) (Some y) (item_of (by_place cs) (written w))) it
    ∙ ap (λ o. cond (is_eq o) (Some c) (item_of (by_place cs) (written w))) (ap (λ k. key_order k (written w)) same ∙ same_key (written w))
one_there w (x ∷ cs) (suc n) c cut is same = ap (λ o. cond (is_eq o) (Some x) (item_of (by_place cs) (written w))) (first_less w x cs n cut) ∙ one_there w cs n c (cut_later w x cs n cut) is same

-- two tests, of which at most one passes, in either order
either : (a b : Bool) (x c : Change) (r : Option Change) → (a ≡ true → b ≡ false) → cond a (Some x) (cond b (Some c) r) ≡ cond b (Some c) (cond a (Some x) r)
either true b x c r apart = rw (apart refl) refl
either false b x c r apart = refl

-- two places that are apart aren't both one other
apart_there : (a b other : List Value) → is_eq (key_order a b) ≡ false → is_eq (key_order a other) ≡ true → is_eq (key_order b other) ≡ false
apart_there a b other apart h = by (is_eq (key_order b other)) refl
  where
    by : (t : Bool) → is_eq (key_order b other) ≡ t → t ≡ false
    by true e = absurd (clash (ap (λ k. is_eq (key_order a k)) (tied b other e) ∙ h))
      where
        clash : is_eq (key_order a b) ≡ true → ⊥
        clash k = cc
    by false e = refl

pub under_inserted : (w : Write) (cs : List Change) (at : ℕ) (c : Change) → place c ≡ written w → at ≤ length cs → IsCut (is_before w) cs at → (other : List Value)
    → item_of (by_place (insert cs at c)) other ≡ cond (is_eq (key_order (written w) other)) (Some c) (item_of (by_place cs) other)
under_inserted w cs zero c same le cut other = ap (λ k. cond (is_eq (key_order k other)) (Some c) (item_of (by_place cs) other)) same
under_inserted w [] (suc n) c same le cut other = absurd (omega (arith, le))
under_inserted w (x ∷ cs) (suc n) c same le cut other =
    ap (λ r. cond (is_eq (key_order (place x) other)) (Some x) r) (under_inserted w cs n c same (omega (arith, le)) (cut_later w x cs n cut) other)
    ∙ either (is_eq (key_order (place x) other)) (is_eq (key_order (written w) other)) x c (item_of (by_place cs) other)
    (apart_there (place x) (written w) other (less_apart (key_order (place x) (written w)) (first_less w x cs n cut)))

pub under_set : (w : Write) (cs : List Change) (at : ℕ) (was c : Change) → slice_get cs at ≡ Some was → place was ≡ written w → place c ≡ written w → IsCut (is_before w) cs at → (other : List Value)
    → item_of (by_place (slice_set cs at c)) other ≡ cond (is_eq (key_order (written w) other)) (Some c) (item_of (by_place cs) other)
under_set w [] at was c is there same cut other = cc
under_set w (x ∷ cs) zero was c is there same cut other =
    let it : x ≡ was = cc in
    let here : place x ≡ written w = ap place it ∙ there in
    ap (λ k. cond (is_eq (key_order k other)) (Some c) (item_of (by_place cs) other)) same
    ∙ (both (is_eq (key_order (written w) other)) ∙ sym (ap (λ k. cond (is_eq (key_order (written w) other)) (Some c) (cond (is_eq (key_order k other)) (Some x) (item_of (by_place cs) other))) here))
  where
    both : (b : Bool) → cond b (Some c) (item_of (by_place cs) other) ≡ cond b (Some c) (cond b (Some x) (item_of (by_place cs) other))
    both true = refl
    both false = refl
under_set w (x ∷ cs) (suc n) was c is there same cut other =
    ap (λ r. cond (is_eq (key_order (place x) other)) (Some x) r) (under_set w cs n was c is there same (cut_later w x cs n cut) other)
    ∙ either (is_eq (key_order (place x) other)) (is_eq (key_order (written w) other)) x c (item_of (by_place cs) other)
    (apart_there (place x) (written w) other (less_apart (key_order (place x) (written w)) (first_less w x cs n cut)))

-- the change at a write's place
pub there_within : (w : Write) (cs : List Change) (at : ℕ) → is_there w (slice_get cs at) ≡ true → at < length cs
there_within w [] at h = cc
there_within w (c ∷ cs) zero h = omega arith
there_within w (c ∷ cs) (suc n) h = let more = there_within w cs n h in omega (arith, more)

pub at_place : (w : Write) (cs : List Change) (at : ℕ) (c : Change) → is_there w (slice_get cs at) ≡ true → slice_get cs at ≡ Some c → place c ≡ written w
at_place w cs at c h is = tied (place c) (written w) (sym (ap (is_there w) is) ∙ h)

-- Order

after_inserted : (low : List Value) (cs : List Change) (at : ℕ) (c : Change) → key_order low (place c) ≡ Less → After low cs → After low (insert cs at c)
after_inserted low cs zero c e h = (e, h)
after_inserted low [] (suc n) c e h = (e, tt)
after_inserted low (x ∷ cs) (suc n) c e h = (h.0, after_inserted low cs n c e h.1)

pub inserted_in_order : (w : Write) (cs : List Change) (at : ℕ) (c : Change) → place c ≡ written w → at ≤ length cs → IsCut (is_before w) cs at → is_there w (slice_get cs at) ≡ false → Ordered cs → Ordered (insert cs at c)
inserted_in_order w [] zero c same le cut off order = (tt, tt)
inserted_in_order w (x ∷ cs) zero c same le cut off order =
    let up = turned (place x) (written w) Greater (first_greater w x cs cut off) in
    (subst (λ k. After k (x ∷ cs)) (sym same) (up, after_lower (written w) (place x) cs up order.0), order)
inserted_in_order w [] (suc n) c same le cut off order = absurd (omega (arith, le))
inserted_in_order w (x ∷ cs) (suc n) c same le cut off order =
    (after_inserted (place x) cs n c (ap (key_order (place x)) same ∙ first_less w x cs n cut) order.0, inserted_in_order w cs n c same (omega (arith, le)) (cut_later w x cs n cut) off order.1)

after_set : (low : List Value) (cs : List Change) (at : ℕ) (was c : Change) → slice_get cs at ≡ Some was → place c ≡ place was → After low cs → After low (slice_set cs at c)
after_set low [] at was c is same h = cc
after_set low (x ∷ cs) zero was c is same h = let it : x ≡ was = cc in (ap (key_order low) (same ∙ sym (ap place it)) ∙ h.0, h.1)
after_set low (x ∷ cs) (suc n) was c is same h = (h.0, after_set low cs n was c is same h.1)

pub set_in_order : (cs : List Change) (at : ℕ) (was c : Change) → slice_get cs at ≡ Some was → place c ≡ place was → Ordered cs → Ordered (slice_set cs at c)
set_in_order [] at was c is same order = cc
set_in_order (x ∷ cs) zero was c is same order = let it : x ≡ was = cc in (subst (λ k. After k cs) (sym (same ∙ sym (ap place it))) order.0, order.1)
set_in_order (x ∷ cs) (suc n) was c is same order = (after_set (place x) cs n was c is same order.0, set_in_order cs n was c is same order.1)

pub set_again : (cs : List Change) (at : ℕ) (x y : Change) → slice_set (slice_set cs at x) at y ≡ slice_set cs at y
set_again [] at x y = refl
set_again (c ∷ cs) zero x y = refl
set_again (c ∷ cs) (suc n) x y = ap (λ l. c ∷ l) (set_again cs n x y)

-- As entries

pub placed_all : (cs : List Change) → All HasPlace (by_place cs)
placed_all [] = All-nil HasPlace
placed_all (c ∷ cs) = All-cons HasPlace (place c, c) (by_place cs) refl (placed_all cs)

after_entries : (low : List Value) (cs : List Change) → After low cs → All (λ (e : Entry). key_order low e.0 ≡ Less) (by_place cs)
after_entries low [] h = All-nil (λ (e : Entry). key_order low e.0 ≡ Less)
after_entries low (c ∷ cs) h = All-cons (λ (e : Entry). key_order low e.0 ≡ Less) (place c, c) (by_place cs) h.0 (after_entries low cs h.1)

pub entries_rise : (cs : List Change) → Ordered cs → KeysRise (by_place cs)
entries_rise [] h = λ i j d lt within. absurd (omega (arith, within))
entries_rise (c ∷ cs) h = AllPairs-cons (λ (a b : Entry). key_order a.0 b.0 ≡ Less) (place c, c) (by_place cs) (after_entries (place c) cs h.0) (entries_rise cs h.1)

abbrev pub same_rows : Change → Bool
same_rows c = is_same c.before c.after

differ_more : (c : Change) (cs : List Change) → list_any same_rows (c ∷ cs) ≡ false → (list_any same_rows cs ≡ false → differing (by_place cs) ≡ cs) → (b : Bool) → is_same c.before c.after ≡ b → differing (by_place (c ∷ cs)) ≡ c ∷ cs
differ_more c cs h rest true e = absurd (clash (ap (λ x. x || list_any same_rows cs) (sym e) ∙ h))
  where
    clash : ◌≡◌ {A = Bool} true false → ⊥
    clash k = cc
differ_more c cs h rest false e = ap (λ b. (if b then [] else c ∷ []) ++ differing (by_place cs)) e ∙ ap (λ l. c ∷ l) (rest (ap (λ x. x || list_any same_rows cs) (sym e) ∙ h))

-- where all rows differ
pub all_differ : (cs : List Change) → list_any same_rows cs ≡ false → differing (by_place cs) ≡ cs
all_differ [] h = refl
all_differ (c ∷ cs) h = differ_more c cs h (λ k. all_differ cs k) (is_same c.before c.after) refl

-- One change after another

rest_at : (cs : List Change) (i : ℕ) (c : Change) → i < length cs → c ≡ slice_index_or cs i c → drop i cs ≡ c ∷ drop (suc i) cs
rest_at [] i c lt is = absurd (omega (arith, lt))
rest_at (x ∷ cs) zero c lt is = ap (λ (y : Change). y ∷ cs) (sym is)
rest_at (x ∷ cs) (suc i) c lt is = rest_at cs i c (omega (arith, lt)) is

-- the changes that differ, from one on
differ_from : (cs : List Change) (i : ℕ) (c : Change) → i < length cs → c ≡ slice_index_or cs i c → differing (by_place (drop i cs)) ≡ (if same_rows c then [] else c ∷ []) ++ differing (by_place (drop (i + 1) cs))
differ_from cs i c lt is =
    let next : i + 1 ≡ suc i = omega arith in
    ap (λ (l : List Change). differing (by_place l)) (rest_at cs i c lt is) ∙ ap (λ n. (if same_rows c then [] else c ∷ []) ++ differing (by_place (drop n cs))) (sym next)

pub passed : (cs listed all : List Change) (i : ℕ) (c : Change) → i < length cs → c ≡ slice_index_or cs i c → same_rows c ≡ true → listed ++ differing (by_place (drop i cs)) ≡ all → listed ++ differing (by_place (drop (i + 1) cs)) ≡ all
passed cs listed all i c lt is same whole = ap (λ l. listed ++ l) (sym (differ_from cs i c lt is ∙ ap (λ b. (if b then [] else c ∷ []) ++ differing (by_place (drop (i + 1) cs))) same)) ∙ whole

pub picked : (cs listed all : List Change) (i : ℕ) (c : Change) → i < length cs → c ≡ slice_index_or cs i c → same_rows c ≡ false → listed ++ differing (by_place (drop i cs)) ≡ all → listed ++ c ∷ differing (by_place (drop (i + 1) cs)) ≡ all
picked cs listed all i c lt is apart whole = ap (λ l. listed ++ l) (sym (differ_from cs i c lt is ∙ ap (λ b. (if b then [] else c ∷ []) ++ differing (by_place (drop (i + 1) cs))) apart)) ∙ whole

-- Once all changes were looked at

drop_end : (cs : List Change) (i : ℕ) → length cs ≤ i → drop i cs ≡ []
drop_end [] zero h = refl
drop_end [] (suc i) h = refl
drop_end (c ∷ cs) zero h = absurd (omega (arith, h))
drop_end (c ∷ cs) (suc i) h = drop_end cs i (omega (arith, h))

-- the changes that differ are all listed, and in order
pub all_listed : (cs listed : List Change) (i : ℕ) → InOrder cs → length cs ≤ i → listed ++ differing (by_place (drop i cs)) ≡ differing (by_place cs) → InOrder listed
all_listed cs listed i order ended whole =
    let last : listed ≡ differing (by_place cs) = sym (append-nil listed) ∙ (ap (λ (l : List Change). listed ++ differing (by_place l)) (sym (drop_end cs i ended)) ∙ whole) in
    subst InOrder (sym last) (differing_in_order (by_place cs) (entries_rise cs (ordered_from cs order)) (placed_all cs))

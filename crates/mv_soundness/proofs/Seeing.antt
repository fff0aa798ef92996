-- What a predicate finds behind the writes of two runs, where no change hits it and no write that isn't in both touches it.
use Rattle.std.proofs.Common.{◌≡◌, ℕ, zero, suc, ◌==◌, Bool, true, false, cond, not, List, [], ◌∷◌, ◌++◌, Option, Some, None, map, length, slice_set, if◌then◌else◌, refl, sym, ap, subst, ◌∙◌, arith}
use Rattle.std.specs.Prelude.{◌&&◌, ◌||◌, pos}
use Rattle.std.proofs.lemmas.Bool.Decides.{eqb_tells}
use Rattle.std.proofs.lemmas.Cmp.{tied_itself}
use Rattle.std.proofs.lemmas.List.{get_or-set_other, length-set}
use Rattle.std.specs.List.{filter, list_any}
use Rattle.std.specs.Ordering.{is_eq}
use Rattle.std.proofs.lemmas.Bool.{and_parts, not-false, eqb-true}
use Rattle.mv_values.specs.declared.value.Value.{Value}
use Rattle.mv_values.specs.declared.value.Value.TheVariants.{Int}
use Rattle.mv_values.specs.declared.pred.Pred.{Pred}
use Rattle.mv_values.specs.declared.pred.Test.{Test}
use Rattle.mv_values.specs.declared.patch.Assign.{Assign}
use Rattle.mv_values.specs.declared.patch.Patch.{Patch}
use Rattle.mv_values.specs.declared.patch.Patch.TheVariants.{Insert, Set, Delete}
use Rattle.mv_values.specs.declared.patch.Write.{Write}
use Rattle.mv_values.specs.Columns.{column_of, columns_of}
use Rattle.mv_values.specs.Order.{key_order}
use Rattle.mv_values.specs.Patching.{with_columns, patched}
use Rattle.mv_values.specs.Preds.{admits, names, sees}
use Rattle.mv_values.proofs.KeyOrder.{key_order_total, tied}
use Rattle.mv_record.specs.Writes.{is_on, writes_on, patched_by, touches}
use Rattle.mv_record.proofs.Patching.{none_on}
use Rattle.mv_history.proofs.Alike.{alike_sees}
use Rattle.mv_history.proofs.Listing.{same_is}
use Rattle.mv_history.specs.declared.change.Change.{Change}
use Rattle.mv_history.specs.Changes.{is_of, Leads, is_same}
use Rattle.mv_history.specs.Hits.{named_columns, is_alike, reaches, touches_predicate}
use Rattle.mv_recorded.specs.Own.{Each}

-- One row

-- both are there or not, with the same values in the columns that the predicate names
abbrev pub ColsAlike : Pred → Option (List Value) → Option (List Value) → Type 0
ColsAlike p None None = Unit {0}
ColsAlike p (Some a) (Some b) = columns_of a (named_columns p) ≡ columns_of b (named_columns p)
ColsAlike p None (Some b) = ⊥
ColsAlike p (Some a) None = ⊥

abbrev pub LongAlike : Option (List Value) → Option (List Value) → Type 0
LongAlike None None = Unit {0}
LongAlike (Some a) (Some b) = length a ≡ length b
LongAlike None (Some b) = Unit {0}
LongAlike (Some a) None = Unit {0}

abbrev pub RowAlike : Pred → Option (List Value) → Option (List Value) → Type 0
RowAlike p a b = ColsAlike p a b × LongAlike a b

pub alike_self : (p : Pred) (a : Option (List Value)) → RowAlike p a a
alike_self p None = (tt, tt)
alike_self p (Some a) = (refl, refl)

set_agree : (a b : List Value) (c d : ℕ) (v : Value) → length a ≡ length b → column_of a d ≡ column_of b d → column_of (slice_set a c v) d ≡ column_of (slice_set b c v) d
set_agree [] [] c d v l h = refl
set_agree (x ∷ xs) (y ∷ ys) zero zero v l h = refl
set_agree (x ∷ xs) (y ∷ ys) zero (suc d) v l h = h
set_agree (x ∷ xs) (y ∷ ys) (suc c) zero v l h = h
set_agree (x ∷ xs) (y ∷ ys) (suc c) (suc d) v l h = set_agree xs ys c d v (let e : length xs ≡ length ys = omega (arith, l) in e) h
set_agree [] (y ∷ ys) c d v l h = cc
set_agree (x ∷ xs) [] c d v l h = cc

set_columns_agree : (a b : List Value) (c : ℕ) (v : Value) (cs : List ℕ) → length a ≡ length b → columns_of a cs ≡ columns_of b cs → columns_of (slice_set a c v) cs ≡ columns_of (slice_set b c v) cs
set_columns_agree a b c v [] l h = refl
set_columns_agree a b c v (d ∷ cs) l h =
    let first : column_of a d ≡ column_of b d = cc in
    let rest : columns_of a cs ≡ columns_of b cs = cc in
    ap (λ w. w ∷ columns_of (slice_set a c v) cs) (set_agree a b c d v l first) ∙ ap (λ l. column_of (slice_set b c v) d ∷ l) (set_columns_agree a b c v cs l rest)

with_agree : (items : List Assign) (a b : List Value) (cs : List ℕ) → length a ≡ length b → columns_of a cs ≡ columns_of b cs → (columns_of (with_columns items a) cs ≡ columns_of (with_columns items b) cs) × (length (with_columns items a) ≡ length (with_columns items b))
with_agree [] a b cs l h = (h, l)
with_agree (i ∷ is) a b cs l h =
    with_agree is (slice_set a i.column i.value) (slice_set b i.column i.value) cs (length-set a i.column i.value ∙ (l ∙ sym (length-set b i.column i.value))) (set_columns_agree a b i.column i.value cs l h)

-- the same patch
pub patch_both : (p : Pred) (q : Patch) (a b : Option (List Value)) → RowAlike p a b → RowAlike p (patched q a) (patched q b)
patch_both p (Insert row) a b h = (refl, refl)
patch_both p (Set items) None None h = (tt, tt)
patch_both p (Set items) (Some a) (Some b) h = let e = with_agree items a b (named_columns p) h.1 h.0 in (e.0, e.1)
patch_both p (Set items) None (Some b) h = absurd h.0
patch_both p (Set items) (Some a) None h = absurd h.0
patch_both p Delete a b h = (tt, tt)

-- a column that is named is one that the predicate names
abbrev has : ℕ → List ℕ → Bool
has c cs = list_any (λ d. d == c) cs

set_unnamed : (a : List Value) (c : ℕ) (v : Value) (cs : List ℕ) → has c cs ≡ false → columns_of (slice_set a c v) cs ≡ columns_of a cs
set_unnamed a c v [] h = refl
set_unnamed a c v (d ∷ cs) h = by (λ k. set_unnamed a c v cs k) (d == c) refl h
  where
    by : (has c cs ≡ false → columns_of (slice_set a c v) cs ≡ columns_of a cs) → (b : Bool) → (d == c) ≡ b → (b || has c cs) ≡ false → columns_of (slice_set a c v) (d ∷ cs) ≡ columns_of a (d ∷ cs)
    by go true e k = cc
    by go false e k =
        let apart : d ≡ c → ⊥ = λ at. grind (arith, eqb_tells) in
        ap (λ w. w ∷ columns_of (slice_set a c v) cs) (get_or-set_other a c d v (Int (pos 0)) apart) ∙ ap (λ l. column_of a d ∷ l) (go k)

any_both : (c : ℕ) (cs ds : List ℕ) → has c (cs ++ ds) ≡ (has c cs || has c ds)
any_both c [] ds = refl
any_both c (d ∷ cs) ds = by (d == c) (any_both c cs ds)
  where
    by : (b : Bool) → has c (cs ++ ds) ≡ (has c cs || has c ds) → (b || has c (cs ++ ds)) ≡ ((b || has c cs) || has c ds)
    by true e = refl
    by false e = e

has_tests : (c : ℕ) (tests : List Test) → has c (map (λ t. t.column) tests) ≡ list_any (λ (t : Test). t.column == c) tests
has_tests c [] = refl
has_tests c (t ∷ ts) = ap (λ b. (t.column == c) || b) (has_tests c ts)

names_is : (p : Pred) (c : ℕ) → has c (named_columns p) ≡ names p c
names_is p c = any_both c p.columns (map (λ t. t.column) p.tests) ∙ ap (λ b. has c p.columns || b) (has_tests c p.tests)

with_unnamed : (p : Pred) (items : List Assign) (a : List Value) → list_any (λ (i : Assign). names p i.column) items ≡ false
    → (columns_of (with_columns items a) (named_columns p) ≡ columns_of a (named_columns p)) × (length (with_columns items a) ≡ length a)
with_unnamed p [] a h = (refl, refl)
with_unnamed p (i ∷ is) a h = by (λ k. with_unnamed p is (slice_set a i.column i.value) k) (names p i.column) refl h
  where
    by : (list_any (λ (i : Assign). names p i.column) is ≡ false → (columns_of (with_columns is (slice_set a i.column i.value)) (named_columns p) ≡ columns_of (slice_set a i.column i.value) (named_columns p))
        × (length (with_columns is (slice_set a i.column i.value)) ≡ length (slice_set a i.column i.value)))
        → (b : Bool) → names p i.column ≡ b → (b || list_any (λ (i : Assign). names p i.column) is) ≡ false
        → (columns_of (with_columns (i ∷ is) a) (named_columns p) ≡ columns_of a (named_columns p)) × (length (with_columns (i ∷ is) a) ≡ length a)
    by go true e k = cc
    by go false e k = let rest = go k in (rest.0 ∙ set_unnamed a i.column i.value (named_columns p) (names_is p i.column ∙ e), rest.1 ∙ length-set a i.column i.value)

-- a patch that doesn't reach the predicate's columns
pub patch_left : (p : Pred) (q : Patch) (a b : Option (List Value)) → reaches p q ≡ false → RowAlike p a b → RowAlike p (patched q a) b
patch_left p (Insert row) a b r h = cc
patch_left p (Set items) None b r h = h
patch_left p (Set items) (Some a) (Some b) r h = let e = with_unnamed p items a r in (e.0 ∙ h.0, e.1 ∙ h.1)
patch_left p (Set items) (Some a) None r h = absurd h.0
patch_left p Delete a b r h = cc

pub alike_turned : (p : Pred) (a b : Option (List Value)) → RowAlike p a b → RowAlike p b a
alike_turned p None None h = h
alike_turned p (Some a) (Some b) h = (sym h.0, sym h.1)
alike_turned p None (Some b) h = absurd h.0
alike_turned p (Some a) None h = absurd h.0

-- such rows are seen alike
pub sees_alike : (p : Pred) (a b : Option (List Value)) → ColsAlike p a b → sees p a ≡ sees p b
sees_alike p None None h = refl
sees_alike p (Some a) (Some b) h =
    alike_sees p (Some a) (Some b) (subst (λ l. is_eq (key_order (columns_of a (named_columns p)) l) ≡ true) h (ap is_eq (tied_itself key_order_total (columns_of a (named_columns p)))))
sees_alike p None (Some b) h = absurd h
sees_alike p (Some a) None h = absurd h

-- Writes

-- two lists of writes that are the same but for writes that don't touch the predicate
pub data Merged (p : Pred) : List Write → List Write → Type 0 where
  done : Merged p [] []
  both : (w : Write) (vs ws : List Write) → Merged p vs ws → Merged p (w ∷ vs) (w ∷ ws)
  old : (w : Write) (vs ws : List Write) → touches_predicate w p ≡ false → Merged p vs ws → Merged p (w ∷ vs) ws
  new : (w : Write) (vs ws : List Write) → touches_predicate w p ≡ false → Merged p vs ws → Merged p vs (w ∷ ws)

pub merged_itself : (p : Pred) (ws : List Write) → Merged p ws ws
merged_itself p [] = done
merged_itself p (w ∷ ws) = both w ws ws (merged_itself p ws)

-- a write on an admitted key that doesn't touch doesn't reach
unreached : (p : Pred) (key : List Value) (w : Write) → admits p key ≡ true → touches_predicate w p ≡ false → is_on p.table key w ≡ true → reaches p w.patch ≡ false
unreached p key w adm t on =
    let both = and_parts (w.table == p.table) (is_eq (key_order w.key key)) on in
    let at : w.key ≡ key = tied w.key key both.1 in
    by (reaches p w.patch) (sym (ap (λ b. b && (admits p w.key && reaches p w.patch)) both.0 ∙ ap (λ b. b && reaches p w.patch) (ap (admits p) at ∙ adm)) ∙ t)
  where
    by : (b : Bool) → b ≡ false → b ≡ false
    by b e = e

-- behind them a row is alike
pub merged_alike : (p : Pred) (key : List Value) (vs ws : List Write) → admits p key ≡ true → Merged p vs ws → (a b : Option (List Value)) → RowAlike p a b
    → RowAlike p (patched_by (writes_on p.table key vs) a) (patched_by (writes_on p.table key ws) b)
merged_alike p key _ _ adm done a b h = h
merged_alike p key _ _ adm (both w vs ws m) a b h = by (merged_alike p key vs ws adm m) (is_on p.table key w)
  where
    by : ((x y : Option (List Value)) → RowAlike p x y → RowAlike p (patched_by (writes_on p.table key vs) x) (patched_by (writes_on p.table key ws) y))
        → (t : Bool) → RowAlike p (patched_by (cond t (w ∷ writes_on p.table key vs) (writes_on p.table key vs)) a) (patched_by (cond t (w ∷ writes_on p.table key ws) (writes_on p.table key ws)) b)
    by more true = more (patched w.patch a) (patched w.patch b) (patch_both p w.patch a b h)
    by more false = more a b h
merged_alike p key _ _ adm (old w vs ws t m) a b h = by (merged_alike p key vs ws adm m) (is_on p.table key w) refl
  where
    by : ((x y : Option (List Value)) → RowAlike p x y → RowAlike p (patched_by (writes_on p.table key vs) x) (patched_by (writes_on p.table key ws) y))
        → (on : Bool) → is_on p.table key w ≡ on → RowAlike p (patched_by (cond on (w ∷ writes_on p.table key vs) (writes_on p.table key vs)) a) (patched_by (writes_on p.table key ws) b)
    by more true on = more (patched w.patch a) b (patch_left p w.patch a b (unreached p key w adm t on) h)
    by more false on = more a b h
merged_alike p key _ _ adm (new w vs ws t m) a b h = by (merged_alike p key vs ws adm m) (is_on p.table key w) refl
  where
    by : ((x y : Option (List Value)) → RowAlike p x y → RowAlike p (patched_by (writes_on p.table key vs) x) (patched_by (writes_on p.table key ws) y))
        → (on : Bool) → is_on p.table key w ≡ on → RowAlike p (patched_by (writes_on p.table key vs) a) (patched_by (cond on (w ∷ writes_on p.table key ws) (writes_on p.table key ws)) b)
    by more true on = more a (patched w.patch b) (alike_turned p (patched w.patch b) a (patch_left p w.patch b a (unreached p key w adm t on) (alike_turned p a b h)))
    by more false on = more a b h

-- Changes

-- the row is seen alike before the changes of its key and behind them, where none of them changes what is seen
alike_is : (p : Pred) (a b : Option (List Value)) → is_alike p a b ≡ true → ColsAlike p a b
alike_is p None None h = tt
alike_is p (Some a) (Some b) h = tied (columns_of a (named_columns p)) (columns_of b (named_columns p)) h
alike_is p None (Some b) h = cc
alike_is p (Some a) None h = cc

cols_then : (p : Pred) (a b c : Option (List Value)) → ColsAlike p a b → ColsAlike p b c → ColsAlike p a c
cols_then p None None c h k = k
cols_then p (Some a) (Some b) (Some c) h k = h ∙ k
cols_then p (Some a) (Some b) None h k = absurd k
cols_then p None (Some b) c h k = absurd h
cols_then p (Some a) None c h k = absurd h

-- no change hits the predicate, by what the call wrote
abbrev pub hits_by : List Write → Change → Pred → Bool
hits_by ws c p =
    (c.table == p.table) && (if touches c.table c.key ws then admits p c.key && not (is_alike p c.before c.after) else not (is_same (sees p c.before) (sees p c.after)))

-- of one change of the key
unhit : (p : Pred) (key : List Value) (ws : List Write) (c : Change) → is_of p.table key c ≡ true → hits_by ws c p ≡ false
    → (if touches p.table key ws then admits p key && not (is_alike p c.before c.after) else not (is_same (sees p c.before) (sees p c.after))) ≡ false
unhit p key ws c of' h =
    let both = and_parts (c.table == p.table) (is_eq (key_order c.key key)) of' in
    let table : c.table ≡ p.table = eqb-true c.table p.table both.0 in
    let at : c.key ≡ key = tied c.key key both.1 in
    subst (λ k. (if touches p.table k ws then admits p k && not (is_alike p c.before c.after) else not (is_same (sees p c.before) (sees p c.after))) ≡ false) at
    (subst (λ t. (if touches t c.key ws then admits p c.key && not (is_alike p c.before c.after) else not (is_same (sees p c.before) (sees p c.after))) ≡ false) table
    (sym (ap (λ b. b && (if touches c.table c.key ws then admits p c.key && not (is_alike p c.before c.after) else not (is_same (sees p c.before) (sees p c.after)))) both.0) ∙ h))

seen_through : (p : Pred) (key : List Value) (ws : List Write) (cs : List Change) (a b : Option (List Value)) → touches p.table key ws ≡ false → Each (λ c. hits_by ws c p ≡ false) cs
    → Leads (filter (is_of p.table key) cs) a b → sees p a ≡ sees p b
seen_through p key ws [] a b w h l = ap (sees p) l
seen_through p key ws (c ∷ cs) a b w h l = by (λ a l. seen_through p key ws cs a b w h.1 l) (is_of p.table key c) refl l
  where
    by : ((a : Option (List Value)) → Leads (filter (is_of p.table key) cs) a b → sees p a ≡ sees p b) → (t : Bool) → is_of p.table key c ≡ t
        → Leads (cond t (c ∷ filter (is_of p.table key) cs) (filter (is_of p.table key) cs)) a b → sees p a ≡ sees p b
    by go false e l = go a l
    by go true e l =
        let no = unhit p key ws c e h.0 in
        let same : sees p c.before ≡ sees p c.after = same_is (sees p c.before) (sees p c.after) (not-false (is_same (sees p c.before) (sees p c.after)) (sym (ap (λ b. if b then admits p key && not (is_alike p c.before c.after) else not (is_same (sees p c.before) (sees p c.after))) w) ∙ no)) in
        ap (sees p) (sym l.0) ∙ (same ∙ go c.after l.1)

cols_through : (p : Pred) (key : List Value) (ws : List Write) (cs : List Change) (a b : Option (List Value)) → touches p.table key ws ≡ true → admits p key ≡ true → Each (λ c. hits_by ws c p ≡ false) cs
    → Leads (filter (is_of p.table key) cs) a b → ColsAlike p a b
cols_through p key ws [] a b w adm h l = subst (ColsAlike p a) l ((alike_self p a).0)
cols_through p key ws (c ∷ cs) a b w adm h l = by (λ a l. cols_through p key ws cs a b w adm h.1 l) (is_of p.table key c) refl l
  where
    by : ((a : Option (List Value)) → Leads (filter (is_of p.table key) cs) a b → ColsAlike p a b) → (t : Bool) → is_of p.table key c ≡ t
        → Leads (cond t (c ∷ filter (is_of p.table key) cs) (filter (is_of p.table key) cs)) a b → ColsAlike p a b
    by go false e l = go a l
    by go true e l =
        let no = unhit p key ws c e h.0 in
        let same : ColsAlike p c.before c.after = alike_is p c.before c.after (not-false (is_alike p c.before c.after)
        (sym (ap (λ b. if b then admits p key && not (is_alike p c.before c.after) else not (is_same (sees p c.before) (sees p c.after))) w ∙ ap (λ b. b && not (is_alike p c.before c.after)) adm) ∙ no)) in
        cols_then p a c.after b (subst (λ r. ColsAlike p r c.after) l.0 same) (go c.after l.1)

-- one key that the predicate admits
pub key_seen : (p : Pred) (key : List Value) (vs ws : List Write) (cs : List Change) (a b : Option (List Value)) → admits p key ≡ true → Merged p vs ws → Each (λ c. hits_by vs c p ≡ false) cs
    → Leads (filter (is_of p.table key) cs) a b → LongAlike a b → sees p (patched_by (writes_on p.table key vs) a) ≡ sees p (patched_by (writes_on p.table key ws) b)
key_seen p key vs ws cs a b adm m h l long = by (touches p.table key vs) refl
  where
    by : (t : Bool) → touches p.table key vs ≡ t → sees p (patched_by (writes_on p.table key vs) a) ≡ sees p (patched_by (writes_on p.table key ws) b)
    by true w = sees_alike p (patched_by (writes_on p.table key vs) a) (patched_by (writes_on p.table key ws) b) (merged_alike p key vs ws adm m a b (cols_through p key vs cs a b w adm h l, long)).0
    by false w =
        let none : writes_on p.table key vs ≡ [] = none_on p.table key vs w in
        ap (λ l. sees p (patched_by l a)) none
        ∙ (seen_through p key vs cs a b w h l
        ∙ (sym (ap (λ l. sees p (patched_by l b)) none)
        ∙ sees_alike p (patched_by (writes_on p.table key vs) b) (patched_by (writes_on p.table key ws) b) (merged_alike p key vs ws adm m b b (alike_self p b)).0))

-- Keys of tables, and the predicates that admit none of them.
use Rattle.std.proofs.Common.{◌≡◌, ◌==◌, ◌<◌, ℕ, zero, suc, Bool, true, false, List, [], ◌∷◌, ◌++◌, Some, None, length, slice_set, if◌then◌else◌, refl, sym, ap, ◌∙◌, arith}
use Rattle.std.specs.Prelude.{◌||◌, ◌&&◌, slice_get}
use Rattle.std.specs.List.{filter, list_any}
use Rattle.std.specs.Option.{is_some}
use Rattle.std.specs.Ordering.{is_eq}
use Rattle.std.proofs.lemmas.Bool.Decides.{eqb_tells}
use Rattle.std.proofs.lemmas.List.Folds.{list_any-append}
use Rattle.std.proofs.lemmas.Bool.{both_ways, or_from, or_parts, and_right}
use Rattle.mv_values.specs.declared.pred.Pred.{Pred}
use Rattle.mv_values.specs.declared.patch.Write.{Write}
use Rattle.mv_values.specs.declared.value.Value.{Value}
use Rattle.mv_values.specs.Order.{key_order}
use Rattle.mv_values.specs.Preds.{admits}
use Rattle.mv_values.proofs.KeyOrder.{same_key, tied}
use Rattle.mv_table.specs.declared.span.Span.{Span}
use Rattle.mv_table.specs.Entries.{item_of}
use Rattle.mv_table.specs.Spans.{is_within, CoversAdmitted}
use Rattle.mv_recorded.proofs.Inverting.{each_join, each_map}
use Rattle.mv_history.specs.Hits.{reaches, touches_predicate}
use Rattle.mv_repair.specs.Keys.{TableKeys, has_key, is_among, KeepsKeys}
use Rattle.mv_repair.specs.Walking.{any_touch, AreKnown}

-- Keys that are added

-- a table more
pub table_more : (all : List TableKeys) (keys : TableKeys) → KeepsKeys all (all ++ keys ∷ [])
table_more [] keys table key h = absurd (clash h)
  where
    clash : false ≡ true → ⊥
    clash e = cc
table_more (t ∷ all) keys zero key h = h
table_more (t ∷ all) keys (suc table) key h = table_more all keys table key h

-- the keys of one table are replaced by others, and some were set there in between
pub keys_there : (all : List TableKeys) (table : ℕ) (between keys : TableKeys) (key : List Value) → table < length all → is_some (item_of keys key) ≡ true → has_key (slice_set (slice_set all table between) table keys) table key ≡ true
keys_there [] table between keys key lt h = absurd (omega (arith, lt))
keys_there (t ∷ all) zero between keys key lt h = h
keys_there (t ∷ all) (suc table) between keys key lt h = keys_there all table between keys key (omega (arith, lt)) h

pub keys_still : (all : List TableKeys) (table : ℕ) (was between keys : TableKeys) → slice_get all table ≡ Some was → ((key : List Value) → is_some (item_of was key) ≡ true → is_some (item_of keys key) ≡ true)
    → KeepsKeys all (slice_set (slice_set all table between) table keys)
keys_still [] table was between keys there more other key h = cc
keys_still (t ∷ all) zero was between keys there more zero key h = more key (ap (λ ks. is_among ks key) (sym there) ∙ h)
keys_still (t ∷ all) zero was between keys there more (suc other) key h = h
keys_still (t ∷ all) (suc table) was between keys there more zero key h = h
keys_still (t ∷ all) (suc table) was between keys there more (suc other) key h = keys_still all table was between keys there more other key h

-- a key more in one table
pub key_put : (was keys : TableKeys) (key : List Value) → ((other : List Value) → item_of keys other ≡ (if is_eq (key_order key other) then Some tt else item_of was other)) → is_some (item_of keys key) ≡ true
key_put was keys key put = ap is_some (put key) ∙ ap (λ b. is_some (if b then Some tt else item_of was key)) (ap is_eq (same_key key))

pub keys_put : (was keys : TableKeys) (key : List Value) → ((other : List Value) → item_of keys other ≡ (if is_eq (key_order key other) then Some tt else item_of was other))
    → (other : List Value) → is_some (item_of was other) ≡ true → is_some (item_of keys other) ≡ true
keys_put was keys key put other h = ap is_some (put other) ∙ by (is_eq (key_order key other))
  where
    by : (b : Bool) → is_some (if b then Some tt else item_of was other) ≡ true
    by true = refl
    by false = h

-- a write more, on a key that was added
pub known_more : (old new : List TableKeys) (w : Write) (vs : List Write) → KeepsKeys old new → has_key new w.table w.key ≡ true → AreKnown old vs → AreKnown new (vs ++ w ∷ [])
known_more old new w vs still there h =
    each_join (λ v. has_key new v.table v.key ≡ true) vs (w ∷ []) (each_map (λ v. has_key old v.table v.key ≡ true) (λ v. has_key new v.table v.key ≡ true) vs (λ v k. still v.table v.key k) h) (there, tt)

-- Predicates

-- a predicate that admits no key in a span that covers its tests admits none
none_admitted : (p : Pred) (span : Span) (keys : TableKeys) → CoversAdmitted p.tests span → list_any (λ e. admits p e.0) (filter (λ e. is_within span e.0) keys) ≡ false → (key : List Value) → is_some (item_of keys key) ≡ true → admits p key ≡ false
none_admitted p span [] covers none key h = absurd (clash h)
  where
    clash : false ≡ true → ⊥
    clash e = cc
none_admitted p span (e ∷ es) covers none key h = by (is_within span e.0) refl (is_eq (key_order e.0 key)) refl (λ later there. none_admitted p span es covers later key there)
  where
    rest : (b : Bool) → is_within span e.0 ≡ b → list_any (λ d. admits p d.0) (filter (λ d. is_within span d.0) es) ≡ false
    rest true within = (or_parts (admits p e.0) (list_any (λ d. admits p d.0) (filter (λ d. is_within span d.0) es)) (ap (λ b. list_any (λ d. admits p d.0) (if b then e ∷ filter (λ d. is_within span d.0) es else filter (λ d. is_within span d.0) es)) (sym within) ∙ none)).1
    rest false within = ap (λ b. list_any (λ d. admits p d.0) (if b then e ∷ filter (λ d. is_within span d.0) es else filter (λ d. is_within span d.0) es)) (sym within) ∙ none

    here : (b : Bool) → is_within span e.0 ≡ b → (a : Bool) → admits p e.0 ≡ a → admits p e.0 ≡ false
    here true within a is = (or_parts (admits p e.0) (list_any (λ d. admits p d.0) (filter (λ d. is_within span d.0) es)) (ap (λ b. list_any (λ d. admits p d.0) (if b then e ∷ filter (λ d. is_within span d.0) es else filter (λ d. is_within span d.0) es)) (sym within) ∙ none)).0
    here false within true is = absurd (both_ways (is_within span e.0) within (covers e.0 is))
    here false within false is = is

    by : (b : Bool) → is_within span e.0 ≡ b → (s : Bool) → is_eq (key_order e.0 key) ≡ s
        → (list_any (λ d. admits p d.0) (filter (λ d. is_within span d.0) es) ≡ false → is_some (item_of es key) ≡ true → admits p key ≡ false) → admits p key ≡ false
    by b within true same later = ap (admits p) (sym (tied e.0 key same)) ∙ here b within (admits p e.0) refl
    by b within false same later = later (rest b within) (ap (λ s. is_some (if s then Some e.1 else item_of es key)) (sym same) ∙ h)

pub none_of_table : (all : List TableKeys) (p : Pred) (keys : TableKeys) (span : Span) (some : Bool) → Some keys ≡ slice_get all p.table → CoversAdmitted p.tests span → some ≡ list_any (λ e. admits p e.0) (filter (λ e. is_within span e.0) keys) → some ≡ false
    → (key : List Value) → has_key all p.table key ≡ true → admits p key ≡ false
none_of_table all p keys span some there covers is none key h = none_admitted p span keys covers (sym is ∙ none) key (ap (λ ks. is_among ks key) there ∙ h)

pub no_table : (all : List TableKeys) (table : ℕ) (key : List Value) → None ≡ slice_get all table → has_key all table key ≡ true → ⊥
no_table all table key none h = clash (ap (λ ks. is_among ks key) none ∙ h)
  where
    clash : false ≡ true → ⊥
    clash e = cc

not_touched : (keys : List TableKeys) (p : Pred) → ((key : List Value) → has_key keys p.table key ≡ true → admits p key ≡ false) → (w : Write) → has_key keys w.table w.key ≡ true → touches_predicate w p ≡ false
not_touched keys p none w there = by (w.table == p.table) refl
  where
    by : (b : Bool) → (w.table == p.table) ≡ b → touches_predicate w p ≡ false
    by false e = ap (λ b. b && (admits p w.key && reaches p w.patch)) e
    by true e =
        let table : w.table ≡ p.table = grind (arith, eqb_tells) in
        let out : admits p w.key ≡ false = none w.key (ap (λ t. has_key keys t w.key) (sym table) ∙ there) in
        ap (λ b. (w.table == p.table) && (b && reaches p w.patch)) out ∙ and_right (w.table == p.table) false refl

pub none_touches : (ws : List Write) → any_touch [] ws ≡ false
none_touches [] = refl
none_touches (w ∷ ws) = none_touches ws

-- one predicate more, which admits none of the keys
pub no_touch_more : (keys : List TableKeys) (ps : List Pred) (p : Pred) (ws : List Write) → ((key : List Value) → has_key keys p.table key ≡ true → admits p key ≡ false) → AreKnown keys ws → any_touch ps ws ≡ false → any_touch (ps ++ p ∷ []) ws ≡ false
no_touch_more keys ps p [] none k h = refl
no_touch_more keys ps p (w ∷ ws) none k h =
    let parts = or_parts (list_any (touches_predicate w) ps) (any_touch ps ws) h in
    or_from (list_any (touches_predicate w) (ps ++ p ∷ [])) (any_touch (ps ++ p ∷ []) ws)
    (list_any-append (touches_predicate w) ps (p ∷ []) ∙ or_from (list_any (touches_predicate w) ps) (touches_predicate w p || false) parts.0 (or_from (touches_predicate w p) false (not_touched keys p none w k.0) refl))
    (no_touch_more keys ps p ws none k.1 parts.1)

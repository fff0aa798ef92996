-- The writes of a call, key by key.
use Rattle.std.proofs.Common.{◌≡◌, ◌<◌, ◌+◌, ◌++◌, ◌==◌, ◌&&◌, ℕ, zero, suc, Bool, true, false, cond, List, [], ◌∷◌, Option, None, length, slice_index_or, refl, sym, ap, subst, ◌∙◌, arith}
use Rattle.std.specs.declared.cmp.Ordering.{Ordering}
use Rattle.std.specs.declared.cmp.Ordering.TheVariants.{Less, Equal, Greater}
use Rattle.std.proofs.lemmas.Bool.{eq-eqb, ne_eqb}
use Rattle.mv_values.specs.declared.value.Value.{Value}
use Rattle.mv_values.specs.declared.rows.Keyed.{Keyed}
use Rattle.mv_values.specs.declared.patch.Patch.{Patch}
use Rattle.mv_values.specs.Order.{key_order}
use Rattle.mv_values.specs.Patching.{row_of, patched, applied}
use Rattle.mv_values.specs.Tables.{rows_at}
use Rattle.mv_values.proofs.KeyOrder.{exact_keys, turned}
use Rattle.mv_table.specs.Entries.{item_of, picked, KeysRise}
use Rattle.mv_table.proofs.Picking.{Above, Rise, rise_from}
use Rattle.mv_record.specs.Writes.{writes_on, patched_by, AreRising}
use Rattle.mv_record.proofs.Patching.{row_applied, writes_append, patched_append}
use Rattle.mv_chain.specs.Versions.{Versions, own_of, patched_by_own}
use Rattle.mv_store.specs.Stored.{Entries, picked_in, writes_to, writes_from}
use Rattle.mv_store.specs.Kept.{versions_at, AllRise}
use Rattle.mv_store.proofs.Keys.{held_at, held_rises, held_same}

elsewhere : (u t : ℕ) (key : List Value) (es : List (List Value × Patch)) → (u == t) ≡ false → writes_on t key (writes_to u es) ≡ []
elsewhere u t key [] h = refl
elsewhere u t key (e ∷ es) h = rw h (elsewhere u t key es h)

later_ones : (u t : ℕ) (key : List Value) (tables : List (List (List Value × Patch))) → t < u → writes_on t key (writes_from u tables) ≡ []
later_ones u t key [] h = refl
later_ones u t key (es ∷ ts) h =
    writes_append t key (writes_to u es) (writes_from (u + 1) ts)
    ∙ (ap (λ l. l ++ writes_on t key (writes_from (u + 1) ts)) (elsewhere u t key es (ne_eqb u t (λ e. omega (arith, e, h)))) ∙ later_ones (u + 1) t key ts (omega (arith, h)))

above_none : (t : ℕ) (key : List Value) (es : List (List Value × Patch)) → Above key es → writes_on t key (writes_to t es) ≡ []
above_none t key [] h = refl
above_none t key (e ∷ es) h = rw (turned key e.0 Less h.0) (by (t == t) (above_none t key es h.1))
  where
    by : (b : Bool) → writes_on t key (writes_to t es) ≡ [] → cond (b && false) (record { table = t; key = e.0; patch = e.1 } ∷ writes_on t key (writes_to t es)) (writes_on t key (writes_to t es)) ≡ []
    by true more = more
    by false more = more

only_one : (t : ℕ) (key : List Value) (es : List (List Value × Patch)) (r : Option (List Value)) → Rise es → patched_by (writes_on t key (writes_to t es)) r ≡ patched_by_own (item_of es key) r
only_one t key [] r h = refl
only_one t key (e ∷ es) r h = by (key_order e.0 key) refl (only_one t key es r h.1)
  where
    here : (t == t) ≡ true
    here = eq-eqb t t refl

    by : (o : Ordering) → key_order e.0 key ≡ o → patched_by (writes_on t key (writes_to t es)) r ≡ patched_by_own (item_of es key) r
        → patched_by (writes_on t key (writes_to t (e ∷ es))) r ≡ patched_by_own (item_of (e ∷ es) key) r
    by Less is more = rw (is, here) more
    by Greater is more = rw (is, here) more
    by Equal is more = rw (is, here) (ap (λ l. patched_by l (patched e.1 r)) (above_none t key es (subst (λ k. Above k es) (exact_keys e.0 key is) h.0)))

at_from : (tables : List (List (List Value × Patch))) (u t k : ℕ) (key : List Value) (r : Option (List Value)) → t ≡ u + k → ((i : ℕ) → KeysRise (slice_index_or tables i []))
    → patched_by (writes_on t key (writes_from u tables)) r ≡ patched_by_own (item_of (slice_index_or tables k []) key) r
at_from [] u t k key r e rise = refl
at_from (es ∷ ts) u t zero key r e rise =
    let same : u ≡ t = omega (arith, e) in
    ap (λ l. patched_by l r) (writes_append t key (writes_to u es) (writes_from (u + 1) ts))
    ∙ (patched_append (writes_on t key (writes_to u es)) (writes_on t key (writes_from (u + 1) ts)) r
    ∙ (ap (λ l. patched_by l (patched_by (writes_on t key (writes_to u es)) r)) (later_ones (u + 1) t key ts (omega (arith, same)))
    ∙ subst (λ v. patched_by (writes_on t key (writes_to v es)) r ≡ patched_by_own (item_of es key) r) (sym same) (only_one t key es r (rise_from es (rise 0)))))
at_from (es ∷ ts) u t (suc k) key r e rise =
    ap (λ l. patched_by l r) (writes_append t key (writes_to u es) (writes_from (u + 1) ts))
    ∙ (patched_append (writes_on t key (writes_to u es)) (writes_on t key (writes_from (u + 1) ts)) r
    ∙ (ap (λ l. patched_by (writes_on t key (writes_from (u + 1) ts)) (patched_by l r)) (elsewhere u t key es (ne_eqb u t (λ f. omega (arith, e, f))))
    ∙ at_from ts (u + 1) t k key r (omega (arith, e)) (λ i. rise (suc i))))

-- the row under a key behind the writes of a call
pub row_done : (tables : List Entries) (call : ℕ) (db : List (List Keyed)) (t : ℕ) (key : List Value) → t < length db → AreRising db → AllRise tables
    → row_of (rows_at (applied (writes_from 0 (picked_in (λ v. own_of call v.own) tables)) db) t) key ≡ patched_by_own (own_of call (versions_at tables t key).own) (row_of (rows_at db t) key)
row_done tables call db t key lt rising rise =
    row_applied (writes_from 0 (picked_in (λ v. own_of call v.own) tables)) db t key lt rising
    ∙ (at_from (picked_in (λ v. own_of call v.own) tables) 0 t t key (row_of (rows_at db t) key) (omega arith) (held_rises (λ v. own_of call v.own) tables rise)
    ∙ ap (λ o. patched_by_own o (row_of (rows_at db t) key)) (held_at (λ v. own_of call v.own) tables t key refl rise))

-- what calls wrote is the same where it is the same under each key
pub own_same : (call : ℕ) (a b : List Entries) → length a ≡ length b → AllRise a → AllRise b → ((t : ℕ) (key : List Value) → own_of call (versions_at a t key).own ≡ own_of call (versions_at b t key).own)
    → writes_from 0 (picked_in (λ v. own_of call v.own) a) ≡ writes_from 0 (picked_in (λ v. own_of call v.own) b)
own_same call a b size r s h = ap (writes_from 0) (held_same (λ v. own_of call v.own) (λ v. own_of call v.own) a b size r s refl refl h)

abbrev no_patch : Versions → Option Patch
no_patch v = None

none_picked : (es : Entries) → picked no_patch es ≡ []
none_picked [] = refl
none_picked (e ∷ es) = none_picked es

none_held : (u : ℕ) (tables : List Entries) → writes_from u (picked_in no_patch tables) ≡ []
none_held u [] = refl
none_held u (es ∷ ts) = ap (λ l. writes_to u l ++ writes_from (u + 1) (picked_in no_patch ts)) (none_picked es) ∙ none_held (u + 1) ts

-- a call without patches has no writes
pub own_none : (call : ℕ) (tables : List Entries) → AllRise tables → ((t : ℕ) (key : List Value) → own_of call (versions_at tables t key).own ≡ None) → writes_from 0 (picked_in (λ v. own_of call v.own) tables) ≡ []
own_none call tables r h = ap (writes_from 0) (held_same (λ v. own_of call v.own) no_patch tables tables refl r r refl refl h) ∙ none_held 0 tables

-- Versions that are not blank.
use Rattle.std.proofs.Common.{◌≡◌, ◌==◌, ◌&&◌, ℕ, suc, Bool, true, false, cond, List, [], ◌∷◌, Option, Some, None, length, refl, sym, ap, subst, ◌∙◌}
use Rattle.std.specs.Prelude.{IfSome, OnOk, OnErr, Result, Ok, Err, not}
use Rattle.std.specs.Option.{is_some, option_and_then}
use Rattle.std.specs.Ordering.{is_eq}
use Rattle.mv_values.specs.declared.value.Value.{Value}
use Rattle.mv_values.specs.declared.patch.Patch.{Patch}
use Rattle.mv_values.specs.Order.{key_order}
use Rattle.mv_table.specs.Entries.{item_of, picked}
use Rattle.mv_table.specs.Lending.{HasItem}
use Rattle.mv_table.proofs.Picking.{entries_same, picked_rising, picked_item}
use Rattle.mv_chain.specs.declared.pending.Pending.{Pending}
use Rattle.mv_chain.specs.Versions.{Versions, is_blank, with_own, joined, collected, with_patch}
use Rattle.mv_chain.proofs.Blank.{nonzero}
use Rattle.mv_store.specs.Stored.{Entries, picked_in, unless_blank, tables_from}
use Rattle.mv_store.specs.Kept.{AllRise, AreFilled, AreFilledBut, AllFilled, AllChanged}
use Rattle.mv_store.proofs.Keys.{cons_same, held_same}

abbrev pub IsFull : Versions → Type 0
IsFull v = is_blank v ≡ false

own_left : (call : ℕ) (patch : Patch) (ps : List Pending) → (length (with_own call patch ps) == 0) ≡ false
own_left call patch [] = nonzero {A = Pending} (record { call = call; patch = patch }) []
own_left call patch (p ∷ ps) = by (p.call == call)
  where
    by : (b : Bool) → (length (cond b (record p { patch = joined p.patch patch } ∷ ps) (p ∷ with_own call patch ps)) == 0) ≡ false
    by true = nonzero {A = Pending} (record p { patch = joined p.patch patch }) ps
    by false = nonzero p (with_own call patch ps)

-- versions with a patch are not blank
pub patch_fills : (call : ℕ) (patch : Patch) (v : Versions) → IsFull (with_patch call patch v)
patch_fills call patch v = rw (own_left call patch v.own) (by (length v.commits == 0) (not (is_some v.base)))
  where
    by : (b c : Bool) → b && false && c ≡ false
    by true c = refl
    by false c = refl

-- One table

pub filled_but : (key : List Value) (es : Entries) → AreFilled es → AreFilledBut key es
filled_but key es f other differs = f other

-- the item under one key was replaced or removed
pub filled_by : (key : List Value) (o : Option Versions) (old new : Entries) → ((other : List Value) → item_of new other ≡ cond (is_eq (key_order key other)) o (item_of old other)) → IfSome o IsFull → AreFilledBut key old → AreFilled new
filled_by key o old new at full f other = subst (λ i. IfSome i IsFull) (sym (at other)) (by (is_eq (key_order key other)) refl)
  where
    by : (b : Bool) → is_eq (key_order key other) ≡ b → IfSome (cond b o (item_of old other)) IsFull
    by true e = full
    by false e = f other e

-- what is under each key after an item was put under a copy of a key
pub put_under : (key copy : List Value) (w : Versions) (old was new : Entries) → was ≡ old → copy ≡ key → ((other : List Value) → item_of new other ≡ cond (is_eq (key_order copy other)) (Some w) (item_of was other))
    → (other : List Value) → item_of new other ≡ cond (is_eq (key_order key other)) (Some w) (item_of old other)
put_under key copy w old was new same is at other = at other ∙ (ap (λ k. cond (is_eq (key_order k other)) (Some w) (item_of was other)) is ∙ ap (λ es. cond (is_eq (key_order key other)) (Some w) (item_of es other)) same)

pub filled_there : (key : List Value) (w : Versions) (old new : Entries) → IsFull w → HasItem key w old new → AreFilled old → AreFilled new
filled_there key w old new full h f = filled_by key (Some w) old new h.at full (filled_but key old f)

pub filled_others : (key : List Value) (w : Versions) (old new : Entries) → HasItem key w old new → AreFilled old → AreFilledBut key new
filled_others key w old new h f other differs = subst (λ o. IfSome o IsFull) (sym (h.at other ∙ ap (λ b. cond b (Some w) (item_of old other)) differs)) (f other)

-- a patch was added in place, or nothing was
pub filled_put : {A E : Type 0} (r : Result A E) (call : ℕ) (patch : Patch) (key : List Value) (was w : Versions) (old new : Entries) → item_of old key ≡ Some was → OnOk r (w ≡ with_patch call patch was) → OnErr r (w ≡ was)
    → HasItem key w old new → AreFilled old → AreFilled new
filled_put (Ok x) call patch key was w old new there ok err h f = filled_there key w old new (ap is_blank ok ∙ patch_fills call patch was) h f
filled_put (Err e) call patch key was w old new there ok err h f = filled_there key w old new (ap is_blank err ∙ subst (λ o. IfSome o IsFull) there (f key)) h f

-- Tables

full_item : (o : Option Versions) → IfSome o IsFull → option_and_then unless_blank o ≡ o
full_item None h = refl
full_item (Some v) h = rw h refl

pub all_held : (tables : List Entries) → AllRise tables → AllFilled tables → picked_in unless_blank tables ≡ tables
all_held [] r f = refl
all_held (es ∷ ts) r f =
    cons_same (picked unless_blank es) es (picked_in unless_blank ts) ts
    (entries_same (picked unless_blank es) es (picked_rising unless_blank es (r 0)) (r 0) (λ key. picked_item unless_blank es key (r 0) ∙ full_item (item_of es key) (f 0 key)))
    (all_held ts (λ u. r (suc u)) (λ u. f (suc u)))

-- tables whose versions were collected, and where no blank ones are left
pub tables_collected : (low : ℕ) (old new : List Entries) → AllRise old → AllFilled old → AllChanged (collected low) old new → new ≡ tables_from low old
tables_collected low old new rise filled change =
    sym (all_held new (change.rising rise) (change.filled filled))
    ∙ held_same unless_blank (λ v. unless_blank (collected low v)) new old change.size (change.rising rise) rise refl refl (λ t key. ap unless_blank (change.at t key))

-- Rows under a key.
use Rattle.std.proofs.Common.{◌≡◌, ◌<◌, ◌≤◌, ℕ, length, zero, suc, List, [], ◌∷◌, Some, None, map, slice_index_or, refl, sym, ap, subst, ◌∙◌, arith}
use Rattle.std.specs.Option.{option_and_then}
use Rattle.std.proofs.lemmas.List.{get_or_default}
use Rattle.mv_values.specs.declared.value.Value.{Value}
use Rattle.mv_values.specs.Patching.{row_of}
use Rattle.mv_values.specs.Tables.{rows_at}
use Rattle.mv_table.specs.Entries.{item_of, picked, KeysRise}
use Rattle.mv_table.proofs.Picking.{picked_item}
use Rattle.mv_table.proofs.Storing.{stored_row}
use Rattle.mv_chain.specs.Versions.{Versions, row_at}
use Rattle.mv_store.specs.Stored.{Entries, table_at}
use Rattle.mv_store.specs.Kept.{entries_at, AllRise}

under : (n : ℕ) (es : Entries) (key : List Value) → KeysRise es → row_of (table_at n es) key ≡ option_and_then (λ v. row_at v n) (item_of es key)
under n es key rise = sym (stored_row (picked (λ v. row_at v n) es) key) ∙ picked_item (λ v. row_at v n) es key rise

pub row_under : (n : ℕ) (es : Entries) (key : List Value) (v : Versions) → KeysRise es → item_of es key ≡ Some v → row_at v n ≡ row_of (table_at n es) key
row_under n es key v rise is = sym (under n es key rise ∙ ap (option_and_then (λ w. row_at w n)) is)

pub no_row_under : (n : ℕ) (es : Entries) (key : List Value) → KeysRise es → item_of es key ≡ None → None ≡ row_of (table_at n es) key
no_row_under n es key rise is = sym (under n es key rise ∙ ap (option_and_then (λ w. row_at w n)) is)

pub rises_at : (tables : List Entries) (t : ℕ) (es : Entries) → AllRise tables → t < length tables → es ≡ slice_index_or tables t es → KeysRise es
rises_at [] t es r lt h = absurd (omega (arith, lt))
rises_at (x ∷ xs) zero es r lt h = subst KeysRise (sym h) (r 0)
rises_at (x ∷ xs) (suc t) es r lt h = rises_at xs t es (λ u. r (suc u)) (omega (arith, lt)) h

pub at_place : (tables : List Entries) (t : ℕ) (es : Entries) → t < length tables → es ≡ slice_index_or tables t es → es ≡ entries_at tables t
at_place tables t es lt h = h ∙ get_or_default tables t es [] lt

pub table_there : (n : ℕ) (tables : List Entries) (t : ℕ) (es : Entries) → t < length tables → es ≡ slice_index_or tables t es → table_at n es ≡ rows_at (map (table_at n) tables) t
table_there n [] t es lt h = absurd (omega (arith, lt))
table_there n (x ∷ xs) zero es lt h = ap (table_at n) h
table_there n (x ∷ xs) (suc t) es lt h = table_there n xs t es (omega (arith, lt)) h

pub no_table : (n : ℕ) (tables : List Entries) (t : ℕ) → length tables ≤ t → rows_at (map (table_at n) tables) t ≡ []
no_table n [] t le = refl
no_table n (x ∷ xs) zero le = absurd (omega (arith, le))
no_table n (x ∷ xs) (suc t) le = no_table n xs t (omega (arith, le))

-- What is found under each key of tables of versions.
use Rattle.std.proofs.Common.{◌≡◌, ◌<◌, ℕ, zero, suc, List, [], ◌∷◌, Option, Some, None, length, map, slice_index_or, refl, sym, ap, ◌∙◌, arith}
use Rattle.std.specs.Option.{option_and_then}
use Rattle.mv_values.specs.declared.value.Value.{Value}
use Rattle.mv_values.specs.declared.rows.Keyed.{Keyed}
use Rattle.mv_values.specs.Keys.{IsRising, stored}
use Rattle.mv_values.specs.Patching.{row_of}
use Rattle.mv_values.specs.Tables.{rows_at}
use Rattle.mv_table.specs.Entries.{item_of, picked, KeysRise}
use Rattle.mv_table.proofs.Picking.{entries_same, picked_rising, picked_item}
use Rattle.mv_table.proofs.Storing.{stored_row, stored_rising}
use Rattle.mv_record.specs.Writes.{AreRising}
use Rattle.mv_record.proofs.Patching.{rows_same}
use Rattle.mv_chain.specs.Versions.{Versions, row_at, blank}
use Rattle.mv_store.specs.Stored.{Entries, picked_in, table_at}
use Rattle.mv_store.specs.Kept.{versions_in, versions_at, AllRise}

pub nil_rises : {T : Type 0} → KeysRise {T = T} []
nil_rises = λ i j d lt within. absurd (omega (arith, within))

pub cons_same : {A : Type 0} (x y : A) (xs ys : List A) → x ≡ y → xs ≡ ys → x ∷ xs ≡ y ∷ ys
cons_same x y xs ys h k = λ i. h i ∷ k i

-- What is picked

pub at_versions : {B : Type 0} (f : Versions → Option B) (o : Option Versions) → f blank ≡ None → option_and_then f o ≡ f (versions_in o)
at_versions f None h = sym h
at_versions f (Some v) h = refl

-- what is held under a key is what f picks of the versions there
pub held_at : {B : Type 0} (f : Versions → Option B) (tables : List Entries) (t : ℕ) (key : List Value) → f blank ≡ None → AllRise tables → item_of (slice_index_or (picked_in f tables) t []) key ≡ f (versions_at tables t key)
held_at f [] t key h r = sym h
held_at f (es ∷ ts) zero key h r = picked_item f es key (r 0) ∙ at_versions f (item_of es key) h
held_at f (es ∷ ts) (suc t) key h r = held_at f ts t key h (λ u. r (suc u))

pub held_rises : {B : Type 0} (f : Versions → Option B) (tables : List Entries) → AllRise tables → (t : ℕ) → KeysRise (slice_index_or (picked_in f tables) t [])
held_rises f [] r t = nil_rises
held_rises f (es ∷ ts) r zero = picked_rising f es (r 0)
held_rises f (es ∷ ts) r (suc t) = held_rises f ts (λ u. r (suc u)) t

-- what is held is the same where it is the same under each key
pub held_same : {B : Type 0} (f g : Versions → Option B) (a b : List Entries) → length a ≡ length b → AllRise a → AllRise b → f blank ≡ None → g blank ≡ None
    → ((t : ℕ) (key : List Value) → f (versions_at a t key) ≡ g (versions_at b t key)) → picked_in f a ≡ picked_in g b
held_same f g [] [] size r s hf hg h = refl
held_same f g [] (y ∷ ys) size r s hf hg h = absurd (omega (arith, size))
held_same f g (x ∷ xs) [] size r s hf hg h = absurd (omega (arith, size))
held_same f g (x ∷ xs) (y ∷ ys) size r s hf hg h =
    cons_same (picked f x) (picked g y) (picked_in f xs) (picked_in g ys)
    (entries_same (picked f x) (picked g y) (picked_rising f x (r 0)) (picked_rising g y (s 0)) (λ key.
    picked_item f x key (r 0) ∙ (at_versions f (item_of x key) hf ∙ (h 0 key ∙ (sym (at_versions g (item_of y key) hg) ∙ sym (picked_item g y key (s 0)))))))
    (held_same f g xs ys (omega (arith, size)) (λ u. r (suc u)) (λ u. s (suc u)) hf hg (λ t key. h (suc t) key))

-- Databases

database_is : (n : ℕ) (tables : List Entries) → map (table_at n) tables ≡ map stored (picked_in (λ v. row_at v n) tables)
database_is n [] = refl
database_is n (es ∷ ts) = ap (λ l. table_at n es ∷ l) (database_is n ts)

-- databases are the same where the row under each key is
pub database_same : (m n : ℕ) (a b : List Entries) → length a ≡ length b → AllRise a → AllRise b → ((t : ℕ) (key : List Value) → row_at (versions_at a t key) m ≡ row_at (versions_at b t key) n)
    → map (table_at m) a ≡ map (table_at n) b
database_same m n a b size r s h = database_is m a ∙ (ap (map stored) (held_same (λ v. row_at v m) (λ v. row_at v n) a b size r s refl refl h) ∙ sym (database_is n b))

-- the row under a key after n commits
pub row_in : (n : ℕ) (tables : List Entries) (t : ℕ) (key : List Value) → AllRise tables → row_of (rows_at (map (table_at n) tables) t) key ≡ row_at (versions_at tables t key) n
row_in n [] t key r = refl
row_in n (es ∷ ts) zero key r = sym (stored_row (picked (λ v. row_at v n) es) key) ∙ (picked_item (λ v. row_at v n) es key (r 0) ∙ at_versions (λ v. row_at v n) (item_of es key) refl)
row_in n (es ∷ ts) (suc t) key r = row_in n ts t key (λ u. r (suc u))

no_rows_rise : IsRising []
no_rows_rise = λ i j d lt within. absurd (omega (arith, within))

pub table_rises : (n : ℕ) (es : Entries) → KeysRise es → IsRising (table_at n es)
table_rises n es h = stored_rising (picked (λ v. row_at v n) es) (picked_rising (λ v. row_at v n) es h)

pub rows_rise : (n : ℕ) (tables : List Entries) → AllRise tables → AreRising (map (table_at n) tables)
rows_rise n [] r t = no_rows_rise
rows_rise n (es ∷ ts) r zero = table_rises n es (r 0)
rows_rise n (es ∷ ts) r (suc t) = rows_rise n ts (λ u. r (suc u)) t

pub size_is : (n : ℕ) (tables : List Entries) → length (map (table_at n) tables) ≡ length tables
size_is n [] = refl
size_is n (es ∷ ts) = ap suc (size_is n ts)

-- rising databases that have the same row under each key are one
pub databases_same : (a b : List (List Keyed)) → length a ≡ length b → AreRising a → AreRising b → ((t : ℕ) (key : List Value) → t < length a → row_of (rows_at a t) key ≡ row_of (rows_at b t) key) → a ≡ b
databases_same [] [] size r s h = refl
databases_same [] (y ∷ ys) size r s h = absurd (omega (arith, size))
databases_same (x ∷ xs) [] size r s h = absurd (omega (arith, size))
databases_same (x ∷ xs) (y ∷ ys) size r s h =
    cons_same x y xs ys (rows_same x y (r 0) (s 0) (λ key. h 0 key (omega arith)))
    (databases_same xs ys (omega (arith, size)) (λ u. r (suc u)) (λ u. s (suc u)) (λ t key lt. h (suc t) key (omega (arith, lt))))

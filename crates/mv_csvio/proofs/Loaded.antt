-- The records of a block, each taken or the first that can't be.
use Rattle.std.proofs.Common.{◌≡◌, ◌++◌, ◌∷◌, ◌<◌, ◌+◌, ◌^◌, ◌⊎◌, inl, inr, ℕ, suc, List, [], length, Some, None, refl, sym, subst, ◌∙◌, arith, append_assoc, length-append}
use Rattle.std.specs.Prelude.{IsPermutation}
use Rattle.std.specs.List.{AllZip}
use Rattle.csv.specs.Machine.{next_record}
use Rattle.csv.specs.Reading.{Reached, default_config, records_from, strip_bom}
use Rattle.csv.specs.declared.parser.State.{State}
use Rattle.csv.specs.declared.parser.State.TheVariants as st
use Rattle.csv.proofs.ReadFacts.{reached-more}
use Rattle.mv_values.specs.declared.value.Value.{Value}
use Rattle.mv_values.specs.declared.rows.Keyed.{Keyed}
use Rattle.mv_values.specs.declared.schema.TableInfo.{TableInfo}
use Rattle.mv_values.specs.Keys.{IsRising}
use Rattle.mv_csvio.specs.declared.fault.CopyFault.{CopyFault}
use Rattle.mv_csvio.specs.declared.fault.CopyFault.TheVariants as fault
use Rattle.mv_csvio.specs.Fields.{IsNoRow, IsRow}
use Rattle.mv_csvio.specs.Joining.{IsDuplicate, under_key}
use Rattle.mv_csvio.specs.Loading.{HasLoaded, IsBad, IsFirstBad, Record, records_of}
use Rattle.mv_csvio.proofs.Blocks.{all_records, reached_size, records_are, strip_size, takes}
use Rattle.mv_csvio.proofs.Joined.{joined_more, joined_none}

-- how far the records of a block were read: these were, and the reader's state and bytes are these
abbrev pub ReachedIn : List ℕ → List Record → State → List ℕ → Type 0
ReachedIn block front at' left = Reached default_config st.StartRecord (strip_bom block) front at' left

pub none_reached : (block : List ℕ) → ReachedIn block [] st.StartRecord (strip_bom block)
unfolding Reached
none_reached block = (refl, refl)

pub more_reached : (block : List ℕ) (front : List Record) (at' next : State) (left rest : List ℕ) (fields : Record) → ReachedIn block front at' left
    → next_record default_config at' [] [] left ≡ Some (fields, next, rest) → ReachedIn block (front ++ fields ∷ []) next rest
more_reached block front at' next left rest fields h e = reached-more default_config st.StartRecord at' (strip_bom block) left front (fields, next, rest) h e

-- there are fewer records than a row's number can count
pub counted : (block : List ℕ) (front : List Record) (at' : State) (left : List ℕ) → length block < 2 ^ 32 → ReachedIn block front at' left → length front < 2 ^ 32
counted block front at' left small h =
    omega (arith, small, strip_size block, (reached_size default_config st.StartRecord at' (strip_bom block) left front refl h).0)

-- each record takes a byte
pub shorter : (block : List ℕ) (front : List Record) (at' next : State) (left rest : List ℕ) (fields : Record) → ReachedIn block front at' left
    → next_record default_config at' [] [] left ≡ Some (fields, next, rest) → length rest < length left
shorter block front at' next left rest fields h e =
    (takes default_config at' left (fields, next, rest) (reached_size default_config st.StartRecord at' (strip_bom block) left front refl h).1 e).0

-- one more record and its row
zip_more : {A B : Type 0} (R : A → B → Type 0) (xs : List A) (ys : List B) (x : A) (y : B) → AllZip R xs ys → R x y → AllZip R (xs ++ x ∷ []) (ys ++ y ∷ [])
zip_more R [] [] x y h g = (g, tt)
zip_more R [] (b ∷ ys) x y h g = absurd h
zip_more R (a ∷ xs) [] x y h g = absurd h
zip_more R (a ∷ xs) (b ∷ ys) x y h g = (h.0, zip_more R xs ys x y h.1 g)

pub loaded_more : (table : TableInfo) (before : List Keyed) (front : List Record) (fields : Record) (row : List Value) (there after : List Keyed)
    → HasLoaded table before front there → IsRow table.columns fields row → IsRising after × IsPermutation (there ++ under_key table row ∷ []) after
    → HasLoaded table before (front ++ fields ∷ []) after
loaded_more table before front fields row there after h is joined =
    (h.0 ++ row ∷ [], zip_more (IsRow table.columns) front h.0 fields row h.1 is, joined_more table before h.0 row there after h.2 joined)

pub loaded_none : (table : TableInfo) (before : List Keyed) → IsRising before → HasLoaded table before [] before
loaded_none table before h = ([], tt, joined_none table before h)

-- all records are loaded where none is left
pub loaded_all : (table : TableInfo) (before : List Keyed) (block : List ℕ) (front : List Record) (at' : State) (left : List ℕ) (after : List Keyed)
    → ReachedIn block front at' left → next_record default_config at' [] [] left ≡ None → HasLoaded table before front after → HasLoaded table before (records_of block) after
loaded_all table before block front at' left after h none loaded =
    subst (λ (rs : List Record). HasLoaded table before rs after) (sym (all_records default_config at' (strip_bom block) left front h none)) loaded

-- the number of one more record
pub number_more : (front : List Record) (bad : Record) (number : ℕ) → number ≡ length front → number + 1 ≡ length (front ++ bad ∷ [])
number_more front bad number n = omega (arith, n, length-append front (bad ∷ []))

-- the record that was read last is the first bad one
first_bad : (table : TableInfo) (before : List Keyed) (block : List ℕ) (front : List Record) (next : State) (rest : List ℕ) (bad : Record) (there : List Keyed) (f : CopyFault)
    → ReachedIn block (front ++ bad ∷ []) next rest → HasLoaded table before front there → IsBad table there bad (length front + 1) f → IsFirstBad table before (records_of block) f
first_bad table before block front next rest bad there f h loaded is =
    let k = records_are default_config next (strip_bom block) rest (front ++ bad ∷ []) h in
    (front, bad, records_from default_config (suc k.0) next rest, there, k.1 ∙ append_assoc front (bad ∷ []) _, loaded, is)

-- a record that is no row
pub tells_no_row : (table : TableInfo) (before : List Keyed) (block : List ℕ) (front : List Record) (next : State) (rest : List ℕ) (bad : Record) (there : List Keyed) (number : ℕ) (f : CopyFault)
    → ReachedIn block (front ++ bad ∷ []) next rest → HasLoaded table before front there → number ≡ length front + 1 → (f ≡ fault.NoMemory) ⊎ IsNoRow table.columns bad number f
    → (f ≡ fault.NoMemory) ⊎ IsFirstBad table before (records_of block) f
tells_no_row table before block front next rest bad there number f h loaded n (inl e) = inl e
tells_no_row table before block front next rest bad there number (fault.Field r c) h loaded n (inr is) = inr (first_bad table before block front next rest bad there (fault.Field r c) h loaded (is.0 ∙ n, is.1))
tells_no_row table before block front next rest bad there number (fault.Width r) h loaded n (inr is) = inr (first_bad table before block front next rest bad there (fault.Width r) h loaded (is.0 ∙ n, is.1))
tells_no_row table before block front next rest bad there number (fault.Duplicate r) h loaded n (inr is) = absurd is
tells_no_row table before block front next rest bad there number fault.NoMemory h loaded n (inr is) = absurd is

-- a row whose key is there
pub tells_duplicate : (table : TableInfo) (before : List Keyed) (block : List ℕ) (front : List Record) (next : State) (rest : List ℕ) (bad : Record) (row : List Value) (there : List Keyed) (number : ℕ) (f : CopyFault)
    → ReachedIn block (front ++ bad ∷ []) next rest → HasLoaded table before front there → number ≡ length front + 1 → IsRow table.columns bad row → (f ≡ fault.NoMemory) ⊎ IsDuplicate table there row number f
    → (f ≡ fault.NoMemory) ⊎ IsFirstBad table before (records_of block) f
tells_duplicate table before block front next rest bad row there number f h loaded n is (inl e) = inl e
tells_duplicate table before block front next rest bad row there number (fault.Duplicate r) h loaded n is (inr d) =
    inr (first_bad table before block front next rest bad there (fault.Duplicate r) h loaded (d.0 ∙ n, row, is, d.1))
tells_duplicate table before block front next rest bad row there number (fault.Field r c) h loaded n is (inr d) = absurd d
tells_duplicate table before block front next rest bad row there number (fault.Width r) h loaded n is (inr d) = absurd d
tells_duplicate table before block front next rest bad row there number fault.NoMemory h loaded n is (inr d) = absurd d

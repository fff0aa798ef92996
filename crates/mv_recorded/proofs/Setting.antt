-- The changes of an UPDATE, applied one by one, lead to the rows that it makes.
use Rattle.std.proofs.Common.{◌≡◌, ℕ, zero, suc, ◌==◌, Bool, true, false, cond, List, [], ◌∷◌, ◌++◌, Result, Ok, Err, map, length, slice_set, pos, refl, sym, ap, subst, ◌∙◌, arith, if◌then◌else◌}
use Rattle.std.proofs.lemmas.Bool.Decides.{eqb_tells}
use Rattle.std.proofs.lemmas.List.{get_or-set_other, length-set, ext_get_or}
use Rattle.std.specs.List.{flat_map, list_any}
use Rattle.mv_record.proofs.Rising.{Above, Rises}
use Rattle.mv_eval.proofs.Standing.{New, goes_to}
use Rattle.mv_values.specs.Preds.{meets}
use Rattle.mv_values.specs.declared.pred.Test.{Test}
use Rattle.mv_values.specs.declared.value.Value.{Value}
use Rattle.mv_values.specs.declared.value.Value.TheVariants.{Int}
use Rattle.mv_values.specs.declared.rows.Keyed.{Keyed}
use Rattle.mv_values.specs.declared.patch.Assign.{Assign}
use Rattle.mv_values.specs.declared.patch.Patch.TheVariants.{Set}
use Rattle.mv_values.specs.declared.patch.Write.{Write}
use Rattle.mv_values.specs.declared.calls.End.{End}
use Rattle.mv_values.specs.Columns.{column_of}
use Rattle.mv_values.specs.Patching.{with_columns}
use Rattle.mv_catalog.specs.declared.resolved.RSetItem.{RSetItem}
use Rattle.mv_eval.specs.declared.state.Env.{Env}
use Rattle.mv_eval.specs.Results.{then_do}
use Rattle.mv_eval.specs.Value.{value_of}
use Rattle.mv_eval.specs.Rows.{matching}
use Rattle.mv_eval.specs.Changes.{with_column, set_row_by, updated}
use Rattle.mv_recorded.specs.Asking.{on}
use Rattle.mv_recorded.specs.Doing.{write, set_patch}
use Rattle.mv_recorded.proofs.Patched.{AllPast, all_pass, patched_all, OnTable, on_both, changes_first, row_ok}

-- One row

-- none of these items sets the column
abbrev pub NotSet : ℕ → List RSetItem → Type 0
NotSet c [] = Unit {0}
NotSet c (i ∷ is) = (c ≡ i.column → ⊥) × NotSet c is

-- two rows agree in all columns but those that are set
abbrev pub AgreeBut : List RSetItem → List Value → List Value → Type 0
AgreeBut items a b = (length a ≡ length b) × ((c : ℕ) → NotSet c items → column_of a c ≡ column_of b c)

long_with : (keys : List ℕ) (c : ℕ) (v : Value) (row : List Value) → length (with_column keys c v row) ≡ length row
long_with keys c v row = either (list_any (λ k. k == c) keys)
  where
    either : (b : Bool) → length (if b then row else slice_set row c v) ≡ length row
    either true = refl
    either false = length-set row c v

other_with : (keys : List ℕ) (c d : ℕ) (v : Value) (row : List Value) → (d ≡ c → ⊥) → column_of (with_column keys c v row) d ≡ column_of row d
other_with keys c d v row apart = either (list_any (λ k. k == c) keys)
  where
    either : (b : Bool) → column_of (if b then row else slice_set row c v) d ≡ column_of row d
    either true = refl
    either false = get_or-set_other row c d v (Int (pos 0)) apart

made_agrees : (fits : ℕ → Value → Result Value End) (keys : List ℕ) (env : Env) (was : List Value) (items : List RSetItem) (row new : List Value) → set_row_by fits keys env was items row ≡ Ok new → AgreeBut items row new
made_agrees fits keys env was [] row new h = let same : row ≡ new = cc in (ap length same, λ c none. ap (λ r. column_of r c) same)
made_agrees fits keys env was (i ∷ is) row new h =
    let value = goes_to (value_of i.right env was) _ new h in
    let fitted = goes_to (fits i.column value.0) _ new value.2 in
    let rest = made_agrees fits keys env was is (with_column keys i.column fitted.0 row) new fitted.2 in
    (sym (long_with keys i.column fitted.0 row) ∙ rest.0, λ c none. sym (other_with keys i.column c fitted.0 row none.0) ∙ rest.1 c none.1)

set_there : (row new : List Value) (c : ℕ) → length row ≡ length new → column_of (slice_set row c (column_of new c)) c ≡ column_of new c
set_there [] [] c h = refl
set_there [] (y ∷ ys) c h = absurd (omega (arith, h))
set_there (x ∷ xs) [] c h = absurd (omega (arith, h))
set_there (x ∷ xs) (y ∷ ys) zero h = refl
set_there (x ∷ xs) (y ∷ ys) (suc c) h = set_there xs ys c (omega (arith, h))

abbrev pub value_in : List Value → RSetItem → Assign
value_in new i = record { column = i.column; value = column_of new i.column }

assigns_lead : (items : List RSetItem) (row new : List Value) → AgreeBut items row new → with_columns (map (value_in new) items) row ≡ new
assigns_lead [] row new h = ext_get_or (Int (pos 0)) row new h.0 (λ c lt. h.1 c tt)
assigns_lead (i ∷ is) row new h =
    let next : List Value = slice_set row i.column (column_of new i.column) in
    assigns_lead is next new (length-set row i.column (column_of new i.column) ∙ h.0, λ c none. by_column c none (c == i.column) refl)
  where
    by_column : (c : ℕ) → NotSet c is → (b : Bool) → (c == i.column) ≡ b → column_of (slice_set row i.column (column_of new i.column)) c ≡ column_of new c
    by_column c none true e =
        let same : c ≡ i.column = grind (arith, eqb_tells) in
        subst (λ d. column_of (slice_set row i.column (column_of new i.column)) d ≡ column_of new d) (sym same) (set_there row new i.column h.0)
    by_column c none false e =
        let apart : c ≡ i.column → ⊥ = λ same. grind (arith, eqb_tells) in
        get_or-set_other row i.column c (column_of new i.column) (Int (pos 0)) apart ∙ h.1 c (apart, none)

-- All rows

abbrev pub set_write : ℕ → List RSetItem → Keyed → Result (List Value) End → List Write
set_write t items item r = on r (λ row. write t item.key (set_patch items row) ∷ [])

abbrev pub set_writes : ℕ → List RSetItem → New → List Keyed → List Write
set_writes t items new rows = flat_map (λ item. set_write t items item (new item.row)) rows

pub sets_on : (t : ℕ) (items : List RSetItem) (new : New) (rows : List Keyed) → OnTable t (set_writes t items new rows)
sets_on t items new [] = tt
sets_on t items new (r ∷ rs) = on_both t (set_write t items r (new r.row)) (set_writes t items new rs) (one (new r.row)) (sets_on t items new rs)
  where
    one : (made : Result (List Value) End) → OnTable t (set_write t items r made)
    one (Ok row) = (refl, tt)
    one (Err e) = tt

sets_past : (t : ℕ) (items : List RSetItem) (new : New) (tests : List Test) (key : List Value) (rows : List Keyed) → Above key rows → AllPast key (set_writes t items new (matching tests rows))
sets_past t items new tests key [] h = tt
sets_past t items new tests key (r ∷ rs) h = either (meets tests r.row) (sets_past t items new tests key rs h.1)
  where
    one : (made : Result (List Value) End) → AllPast key (set_writes t items new (matching tests rs)) → AllPast key (set_write t items r made ++ set_writes t items new (matching tests rs))
    one (Ok row) rest = (h.0, rest)
    one (Err e) rest = rest

    either : (b : Bool) → AllPast key (set_writes t items new (matching tests rs)) → AllPast key (set_writes t items new (cond b (r ∷ matching tests rs) (matching tests rs)))
    either true rest = one (new r.row) rest
    either false rest = rest

-- each row that is made agrees with what was there, but in the columns that are set
abbrev pub Makes : List RSetItem → New → Type 0
Makes items new = (row made : List Value) → new row ≡ Ok made → with_columns (map (value_in made) items) row ≡ made

pub sets_lead : (t : ℕ) (items : List RSetItem) (new : New) → Makes items new → (tests : List Test) (rows out : List Keyed) → Rises rows → updated new tests rows ≡ Ok out
    → patched_all (set_writes t items new (matching tests rows)) rows ≡ out
sets_lead t items new makes tests [] out h is = row_ok is
sets_lead t items new makes tests (r ∷ rs) out h is = either (meets tests r.row) (updated new tests rs) (λ rest e. sets_lead t items new makes tests rs rest h.1 e) is
  where
    one : (made : Result (List Value) End) → new r.row ≡ made → (later : Result (List Keyed) End) → ((rest : List Keyed) → later ≡ Ok rest → patched_all (set_writes t items new (matching tests rs)) rs ≡ rest)
        → then_do made (λ row. then_do later (λ rest. Ok (record r { row = row } ∷ rest))) ≡ Ok out
        → patched_all (set_write t items r made ++ set_writes t items new (matching tests rs)) (r ∷ rs) ≡ out
    one (Ok row) made (Ok rest) k e =
        ap (patched_all (set_writes t items new (matching tests rs))) (changes_first r (Set (map (value_in row) items)) rs)
        ∙ (ap (λ v. patched_all (set_writes t items new (matching tests rs)) (record r { row = v } ∷ rs)) (makes r.row row made)
        ∙ (all_pass (record r { row = row }) (set_writes t items new (matching tests rs)) rs (sets_past t items new tests r.key rs h.0)
        ∙ (ap (λ l. record r { row = row } ∷ l) (k rest refl) ∙ row_ok e)))
    one (Ok row) made (Err f) k e = cc
    one (Err f) made later k e = cc

    either : (b : Bool) (later : Result (List Keyed) End) → ((rest : List Keyed) → later ≡ Ok rest → patched_all (set_writes t items new (matching tests rs)) rs ≡ rest)
        → (if b then then_do (new r.row) (λ row. then_do later (λ rest. Ok (record r { row = row } ∷ rest))) else then_do later (λ rest. Ok (r ∷ rest))) ≡ Ok out
        → patched_all (set_writes t items new (cond b (r ∷ matching tests rs) (matching tests rs))) (r ∷ rs) ≡ out
    either true later k e = one (new r.row) refl later k e
    either false (Ok rest) k e =
        all_pass r (set_writes t items new (matching tests rs)) rs (sets_past t items new tests r.key rs h.0) ∙ (ap (λ l. r ∷ l) (k rest refl) ∙ row_ok e)
    either false (Err f) k e = cc

pub set_row_makes : (fits : ℕ → Value → Result Value End) (keys : List ℕ) (env : Env) (items : List RSetItem) → Makes items (λ row. set_row_by fits keys env row items row)
set_row_makes fits keys env items row made h = assigns_lead items row made (made_agrees fits keys env row items row made h)

-- the keys stay
updated_after : (new : New) (tests : List Test) (k : List Value) (rows out : List Keyed) → Above k rows → updated new tests rows ≡ Ok out → Above k out
updated_after new tests k [] out h is = subst (Above k) (row_ok is) tt
updated_after new tests k (r ∷ rs) out h is = either (meets tests r.row) (new r.row) (updated new tests rs) (λ rest e. updated_after new tests k rs rest h.1 e) is
  where
    either : (b : Bool) (made : Result (List Value) End) (later : Result (List Keyed) End) → ((rest : List Keyed) → later ≡ Ok rest → Above k rest)
        → (if b then then_do made (λ row. then_do later (λ rest. Ok (record r { row = row } ∷ rest))) else then_do later (λ rest. Ok (r ∷ rest))) ≡ Ok out → Above k out
    either true (Ok row) (Ok rest) go e = subst (Above k) (row_ok e) (h.0, go rest refl)
    either true (Ok row) (Err f) go e = cc
    either true (Err f) later go e = cc
    either false made (Ok rest) go e = subst (Above k) (row_ok e) (h.0, go rest refl)
    either false made (Err f) go e = cc

pub updated_rises : (new : New) (tests : List Test) (rows out : List Keyed) → Rises rows → updated new tests rows ≡ Ok out → Rises out
updated_rises new tests [] out h is = subst Rises (row_ok is) tt
updated_rises new tests (r ∷ rs) out h is = either (meets tests r.row) (new r.row) (updated new tests rs) (λ rest e. (updated_after new tests r.key rs rest h.0 e, updated_rises new tests rs rest h.1 e)) is
  where
    either : (b : Bool) (made : Result (List Value) End) (later : Result (List Keyed) End) → ((rest : List Keyed) → later ≡ Ok rest → Above r.key rest × Rises rest)
        → (if b then then_do made (λ row. then_do later (λ rest. Ok (record r { row = row } ∷ rest))) else then_do later (λ rest. Ok (r ∷ rest))) ≡ Ok out → Rises out
    either true (Ok row) (Ok rest) go e = subst Rises (row_ok e) (go rest refl)
    either true (Ok row) (Err f) go e = cc
    either true (Err f) later go e = cc
    either false made (Ok rest) go e = subst Rises (row_ok e) (go rest refl)
    either false made (Err f) go e = cc

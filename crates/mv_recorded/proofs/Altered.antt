-- What statements do that change the rows of a table.
use Rattle.std.proofs.Common.{◌≡◌, ℕ, suc, Bool, true, false, cond, List, [], ◌∷◌, ◌++◌, Result, Ok, Err, map, refl, sym, ap, ◌∙◌, arith, if◌then◌else◌}
use Rattle.std.specs.Prelude.{◌&&◌, All}
use Rattle.std.specs.List.{flat_map}
use Rattle.std.specs.Ordering.{is_eq, ordering_then}
use Rattle.std.specs.declared.cmp.Ordering.{Ordering}
use Rattle.std.specs.declared.cmp.Ordering.TheVariants.{Less, Equal, Greater}
use Rattle.mv_eval.proofs.Standing.{New, goes_to}
use Rattle.mv_values.specs.Preds.{meets}
use Rattle.mv_values.specs.declared.op.Op.TheVariants.{Eq}
use Rattle.mv_values.specs.declared.pred.Test.{Test}
use Rattle.mv_values.specs.declared.value.Value.{Value}
use Rattle.mv_values.specs.declared.patch.Write.{Write}
use Rattle.mv_values.specs.declared.rows.Keyed.{Keyed}
use Rattle.mv_values.specs.declared.calls.End.{End}
use Rattle.mv_values.specs.declared.calls.End.TheVariants.{Duplicate}
use Rattle.mv_values.specs.Columns.{column_of, columns_of}
use Rattle.mv_values.specs.Order.{value_order, key_order}
use Rattle.mv_values.proofs.KeyOrder.{turned}
use Rattle.mv_catalog.specs.declared.resolved.RSetItem.{RSetItem}
use Rattle.mv_eval.specs.Results.{then_do}
use Rattle.mv_eval.specs.Rows.{matching, test_on}
use Rattle.mv_eval.specs.Changes.{updated, put_row, put_row_by, keyed}
use Rattle.mv_record.proofs.Rising.{Above, Rises, lower}
use Rattle.mv_recorded.specs.Asking.{on, same_key}
use Rattle.mv_recorded.specs.Doing.{write, set_patch}
use Rattle.mv_recorded.specs.Effects.{changes}
use Rattle.mv_recorded.proofs.Chosen.{then_err, same_ok}

-- UPDATE

-- what SET makes of a row
-- where a row is made of each that matches, the table has rows behind it
pub set_all : (t : ℕ) (items : List RSetItem) (new : New) (tests : List Test) (rows : List Keyed) (ws : List Write) → changes t items new (matching tests rows) ≡ Ok ws
    → (out : List Keyed) × (updated new tests rows ≡ Ok out)
set_all t items new tests [] ws h = ([], refl)
set_all t items new tests (r ∷ rs) ws h = by (λ vs k. set_all t items new tests rs vs k) (meets tests r.row) h
  where
    by : ((vs : List Write) → changes t items new (matching tests rs) ≡ Ok vs → (out : List Keyed) × (updated new tests rs ≡ Ok out))
        → (b : Bool) → changes t items new (cond b (r ∷ matching tests rs) (matching tests rs)) ≡ Ok ws
        → (out : List Keyed) × ((if b then then_do (new r.row) (λ row. then_do (updated new tests rs) (λ rest. Ok (record r { row = row } ∷ rest))) else then_do (updated new tests rs) (λ rest. Ok (r ∷ rest))) ≡ Ok out)
    by ih true k =
        let made = goes_to (new r.row) (λ row. then_do (changes t items new (matching tests rs)) (λ vs. Ok (write t r.key (set_patch items row) ∷ vs))) ws k in
        let later = goes_to (changes t items new (matching tests rs)) (λ vs. Ok (write t r.key (set_patch items made.0) ∷ vs)) ws made.2 in
        let rest = ih later.0 later.1 in (
          record r { row = made.0 } ∷ rest.0,
          ap (λ o. then_do o (λ row. then_do (updated new tests rs) (λ more. Ok (record r { row = row } ∷ more)))) made.1
              ∙ ap (λ o. then_do o (λ more. Ok (record r { row = made.0 } ∷ more))) rest.1,
        )
    by ih false k = let rest = ih ws k in (r ∷ rest.0, ap (λ o. then_do o (λ more. Ok (r ∷ more))) rest.1)

-- where no row is made of one that matches, the statement ends so
pub set_stops : (t : ℕ) (items : List RSetItem) (new : New) (tests : List Test) (rows : List Keyed) (e : End) → changes t items new (matching tests rows) ≡ Err e → updated new tests rows ≡ Err e
set_stops t items new tests [] e h = cc
set_stops t items new tests (r ∷ rs) e h = by (λ k. set_stops t items new tests rs e k) (meets tests r.row) h
  where
    made : (changes t items new (matching tests rs) ≡ Err e → updated new tests rs ≡ Err e) → (o : Result (List Value) End) → then_do o (λ row. then_do (changes t items new (matching tests rs)) (λ vs. Ok (write t r.key (set_patch items row) ∷ vs))) ≡ Err e
        → then_do o (λ row. then_do (updated new tests rs) (λ rest. Ok (record r { row = row } ∷ rest))) ≡ Err e
    made ih (Ok row) k = rw (ih (then_err (changes t items new (matching tests rs)) (λ vs. write t r.key (set_patch items row) ∷ vs) e k)) refl
    made ih (Err d) k = cc

    by : (changes t items new (matching tests rs) ≡ Err e → updated new tests rs ≡ Err e)
        → (b : Bool) → changes t items new (cond b (r ∷ matching tests rs) (matching tests rs)) ≡ Err e
        → (if b then then_do (new r.row) (λ row. then_do (updated new tests rs) (λ rest. Ok (record r { row = row } ∷ rest))) else then_do (updated new tests rs) (λ rest. Ok (r ∷ rest))) ≡ Err e
    by ih true k = made ih (new r.row) k
    by ih false k = rw (ih k) refl

-- the changes of rows of which new ones are made
abbrev pub written_of : ℕ → List RSetItem → New → List Keyed → List Write
written_of t items new rows = flat_map (λ item. on (new item.row) (λ row. write t item.key (set_patch items row) ∷ [])) rows

-- what was written are the changes of all rows, where a row is made of each
pub writes_are : (t : ℕ) (items : List RSetItem) (new : New) (rows : List Keyed) (ws : List Write) → changes t items new rows ≡ Ok ws → ws ≡ written_of t items new rows
writes_are t items new [] ws h = sym (same_ok h)
writes_are t items new (r ∷ rs) ws h =
    let made = goes_to (new r.row) (λ row. then_do (changes t items new rs) (λ vs. Ok (write t r.key (set_patch items row) ∷ vs))) ws h in
    let later = goes_to (changes t items new rs) (λ vs. Ok (write t r.key (set_patch items made.0) ∷ vs)) ws made.2 in
    sym (same_ok later.2) ∙ (ap (λ l. write t r.key (set_patch items made.0) ∷ l) (writes_are t items new rs later.0 later.1)
    ∙ ap (λ o. on o (λ row. write t r.key (set_patch items row) ∷ []) ++ written_of t items new rs) (sym made.1))

-- INSERT

-- two orders are both ties exactly where the first and then the second is one
eq_then : (a b : Ordering) → is_eq a && is_eq b ≡ is_eq (ordering_then a b)
eq_then Less b = refl
eq_then Equal b = refl
eq_then Greater b = refl

-- a row passes the tests of some columns of a key exactly where it has the same values there
meets_columns : (keys cs : List ℕ) (row a : List Value) → meets (map (λ c. test_on keys c Eq (column_of row c)) cs) a ≡ is_eq (key_order (columns_of a cs) (columns_of row cs))
meets_columns keys [] row a = refl
meets_columns keys (k ∷ ks) row a =
    ap (λ b. is_eq (value_order (column_of a k) (column_of row k)) && b) (meets_columns keys ks row a)
    ∙ eq_then (value_order (column_of a k) (column_of row k)) (key_order (columns_of a ks) (columns_of row ks))

-- it passes the tests of a key exactly where it has that key
meets_key : (keys : List ℕ) (row a : List Value) → meets (same_key keys row) a ≡ is_eq (key_order (columns_of a keys) (columns_of row keys))
meets_key keys row a = meets_columns keys keys row a

-- the rows stand under their own keys
abbrev pub Own : List ℕ → List Keyed → Type 0
Own keys [] = Unit {0}
Own keys (r ∷ rs) = (r.key ≡ columns_of r.row keys) × Own keys rs

-- the same by recursion, of a fact on each row
pub own_of : (keys : List ℕ) (rows : List Keyed) → All (λ item. item.key ≡ columns_of item.row keys) rows → Own keys rows
own_of keys [] h = tt
own_of keys (r ∷ rs) h = (h 0 r (omega arith), own_of keys rs (λ k d lt. h (suc k) d (omega (arith, lt))))

-- a row under its own key passes the tests of a key exactly where its key is that one
meets_own : (keys : List ℕ) (row : List Value) (r : Keyed) → r.key ≡ columns_of r.row keys → meets (same_key keys row) r.row ≡ is_eq (key_order r.key (columns_of row keys))
meets_own keys row r own = meets_key keys row r.row ∙ ap (λ k. is_eq (key_order k (columns_of row keys))) (sym own)

-- no row above a key has it
none_above : (keys : List ℕ) (row : List Value) (rows : List Keyed) → Own keys rows → Above (columns_of row keys) rows → matching (same_key keys row) rows ≡ []
none_above keys row [] own h = refl
none_above keys row (r ∷ rs) own h =
    let back : key_order r.key (columns_of row keys) ≡ Greater = turned (columns_of row keys) r.key Less h.0 in
    let fails : meets (same_key keys row) r.row ≡ false = meets_own keys row r own.0 ∙ ap is_eq back in
    ap (λ b. cond b (r ∷ matching (same_key keys row) rs) (matching (same_key keys row) rs)) fails ∙ none_above keys row rs own.1 h.1

-- where no row has the key the new row is put
pub put_new : (keys : List ℕ) (row : List Value) (rows : List Keyed) → Own keys rows → matching (same_key keys row) rows ≡ [] → (out : List Keyed) × (put_row (keyed keys row) rows ≡ Ok out)
put_new keys row [] own h = (keyed keys row ∷ [], refl)
put_new keys row (r ∷ rs) own h = by (λ k. put_new keys row rs own.1 k) (meets (same_key keys row) r.row) refl h (key_order (columns_of row keys) r.key) refl
  where
    new : Keyed
    new = keyed keys row

    by : (matching (same_key keys row) rs ≡ [] → (out : List Keyed) × (put_row (keyed keys row) rs ≡ Ok out))
        → (b : Bool) → meets (same_key keys row) r.row ≡ b → cond b (r ∷ matching (same_key keys row) rs) (matching (same_key keys row) rs) ≡ []
        → (o : Ordering) → key_order (columns_of row keys) r.key ≡ o → (out : List Keyed) × (put_row_by o (keyed keys row) r rs (put_row (keyed keys row) rs) ≡ Ok out)
    by ih true m k o e = absurd (elim (nothing k) [ ])
      where
        nothing : r ∷ matching (same_key keys row) rs ≡ [] → ⊥
        nothing k = cc
    by ih false m k Less e = (keyed keys row ∷ r ∷ rs, refl)
    by ih false m k Equal e =
        let tied : key_order r.key (columns_of row keys) ≡ Equal = turned (columns_of row keys) r.key Equal e in
        let there : false ≡ true = sym m ∙ (meets_own keys row r own.0 ∙ ap is_eq tied) in
        absurd (apart there)
      where
        apart : false ≡ true → ⊥
        apart h = cc
    by ih false m k Greater e = let rest = ih k in (r ∷ rest.0, rw rest.1 refl)

-- where a row has the key it isn't
pub put_twice : (keys : List ℕ) (row : List Value) (rows : List Keyed) (x : Keyed) (xs : List Keyed) → Own keys rows → Rises rows → matching (same_key keys row) rows ≡ x ∷ xs → put_row (keyed keys row) rows ≡ Err Duplicate
put_twice keys row [] x xs own rises h = cc
put_twice keys row (r ∷ rs) x xs own rises h = by (λ k. put_twice keys row rs x xs own.1 rises.1 k) (meets (same_key keys row) r.row) refl h (key_order (columns_of row keys) r.key) refl
  where
    by : (matching (same_key keys row) rs ≡ x ∷ xs → put_row (keyed keys row) rs ≡ Err Duplicate)
        → (b : Bool) → meets (same_key keys row) r.row ≡ b → cond b (r ∷ matching (same_key keys row) rs) (matching (same_key keys row) rs) ≡ x ∷ xs
        → (o : Ordering) → key_order (columns_of row keys) r.key ≡ o → put_row_by o (keyed keys row) r rs (put_row (keyed keys row) rs) ≡ Err Duplicate
    by ih b m k Equal e = refl
    by ih true m k Less e =
        let back : key_order r.key (columns_of row keys) ≡ Greater = turned (columns_of row keys) r.key Less e in
        let there : true ≡ false = sym m ∙ (meets_own keys row r own.0 ∙ ap is_eq back) in
        cc
    by ih false m k Less e =
        let none : matching (same_key keys row) rs ≡ [] = none_above keys row rs own.1 (lower (columns_of row keys) r.key rs e rises.0) in
        cc
    by ih true m k Greater e =
        let back : key_order r.key (columns_of row keys) ≡ Less = turned (columns_of row keys) r.key Greater e in
        let there : true ≡ false = sym m ∙ (meets_own keys row r own.0 ∙ ap is_eq back) in
        cc
    by ih false m k Greater e = rw (ih k) refl

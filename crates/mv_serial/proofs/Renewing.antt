-- What the changes of UPDATE, DELETE and INSERT make of a table whose keys rise.
use Rattle.std.proofs.Common.{rules, ◌≡◌, ℕ, suc, Bool, true, false, cond, List, [], ◌∷◌, Option, Some, None, Result, Ok, Err, length, slice_set, refl, sym, ap, subst, ◌∙◌}
use Rattle.std.specs.Prelude.{not, nat_lt}
use Rattle.std.specs.Option.{is_some}
use Rattle.std.specs.Ordering.{is_eq}
use Rattle.std.proofs.lemmas.List.{set-get_or}
use Rattle.std.specs.declared.cmp.Ordering.{Ordering}
use Rattle.std.specs.declared.cmp.Ordering.TheVariants.{Less, Equal, Greater}
use Rattle.std.proofs.lemmas.Option.{none-some}
use Rattle.mv_values.specs.Preds.{meets}
use Rattle.mv_values.specs.declared.value.Value.{Value}
use Rattle.mv_values.specs.declared.pred.Test.{Test}
use Rattle.mv_values.specs.declared.rows.Keyed.{Keyed}
use Rattle.mv_values.specs.declared.calls.End.{End}
use Rattle.mv_values.specs.declared.calls.End.TheVariants.{Duplicate}
use Rattle.mv_values.specs.Keys.{IsRising}
use Rattle.mv_values.specs.Order.{key_order}
use Rattle.mv_values.specs.Patching.{row_of, placed}
use Rattle.mv_values.specs.Tables.{rows_at, Tables}
use Rattle.mv_values.proofs.KeyOrder.{same_key, turned}
use Rattle.mv_record.proofs.Rising.{Above, Rises, rises_from, filter_above, lower, row_here, row_later, row_below}
use Rattle.mv_eval.specs.declared.state.Stop.{Stop}
use Rattle.mv_eval.specs.declared.state.Stop.TheVariants.{Memory, Ended}
use Rattle.mv_eval.specs.Results.{then_do, Fails}
use Rattle.mv_eval.specs.Rows.{matching, is_some_row}
use Rattle.mv_eval.specs.Changes.{updated, without, put_row}
use Rattle.mv_eval.proofs.Standing.{New}
use Rattle.mv_serial.specs.declared.change.RowChange.{RowChange}
use Rattle.mv_serial.specs.Changing.{changed_by, renewals, removals}
use Rattle.mv_serial.proofs.Changing.{changed_again}
use Rattle.mv_serial.proofs.Tabling.{table_with}

-- Changes of one table

-- the rows of a table after changes
abbrev pub all_placed : List RowChange → List Keyed → List Keyed
all_placed [] rows = rows
all_placed (c ∷ cs) rows = placed c.key c.row (all_placed cs rows)

abbrev pub AllAt : ℕ → List RowChange → Type 0
AllAt t [] = Unit {0}
AllAt t (c ∷ cs) = (c.table ≡ t) × AllAt t cs

-- the key is below those of the changes
abbrev pub AllPast : List Value → List RowChange → Type 0
AllPast key [] = Unit {0}
AllPast key (c ∷ cs) = (key_order key c.key ≡ Less) × AllPast key cs

pub at_table : (t : ℕ) (cs : List RowChange) (db : Tables) → AllAt t cs → changed_by cs db ≡ slice_set db t (all_placed cs (rows_at db t))
at_table t [] db h = sym (set-get_or db t [])
at_table t (c ∷ cs) db h =
    ap (λ u. slice_set (changed_by cs db) u (placed c.key c.row (rows_at (changed_by cs db) u))) h.0
    ∙ (ap (λ (d : Tables). slice_set d t (placed c.key c.row (rows_at d t))) (at_table t cs db h.1) ∙ changed_again db t (all_placed cs (rows_at db t)) c.key c.row)

before : (x : Keyed) (key : List Value) (row : Option (List Value)) (rows : List Keyed) → key_order x.key key ≡ Less → placed key row (x ∷ rows) ≡ x ∷ placed key row rows
before x key row rows h = rw h refl

-- changes of greater keys leave a row
later : (x : Keyed) (cs : List RowChange) (rows : List Keyed) → AllPast x.key cs → all_placed cs (x ∷ rows) ≡ x ∷ all_placed cs rows
later x [] rows h = refl
later x (c ∷ cs) rows h = ap (placed c.key c.row) (later x cs rows h.1) ∙ before x c.key c.row (all_placed cs rows) h.0

here : (x : Keyed) (row : List Value) (rows : List Keyed) → placed x.key (Some row) (x ∷ rows) ≡ record x { row = row } ∷ rows
here x row rows = let same : key_order x.key x.key ≡ Equal = same_key x.key in rw same refl

gone : (x : Keyed) (rows : List Keyed) → placed x.key None (x ∷ rows) ≡ rows
gone x rows = let same : key_order x.key x.key ≡ Equal = same_key x.key in rw same refl

-- UPDATE

-- the changes make of the rows what is meant
record Renewed (t : ℕ) (rows : List Keyed) (meant : Result (List Keyed) End) (cs : List RowChange) : Type 0 where
  made : meant ≡ Ok (all_placed cs rows)
  one : AllAt t cs
  above : (key : List Value) → Above key rows → AllPast key cs

abbrev Renews : ℕ → List Keyed → Result (List Keyed) End → Result (List RowChange) End → Type 0
Renews t rows meant (Ok cs) = Renewed t rows meant cs
Renews t rows meant (Err e) = meant ≡ Err e

renewed : (t : ℕ) (new : New) (tests : List Test) (rows : List Keyed) → Rises rows → Renews t rows (updated new tests rows) (renewals t new (matching tests rows))
renewed t new tests [] h = record { made = refl; one = tt; above = λ key k. tt }
renewed t new tests (x ∷ rows) h = by (meets tests x.row) (renewed t new tests rows h.1)
  where
    kept : (meant : Result (List Keyed) End) (r : Result (List RowChange) End) → Renews t rows meant r → Renews t (x ∷ rows) (then_do meant (λ rest. Ok (x ∷ rest))) r
    kept meant (Ok cs) m = record {
      made = ap (λ o. then_do o (λ rest. Ok (x ∷ rest))) m.made ∙ ap Ok (sym (later x cs rows (m.above x.key h.0)));
      one = m.one;
      above = λ key k. m.above key k.1;
    }
    kept meant (Err e) m = ap (λ o. then_do o (λ rest. Ok (x ∷ rest))) m

    made_anew : (meant : Result (List Keyed) End) (r : Result (List RowChange) End) (o : Result (List Value) End) → Renews t rows meant r
        → Renews t (x ∷ rows) (then_do o (λ row. then_do meant (λ rest. Ok (record x { row = row } ∷ rest)))) (then_do o (λ row. then_do r (λ rest. Ok (record { table = t; key = x.key; row = Some row } ∷ rest))))
    made_anew meant r (Err e) m = refl
    made_anew meant (Err e) (Ok row) m = ap (λ o. then_do o (λ rest. Ok (record x { row = row } ∷ rest))) m
    made_anew meant (Ok cs) (Ok row) m = record {
      made = ap (λ o. then_do o (λ rest. Ok (record x { row = row } ∷ rest))) m.made
          ∙ ap Ok (sym (ap (placed x.key (Some row)) (later x cs rows (m.above x.key h.0)) ∙ here x row (all_placed cs rows)));
      one = (refl, m.one);
      above = λ key k. (k.0, m.above key k.1);
    }

    by : (b : Bool) → Renews t rows (updated new tests rows) (renewals t new (matching tests rows))
        → Renews t (x ∷ rows) (cond b (then_do (new x.row) (λ row. then_do (updated new tests rows) (λ rest. Ok (record x { row = row } ∷ rest)))) (then_do (updated new tests rows) (λ rest. Ok (x ∷ rest))))
        (renewals t new (cond b (x ∷ matching tests rows) (matching tests rows)))
    by true m = made_anew (updated new tests rows) (renewals t new (matching tests rows)) (new x.row) m
    by false m = kept (updated new tests rows) (renewals t new (matching tests rows)) m

-- the changes of UPDATE make its rows
pub renewals_make : (t : ℕ) (new : New) (tests : List Test) (db after : Tables) (cs : List RowChange) → IsRising (rows_at db t) → renewals t new (matching tests (rows_at db t)) ≡ Ok cs → after ≡ changed_by cs db
    → table_with db t (updated new tests (rows_at db t)) ≡ Ok after
renewals_make t new tests db after cs rising is made =
    let m : Renewed t (rows_at db t) (updated new tests (rows_at db t)) cs = subst (Renews t (rows_at db t) (updated new tests (rows_at db t))) is (renewed t new tests (rows_at db t) (rises_from (rows_at db t) rising)) in
    ap (table_with db t) m.made ∙ ap Ok (sym (at_table t cs db m.one) ∙ sym made)

-- the fault that stops them stops it
pub renewals_stop : (new : New) (t : ℕ) (tests : List Test) (rows : List Keyed) (e : End) → renewals t new (matching tests rows) ≡ Err e → updated new tests rows ≡ Err e
renewals_stop new t tests [] e h = cc
renewals_stop new t tests (x ∷ rows) e h = by (meets tests x.row) (renewals_stop new t tests rows e) h
  where
    first : (o : Result (List Value) End) (r : Result (List RowChange) End) (u : Result (List Keyed) End) → (r ≡ Err e → u ≡ Err e) → then_do o (λ row. then_do r (λ rest. Ok (record { table = t; key = x.key; row = Some row } ∷ rest))) ≡ Err e
        → then_do o (λ row. then_do u (λ rest. Ok (record x { row = row } ∷ rest))) ≡ Err e
    first (Err f) r u more k = let same : f ≡ e = cc in ap Err same
    first (Ok row) (Ok cs) u more k = cc
    first (Ok row) (Err f) u more k = let same : f ≡ e = cc in ap (λ o. then_do o (λ rest. Ok (record x { row = row } ∷ rest))) (more (ap Err same))

    by : (b : Bool) → (renewals t new (matching tests rows) ≡ Err e → updated new tests rows ≡ Err e) → renewals t new (cond b (x ∷ matching tests rows) (matching tests rows)) ≡ Err e
        → cond b (then_do (new x.row) (λ row. then_do (updated new tests rows) (λ rest. Ok (record x { row = row } ∷ rest)))) (then_do (updated new tests rows) (λ rest. Ok (x ∷ rest))) ≡ Err e
    by true more k = first (new x.row) (renewals t new (matching tests rows)) (updated new tests rows) more k
    by false more k = ap (λ o. then_do o (λ rest. Ok (x ∷ rest))) (more k)

pub renewals_fail : (t : ℕ) (new : New) (tests : List Test) (db : Tables) (s : Stop) → Fails s (renewals t new (matching tests (rows_at db t))) → Fails s (table_with db t (updated new tests (rows_at db t)))
renewals_fail t new tests db Memory h = tt
renewals_fail t new tests db (Ended e) h = ap (table_with db t) (renewals_stop new t tests (rows_at db t) e h)

positive : (n : ℕ) → nat_lt 0 (suc n) ≡ true
positive n = search rules

-- there is a change where there is a row
pub some_renewed : (t : ℕ) (new : New) (items : List Keyed) (cs : List RowChange) → renewals t new items ≡ Ok cs → nat_lt 0 (length cs) ≡ is_some_row items
some_renewed t new [] cs h = let none : [] ≡ cs = cc in ap (λ l. nat_lt 0 (length l)) (sym none)
some_renewed t new (x ∷ items) cs h = by (new x.row) (renewals t new items) h
  where
    by : (o : Result (List Value) End) (r : Result (List RowChange) End) → then_do o (λ row. then_do r (λ rest. Ok (record { table = t; key = x.key; row = Some row } ∷ rest))) ≡ Ok cs → nat_lt 0 (length cs) ≡ true
    by (Err f) r k = cc
    by (Ok row) (Err f) k = cc
    by (Ok row) (Ok rest) k = let is : record { table = t; key = x.key; row = Some row } ∷ rest ≡ cs = cc in ap (λ (l : List RowChange). nat_lt 0 (length l)) (sym is) ∙ positive (length rest)

-- DELETE

removals_past : (t : ℕ) (key : List Value) (items : List Keyed) → Above key items → AllPast key (removals t items)
removals_past t key [] h = tt
removals_past t key (x ∷ items) h = (h.0, removals_past t key items h.1)

removals_one : (t : ℕ) (items : List Keyed) → AllAt t (removals t items)
removals_one t [] = tt
removals_one t (x ∷ items) = (refl, removals_one t items)

removed : (t : ℕ) (tests : List Test) (rows : List Keyed) → Rises rows → all_placed (removals t (matching tests rows)) rows ≡ without tests rows
removed t tests [] h = refl
removed t tests (x ∷ rows) h = by (meets tests x.row) (removed t tests rows h.1)
  where
    same : all_placed (removals t (matching tests rows)) (x ∷ rows) ≡ x ∷ all_placed (removals t (matching tests rows)) rows
    same = later x (removals t (matching tests rows)) rows (removals_past t x.key (matching tests rows) (filter_above (λ item. meets tests item.row) x.key rows h.0))

    by : (b : Bool) → all_placed (removals t (matching tests rows)) rows ≡ without tests rows
        → all_placed (removals t (cond b (x ∷ matching tests rows) (matching tests rows))) (x ∷ rows) ≡ cond (not b) (x ∷ without tests rows) (without tests rows)
    by true more = ap (placed x.key None) same ∙ (gone x (all_placed (removals t (matching tests rows)) rows) ∙ more)
    by false more = same ∙ ap (λ l. x ∷ l) more

-- the changes of DELETE leave the rows that don't match
pub removals_make : (t : ℕ) (tests : List Test) (db after : Tables) (cs : List RowChange) → IsRising (rows_at db t) → cs ≡ removals t (matching tests (rows_at db t)) → after ≡ changed_by cs db → after ≡ slice_set db t (without tests (rows_at db t))
removals_make t tests db after cs rising is made =
    made
    ∙ (ap (λ (l : List RowChange). changed_by l db) is
    ∙ (at_table t (removals t (matching tests (rows_at db t))) db (removals_one t (matching tests (rows_at db t))) ∙ ap (slice_set db t) (removed t tests (rows_at db t) (rises_from (rows_at db t) rising))))

pub some_removed : (t : ℕ) (items : List Keyed) → nat_lt 0 (length (removals t items)) ≡ is_some_row items
some_removed t [] = refl
some_removed t (x ∷ items) = positive (length (removals t items))

-- INSERT

put_first : (new x : Keyed) (rows : List Keyed) → key_order new.key x.key ≡ Less → put_row new (x ∷ rows) ≡ Ok (new ∷ x ∷ rows)
put_first new x rows h = rw h refl

put_same : (new x : Keyed) (rows : List Keyed) → key_order new.key x.key ≡ Equal → put_row new (x ∷ rows) ≡ Err Duplicate
put_same new x rows h = rw h refl

put_later : (new x : Keyed) (rows : List Keyed) → key_order new.key x.key ≡ Greater → put_row new (x ∷ rows) ≡ then_do (put_row new rows) (λ rest. Ok (x ∷ rest))
put_later new x rows h = rw h refl

past : (new x : Keyed) (rows : List Keyed) → key_order x.key new.key ≡ Greater → placed new.key (Some new.row) (x ∷ rows) ≡ new ∷ x ∷ rows
past new x rows h = rw h refl

-- a row with a new key takes its place
put_new : (rows : List Keyed) (new : Keyed) → row_of rows new.key ≡ None → put_row new rows ≡ Ok (placed new.key (Some new.row) rows)
put_new [] new h = refl
put_new (x ∷ rows) new h = by (key_order x.key new.key) refl (put_new rows new)
  where
    by : (o : Ordering) → key_order x.key new.key ≡ o → (row_of rows new.key ≡ None → put_row new rows ≡ Ok (placed new.key (Some new.row) rows)) → put_row new (x ∷ rows) ≡ Ok (placed new.key (Some new.row) (x ∷ rows))
    by Less e more =
        put_later new x rows (turned x.key new.key Less e)
        ∙ (ap (λ r. then_do r (λ rest. Ok (x ∷ rest))) (more (sym (row_later x rows new.key (ap is_eq e)) ∙ h)) ∙ ap Ok (sym (before x new.key (Some new.row) rows e)))
    by Equal e more = absurd (none-some x.row (sym h ∙ (row_here x rows new.key e)))
    by Greater e more = put_first new x rows (turned x.key new.key Greater e) ∙ ap Ok (sym (past new x rows e))

-- one whose key is there is a duplicate
put_there : (rows : List Keyed) (new : Keyed) (row : List Value) → Rises rows → row_of rows new.key ≡ Some row → put_row new rows ≡ Err Duplicate
put_there [] new row rises h = cc
put_there (x ∷ rows) new row rises h = by (key_order x.key new.key) refl (put_there rows new row rises.1)
  where
    by : (o : Ordering) → key_order x.key new.key ≡ o → (row_of rows new.key ≡ Some row → put_row new rows ≡ Err Duplicate) → put_row new (x ∷ rows) ≡ Err Duplicate
    by Less e more =
        put_later new x rows (turned x.key new.key Less e) ∙ ap (λ r. then_do r (λ rest. Ok (x ∷ rest))) (more (sym (row_later x rows new.key (ap is_eq e)) ∙ h))
    by Equal e more = put_same new x rows (turned x.key new.key Equal e)
    by Greater e more =
        let back : key_order new.key x.key ≡ Less = turned x.key new.key Greater e in
        absurd (none-some row (sym (row_below new.key (x ∷ rows) (back, lower new.key x.key rows back rises.0)) ∙ h))

-- the row that was under the new key tells whether INSERT puts its row or ends
abbrev pub Puts : Option (List Value) → Keyed → Tables → Tables → ℕ → Type 0
Puts None new db after t = table_with db t (put_row new (rows_at db t)) ≡ Ok after
Puts (Some row) new db after t = table_with db t (put_row new (rows_at db t)) ≡ Err Duplicate

pub puts : (was : Option (List Value)) (new : Keyed) (db after : Tables) (t : ℕ) → IsRising (rows_at db t) → was ≡ row_of (rows_at db t) new.key → after ≡ slice_set db t (placed new.key (Some new.row) (rows_at db t)) → Puts was new db after t
puts None new db after t rising is made = ap (table_with db t) (put_new (rows_at db t) new (sym is)) ∙ ap Ok (sym made)
puts (Some row) new db after t rising is made = ap (table_with db t) (put_there (rows_at db t) new row (rises_from (rows_at db t) rising) (sym is))

pub puts_row : (was : Option (List Value)) (new : Keyed) (db after : Tables) (t : ℕ) → is_some was ≡ false → Puts was new db after t → table_with db t (put_row new (rows_at db t)) ≡ Ok after
puts_row None new db after t h k = k
puts_row (Some row) new db after t h k = cc

pub puts_none : (was : Option (List Value)) (new : Keyed) (db after : Tables) (t : ℕ) → is_some was ≡ true → Puts was new db after t → table_with db t (put_row new (rows_at db t)) ≡ Err Duplicate
puts_none None new db after t h k = cc
puts_none (Some row) new db after t h k = k

-- The changes of a full run's records, applied in order, lead to the database of the machine that runs the call alone.
use Rattle.std.proofs.Common.{◌≡◌, ℕ, zero, suc, true, List, [], ◌∷◌, ◌++◌, Result, Ok, Err, map, slice_set, refl, sym, ap, subst, ◌∙◌, append-nil, Bool, false, if◌then◌else◌}
use Rattle.std.proofs.lemmas.Grind.{flat_map-append}
use Rattle.mv_record.proofs.Rising.{Rises}
use Rattle.mv_record.proofs.Patching.{applied_append}
use Rattle.mv_values.specs.declared.pred.Test.{Test}
use Rattle.mv_values.specs.declared.value.Value.{Value}
use Rattle.mv_values.specs.declared.rows.Keyed.{Keyed}
use Rattle.mv_values.specs.declared.patch.Patch.TheVariants as patch
use Rattle.mv_values.specs.declared.patch.Write.{Write}
use Rattle.mv_values.specs.declared.schema.TableInfo.{TableInfo}
use Rattle.mv_values.specs.declared.calls.End.{End}
use Rattle.mv_values.specs.Columns.{columns_of}
use Rattle.mv_values.specs.Patching.{applied, patched_rows}
use Rattle.mv_values.specs.Tables.{key_columns, columns_at, rows_at, Tables}
use Rattle.mv_catalog.specs.declared.resolved.RSetItem.{RSetItem}
use Rattle.mv_catalog.specs.declared.resolved.RStmt.{RStmt}
use Rattle.mv_catalog.specs.declared.resolved.RStmt.TheOpen.{RStmt-F, Assign, Select, Total, ForSelect, ForRows, Branch, Insert, Update, Delete, Print, Rollback}
use Rattle.mv_values.specs.References.{references, references_to}
use Rattle.mv_values.specs.declared.calls.End.TheVariants.{MissingParent, HasChildren}
use Rattle.mv_eval.specs.References.{has_parents, has_children, fit_in}
use Rattle.mv_eval.specs.declared.state.Env.{Env}
use Rattle.mv_eval.specs.declared.state.State.{State}
use Rattle.mv_eval.specs.Results.{then_do}
use Rattle.mv_eval.specs.Value.{value_of, values_of}
use Rattle.mv_eval.specs.Rows.{tests_of, aggregate, is_some_row}
use Rattle.mv_eval.specs.Changes.{new_row, put_row, keyed, updated, set_row_by, without}
use Rattle.mv_eval.specs.Alone.{matching_in, offset_of, fixed, with_rows}
use Rattle.mv_record.specs.declared.record.Record.{Record}
use Rattle.mv_record.specs.Runs.{writes_in}
use Rattle.mv_eval.proofs.Standing.{New}
use Rattle.mv_recorded.specs.Asking.{on}
use Rattle.mv_recorded.specs.Doing.{itself, write}
use Rattle.mv_recorded.specs.Recorded.{Recorder, Site, own_record}
use Rattle.mv_recorded.proofs.Following.{IsLaw}
use Rattle.mv_recorded.proofs.Patched.{applied_on, deletes_on, deletes_lead, without_rises, put_leads, put_rises}
use Rattle.mv_recorded.proofs.Setting.{set_writes, sets_on, sets_lead, set_row_makes, updated_rises}

-- in each table keys rise
abbrev pub AllRise : Tables → Type 0
AllRise db = (t : ℕ) → Rises (rows_at db t)

rise_set : (db : Tables) (t : ℕ) (rows : List Keyed) → AllRise db → Rises rows → AllRise (slice_set db t rows)
rise_set [] t rows h k u = h u
rise_set (old ∷ db) zero rows h k zero = k
rise_set (old ∷ db) zero rows h k (suc u) = h (suc u)
rise_set (old ∷ db) (suc t) rows h k zero = h zero
rise_set (old ∷ db) (suc t) rows h k (suc u) = rise_set db t rows (λ n. h (suc n)) k u

-- changes lead to the database behind
abbrev pub Arrives : Tables → List Write → Result State End → Type 0
Arrives db ws (Ok next) = (next.tables ≡ applied ws db) × AllRise next.tables
Arrives db ws (Err e) = Unit {0}

abbrev pub LeadsBy : State → List Write → Result State End → Type 0
LeadsBy st ws out = AllRise st.tables → Arrives st.tables ws out

abbrev pub LeadsTo : State → List Record → Result State End → Type 0
LeadsTo st rs out = LeadsBy st (writes_in rs) out

-- One run after another

leads_more : (st next : State) (rs ss : List Record) (out : Result State End) → LeadsTo st rs (Ok next) → LeadsTo next ss out → LeadsTo st (rs ++ ss) out
leads_more st next rs ss (Ok last) h k rise =
    let first = h rise in
    let second = k first.1 in
    (second.0 ∙ (ap (applied (writes_in ss)) first.0 ∙ (sym (applied_append (writes_in rs) (writes_in ss) st.tables) ∙ ap (λ ws. applied ws st.tables) (sym (flat_map-append (λ r. r.writes) rs ss)))), second.1)
leads_more st next rs ss (Err e) h k rise = tt

leads_inside : (st : State) (env : Env) (rs : List Record) (out : Result State End) → LeadsTo (record st { env = env }) rs out → LeadsTo st rs out
leads_inside st env rs (Ok next) h rise = h rise
leads_inside st env rs (Err e) h rise = tt

-- Statements that change no table

-- the database is as before, unless the call ends
abbrev pub KeepsTables : Result State End → State → Type 0
KeepsTables (Ok next) st = next.tables ≡ st.tables
KeepsTables (Err e) st = Unit {0}

pub then_keeps : {A : Type 0} (r : Result A End) (go : A → Result State End) (st : State) → ((x : A) → KeepsTables (go x) st) → KeepsTables (then_do r go) st
then_keeps (Ok x) go st h = h x
then_keeps (Err e) go st h = tt

still : (out : Result State End) (st : State) → KeepsTables out st → LeadsBy st (on out (λ next. []) ++ []) out
still (Ok next) st h rise = (h, subst AllRise (sym h) rise)
still (Err e) st h rise = tt

-- INSERT

abbrev insert_made : List TableInfo → ℕ → State → Result (List Value) End → Result State End
insert_made tables t st made = then_do made (λ row. then_do (put_row (keyed (key_columns tables t) row) (rows_at st.tables t)) (λ rows.
    if has_parents (references tables t) (keyed (key_columns tables t) row) st.tables then Ok (with_rows t rows true st) else Err MissingParent))

puts : (t : ℕ) (new : Keyed) (st : State) (all : Bool) (r : Result (List Keyed) End) → put_row new (rows_at st.tables t) ≡ r
    → LeadsBy st (on (then_do r (λ rows. if all then Ok (with_rows t rows true st) else Err MissingParent)) (λ next. write t new.key (patch.Insert new.row) ∷ []) ++ [])
    (then_do r (λ rows. if all then Ok (with_rows t rows true st) else Err MissingParent))
puts t new st true (Ok rows) is rise =
    let same : patched_rows new.key (patch.Insert new.row) (rows_at st.tables t) ≡ rows = put_leads new (rows_at st.tables t) rows is in
    (ap (slice_set st.tables t) (sym same), rise_set st.tables t rows rise (put_rises new (rows_at st.tables t) rows (rise t) is))
puts t new st false (Ok rows) is rise = tt
puts t new st all (Err e) is rise = tt

inserts : (tables : List TableInfo) (t : ℕ) (st : State) (made : Result (List Value) End)
    → LeadsBy st (on (insert_made tables t st made) (λ next. on made (λ row. write t (columns_of row (key_columns tables t)) (patch.Insert row) ∷ [])) ++ []) (insert_made tables t st made)
inserts tables t st (Ok row) =
    puts t (keyed (key_columns tables t) row) st (has_parents (references tables t) (keyed (key_columns tables t) row) st.tables) (put_row (keyed (key_columns tables t) row) (rows_at st.tables t)) refl
inserts tables t st (Err e) = λ rise. tt

-- UPDATE

abbrev new_of : List TableInfo → ℕ → List RSetItem → State → New
new_of tables t items st = λ row. set_row_by (fit_in tables t st.tables) (key_columns tables t) st.env row items row

abbrev update_made : List TableInfo → ℕ → List RSetItem → State → Result (List Test) End → Result State End
update_made tables t items st tests =
    then_do tests (λ c. then_do (updated (new_of tables t items st) c (rows_at st.tables t)) (λ rows. Ok (with_rows t rows (is_some_row (matching_in t c st)) st)))

updates_with : (tables : List TableInfo) (t : ℕ) (items : List RSetItem) (st : State) (c : List Test) (r : Result (List Keyed) End) → updated (new_of tables t items st) c (rows_at st.tables t) ≡ r
    → LeadsBy st (on (then_do r (λ rows. Ok (with_rows t rows (is_some_row (matching_in t c st)) st))) (λ next. set_writes t items (new_of tables t items st) (matching_in t c st)) ++ [])
    (then_do r (λ rows. Ok (with_rows t rows (is_some_row (matching_in t c st)) st)))
updates_with tables t items st c (Ok rows) is rise =
    let new : New = new_of tables t items st in
    let ws : List Write = set_writes t items new (matching_in t c st) in
    let same = sets_lead t items new (set_row_makes (fit_in tables t st.tables) (key_columns tables t) st.env items) c (rows_at st.tables t) rows (rise t) is in (
      ap (slice_set st.tables t) (sym same) ∙ (sym (applied_on t ws st.tables (sets_on t items new (matching_in t c st))) ∙ ap (λ vs. applied vs st.tables) (sym (append-nil ws))),
      rise_set st.tables t rows rise (updated_rises new c (rows_at st.tables t) rows (rise t) is),
    )
updates_with tables t items st c (Err e) is rise = tt

updates : (tables : List TableInfo) (t : ℕ) (items : List RSetItem) (st : State) (tests : Result (List Test) End)
    → LeadsBy st (on (update_made tables t items st tests) (λ next. on tests (λ c. set_writes t items (new_of tables t items st) (matching_in t c st))) ++ []) (update_made tables t items st tests)
updates tables t items st (Ok c) = updates_with tables t items st c (updated (new_of tables t items st) c (rows_at st.tables t)) refl
updates tables t items st (Err e) = λ rise. tt

-- DELETE

abbrev delete_made : List TableInfo → ℕ → State → Result (List Test) End → Result State End
delete_made tables t st tests =
    then_do tests (λ c. if has_children (references_to tables t) t c st.tables (matching_in t c st) then Err HasChildren else Ok (with_rows t (without c (rows_at st.tables t)) (is_some_row (matching_in t c st)) st))

deletes : (tables : List TableInfo) (t : ℕ) (st : State) (tests : Result (List Test) End)
    → LeadsBy st (on (delete_made tables t st tests) (λ next. on tests (λ c. map (λ item. write t item.key patch.Delete) (matching_in t c st))) ++ []) (delete_made tables t st tests)
deletes tables t st (Ok c) = by (has_children (references_to tables t) t c st.tables (matching_in t c st))
  where
    by : (b : Bool) → LeadsBy st (on (if b then Err HasChildren else Ok (with_rows t (without c (rows_at st.tables t)) (is_some_row (matching_in t c st)) st)) (λ next. map (λ item. write t item.key patch.Delete) (matching_in t c st)) ++ [])
        (if b then Err HasChildren else Ok (with_rows t (without c (rows_at st.tables t)) (is_some_row (matching_in t c st)) st))
    by true rise = tt
    by false rise =
        let ws : List Write = map (λ item. write t item.key patch.Delete) (matching_in t c st) in (
          ap (slice_set st.tables t) (sym (deletes_lead t c (rows_at st.tables t) (rise t))) ∙ (sym (applied_on t ws st.tables (deletes_on t (matching_in t c st))) ∙ ap (λ vs. applied vs st.tables) (sym (append-nil ws))),
          rise_set st.tables t (without c (rows_at st.tables t)) rise (without_rises c (rows_at st.tables t) (rise t)),
        )
deletes tables t st (Err e) = λ rise. tt

-- All statements

leads_none : (st : State) → LeadsTo st [] (Ok st)
leads_none st rise = (refl, rise)

pub leads_own : {X : Type 0} (tables : List TableInfo) (params : ℕ) (y : RStmt-F X) (n : ℕ) (site : Site) (before : List Record) (st : State)
    → LeadsTo st (own_record tables params y n site before st ∷ []) (itself tables y st)
leads_own {X} tables params (Assign x e) n site before st = still (itself {X = X} tables (Assign x e) st) st (then_keeps (value_of e st.env []) _ st (λ v. refl))
leads_own {X} tables params (Select cs xs t conds sorts offset) n site before st =
    still (itself {X = X} tables (Select cs xs t conds sorts offset) st) st (then_keeps (tests_of (key_columns tables t) conds st.env) _ st (λ tests. then_keeps (offset_of offset st.env) _ st (λ at. refl)))
leads_own {X} tables params (Total agg x t conds) n site before st =
    still (itself {X = X} tables (Total agg x t conds) st) st (then_keeps (tests_of (key_columns tables t) conds st.env) _ st (λ tests. then_keeps (aggregate agg (matching_in t tests st)) _ st (λ v. refl)))
leads_own {X} tables params (ForSelect x once cs t conds sorts body) n site before st =
    still (itself {X = X} tables (ForSelect x once cs t conds sorts body) st) st (then_keeps (then_do (tests_of (key_columns tables t) conds st.env) (λ tests. Ok (fixed once cs sorts (matching_in t tests st)))) _ st (λ rows. refl))
leads_own {X} tables params (ForRows x y body) n site before st = still (itself {X = X} tables (ForRows x y body) st) st refl
leads_own {X} tables params (Branch e ys ns) n site before st = still (itself {X = X} tables (Branch e ys ns) st) st (then_keeps (value_of e st.env []) _ st (λ v. refl))
leads_own {X} tables params (Insert t es) n site before st = inserts tables t st (new_row (columns_at tables t) es st.env)
leads_own {X} tables params (Update t items conds) n site before st = updates tables t items st (tests_of (key_columns tables t) conds st.env)
leads_own {X} tables params (Delete t conds) n site before st = deletes tables t st (tests_of (key_columns tables t) conds st.env)
leads_own {X} tables params (Print es) n site before st = still (itself {X = X} tables (Print es) st) st (then_keeps (values_of es st.env) _ st (λ vs. refl))
leads_own {X} tables params (Rollback reason) n site before st = still (itself {X = X} tables (Rollback reason) st) st tt

pub leads_law : IsLaw LeadsTo
leads_law = record { none = leads_none; more = leads_more; enters = leads_inside; own = leads_own {X = RStmt × Recorder} }

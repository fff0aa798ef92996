-- Statements keep variables and rows typed.
use Rattle.std.proofs.Common.{◌≡◌, ℕ, Bool, true, false, List, [], ◌∷◌, Option, Some, None, Result, Ok, Err, refl, sym, ap, subst, ◌∙◌, map, slice_get, All, IfOk, if◌then◌else◌}
use Rattle.std.proofs.lemmas.List.Elements.{All-head, All-tail, All-filter}
use Rattle.std.specs.Prelude.{not, ◌++◌}
use Rattle.mv_values.specs.References.{parent_of, references, references_to, is_there}
use Rattle.mv_values.specs.declared.calls.End.TheVariants.{MissingParent, HasChildren}
use Rattle.mv_eval.specs.References.{has_parents, has_children, fit_in, with_parent}
use Rattle.mv_eval.proofs.Standing.{goes_to}
use Rattle.mv_values.specs.Preds.{meets}
use Rattle.mv_values.specs.declared.pred.Test.{Test}
use Rattle.mv_values.specs.declared.value.Value.{Value}
use Rattle.mv_values.specs.declared.rows.Keyed.{Keyed}
use Rattle.mv_values.specs.declared.schema.TableInfo.{TableInfo}
use Rattle.mv_values.specs.declared.calls.End.{End}
use Rattle.mv_catalog.specs.declared.resolved.RExpr.{RExpr}
use Rattle.mv_catalog.specs.declared.resolved.RCond.{RCond}
use Rattle.mv_catalog.specs.declared.resolved.RSort.{RSort}
use Rattle.mv_catalog.specs.declared.resolved.RAgg.{RAgg}
use Rattle.mv_catalog.specs.declared.resolved.RSetItem.{RSetItem}
use Rattle.mv_catalog.specs.declared.resolved.RStmt.{RStmt}
use Rattle.mv_catalog.specs.declared.resolved.RStmt.TheOpen as open'
use Rattle.mv_catalog.specs.declared.resolved.RStmt.TheViews.{roll-RStmt}
use Rattle.mv_catalog.specs.declared.resolved.RStmt.TheFolds.{fold-roll-RStmt, map-RStmt, ind-RStmt}
use Rattle.mv_values.specs.Tables.{key_columns, columns_in, columns_at, rows_at}
use Rattle.mv_values.specs.Columns.{number}
use Rattle.mv_catalog.specs.Types.{Kind, declared, rows, Vars}
use Rattle.mv_catalog.specs.Statements.{all_well, IsWell, Well, with_turn}
use Rattle.mv_recorded.specs.Doing.{itself, fixed_rows}
use Rattle.mv_catalog.specs.Statements as well
use Rattle.mv_catalog.specs.Text.{IsRow, types_of}
use Rattle.mv_catalog.proofs.Typed.{well_by}
use Rattle.mv_eval.specs.declared.state.Content.TheVariants.{Turn}
use Rattle.mv_eval.specs.declared.state.State.{State}
use Rattle.mv_eval.specs.declared.state.Env.{Env}
use Rattle.mv_eval.specs.Results.{then_do}
use Rattle.mv_eval.specs.Env.{with_held, with_value, with_found, turns_at}
use Rattle.mv_eval.specs.Value.{value_of, values_of, is_so}
use Rattle.mv_eval.specs.Rows.{is_some_row, item_at, ordered, aggregate, tests_of, fit}
use Rattle.mv_eval.specs.Changes.{set_row_by, updated, without, new_row, put_row, keyed}
use Rattle.mv_eval.specs.Line.{line_of}
use Rattle.mv_eval.specs.Alone.{Does, all_of, each_turn, matching_in, with_rows, offset_of, with_selected, totalled, fixed, is_turn, loop_over, does, alone, stmt_step}
use Rattle.mv_eval.specs.Alone as alone'
use Rattle.mv_record.specs.Databases.{AreTyped, HasRow}
use Rattle.mv_recorded.specs.Typed.{OfKinds, IsEnvOf}
use Rattle.mv_recorded.proofs.Typing.{fit_value, fit_found, fit_turn, fit_behind}
use Rattle.mv_recorded.proofs.Valued.{IsKind}
use Rattle.mv_recorded.proofs.RowsTyped.{MayHave, then_ok, then_any, fixed_kinds, taken_fits, aggregate_kind, gives_kind, new_row_is, set_row_is, updated_all, put_row_all, rows_typed, tables_set}

if_ok : (b : Bool) (e : End) (next : State) (P : State → Type 0) → P next → IfOk (if b then Ok next else Err e) P
if_ok true e next P h = h
if_ok false e next P h = tt

unless_ok : (b : Bool) (e : End) (next : State) (P : State → Type 0) → P next → IfOk (if b then Err e else Ok next) P
unless_ok true e next P h = tt
unless_ok false e next P h = h

module _ (tables : List TableInfo) where
  -- the variables hold values of their types, and the rows suit their tables
  pub record Kept (vars : Vars) (st : State) : Type 0 where
    pub fit : IsEnvOf vars st.env
    pub typed : AreTyped tables st.tables

  -- a state whose variables and tables alone matter
  kept : (vars : Vars) (st : State) → IsEnvOf vars st.env → AreTyped tables st.tables → Kept vars st
  kept vars st fit typed = record { fit = fit; typed = typed }

  pub matches_all : (vars : Vars) (st : State) (n : ℕ) (table : TableInfo) (tests : List Test) → Kept vars st → slice_get tables n ≡ Some table → All (HasRow table) (matching_in n tests st)
  matches_all vars st n table tests k at = All-filter (λ (item : Keyed). meets tests item.row) (HasRow table) (rows_at st.tables n) (rows_typed tables st.tables n table k.typed at)

  -- other rows for a table
  rows_kept : (vars : Vars) (st : State) (n : ℕ) (table : TableInfo) (made : List Keyed) (found : Bool) → Kept vars st → slice_get tables n ≡ Some table → All (HasRow table) made
      → Kept vars (with_rows n made found st)
  rows_kept vars st n table made found k at all =
      kept vars (with_rows n made found st) (fit_found vars st.env found k.fit) (tables_set tables st.tables n table made k.typed at all)

  assign_kept : (x : ℕ) (e : RExpr) (vars : Vars) (st : State) → well.assign x e vars → Kept vars st → IfOk (alone'.assign x e st) (Kept vars)
  assign_kept x e vars st h k =
      then_ok (value_of e st.env []) (λ v. Ok (record st { env = with_value st.env x v })) (IsKind h.0) (Kept vars) (gives_kind vars st.env k.fit e h.0 h.2)
      (λ v is. kept vars (record st { env = with_value st.env x v }) (fit_value vars st.env x h.0 v k.fit h.1 is) k.typed)

  select_kept : (cs xs : List ℕ) (n : ℕ) (conds : List RCond) (sorts : List RSort) (offset : Option RExpr) (vars : Vars) (st : State) → well.select tables cs xs n conds sorts offset vars → Kept vars st
      → IfOk (alone'.select tables cs xs n conds sorts offset st) (Kept vars)
  select_kept cs xs n conds sorts offset vars st h k =
      let table = h.0.0 in
      let env' : List Test → Value → Env = λ tests m. with_selected cs xs (item_at (ordered sorts (matching_in n tests st)) (number m)) st.env in
      then_any (tests_of (key_columns tables n) conds st.env) (λ tests. then_do (offset_of offset st.env) (λ m. Ok (record st { env = env' tests m }))) (Kept vars)
      (λ tests. then_any (offset_of offset st.env) (λ m. Ok (record st { env = env' tests m })) (Kept vars)
      (λ m. kept vars (record st { env = env' tests m })
      (taken_fits table vars st.env cs xs sorts (matching_in n tests st) (number m) k.fit (matches_all vars st n table tests k h.0.1) h.0.2.0) k.typed))

  totalled_fits : (vars : Vars) (env : Env) (x : ℕ) (t : Kind) (o : Option Value) → IsEnvOf vars env → vars x ≡ Some (declared t) → MayHave t o → IsEnvOf vars (totalled x o env)
  totalled_fits vars env x t None fit at has = fit
  totalled_fits vars env x t (Some v) fit at has = fit_value vars env x t v fit at has

  total_kept : (agg : RAgg) (x n : ℕ) (conds : List RCond) (vars : Vars) (st : State) → well.total tables agg x n conds vars → Kept vars st → IfOk (alone'.sum_up tables agg x n conds st) (Kept vars)
  total_kept agg x n conds vars st h k =
      let table = h.0 in
      let t = h.2.0.0 in
      let env' : List Test → Option Value → Env = λ tests v. with_found (totalled x v st.env) (is_some_row (matching_in n tests st)) in
      then_any (tests_of (key_columns tables n) conds st.env) (λ tests. then_do (aggregate agg (matching_in n tests st)) (λ v. Ok (record st { env = env' tests v }))) (Kept vars)
      (λ tests. then_ok (aggregate agg (matching_in n tests st)) (λ v. Ok (record st { env = env' tests v })) (MayHave t) (Kept vars)
      (aggregate_kind table (matching_in n tests st) (matches_all vars st n table tests k h.1) agg t h.2.0.1)
      (λ v has. kept vars (record st { env = env' tests v })
      (fit_found vars (totalled x v st.env) (is_some_row (matching_in n tests st)) (totalled_fits vars st.env x t v k.fit h.2.0.2 has)) k.typed))

  insert_kept : (n : ℕ) (es : List RExpr) (vars : Vars) (st : State) → well.insert tables n es vars → Kept vars st → IfOk (alone'.insert tables n es st) (Kept vars)
  insert_kept n es vars st h k =
      let table = h.0 in
      let there : columns_at tables n ≡ table.columns = ap columns_in h.1 in
      let put : List Value → Result (List Keyed) End = λ row. put_row (keyed (key_columns tables n) row) (rows_at st.tables n) in
      let go : List Value → List Keyed → Result State End = λ row made. if has_parents (references tables n) (keyed (key_columns tables n) row) st.tables then Ok (with_rows n made true st) else Err MissingParent in
      then_ok (new_row (columns_at tables n) es st.env) (λ row. then_do (put row) (go row)) (IsRow (types_of table)) (Kept vars)
      (subst (λ columns. IfOk (new_row columns es st.env) (IsRow (types_of table))) (sym there) (new_row_is vars st.env k.fit table.columns es h.2))
      (λ row is. then_ok (put row) (go row) (All (HasRow table)) (Kept vars)
      (put_row_all table (keyed (key_columns tables n) row) (rows_at st.tables n) is (rows_typed tables st.tables n table k.typed h.1))
      (λ made all. if_ok (has_parents (references tables n) (keyed (key_columns tables n) row) st.tables) MissingParent (with_rows n made true st) (Kept vars) (rows_kept vars st n table made true k h.1 all)))

  -- a value that fits and has its parent fits
  fits_still : (n : ℕ) (table : TableInfo) (db : List (List Keyed)) (c : ℕ) (v w : Value) → columns_at tables n ≡ table.columns → fit_in tables n db c v ≡ Ok w → fit table.columns c v ≡ Ok w
  fits_still n table db c v w there h =
      let u = goes_to (fit (columns_at tables n) c v) (with_parent (parent_of tables n c) db) w h in
      subst (λ columns. fit columns c v ≡ Ok w) there (u.1 ∙ same (parent_of tables n c) u.0 u.2)
    where
      test : (b : Bool) (x : Value) → (if b then Ok x else Err MissingParent) ≡ Ok w → ◌≡◌ {A = Result Value End} (Ok x) (Ok w)
      test true x e = e
      test false x e = cc

      same : (o : Option ℕ) (x : Value) → with_parent o db x ≡ Ok w → ◌≡◌ {A = Result Value End} (Ok x) (Ok w)
      same None x e = e
      same (Some parent) x e = test (is_there x (rows_at db parent)) x e

  update_kept : (n : ℕ) (items : List RSetItem) (conds : List RCond) (vars : Vars) (st : State) → well.update tables n items conds vars → Kept vars st → IfOk (alone'.update tables n items conds st) (Kept vars)
  update_kept n items conds vars st h k =
      let table = h.0 in
      let keys = key_columns tables n in
      let there : columns_at tables n ≡ table.columns = ap columns_in h.1 in
      let new : List Value → Result (List Value) End = λ row. set_row_by (fit_in tables n st.tables) keys st.env row items row in
      let is_row : (row : List Value) → IsRow (types_of table) row → IfOk (new row) (IsRow (types_of table)) =
      λ row is. set_row_is vars st.env k.fit table (fit_in tables n st.tables) keys row items row (λ c v w e. fits_still n table st.tables c v w there e) is h.2.0 is in
      then_any (tests_of (key_columns tables n) conds st.env) (λ tests. then_do (updated new tests (rows_at st.tables n)) (λ made. Ok (with_rows n made (is_some_row (matching_in n tests st)) st))) (Kept vars)
      (λ tests. then_ok (updated new tests (rows_at st.tables n)) (λ made. Ok (with_rows n made (is_some_row (matching_in n tests st)) st)) (All (HasRow table)) (Kept vars)
      (updated_all table new tests is_row (rows_at st.tables n) (rows_typed tables st.tables n table k.typed h.1))
      (λ made all. rows_kept vars st n table made (is_some_row (matching_in n tests st)) k h.1 all))

  delete_kept : (n : ℕ) (conds : List RCond) (vars : Vars) (st : State) → well.delete tables n conds vars → Kept vars st → IfOk (alone'.delete tables n conds st) (Kept vars)
  delete_kept n conds vars st h k =
      let table = h.0 in
      let next : List Test → State = λ tests. with_rows n (without tests (rows_at st.tables n)) (is_some_row (matching_in n tests st)) st in
      then_any (tests_of (key_columns tables n) conds st.env) (λ tests. if has_children (references_to tables n) n tests st.tables (matching_in n tests st) then Err HasChildren else Ok (next tests)) (Kept vars)
      (λ tests. unless_ok (has_children (references_to tables n) n tests st.tables (matching_in n tests st)) HasChildren (next tests) (Kept vars)
      (rows_kept vars st n table (without tests (rows_at st.tables n)) (is_some_row (matching_in n tests st)) k h.1
      (All-filter (λ (item : Keyed). not (meets tests item.row)) (HasRow table) (rows_at st.tables n) (rows_typed tables st.tables n table k.typed h.1))))

  print_kept : (es : List RExpr) (vars : Vars) (st : State) → Kept vars st → IfOk (alone'.print es st) (Kept vars)
  print_kept es vars st k =
      then_any (values_of es st.env) (λ vs. Ok (record st { lines = st.lines ++ line_of vs ∷ [] })) (Kept vars)
      (λ vs. kept vars (record st { lines = st.lines ++ line_of vs ∷ [] }) k.fit k.typed)

  -- Loops

  abbrev Keeps : Vars → Does → Type 0
  Keeps vars body = (st : State) → Kept vars st → IfOk (body st) (Kept vars)

  turns_kept : (x : ℕ) (ts : List Kind) (body : Does) (vars : Vars) → vars x ≡ None → Keeps (with_turn vars x ts) body → (all : List (List Value)) → All (OfKinds ts) all → Keeps vars (each_turn x body all)
  turns_kept x ts body vars none keeps [] typed st k = k
  turns_kept x ts body vars none keeps (row ∷ later) typed st k =
      let turn : State = record st { env = with_held st.env x (Turn row) } in
      let begun : Kept (with_turn vars x ts) turn = kept (with_turn vars x ts) turn (fit_turn vars st.env x ts row k.fit none (All-head (OfKinds ts) row later typed)) k.typed in
      then_ok (body turn) (each_turn x body later) (Kept (with_turn vars x ts)) (Kept vars) (keeps turn begun)
      (λ st' k'. turns_kept x ts body vars none keeps later (All-tail (OfKinds ts) row later typed) st' (kept vars st' (fit_behind vars st'.env x ts k'.fit none) k'.typed))

  loop_kept : (x : ℕ) (ts : List Kind) (body : Does) (vars : Vars) → vars x ≡ None → Keeps (with_turn vars x ts) body → (all : List (List Value)) → All (OfKinds ts) all → Keeps vars (loop_over x body all)
  loop_kept x ts body vars none keeps all typed st k =
      turns_kept x ts body vars none keeps all typed (record st { env = with_found st.env (is_turn all) })
      (kept vars (record st { env = with_found st.env (is_turn all) }) (fit_found vars st.env (is_turn all) k.fit) k.typed)

  branch_kept : (e : RExpr) (ys ns : Does) (vars : Vars) → Keeps vars ys → Keeps vars ns → Keeps vars (alone'.branch e ys ns)
  branch_kept e ys ns vars first second st k = then_any (value_of e st.env []) (λ v. if is_so v then ys st else ns st) (Kept vars) (λ v. by (is_so v))
    where
      by : (b : Bool) → IfOk (if b then ys st else ns st) (Kept vars)
      by true = first st k
      by false = second st k

  -- Statements

  abbrev Claim : RStmt → Type 0
  Claim s = (vars : Vars) → IsWell tables s vars → Keeps vars (does tables s)

  abbrev Known : Type 0
  Known = (s : RStmt) × Claim s

  all_kept : (ks : List Known) (vars : Vars) → all_well (IsWell tables) (map (λ p. p.0) ks) vars → Keeps vars (all_of (map (does tables) (map (λ p. p.0) ks)))
  all_kept [] vars h st k = k
  all_kept (p ∷ ps) vars h st k =
      then_ok (does tables p.0 st) (all_of (map (does tables) (map (λ q. q.0) ps))) (Kept vars) (Kept vars) (p.1 vars h.0 st k) (λ st' k'. all_kept ps vars h.1 st' k')

  step_kept : (y : open'.RStmt-F Known) → let d = map-RStmt Known RStmt (λ p. p.0) y in
      (vars : Vars) → well.stmt_step tables RStmt (λ s. s) (IsWell tables) d vars → Keeps vars (stmt_step tables (map-RStmt RStmt Does (does tables) d))
  step_kept (open'.Assign x e) vars h st k = assign_kept x e vars st h k
  step_kept (open'.Select cs xs n conds sorts offset) vars h st k = select_kept cs xs n conds sorts offset vars st h k
  step_kept (open'.Total agg x n conds) vars h st k = total_kept agg x n conds vars st h k
  step_kept (open'.ForSelect x once cs n conds sorts body) vars h st k =
      let table = h.0 in
      let ts = h.2.3.0 in
      let run : Does = all_of (map (does tables) (map (λ p. p.0) body)) in
      then_any (tests_of (key_columns tables n) conds st.env) (λ tests. loop_over x run (fixed once cs sorts (matching_in n tests st)) st) (Kept vars)
      (λ tests. loop_kept x ts run vars h.2.2 (all_kept body (with_turn vars x ts) h.2.3.2) (fixed once cs sorts (matching_in n tests st))
      (fixed_kinds table once cs sorts ts (matching_in n tests st) h.2.3.1 (matches_all vars st n table tests k h.1)) st k)
  step_kept (open'.ForRows x y body) vars h st k =
      loop_kept x h.0 (all_of (map (does tables) (map (λ p. p.0) body))) vars h.2 (all_kept body (with_turn vars x h.0) h.3) (turns_at st.env y) (k.fit.holds y (rows h.0) h.1) st k
  step_kept (open'.Branch e ys ns) vars h st k =
      branch_kept e (all_of (map (does tables) (map (λ p. p.0) ys))) (all_of (map (does tables) (map (λ p. p.0) ns))) vars (all_kept ys vars h.1) (all_kept ns vars h.2) st k
  step_kept (open'.Insert n es) vars h st k = insert_kept n es vars st h k
  step_kept (open'.Update n items conds) vars h st k = update_kept n items conds vars st h k
  step_kept (open'.Delete n conds) vars h st k = delete_kept n conds vars st h k
  step_kept (open'.Print es) vars h st k = print_kept es vars st k
  step_kept (open'.Rollback reason) vars h st k = tt

  rolled : (x : open'.RStmt-F RStmt) (y : open'.RStmt-F Known) → map-RStmt Known RStmt (λ p. p.0) y ≡ x → Claim (roll-RStmt x)
  rolled x y is =
      let d = map-RStmt Known RStmt (λ p. p.0) y in
      subst (λ z. Claim (roll-RStmt z)) is
      (λ vars h. subst (Keeps vars) (sym (fold-roll-RStmt Does (stmt_step tables) d)) (step_kept y vars (well_by tables d (roll-RStmt d) vars refl h)))

  pub does_kept : (s : RStmt) → Claim s
  does_kept = ind-RStmt Claim rolled

  -- statements of which each is well formed
  pub alone_kept : (ss : List RStmt) (vars : Vars) → all_well (IsWell tables) ss vars → Keeps vars (alone tables ss)
  alone_kept [] vars h st k = k
  alone_kept (s ∷ ss) vars h st k = then_ok (does tables s st) (alone tables ss) (Kept vars) (Kept vars) (does_kept s vars h.0 st k) (λ st' k'. alone_kept ss vars h.1 st' k')

  -- The rows of a loop over a table

  pub chosen_kinds : {X : Type 0} (v : X → RStmt) (w : X → Well) (x : ℕ) (once : Bool) (cs : List ℕ) (n : ℕ) (conds : List RCond) (sorts : List RSort) (body : List X) (vars : Vars) (st : State) (all : List (List Value))
      → (h : well.stmt_step tables X v w (open'.ForSelect x once cs n conds sorts body) vars) → Kept vars st → fixed_rows tables (open'.ForSelect x once cs n conds sorts body) st ≡ Ok all → All (OfKinds h.2.3.0) all
  chosen_kinds v w x once cs n conds sorts body vars st all h k is =
      let table = h.0 in
      let c = goes_to (tests_of (key_columns tables n) conds st.env) (λ tests. Ok (fixed once cs sorts (matching_in n tests st))) all is in
      subst (All (OfKinds h.2.3.0)) (same_rows c.2) (fixed_kinds table once cs sorts h.2.3.0 (matching_in n c.0 st) h.2.3.1 (matches_all vars st n table c.0 k h.1))
    where
      same_rows : {a b : List (List Value)} → ◌≡◌ {A = Result (List (List Value)) End} (Ok a) (Ok b) → a ≡ b
      same_rows e = cc

  -- A statement itself, without what it holds

  pub itself_kept : {X : Type 0} (v : X → RStmt) (w : X → Well) (y : open'.RStmt-F X) (vars : Vars) (st : State) → well.stmt_step tables X v w y vars → Kept vars st → IfOk (itself tables y st) (Kept vars)
  itself_kept v w (open'.Assign x e) vars st h k = assign_kept x e vars st h k
  itself_kept v w (open'.Select cs xs n conds sorts offset) vars st h k = select_kept cs xs n conds sorts offset vars st h k
  itself_kept v w (open'.Total agg x n conds) vars st h k = total_kept agg x n conds vars st h k
  itself_kept v w (open'.ForSelect x once cs n conds sorts body) vars st h k =
      then_any (fixed_rows tables (open'.ForSelect x once cs n conds sorts body) st) (λ all. Ok (record st { env = with_found st.env (is_turn all) })) (Kept vars)
      (λ all. kept vars (record st { env = with_found st.env (is_turn all) }) (fit_found vars st.env (is_turn all) k.fit) k.typed)
  itself_kept v w (open'.ForRows x y body) vars st h k =
      let all : List (List Value) = turns_at st.env y in
      kept vars (record st { env = with_found st.env (is_turn all) }) (fit_found vars st.env (is_turn all) k.fit) k.typed
  itself_kept v w (open'.Branch e ys ns) vars st h k = then_any (value_of e st.env []) (λ v. Ok st) (Kept vars) (λ v. k)
  itself_kept v w (open'.Insert n es) vars st h k = insert_kept n es vars st h k
  itself_kept v w (open'.Update n items conds) vars st h k = update_kept n items conds vars st h k
  itself_kept v w (open'.Delete n conds) vars st h k = delete_kept n conds vars st h k
  itself_kept v w (open'.Print es) vars st h k = print_kept es vars st k
  itself_kept v w (open'.Rollback reason) vars st h k = tt

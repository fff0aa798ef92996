-- No call leaves a row without its parent.
use Rattle.std.proofs.Common.{◌≡◌, ℕ, zero, suc, Bool, true, false, List, [], ◌∷◌, Option, Some, None, Result, Ok, Err, refl, sym, subst, map, slice_get, IfOk, if◌then◌else◌}
use Rattle.std.specs.Prelude.{slice_index}
use Rattle.mv_values.specs.declared.value.Value.{Value}
use Rattle.mv_values.specs.declared.schema.TableInfo.{TableInfo}
use Rattle.mv_values.specs.declared.calls.Call.{Call}
use Rattle.mv_values.specs.declared.calls.End.{End}
use Rattle.mv_values.specs.Tables.{key_columns, Tables}
use Rattle.mv_catalog.specs.declared.resolved.ProcInfo.{ProcInfo}
use Rattle.mv_catalog.specs.declared.resolved.Program.{Program}
use Rattle.mv_catalog.specs.declared.resolved.RExpr.{RExpr}
use Rattle.mv_catalog.specs.declared.resolved.RStmt.{RStmt}
use Rattle.mv_catalog.specs.declared.resolved.RStmt.TheOpen as open'
use Rattle.mv_catalog.specs.declared.resolved.RStmt.TheViews.{roll-RStmt}
use Rattle.mv_catalog.specs.declared.resolved.RStmt.TheFolds.{fold-roll-RStmt, map-RStmt, ind-RStmt}
use Rattle.mv_eval.specs.declared.state.Content.TheVariants.{Turn}
use Rattle.mv_eval.specs.declared.state.State.{State}
use Rattle.mv_eval.specs.Env.{with_held, with_found, turns_at}
use Rattle.mv_eval.specs.Value.{value_of, is_so}
use Rattle.mv_eval.specs.Rows.{tests_of}
use Rattle.mv_eval.specs.Alone.{Does, all_of, each_turn, matching_in, fixed, is_turn, loop_over, does, alone, stmt_step}
use Rattle.mv_eval.specs.Alone as alone'
use Rattle.mv_eval.specs.TableAfter.{begun, result_of, result_in, result_at, tables_left, table_after}
use Rattle.mv_recorded.specs.Doing.{itself}
use Rattle.mv_recorded.specs.Parents.{ReferencesStand, CallsKeepReferences}
use Rattle.mv_recorded.proofs.Parents.{references_kept}
use Rattle.mv_recorded.proofs.RowsTyped.{then_ok, then_any}

module _ (tables : List TableInfo) where
  itself_stands : (y : open'.RStmt-F RStmt) (st : State) → ReferencesStand tables st.tables → IfOk (itself tables y st) (λ (next : State). ReferencesStand tables next.tables)
  itself_stands y st h = by (itself tables y st) refl
    where
      by : (r : Result State End) → itself tables y st ≡ r → IfOk r (λ (next : State). ReferencesStand tables next.tables)
      by (Ok next) e = references_kept tables y st next h e
      by (Err d) e = tt

  turns_stand : (x : ℕ) (body : Does) → ((st : State) → ReferencesStand tables st.tables → IfOk (body st) (λ (next : State). ReferencesStand tables next.tables)) → (all : List (List Value)) (st : State) → ReferencesStand tables st.tables
      → IfOk (each_turn x body all st) (λ (next : State). ReferencesStand tables next.tables)
  turns_stand x body keeps [] st h = h
  turns_stand x body keeps (row ∷ later) st h =
      let turn : State = record st { env = with_held st.env x (Turn row) } in
      then_ok (body turn) (each_turn x body later) (λ (next : State). ReferencesStand tables next.tables) (λ (next : State). ReferencesStand tables next.tables) (keeps turn h) (λ st' h'. turns_stand x body keeps later st' h')

  loop_stands : (x : ℕ) (body : Does) → ((st : State) → ReferencesStand tables st.tables → IfOk (body st) (λ (next : State). ReferencesStand tables next.tables)) → (all : List (List Value)) (st : State) → ReferencesStand tables st.tables
      → IfOk (loop_over x body all st) (λ (next : State). ReferencesStand tables next.tables)
  loop_stands x body keeps all st h = turns_stand x body keeps all (record st { env = with_found st.env (is_turn all) }) h

  branch_stands : (e : RExpr) (ys ns : Does) → ((st : State) → ReferencesStand tables st.tables → IfOk (ys st) (λ (next : State). ReferencesStand tables next.tables))
      → ((st : State) → ReferencesStand tables st.tables → IfOk (ns st) (λ (next : State). ReferencesStand tables next.tables)) → (st : State) → ReferencesStand tables st.tables
      → IfOk (alone'.branch e ys ns st) (λ (next : State). ReferencesStand tables next.tables)
  branch_stands e ys ns first second st h = then_any (value_of e st.env []) (λ v. if is_so v then ys st else ns st) (λ (next : State). ReferencesStand tables next.tables) (λ v. by (is_so v))
    where
      by : (b : Bool) → IfOk (if b then ys st else ns st) (λ (next : State). ReferencesStand tables next.tables)
      by true = first st h
      by false = second st h

  abbrev Claim : RStmt → Type 0
  Claim s = (st : State) → ReferencesStand tables st.tables → IfOk (does tables s st) (λ (next : State). ReferencesStand tables next.tables)

  abbrev Known : Type 0
  Known = (s : RStmt) × Claim s

  all_stand : (ks : List Known) (st : State) → ReferencesStand tables st.tables → IfOk (all_of (map (does tables) (map (λ p. p.0) ks)) st) (λ (next : State). ReferencesStand tables next.tables)
  all_stand [] st h = h
  all_stand (p ∷ ps) st h =
      then_ok (does tables p.0 st) (all_of (map (does tables) (map (λ q. q.0) ps))) (λ (next : State). ReferencesStand tables next.tables) (λ (next : State). ReferencesStand tables next.tables) (p.1 st h) (λ st' h'. all_stand ps st' h')

  step_stands : (y : open'.RStmt-F Known) (st : State) → ReferencesStand tables st.tables
      → IfOk (stmt_step tables (map-RStmt RStmt Does (does tables) (map-RStmt Known RStmt (λ p. p.0) y)) st) (λ (next : State). ReferencesStand tables next.tables)
  step_stands (open'.Assign x e) st h = itself_stands (open'.Assign x e) st h
  step_stands (open'.Select cs xs n conds sorts offset) st h = itself_stands (open'.Select cs xs n conds sorts offset) st h
  step_stands (open'.Total agg x n conds) st h = itself_stands (open'.Total agg x n conds) st h
  step_stands (open'.ForSelect x once cs n conds sorts body) st h =
      let run : Does = all_of (map (does tables) (map (λ p. p.0) body)) in
      then_any (tests_of (key_columns tables n) conds st.env) (λ tests. loop_over x run (fixed once cs sorts (matching_in n tests st)) st) (λ (next : State). ReferencesStand tables next.tables)
      (λ tests. loop_stands x run (all_stand body) (fixed once cs sorts (matching_in n tests st)) st h)
  step_stands (open'.ForRows x y body) st h = loop_stands x (all_of (map (does tables) (map (λ p. p.0) body))) (all_stand body) (turns_at st.env y) st h
  step_stands (open'.Branch e ys ns) st h = branch_stands e (all_of (map (does tables) (map (λ p. p.0) ys))) (all_of (map (does tables) (map (λ p. p.0) ns))) (all_stand ys) (all_stand ns) st h
  step_stands (open'.Insert n es) st h = itself_stands (open'.Insert n es) st h
  step_stands (open'.Update n items conds) st h = itself_stands (open'.Update n items conds) st h
  step_stands (open'.Delete n conds) st h = itself_stands (open'.Delete n conds) st h
  step_stands (open'.Print es) st h = itself_stands (open'.Print es) st h
  step_stands (open'.Rollback reason) st h = tt

  rolled : (x : open'.RStmt-F RStmt) (y : open'.RStmt-F Known) → map-RStmt Known RStmt (λ p. p.0) y ≡ x → Claim (roll-RStmt x)
  rolled x y is =
      let d = map-RStmt Known RStmt (λ p. p.0) y in
      subst (λ z. Claim (roll-RStmt z)) is
      (λ st h. subst (λ (f : Does). IfOk (f st) (λ (next : State). ReferencesStand tables next.tables)) (sym (fold-roll-RStmt Does (stmt_step tables) d)) (step_stands y st h))

  does_stands : (s : RStmt) → Claim s
  does_stands = ind-RStmt Claim rolled

  alone_stands : (ss : List RStmt) (st : State) → ReferencesStand tables st.tables → IfOk (alone tables ss st) (λ (next : State). ReferencesStand tables next.tables)
  alone_stands [] st h = h
  alone_stands (s ∷ ss) st h =
      then_ok (does tables s st) (alone tables ss) (λ (next : State). ReferencesStand tables next.tables) (λ (next : State). ReferencesStand tables next.tables) (does_stands s st h) (λ st' h'. alone_stands ss st' h')

-- Calls

left_stands : (tables : List TableInfo) (db : Tables) (out : Result State End) → ReferencesStand tables db → IfOk out (λ (next : State). ReferencesStand tables next.tables) → ReferencesStand tables (tables_left db out)
left_stands tables db (Ok st) h k = k
left_stands tables db (Err e) h k = h

module _ (p : Program) where
  in_stands : (o : Option ProcInfo) (call : Call) (db : Tables) → ReferencesStand p.resolved.tables db → IfOk (result_in p o call db) (λ (next : State). ReferencesStand p.resolved.tables next.tables)
  in_stands None call db h = h
  in_stands (Some proc) call db h = alone_stands p.resolved.tables proc.body (begun proc call db) h

  at_stands : (o : Option Call) (db : Tables) → ReferencesStand p.resolved.tables db → IfOk (result_at p o db) (λ (next : State). ReferencesStand p.resolved.tables next.tables)
  at_stands None db h = h
  at_stands (Some call) db h = in_stands (slice_get p.resolved.procedures call.procedure) call db h

  after_stands : ReferencesStand p.resolved.tables p.opening → (order : List ℕ) (k : ℕ) → ReferencesStand p.resolved.tables (table_after p order k)
  after_stands h order zero = h
  after_stands h order (suc k) =
      let db = table_after p order k in
      let before = after_stands h order k in
      left_stands p.resolved.tables db (result_of p (slice_index order k) db) before (at_stands (slice_get p.resolved.calls (slice_index order k)) db before)

pub calls_keep : CallsKeepReferences
calls_keep p h order k = after_stands p h order k

-- Statements that change no table leave the database as it is.
use Rattle.std.proofs.Common.{◌≡◌, ℕ, Bool, true, false, List, [], ◌∷◌, Option, Result, Ok, Err, map, if◌then◌else◌, refl, sym, ap, subst, ◌∙◌}
use Rattle.std.specs.Prelude.{◌||◌}
use Rattle.mv_values.specs.declared.value.Value.{Value}
use Rattle.mv_values.specs.declared.pred.Test.{Test}
use Rattle.mv_values.specs.declared.schema.TableInfo.{TableInfo}
use Rattle.mv_values.specs.declared.calls.End.{End}
use Rattle.mv_values.specs.Tables.{Tables, key_columns}
use Rattle.mv_values.specs.Columns.{number}
use Rattle.mv_catalog.specs.declared.resolved.RExpr.{RExpr}
use Rattle.mv_catalog.specs.declared.resolved.RCond.{RCond}
use Rattle.mv_catalog.specs.declared.resolved.RSort.{RSort}
use Rattle.mv_catalog.specs.declared.resolved.RAgg.{RAgg}
use Rattle.mv_catalog.specs.declared.resolved.RStmt.{RStmt, roll-RStmt, map-RStmt, ind-RStmt, fold-roll-RStmt}
use Rattle.mv_catalog.specs.declared.resolved.RStmt.TheOpen.{RStmt-F, Assign, Select, Total, ForSelect, ForRows, Branch, Insert, Update, Delete, Print, Rollback}
use Rattle.mv_catalog.specs.Statements.{any, changes_step, may_change, any_change}
use Rattle.mv_eval.specs.declared.state.State.{State}
use Rattle.mv_eval.specs.declared.state.Content.TheVariants.{Turn}
use Rattle.mv_eval.specs.Results.{then_do}
use Rattle.mv_eval.specs.Env.{with_held, with_found, turns_at}
use Rattle.mv_eval.specs.Rows.{is_some_row, ordered, item_at, aggregate, tests_of}
use Rattle.mv_eval.specs.Value.{value_of, is_so}
use Rattle.mv_eval.specs.Alone.{Does, all_of, each_turn, is_turn, loop_over, matching_in, offset_of, with_selected, totalled, fixed, select, sum_up, for_select, stmt_step, does, alone}
use Rattle.mv_eval.specs.TableAfter.{begun, tables_left}
use Rattle.mv_recorded.specs.Laws.{ReadersChangeNothing}

-- what goes through leaves the database as it was
abbrev Keeps : Does → Type 0
Keeps d = (st next : State) → d st ≡ Ok next → next.tables ≡ st.tables

kept : (now next : State) → ◌≡◌ {A = Result State End} (Ok now) (Ok next) → next.tables ≡ now.tables
kept now next h = let same : now ≡ next = cc in ap (λ (s : State). s.tables) (sym same)

then_kept : {A : Type 0} (r : Result A End) (go : A → Result State End) (old : Tables) (next : State) → ((x : A) → go x ≡ Ok next → next.tables ≡ old) → then_do r go ≡ Ok next → next.tables ≡ old
then_kept (Ok x) go old next h k = h x k
then_kept (Err e) go old next h k = cc

abbrev AllKeep : List Does → Type 0
AllKeep [] = Unit {0}
AllKeep (d ∷ ds) = Keeps d × AllKeep ds

-- one after another
next_kept : (r : Result State End) (go : Does) (old : Tables) (next : State) → ((mid : State) → r ≡ Ok mid → mid.tables ≡ old) → Keeps go → then_do r go ≡ Ok next → next.tables ≡ old
next_kept (Ok mid) go old next first h k = h mid next k ∙ first mid refl
next_kept (Err e) go old next first h k = cc

all_keep : (ds : List Does) → AllKeep ds → Keeps (all_of ds)
all_keep [] h st next k = kept st next k
all_keep (d ∷ ds) h st next k = next_kept (d st) (all_of ds) st.tables next (λ mid e. h.0 st mid e) (all_keep ds h.1) k

turns_keep : (x : ℕ) (body : Does) (rows : List (List Value)) → Keeps body → Keeps (each_turn x body rows)
turns_keep x body [] h st next k = kept st next k
turns_keep x body (row ∷ rows) h st next k =
    let now : State = record st { env = with_held st.env x (Turn row) } in
    next_kept (body now) (each_turn x body rows) st.tables next (λ mid e. h now mid e) (turns_keep x body rows h) k

loop_keeps : (x : ℕ) (body : Does) (rows : List (List Value)) → Keeps body → Keeps (loop_over x body rows)
loop_keeps x body rows h st next k = turns_keep x body rows h (record st { env = with_found st.env (is_turn rows) }) next k

one_keeps : (b : Bool) (ys ns : Does) (st next : State) → Keeps ys → Keeps ns → (if b then ys st else ns st) ≡ Ok next → next.tables ≡ st.tables
one_keeps true ys ns st next h g k = h st next k
one_keeps false ys ns st next h g k = g st next k

select_keeps : (tables : List TableInfo) (cs xs : List ℕ) (t : ℕ) (conds : List RCond) (sorts : List RSort) (offset : Option RExpr) → Keeps (select tables cs xs t conds sorts offset)
select_keeps tables cs xs t conds sorts offset st next k =
    let found : List Test → Value → State = λ tests n. record st { env = with_selected cs xs (item_at (ordered sorts (matching_in t tests st)) (number n)) st.env } in
    then_kept (tests_of (key_columns tables t) conds st.env) (λ tests. then_do (offset_of offset st.env) (λ n. Ok (found tests n))) st.tables next
    (λ tests g. then_kept (offset_of offset st.env) (λ n. Ok (found tests n)) st.tables next (λ n f. kept (found tests n) next f) g) k

sum_up_keeps : (tables : List TableInfo) (agg : RAgg) (x t : ℕ) (conds : List RCond) → Keeps (sum_up tables agg x t conds)
sum_up_keeps tables agg x t conds st next k =
    let found : List Test → Option Value → State = λ tests v. record st { env = with_found (totalled x v st.env) (is_some_row (matching_in t tests st)) } in
    then_kept (tests_of (key_columns tables t) conds st.env) (λ tests. then_do (aggregate agg (matching_in t tests st)) (λ v. Ok (found tests v))) st.tables next
    (λ tests g. then_kept (aggregate agg (matching_in t tests st)) (λ v. Ok (found tests v)) st.tables next (λ v f. kept (found tests v) next f) g) k

for_select_keeps : (tables : List TableInfo) (x : ℕ) (once : Bool) (cs : List ℕ) (t : ℕ) (conds : List RCond) (sorts : List RSort) (body : Does) → Keeps body → Keeps (for_select tables x once cs t conds sorts body)
for_select_keeps tables x once cs t conds sorts body h st next k =
    then_kept (tests_of (key_columns tables t) conds st.env) (λ tests. loop_over x body (fixed once cs sorts (matching_in t tests st)) st) st.tables next
    (λ tests g. loop_keeps x body (fixed once cs sorts (matching_in t tests st)) h st next g) k

none_left : (a b : Bool) → (a || b) ≡ false → a ≡ false
none_left true b h = cc
none_left false b h = refl

none_right : (a b : Bool) → (a || b) ≡ false → b ≡ false
none_right true b h = cc
none_right false b h = h

module _ (tables : List TableInfo) where
  abbrev Quiet : RStmt → Type 0
  Quiet s = may_change s ≡ false → Keeps (does tables s)

  abbrev Known : Type 0
  Known = (s : RStmt) × Quiet s

  abbrev plain : List Known → List RStmt
  plain ks = map (λ k. k.0) ks

  all_quiet : (ks : List Known) → any (map may_change (plain ks)) ≡ false → AllKeep (map (does tables) (plain ks))
  all_quiet [] h = tt
  all_quiet (k ∷ ks) h =
      (k.1 (none_left (may_change k.0) (any (map may_change (plain ks))) h), all_quiet ks (none_right (may_change k.0) (any (map may_change (plain ks))) h))

  step_quiet : (y : RStmt-F Known) → let d = map-RStmt Known RStmt (λ k. k.0) y in
      changes_step (map-RStmt RStmt Bool may_change d) ≡ false → Keeps (stmt_step tables (map-RStmt RStmt Does (does tables) d))
  step_quiet (Assign x e) h st next k = then_kept _ _ st.tables next (λ v g. kept _ next g) k
  step_quiet (Select cs xs t conds sorts offset) h st next k = select_keeps tables cs xs t conds sorts offset st next k
  step_quiet (Total agg x t conds) h st next k = sum_up_keeps tables agg x t conds st next k
  step_quiet (ForSelect x once cs t conds sorts body) h st next k =
      for_select_keeps tables x once cs t conds sorts (all_of (map (does tables) (plain body))) (all_keep (map (does tables) (plain body)) (all_quiet body h)) st next k
  step_quiet (ForRows x y body) h st next k = loop_keeps x (all_of (map (does tables) (plain body))) (turns_at st.env y) (all_keep (map (does tables) (plain body)) (all_quiet body h)) st next k
  step_quiet (Branch e ys ns) h st next k =
      let first = any (map may_change (plain ys)) in
      let second = any (map may_change (plain ns)) in
      then_kept (value_of e st.env []) _ st.tables next (λ v g. one_keeps (is_so v) (all_of (map (does tables) (plain ys))) (all_of (map (does tables) (plain ns))) st next
      (all_keep (map (does tables) (plain ys)) (all_quiet ys (none_left first second h))) (all_keep (map (does tables) (plain ns)) (all_quiet ns (none_right first second h))) g) k
  step_quiet (Insert t es) h st next k = cc
  step_quiet (Update t items conds) h st next k = cc
  step_quiet (Delete t conds) h st next k = cc
  step_quiet (Print es) h st next k = then_kept _ _ st.tables next (λ vs g. kept _ next g) k
  step_quiet (Rollback reason) h st next k = cc

  rolled_quiet : (x : RStmt-F RStmt) (y : RStmt-F Known) → map-RStmt Known RStmt (λ k. k.0) y ≡ x → Quiet (roll-RStmt x)
  rolled_quiet x y is =
      let d = map-RStmt Known RStmt (λ k. k.0) y in
      subst (λ z. Quiet (roll-RStmt z)) is (λ h. subst Keeps (sym (fold-roll-RStmt Does (stmt_step tables) d)) (step_quiet y (sym (fold-roll-RStmt Bool changes_step d) ∙ h)))

  quiet : (s : RStmt) → Quiet s
  quiet = ind-RStmt Quiet rolled_quiet

  body_keeps : (ss : List RStmt) → any_change ss ≡ false → AllKeep (map (does tables) ss)
  body_keeps [] h = tt
  body_keeps (s ∷ ss) h = (quiet s (none_left (may_change s) (any_change ss) h), body_keeps ss (none_right (may_change s) (any_change ss) h))

  left_kept : (r : Result State End) (db : Tables) → ((next : State) → r ≡ Ok next → next.tables ≡ db) → tables_left db r ≡ db
  left_kept (Ok next) db h = h next refl
  left_kept (Err e) db h = refl

pub readers_change_nothing : ReadersChangeNothing
readers_change_nothing tables proc call db is reads =
    left_kept tables (alone tables proc.body (begun proc call db)) db (λ next k. all_keep (map (does tables) proc.body) (body_keeps tables proc.body (is.reads reads)) (begun proc call db) next k)

-- A record tells the whole effect of its statement.
use Rattle.std.proofs.Common.{◌≡◌, ◌≤◌, inl, inr, ℕ, ℤ, pos, Bool, true, false, ◌||◌, List, [], ◌∷◌, ◌++◌, Option, Some, None, Result, Ok, Err, length, option_to_list, refl, sym, ap, subst, ◌∙◌, arith, append-nil}
use Rattle.std.proofs.lemmas.List.{length-map}
use Rattle.std.proofs.lemmas.List.Elements.{length_all_zip}
use Rattle.std.specs.Option.{is_some}
use Rattle.std.specs.Result.{result_ok, result_err}
use Rattle.mv_record.proofs.Rising.{rises_from}
use Rattle.mv_values.specs.References.{references, references_to}
use Rattle.mv_values.specs.declared.calls.End.TheVariants.{MissingParent, HasChildren}
use Rattle.mv_eval.specs.References.{has_parents, has_children, fit_in}
use Rattle.mv_eval.proofs.Standing.{goes_to, whenever, unless}
use Rattle.mv_eval.specs.Line.{line_of}
use Rattle.mv_values.specs.declared.value.Value.{Value}
use Rattle.mv_values.specs.declared.rows.Keyed.{Keyed}
use Rattle.mv_values.specs.declared.schema.TableInfo.{TableInfo}
use Rattle.mv_values.specs.declared.calls.End.{End}
use Rattle.mv_values.specs.Columns.{column_of, columns_of, number}
use Rattle.mv_values.specs.Keys.{IsRising}
use Rattle.mv_values.specs.Patching.{applied}
use Rattle.mv_values.specs.Tables.{rows_at, key_columns, columns_at}
use Rattle.mv_catalog.specs.declared.resolved.RAgg.{RAgg}
use Rattle.mv_catalog.specs.declared.resolved.RAgg.TheVariants.{CountAll, CountDistinct, Sum, Min, Max}
use Rattle.mv_catalog.specs.Statements.{Well, stmt_step}
use Rattle.mv_catalog.specs.Types.{Vars}
use Rattle.mv_catalog.specs.declared.resolved.RStmt.{RStmt}
use Rattle.mv_catalog.specs.declared.resolved.RStmt.TheOpen.{RStmt-F, Assign, Select, Total, ForSelect, ForRows, Branch, Insert, Update, Delete, Print, Rollback}
use Rattle.mv_eval.specs.declared.state.Env.{Env}
use Rattle.mv_eval.specs.declared.state.State.{State}
use Rattle.mv_eval.specs.Results.{then_do}
use Rattle.mv_eval.specs.Env.{scalar_at, turns_at, with_value, with_values, with_found, truth}
use Rattle.mv_eval.specs.Value.{value_of, values_of, fitted, is_so}
use Rattle.mv_eval.specs.Rows.{aggregate, total, sum_of, distinct, projected, column, is_some_row, ordered, item_at, tests_of}
use Rattle.mv_eval.specs.Changes.{new_row, put_row, keyed, updated, set_row_by, without}
use Rattle.mv_eval.specs.Alone.{matching_in, offset_of, with_selected, totalled, is_turn, with_rows}
use Rattle.mv_record.specs.declared.record.Record.{Record}
use Rattle.mv_recorded.specs.Asking.{on}
use Rattle.mv_recorded.specs.Doing.{itself, fixed_rows, before_turns, writes_of, printed_line, gives_always, when, set_variables, sets_of}
use Rattle.mv_recorded.specs.Effect.{with_slots, behind, TellsEffect, HasColumns}
use Rattle.mv_recorded.specs.Reading.{each_once}
use Rattle.mv_recorded.specs.Recorded.{Site, own_record}
use Rattle.mv_recorded.specs.Effects.{slots_behind}
use Rattle.mv_recorded.proofs.Slots.{is_set, stays_set, all_stay_set, values_set, absorbed, all_absorbed, nothing_new, last_within, all_within_once, once_and_last_set, set_has}
use Rattle.mv_recorded.proofs.Telling.{TellsOf, tells_own}
use Rattle.mv_recorded.proofs.Leading.{LeadsTo, leads_own}

state_ok : {s next : State} → ◌≡◌ {A = Result State End} (Ok s) (Ok next) → s ≡ next
state_ok h = cc

-- Variables

-- what is set behind these variables are their values
abbrev SetsAll : Env → List ℕ → Env → Type 0
SetsAll env xs next = next ≡ with_slots (slots_behind next xs) env

one_set : (env : Env) (x : ℕ) (v : Value) → SetsAll env (x ∷ []) (with_value env x v)
one_set env x v =
    let next : Env = with_value env x v in
    sym (nothing_new next (x ∷ []) (is_set env x v, tt)) ∙ absorbed env next x v (x ∷ []) (inl refl)

two_set : (env : Env) (x y : ℕ) (v w : Value) → SetsAll env (x ∷ y ∷ []) (with_value (with_value env x v) y w)
two_set env x y v w =
    let first : Env = with_value env x v in
    let next : Env = with_value first y w in
    sym (nothing_new next (x ∷ y ∷ []) (stays_set first x y w (is_set env x v), (is_set first y w, tt)))
    ∙ (absorbed first next y w (x ∷ y ∷ []) (inr (inl refl)) ∙ absorbed env next x v (x ∷ y ∷ []) (inl refl))

-- targets in order, and then one more
many_set : (env : Env) (xs : List ℕ) (vs : List Value) (y : ℕ) (w : Value) → length xs ≤ length vs
    → SetsAll env (each_once xs ++ y ∷ []) (with_value (with_values env xs vs) y w)
many_set env xs vs y w le =
    let first : Env = with_values env xs vs in
    let next : Env = with_value first y w in
    let all : List ℕ = each_once xs ++ y ∷ [] in
    sym (nothing_new next all (once_and_last_set next xs y (all_stay_set first xs y w (values_set env xs vs le)) (is_set first y w)))
    ∙ (absorbed first next y w all (last_within y (each_once xs)) ∙ all_absorbed env next xs vs all (all_within_once xs xs (y ∷ []) (λ x h. h)))

truth_is_so : (b : Bool) → is_so (truth b) ≡ b
truth_is_so true = refl
truth_is_so false = refl

pub found_is : (env : Env) (b : Bool) → is_so (scalar_at (with_found env b) env.found) ≡ b
found_is env b = ap is_so (set_has env env.found (truth b)) ∙ truth_is_so b

-- what a SELECT sets
taken_sets : (env : Env) (cs xs : List ℕ) (item : Option Keyed) → length xs ≤ length cs
    → SetsAll env (when (is_so (scalar_at (with_selected cs xs item env) (with_selected cs xs item env).found)) (each_once xs) ++ (with_selected cs xs item env).found ∷ []) (with_selected cs xs item env)
taken_sets env cs xs None le =
    subst (λ b. SetsAll env (when b (each_once xs) ++ env.found ∷ []) (with_found env false)) (sym (found_is env false)) (one_set env env.found (truth false))
taken_sets env cs xs (Some item) le =
    let vs : List Value = columns_of item.row cs in
    let first : Env = with_values env xs vs in
    subst (λ b. SetsAll env (when b (each_once xs) ++ first.found ∷ []) (with_found first true)) (sym (found_is first true))
    (many_set env xs vs first.found (truth true) (omega (arith, le, length-map cs (column_of item.row))))

-- what an aggregate sets
total_sets : (env : Env) (x : ℕ) (o : Option Value) (always some : Bool) → is_some o ≡ (always || some)
    → SetsAll env (when (always || is_so (scalar_at (with_found (totalled x o env) some) (totalled x o env).found)) (x ∷ []) ++ (totalled x o env).found ∷ []) (with_found (totalled x o env) some)
total_sets env x None always some h =
    subst (λ b. SetsAll env (when b (x ∷ []) ++ env.found ∷ []) (with_found env some)) (h ∙ ap (λ b. always || b) (sym (found_is env some)))
    (one_set env env.found (truth some))
total_sets env x (Some v) always some h =
    subst (λ b. SetsAll env (when b (x ∷ []) ++ env.found ∷ []) (with_found (with_value env x v) some)) (h ∙ ap (λ b. always || b) (sym (found_is (with_value env x v) some)))
    (two_set env x env.found v (truth some))

option_ok : {o p : Option Value} → ◌≡◌ {A = Result (Option Value) End} (Ok o) (Ok p) → o ≡ p
option_ok h = cc

total_some : (z : ℤ) (o : Option Value) → total z ≡ Ok o → is_some o ≡ true
total_some z o h = let v = goes_to (fitted z) _ o h in ap is_some (sym (option_ok v.2))

-- MIN and MAX give nothing for no rows, the others always something
pub gives : (agg : RAgg) (rows : List Keyed) (o : Option Value) → aggregate agg rows ≡ Ok o → is_some o ≡ (gives_always agg || is_some_row rows)
gives CountAll rows o h = total_some (pos (length rows)) o h
gives (CountDistinct c) rows o h = total_some (pos (length (distinct (projected (c ∷ []) rows)))) o h
gives (Sum c) rows o h = total_some (sum_of (column c rows)) o h
gives (Min c) [] o h = ap is_some (sym (option_ok h))
gives (Min c) (row ∷ rows) o h = ap is_some (sym (option_ok h))
gives (Max c) [] o h = ap is_some (sym (option_ok h))
gives (Max c) (row ∷ rows) o h = ap is_some (sym (option_ok h))

found_set : (env : Env) (b : Bool) → SetsAll env (env.found ∷ []) (with_found env b)
found_set env b = one_set env env.found (truth b)

env_told : {X : Type 0} (tables : List TableInfo) (y : RStmt-F X) (st next : State) → HasColumns y → itself tables y st ≡ Ok next → SetsAll st.env (set_variables y next) next.env
env_told tables (Assign x e) st next has h =
    let v = goes_to (value_of e st.env []) _ next h in
    subst (λ n. SetsAll st.env (x ∷ []) n.env) (state_ok v.2) (one_set st.env x v.0)
env_told {X} tables (Select cs xs t conds sorts offset) st next has h =
    let tests = goes_to (tests_of (key_columns tables t) conds st.env) _ next h in
    let at = goes_to (offset_of offset st.env) _ next tests.2 in
    subst (λ n. SetsAll st.env (set_variables {X = X} (Select cs xs t conds sorts offset) n) n.env) (state_ok at.2)
    (taken_sets st.env cs xs (item_at (ordered sorts (matching_in t tests.0 st)) (number at.0)) has)
env_told {X} tables (Total agg x t conds) st next has h =
    let tests = goes_to (tests_of (key_columns tables t) conds st.env) _ next h in
    let v = goes_to (aggregate agg (matching_in t tests.0 st)) _ next tests.2 in
    subst (λ n. SetsAll st.env (set_variables {X = X} (Total agg x t conds) n) n.env) (state_ok v.2)
    (total_sets st.env x v.0 (gives_always agg) (is_some_row (matching_in t tests.0 st)) (gives agg (matching_in t tests.0 st) v.0 v.1))
env_told tables (ForSelect x once cs t conds sorts body) st next has h =
    let rows = goes_to (fixed_rows tables (ForSelect x once cs t conds sorts body) st) _ next h in
    subst (λ n. SetsAll st.env (n.env.found ∷ []) n.env) (state_ok rows.2) (found_set st.env (is_turn rows.0))
env_told tables (ForRows x y body) st next has h =
    subst (λ n. SetsAll st.env (n.env.found ∷ []) n.env) (state_ok h) (found_set st.env (is_turn (turns_at st.env y)))
env_told tables (Branch e ys ns) st next has h =
    let v = goes_to (value_of e st.env []) _ next h in
    subst (λ n. SetsAll st.env [] n.env) (state_ok v.2) refl
env_told tables (Insert t es) st next has h =
    let row = goes_to (new_row (columns_at tables t) es st.env) _ next h in
    let rows = goes_to (put_row (keyed (key_columns tables t) row.0) (rows_at st.tables t)) _ next row.2 in
    let all = whenever (has_parents (references tables t) (keyed (key_columns tables t) row.0) st.tables) MissingParent (with_rows t rows.0 true st) next rows.2 in
    subst (λ n. SetsAll st.env (n.env.found ∷ []) n.env) (state_ok all) (found_set st.env true)
env_told tables (Update t items conds) st next has h =
    let tests = goes_to (tests_of (key_columns tables t) conds st.env) _ next h in
    let rows = goes_to (updated (λ row. set_row_by (fit_in tables t st.tables) (key_columns tables t) st.env row items row) tests.0 (rows_at st.tables t)) _ next tests.2 in
    subst (λ n. SetsAll st.env (n.env.found ∷ []) n.env) (state_ok rows.2) (found_set st.env (is_some_row (matching_in t tests.0 st)))
env_told tables (Delete t conds) st next has h =
    let tests = goes_to (tests_of (key_columns tables t) conds st.env) _ next h in
    let none = unless (has_children (references_to tables t) t tests.0 st.tables (matching_in t tests.0 st)) HasChildren (with_rows t (without tests.0 (rows_at st.tables t)) (is_some_row (matching_in t tests.0 st)) st) next tests.2 in
    subst (λ n. SetsAll st.env (n.env.found ∷ []) n.env) (state_ok none) (found_set st.env (is_some_row (matching_in t tests.0 st)))
env_told tables (Print es) st next has h =
    let vs = goes_to (values_of es st.env) _ next h in
    subst (λ n. SetsAll st.env [] n.env) (state_ok vs.2) refl
env_told tables (Rollback reason) st next has h = cc

-- All of it

abbrev state : Env → List (List Keyed) → List (List ℕ) → State
state env tables lines = record { env = env; tables = tables; lines = lines }

same_state : (a b : State) → a.env ≡ b.env → a.tables ≡ b.tables → a.lines ≡ b.lines → a ≡ b
same_state a b e t l = ap (λ v. state v a.tables a.lines) e ∙ (ap (λ v. state b.env v a.lines) t ∙ ap (λ v. state b.env b.tables v) l)

-- the record of a statement that goes on makes the state behind it of the one before it
pub effect_told : {X : Type 0} (tables : List TableInfo) (params : ℕ) (y : RStmt-F X) (n : ℕ) (site : Site) (before : List Record) (st next : State) → HasColumns y
    → ((t : ℕ) → IsRising (rows_at st.tables t)) → itself tables y st ≡ Ok next → next ≡ behind (own_record tables params y n site before st) st
effect_told tables params y n site before st next has rise h =
    let own : Record = own_record tables params y n site before st in
    let sets : own.sets ≡ sets_of y next = ap (λ out. on out (λ s. sets_of y s)) h in
    let told : TellsOf st (own ∷ []) (Ok next) = subst (TellsOf st (own ∷ [])) h (tells_own tables params y n site before st) in
    let leads : LeadsTo st (own ∷ []) (Ok next) = subst (LeadsTo st (own ∷ [])) h (leads_own tables params y n site before st) in
    same_state next (behind own st)
    (env_told tables y st next has h ∙ ap (λ ss. with_slots ss st.env) (sym sets))
    ((leads (λ t. rises_from (rows_at st.tables t) (rise t))).0 ∙ ap (λ ws. applied ws st.tables) (append-nil own.writes))
    (told.1 ∙ ap (λ ls. st.lines ++ ls) (append-nil (option_to_list own.line)))

-- Where it ends

no_line : {X : Type 0} (tables : List TableInfo) (y : RStmt-F X) (st : State) (e : End) → itself tables y st ≡ Err e → printed_line y st ≡ None
no_line tables (Print es) st e h = by_values (values_of es st.env) h
  where
    by_values : (vs : Result (List Value) End) → then_do vs (λ vs. Ok (record st { lines = st.lines ++ line_of vs ∷ [] })) ≡ Err e → result_ok (then_do vs (λ vs. Ok (line_of vs))) ≡ None
    by_values (Ok vs) k = cc
    by_values (Err f) k = refl
no_line tables y st e h = refl

no_rows : {X : Type 0} (tables : List TableInfo) (y : RStmt-F X) (st : State) (e : End) → itself tables y st ≡ Err e → on (fixed_rows tables y st) (λ rows. rows) ≡ []
no_rows tables (ForSelect x once cs t conds sorts body) st e h = by_rows (fixed_rows tables (ForSelect x once cs t conds sorts body) st) h
  where
    by_rows : (rows : Result (List (List Value)) End) → before_turns rows st ≡ Err e → on rows (λ rows. rows) ≡ []
    by_rows (Ok rows) k = cc
    by_rows (Err f) k = refl
no_rows tables (ForRows x y body) st e h = cc
no_rows tables y st e h = refl

-- the record tells where its statement leads
pub effect_known : {X : Type 0} (tables : List TableInfo) (params : ℕ) (y : RStmt-F X) (n : ℕ) (site : Site) (before : List Record) (st : State) → HasColumns y
    → ((t : ℕ) → IsRising (rows_at st.tables t)) → TellsEffect (own_record tables params y n site before st) st (itself tables y st)
effect_known tables params y n site before st has rise = by_outcome (itself tables y st) refl
  where
    by_outcome : (out : Result State End) → itself tables y st ≡ out → TellsEffect (own_record tables params y n site before st) st out
    by_outcome (Ok next) h = (ap result_err h, effect_told tables params y n site before st next has rise h)
    by_outcome (Err e) h = record {
      sets = ap (λ out. on out (λ next. sets_of y next)) h;
      rows = no_rows tables y st e h;
      writes = ap (λ out. on out (λ next. writes_of tables y st)) h;
      line = no_line tables y st e h;
      end = ap result_err h;
    }

-- a well formed statement has a column for each target
pub columns_there : {X : Type 0} (tables : List TableInfo) (v : X → RStmt) (well : X → Well) (y : RStmt-F X) (vars : Vars) → stmt_step tables X v well y vars → HasColumns y
columns_there tables v well (Select cs xs t conds sorts offset) vars h = let same = length_all_zip _ cs xs h.0.2.0 in omega (arith, same)
columns_there tables v well y vars h = tt

-- The effect of a statement itself, without the statements it contains: an IF only evaluates its condition, a FOR only
-- fixes its rows.
use Rattle.std.specs.Prelude.{ℕ, Bool, true, false, ◌||◌, List, [], ◌∷◌, ◌++◌, Option, None, Result, Ok, Err, map}
use Rattle.std.specs.List.{flat_map}
use Rattle.std.specs.Result.{result_ok, result_err}
use Rattle.mv_values.specs.declared.value.Value.{Value}
use Rattle.mv_values.specs.declared.patch.Patch.{Patch}
use Rattle.mv_values.specs.declared.patch.Patch.TheVariants as patch
use Rattle.mv_values.specs.declared.patch.Write.{Write}
use Rattle.mv_values.specs.declared.schema.TableInfo.{TableInfo}
use Rattle.mv_values.specs.declared.calls.End.{End}
use Rattle.mv_values.specs.declared.calls.End.TheVariants.{Own}
use Rattle.mv_values.specs.Columns.{column_of, columns_of}
use Rattle.mv_values.specs.Tables.{key_columns, columns_at}
use Rattle.mv_catalog.specs.declared.resolved.RAgg.{RAgg}
use Rattle.mv_catalog.specs.declared.resolved.RAgg.TheVariants.{CountAll, CountDistinct, Sum, Min, Max}
use Rattle.mv_catalog.specs.declared.resolved.RSetItem.{RSetItem}
use Rattle.mv_catalog.specs.declared.resolved.RStmt.TheOpen.{RStmt-F, Assign, Select, Total, ForSelect, ForRows, Branch, Insert, Update, Delete, Print, Rollback}
use Rattle.mv_eval.specs.declared.state.State.{State}
use Rattle.mv_eval.specs.Results.{then_do}
use Rattle.mv_eval.specs.Env.{scalar_at, with_found, turns_at}
use Rattle.mv_eval.specs.Value.{value_of, values_of, is_so}
use Rattle.mv_eval.specs.Rows.{tests_of}
use Rattle.mv_eval.specs.Changes.{new_row, set_row_by}
use Rattle.mv_eval.specs.References.{fit_in}
use Rattle.mv_eval.specs.Line.{line_of}
use Rattle.mv_eval.specs.Alone.{matching_in, fixed, is_turn, assign, select, sum_up, insert, update, delete, print}
use Rattle.mv_record.specs.declared.record.Slot.{Slot}
use Rattle.mv_record.specs.declared.effect.Effect.{Effect}
use Rattle.mv_recorded.specs.Reading.{each_once}
use Rattle.mv_recorded.specs.Asking.{on, preds_of}

-- the rows that a FOR iterates over
abbrev pub fixed_rows : {X : Type 0} → List TableInfo → RStmt-F X → State → Result (List (List Value)) End
fixed_rows tables (ForSelect x once cs t conds sorts body) st = then_do (tests_of (key_columns tables t) conds st.env) (λ tests. Ok (fixed once cs sorts (matching_in t tests st)))
fixed_rows tables (ForRows x y body) st = Ok (turns_at st.env y)
fixed_rows tables s st = Ok []

-- `:found` tells whether there is an iteration
abbrev pub before_turns : Result (List (List Value)) End → State → Result State End
before_turns fixed st = then_do fixed (λ rows. Ok (record st { env = with_found st.env (is_turn rows) }))

-- the state after a statement itself, or its end
abbrev pub itself : {X : Type 0} → List TableInfo → RStmt-F X → State → Result State End
itself tables (Assign x e) st = assign x e st
itself tables (Select cs xs t conds sorts offset) st = select tables cs xs t conds sorts offset st
itself tables (Total agg x t conds) st = sum_up tables agg x t conds st
itself tables (ForSelect x once cs t conds sorts body) st = before_turns (fixed_rows tables (ForSelect x once cs t conds sorts body) st) st
itself tables (ForRows x y body) st = before_turns (fixed_rows tables (ForRows x y body) st) st
itself tables (Branch e ys ns) st = then_do (value_of e st.env []) (λ v. Ok st)
itself tables (Insert t es) st = insert tables t es st
itself tables (Update t items conds) st = update tables t items conds st
itself tables (Delete t conds) st = delete tables t conds st
itself tables (Print es) st = print es st
itself tables (Rollback reason) st = Err (Own reason)

-- Variables

-- whether a row was found
abbrev pub is_found : State → Bool
is_found st = is_so (scalar_at st.env st.env.found)

-- COUNT and SUM return a number even for no rows
abbrev pub gives_always : RAgg → Bool
gives_always CountAll = true
gives_always (CountDistinct c) = true
gives_always (Sum c) = true
gives_always (Min c) = false
gives_always (Max c) = false

abbrev pub when : Bool → List ℕ → List ℕ
when true xs = xs
when false xs = []

-- the variables that a statement has set, given the state after it: targets in the order of the text, then `:found`
abbrev pub set_variables : {X : Type 0} → RStmt-F X → State → List ℕ
set_variables (Assign x e) st = x ∷ []
set_variables (Select cs xs t conds sorts offset) st = when (is_found st) (each_once xs) ++ st.env.found ∷ []
set_variables (Total agg x t conds) st = when (gives_always agg || is_found st) (x ∷ []) ++ st.env.found ∷ []
set_variables (ForSelect x once cs t conds sorts body) st = st.env.found ∷ []
set_variables (ForRows x y body) st = st.env.found ∷ []
set_variables (Branch e ys ns) st = []
set_variables (Insert t es) st = st.env.found ∷ []
set_variables (Update t items conds) st = st.env.found ∷ []
set_variables (Delete t conds) st = st.env.found ∷ []
set_variables (Print es) st = []
set_variables (Rollback reason) st = []

-- these variables with their values after the statement
abbrev pub sets_of : {X : Type 0} → RStmt-F X → State → List Slot
sets_of s st = map (λ x. record { slot = x; value = scalar_at st.env x }) (set_variables s st)

-- Rows

abbrev pub write : ℕ → List Value → Patch → Write
write t key p = record { table = t; key = key; patch = p }

-- the columns of SET, with their values in the row after it
abbrev pub set_patch : List RSetItem → List Value → Patch
set_patch items row = patch.Set (map (λ i. record { column = i.column; value = column_of row i.column }) items)

-- the writes of a statement that doesn't fault, in key order
abbrev pub writes_of : {X : Type 0} → List TableInfo → RStmt-F X → State → List Write
writes_of tables (Insert t es) st =
    on (new_row (columns_at tables t) es st.env) (λ row. write t (columns_of row (key_columns tables t)) (patch.Insert row) ∷ [])
writes_of tables (Update t items conds) st =
    on (tests_of (key_columns tables t) conds st.env) (λ tests. flat_map (λ item.
    on (set_row_by (fit_in tables t st.tables) (key_columns tables t) st.env item.row items item.row) (λ row. write t item.key (set_patch items row) ∷ []))
    (matching_in t tests st))
writes_of tables (Delete t conds) st = on (tests_of (key_columns tables t) conds st.env) (λ tests. map (λ item. write t item.key patch.Delete) (matching_in t tests st))
writes_of tables s st = []

-- the line of a PRINT
abbrev pub printed_line : {X : Type 0} → RStmt-F X → State → Option (List ℕ)
printed_line (Print es) st = result_ok (then_do (values_of es st.env) (λ vs. Ok (line_of vs)))
printed_line s st = None

-- The whole effect

-- the effect of a statement in a state
abbrev pub effect_of : {X : Type 0} → List TableInfo → RStmt-F X → State → Effect
effect_of tables s st = record {
  preds = preds_of tables s st;
  sets = on (itself tables s st) (λ next. sets_of s next);
  rows = on (fixed_rows tables s st) (λ rows. rows);
  writes = on (itself tables s st) (λ next. writes_of tables s st);
  line = printed_line s st;
  end = result_err (itself tables s st);
}

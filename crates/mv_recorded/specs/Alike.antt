-- What the effect of a statement depends on.
use Rattle.std.specs.Prelude.{◌≡◌, ℕ, List, [], ◌∷◌}
use Rattle.std.specs.List.{flat_map}
use Rattle.mv_values.specs.declared.value.Value.{Value}
use Rattle.mv_values.specs.declared.pred.Pred.{Pred}
use Rattle.mv_values.specs.declared.rows.Keyed.{Keyed}
use Rattle.mv_values.specs.declared.schema.TableInfo.{TableInfo}
use Rattle.mv_values.specs.Columns.{column_of}
use Rattle.mv_values.specs.Patching.{found_by}
use Rattle.mv_catalog.specs.declared.resolved.RStmt.TheOpen.{ForRows}
use Rattle.mv_eval.specs.declared.state.Env.{Env}
use Rattle.mv_eval.specs.declared.state.State.{State}
use Rattle.mv_eval.specs.Env.{held_at}
use Rattle.mv_record.specs.Databases.{IsDatabaseOf}
use Rattle.mv_recorded.specs.Asking.{preds_of}
use Rattle.mv_recorded.specs.Own.{Bare, Each}
use Rattle.mv_recorded.specs.Reading.{variables, expressions}

-- the variables have equal values
abbrev pub Agree : Env → Env → List ℕ → Type 0
Agree e f xs = Each (λ x. held_at e x ≡ held_at f x) xs

-- the rows have equal values in these columns
abbrev pub AgreeIn : List Value → List Value → List ℕ → Type 0
AgreeIn a b cs = Each (λ c. column_of a c ≡ column_of b c) cs

-- the same number of rows, with equal keys and equal values in these columns
abbrev pub Alike : List ℕ → List Keyed → List Keyed → Type 0
Alike cs [] [] = Unit {0}
Alike cs (x ∷ xs) (y ∷ ys) = (x.key ≡ y.key) × AgreeIn x.row y.row cs × Alike cs xs ys
Alike cs [] (y ∷ ys) = ⊥
Alike cs (x ∷ xs) [] = ⊥

-- the tables look alike through a predicate's selected columns
abbrev pub SeenAlike : Pred → List (List Keyed) → List (List Keyed) → Type 0
SeenAlike p db new = Alike p.columns (found_by p db) (found_by p new)

-- the parameter that a FOR iterates over has the same rows
abbrev pub OverAgrees : Bare → Env → Env → Type 0
OverAgrees (ForRows x y body) e f = held_at e y ≡ held_at f y
OverAgrees s e f = Unit {0}

-- a statement reads the same in both states: its variables, and the parameter that a FOR iterates over, have equal
-- values; the rows that its predicates find have equal keys and equal values in the selected columns
pub record ReadsAlike (tables : List TableInfo) (y : Bare) (st new : State) : Type 0 where
  pub reads : Agree st.env new.env (flat_map variables (expressions y))
  pub found : st.env.found ≡ new.env.found
  pub over : OverAgrees y st.env new.env
  pub seen : Each (λ p. SeenAlike p st.tables new.tables) (preds_of tables y st)
  pub databases : IsDatabaseOf tables st.tables × IsDatabaseOf tables new.tables

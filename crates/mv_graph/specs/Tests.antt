-- The columns that the statements of a procedure test with `=`.
use Rattle.std.specs.Prelude.{◌<◌, ◌^◌, ℕ, List, [], ◌∷◌, ◌++◌, map, if◌then◌else◌}
use Rattle.std.specs.List.{flat_map}
use Rattle.mv_values.specs.Testing.{is_equality, are_tested}
use Rattle.mv_values.specs.declared.tested.Tested.{Tested}
use Rattle.mv_ast.specs.Limits.{together}
use Rattle.mv_catalog.specs.declared.resolved.ProcInfo.{ProcInfo}
use Rattle.mv_catalog.specs.declared.resolved.RCond.{RCond}
use Rattle.mv_catalog.specs.declared.resolved.RStmt.{RStmt}
use Rattle.mv_catalog.specs.declared.resolved.RStmt.TheOpen.{RStmt-F, Select, Total, ForSelect, ForRows, Branch, Update, Delete}
use Rattle.mv_catalog.specs.declared.resolved.RStmt.TheFolds.{fold-RStmt}
use Rattle.mv_recorded.specs.Own.{Each}

-- a WHERE: the number of its table, and its conditions
abbrev pub Where : Type 0
Where = ℕ × List RCond

-- the WHERE of a statement
abbrev pub own_where : {X : Type 0} → RStmt-F X → List Where
own_where (Select cs xs t conds sorts offset) = (t, conds) ∷ []
own_where (Total agg x t conds) = (t, conds) ∷ []
own_where (ForSelect x once cs t conds sorts body) = (t, conds) ∷ []
own_where (Update t items conds) = (t, conds) ∷ []
own_where (Delete t conds) = (t, conds) ∷ []
own_where s = []

-- the WHEREs of the statements that it holds
abbrev pub held_wheres : RStmt-F (List Where) → List Where
held_wheres (ForSelect x once cs t conds sorts body) = together body
held_wheres (ForRows x y body) = together body
held_wheres (Branch e ys ns) = together ys ++ together ns
held_wheres s = []

-- the WHERE of a statement, and then those of the statements that it holds
abbrev pub wheres_step : RStmt-F (List Where) → List Where
wheres_step s = own_where s ++ held_wheres s

abbrev pub wheres_in : RStmt → List Where
wheres_in = fold-RStmt (List Where) wheres_step

abbrev pub wheres_of : List RStmt → List Where
wheres_of ss = together (map wheres_in ss)

-- the columns of a table that conditions test with `=`
abbrev pub equalities : ℕ → List RCond → List Tested
equalities t [] = []
equalities t (cond ∷ conds) = if is_equality cond.op then record { table = t; column = cond.column } ∷ equalities t conds else equalities t conds

abbrev pub equalities_in : List Where → List Tested
equalities_in ws = flat_map (λ w. equalities w.0 w.1) ws

-- with one column more, unless it is there
abbrev pub with_tested : List Tested → Tested → List Tested
with_tested all x = if are_tested all x.table x.column then all else all ++ x ∷ []

-- with more columns, each once
abbrev pub with_all_tested : List Tested → List Tested → List Tested
with_all_tested all [] = all
with_all_tested all (x ∷ xs) = with_all_tested (with_tested all x) xs

-- the columns that a WHERE of a procedure tests with `=`, each once, in the order of the text
abbrev pub tested_in : ProcInfo → List Tested
tested_in proc = with_all_tested [] (equalities_in (wheres_of proc.body))

-- the number of each table has one byte
abbrev pub AreNarrow : List Where → Type 0
AreNarrow ws = Each (λ w. w.0 < 2 ^ 8) ws

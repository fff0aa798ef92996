-- The reads of a statement: the variables in its own expressions, each with the record that last set it.
use Rattle.std.specs.Prelude.{ℕ, ◌+◌, Bool, not, ◌==◌, List, [], ◌∷◌, ◌++◌, Option, Some, None, map, option_to_list, nat_le, if◌then◌else◌}
use Rattle.std.specs.List.{filter, flat_map, list_any}
use Rattle.std.specs.Option.{option_or}
use Rattle.mv_catalog.specs.declared.resolved.RExpr.{RExpr, fold-RExpr}
use Rattle.mv_catalog.specs.declared.resolved.RExprKind.TheOpen.{RExprKind-F, Const, Var, Field, Col, One, Two}
use Rattle.mv_catalog.specs.declared.resolved.RCond.{RCond}
use Rattle.mv_catalog.specs.declared.resolved.RStmt.TheOpen.{RStmt-F, Assign, Select, Total, ForSelect, ForRows, Branch, Insert, Update, Delete, Print, Rollback}
use Rattle.mv_record.specs.declared.record.Read.{Read}
use Rattle.mv_record.specs.declared.record.Record.{Record}

-- the variables in an expression, in the order of the text
abbrev pub kind_variables : RExprKind-F (List ℕ) (List ℕ) → List ℕ
kind_variables (Const v) = []
kind_variables (Var x) = x ∷ []
kind_variables (Field x c) = x ∷ []
kind_variables (Col c) = []
kind_variables (One op a) = a
kind_variables (Two op a b) = a ++ b

abbrev pub variables : RExpr → List ℕ
variables = fold-RExpr (List ℕ) (List ℕ) kind_variables (λ e. e.kind)

-- the right sides of WHERE
abbrev pub rights : List RCond → List RExpr
rights conds = map (λ c. c.right) conds

-- the expressions of a statement itself, in the order of the text: the condition of an IF, the WHERE of a FOR
abbrev pub expressions : {X : Type 0} → RStmt-F X → List RExpr
expressions (Assign x e) = e ∷ []
expressions (Select cs xs t conds sorts offset) = rights conds ++ option_to_list offset
expressions (Total agg x t conds) = rights conds
expressions (ForSelect x once cs t conds sorts body) = rights conds
expressions (ForRows x y body) = []
expressions (Branch e ys ns) = e ∷ []
expressions (Insert t es) = es
expressions (Update t items conds) = map (λ i. i.right) items ++ rights conds
expressions (Delete t conds) = rights conds
expressions (Print es) = es
expressions (Rollback reason) = []

-- each number once, at its first occurrence
abbrev pub each_once : List ℕ → List ℕ
each_once [] = []
each_once (n ∷ ns) = n ∷ filter (λ m. not (m == n)) (each_once ns)

-- the position of the last item that passes the test, if the first item has this number
abbrev pub last_place : {A : Type 0} → (A → Bool) → ℕ → List A → Option ℕ
last_place test n [] = None
last_place test n (x ∷ xs) = option_or (last_place test (n + 1) xs) (if test x then Some n else None)

-- a loop around a statement: the variable of its row, and the number of its FOR's record
pub record Loop : Type 0 where
  pub row : ℕ
  pub number : ℕ

-- the record of the loop with this row
abbrev pub loop_of : ℕ → List Loop → Option ℕ
loop_of x [] = None
loop_of x (l ∷ ls) = if l.row == x then Some l.number else loop_of x ls

abbrev pub sets_variable : ℕ → Record → Bool
sets_variable x r = list_any (λ s. s.slot == x) r.sets

-- the record that last set a variable; for a loop's row that of the FOR; none if the variable has its initial value
abbrev pub definer : List Loop → List Record → ℕ → Option ℕ
definer loops records x = option_or (loop_of x loops) (last_place (sets_variable x) 0 records)

-- the variables in the expressions, each once; the first `params` numbers are parameters, which are left out
abbrev pub read_variables : ℕ → List RExpr → List ℕ
read_variables params es = filter (λ x. nat_le params x) (each_once (flat_map variables es))

-- the reads after these records, inside these loops
abbrev pub reads_of : ℕ → List Loop → List Record → List RExpr → List Read
reads_of params loops records es = map (λ x. record { slot = x; definer = definer loops records x }) (read_variables params es)

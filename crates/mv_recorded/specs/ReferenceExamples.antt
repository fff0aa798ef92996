-- What small statements check, worked out by hand. A department has a number; an employee has a number and a department;
-- a member has a number and a boss, who is a member. This project's own.
use Rattle.std.specs.Prelude.{◌≡◌, ℕ, pos, List, [], ◌∷◌, Some, None}
use Rattle.mv_values.specs.declared.value.Value.{Value}
use Rattle.mv_values.specs.declared.value.Value.TheVariants.{Int}
use Rattle.mv_values.specs.declared.op.Op.TheVariants.{Eq}
use Rattle.mv_values.specs.declared.schema.Column.{Column}
use Rattle.mv_values.specs.declared.schema.ColType.TheVariants as column
use Rattle.mv_values.specs.declared.schema.TableInfo.{TableInfo}
use Rattle.mv_values.specs.declared.rows.Keyed.{Keyed}
use Rattle.mv_values.specs.declared.pred.Pred.{Pred}
use Rattle.mv_values.specs.declared.patch.Patch.TheVariants as patch
use Rattle.mv_values.specs.declared.patch.Write.{Write}
use Rattle.mv_values.specs.declared.calls.End.TheVariants.{Duplicate, MissingParent, HasChildren}
use Rattle.mv_catalog.specs.declared.resolved.RStmt.{RStmt}
use Rattle.mv_catalog.specs.declared.resolved.RStmt.TheOpen.{RStmt-F, Insert, Update, Delete}
use Rattle.mv_eval.specs.declared.state.State.{State}
use Rattle.mv_eval.specs.declared.state.Content.TheVariants.{Scalar}
use Rattle.mv_record.specs.Samples.{sets}
use Rattle.mv_recorded.specs.Doing.{effect_of}
use Rattle.mv_recorded.specs.Effects.{empty, only_end}
use Rattle.mv_recorded.specs.Examples.{var, col}

abbrev pub plain : Column
plain = record { name = []; kind = column.Int; refers = None }

abbrev pub refers_to : ℕ → Column
refers_to t = record { name = []; kind = column.Int; refers = Some t }

abbrev pub table : List Column → TableInfo
table columns = record { name = []; columns = columns; key = 0 ∷ [] }

-- departments, employees and members
abbrev pub firm : List TableInfo
firm = table (plain ∷ []) ∷ table (plain ∷ refers_to 0 ∷ []) ∷ table (plain ∷ refers_to 2 ∷ []) ∷ []

abbrev pub numbers : List ℕ → List Value
numbers [] = []
numbers (n ∷ ns) = Int (pos n) ∷ numbers ns

abbrev pub row : ℕ → List ℕ → Keyed
row n more = record { key = numbers (n ∷ []); row = numbers (n ∷ more) }

-- departments 1 and 2; employee 10 is in 1; member 1 is their own boss, and that of 2
abbrev pub people : List (List Keyed)
people = (row 1 [] ∷ row 2 [] ∷ []) ∷ (row 10 (1 ∷ []) ∷ []) ∷ (row 1 (1 ∷ []) ∷ row 2 (1 ∷ []) ∷ []) ∷ []

-- the variables are a, b and `:found`
abbrev pub given : ℕ → ℕ → State
given a b = record { env = record { held = Scalar (Int (pos a)) ∷ Scalar (Int (pos b)) ∷ Scalar (Int (pos 0)) ∷ []; found = 2 }; tables = people; lines = [] }

-- the rows whose key, or whose second column, is a number
abbrev pub of_key : ℕ → ℕ → Pred
of_key t n = record { table = t; tests = record { column = 0; key_place = Some 0; op = Eq; value = Int (pos n) } ∷ []; columns = [] }

abbrev pub of_second : ℕ → ℕ → Pred
of_second t n = record { table = t; tests = record { column = 1; key_place = None; op = Eq; value = Int (pos n) } ∷ []; columns = [] }

abbrev pub removed : ℕ → ℕ → Write
removed t n = record { table = t; key = numbers (n ∷ []); patch = patch.Delete }

-- DELETE FROM dept WHERE d = :a
abbrev pub shut : RStmt-F RStmt
shut = Delete 0 (record { column = 0; op = Eq; right = var 0 } ∷ [])

-- INSERT INTO emp VALUES (:a, :b)
abbrev pub hire : RStmt-F RStmt
hire = Insert 1 (var 0 ∷ var 1 ∷ [])

-- INSERT INTO member VALUES (:a, :b)
abbrev pub join : RStmt-F RStmt
join = Insert 2 (var 0 ∷ var 1 ∷ [])

-- DELETE FROM member WHERE s = :a; DELETE FROM member
abbrev pub leave : RStmt-F RStmt
leave = Delete 2 (record { column = 0; op = Eq; right = var 0 } ∷ [])

abbrev pub all_leave : RStmt-F RStmt
all_leave = Delete 2 []

-- UPDATE member SET boss = s; UPDATE member SET boss = :a
abbrev pub own_boss : RStmt-F RStmt
own_boss = Update 2 (record { column = 1; right = col 0 } ∷ []) []

abbrev pub one_boss : RStmt-F RStmt
one_boss = Update 2 (record { column = 1; right = var 0 } ∷ []) []

-- a department with an employee stays; one without is removed, and both looked for employees
abbrev pub Shuts : Type 0
Shuts =
    (effect_of firm shut (given 1 0) ≡ only_end (of_key 0 1 ∷ of_second 1 1 ∷ []) HasChildren)
    × (effect_of firm shut (given 2 0) ≡ record empty { preds = of_key 0 2 ∷ of_second 1 2 ∷ []; sets = sets 2 1 ∷ []; writes = removed 0 2 ∷ [] })

-- a department that isn't there; a key that is there, after which nothing is looked for; and an employee hired
abbrev pub Hires : Type 0
Hires =
    (effect_of firm hire (given 11 3) ≡ only_end (of_key 1 11 ∷ of_key 0 3 ∷ []) MissingParent)
    × (effect_of firm hire (given 10 3) ≡ only_end (of_key 1 10 ∷ []) Duplicate)
    × (effect_of firm hire (given 11 2) ≡ record empty { preds = of_key 1 11 ∷ of_key 0 2 ∷ []; sets = sets 2 1 ∷ []; writes = record { table = 1; key = numbers (11 ∷ []); patch = patch.Insert (numbers (11 ∷ 2 ∷ [])) } ∷ [] })

-- a new row that is its own parent looks for none
abbrev pub Joins : Type 0
Joins = effect_of firm join (given 5 5) ≡ record empty { preds = of_key 2 5 ∷ []; sets = sets 2 1 ∷ []; writes = record { table = 2; key = numbers (5 ∷ []); patch = patch.Insert (numbers (5 ∷ 5 ∷ [])) } ∷ [] }

-- a member who is the boss of another stays; a parent and its child are removed by one statement
abbrev pub Leaves : Type 0
Leaves =
    (effect_of firm leave (given 1 0) ≡ only_end (of_key 2 1 ∷ of_second 2 1 ∷ []) HasChildren)
    × (effect_of firm all_leave (given 0 0)
    ≡ record empty { preds = record { table = 2; tests = []; columns = [] } ∷ of_second 2 1 ∷ of_second 2 2 ∷ []; sets = sets 2 1 ∷ []; writes = removed 2 1 ∷ removed 2 2 ∷ [] })

-- each row's parent is looked for, up to the first that isn't there
abbrev pub Bosses : Type 0
Bosses =
    (effect_of firm own_boss (given 0 0)
    ≡ record empty {
      preds = record { table = 2; tests = []; columns = 0 ∷ [] } ∷ of_key 2 1 ∷ of_key 2 2 ∷ [];
      sets = sets 2 1 ∷ [];
      writes = record { table = 2; key = numbers (1 ∷ []); patch = patch.Set (record { column = 1; value = Int (pos 1) } ∷ []) }
          ∷ record { table = 2; key = numbers (2 ∷ []); patch = patch.Set (record { column = 1; value = Int (pos 2) } ∷ []) } ∷ [];
    })
    × (effect_of firm one_boss (given 7 0) ≡ only_end (record { table = 2; tests = []; columns = [] } ∷ of_key 2 7 ∷ []) MissingParent)

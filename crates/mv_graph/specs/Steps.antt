-- The steps of a procedure: what a running call needs to know of each statement, in the order of the text.
use Rattle.std.specs.Prelude.{◌≡◌, ℕ, ◌+◌, List, [], ◌∷◌, ◌++◌, map, length}
use Rattle.mv_catalog.specs.Statements.{size, size_of}
use Rattle.mv_catalog.specs.declared.resolved.ProcInfo.{ProcInfo}
use Rattle.mv_catalog.specs.declared.resolved.RStmt.{RStmt, out-RStmt, roll-RStmt}
use Rattle.mv_catalog.specs.declared.resolved.RStmt.TheOpen.{RStmt-F, Assign, Select, Total, ForSelect, ForRows, Branch, Insert, Update, Delete, Print, Rollback}
use Rattle.mv_catalog.specs.declared.resolved.RStmt.TheFolds.{fold-RStmt}
use Rattle.mv_recorded.specs.Reading.{expressions, read_variables}
use Rattle.mv_graph.specs.declared.graph.Step.{Step}

-- a statement without those that it holds
abbrev pub own_part : {X : Type 0} → RStmt-F X → RStmt-F RStmt
own_part (Assign x e) = Assign x e
own_part (Select cs xs t conds sorts offset) = Select cs xs t conds sorts offset
own_part (Total agg x t conds) = Total agg x t conds
own_part (ForSelect x once cs t conds sorts body) = ForSelect x once cs t conds sorts []
own_part (ForRows x y body) = ForRows x y []
own_part (Branch e ys ns) = Branch e [] []
own_part (Insert t es) = Insert t es
own_part (Update t items conds) = Update t items conds
own_part (Delete t conds) = Delete t conds
own_part (Print es) = Print es
own_part (Rollback reason) = Rollback reason

-- a statement's own step. The first `params` variables are parameters, `whole` counts the statement with those that it
-- holds, and `behind` those after it in its list
abbrev pub own_step : {X : Type 0} → ℕ → RStmt-F X → ℕ → ℕ → ℕ → Step
own_step params s whole skip behind = record {
  statement = roll-RStmt (own_part s);
  reads = read_variables params (expressions s);
  size = whole;
  skip = skip;
  left = whole + behind;
}

-- the steps of a statement, by how many statements come after it in its list
abbrev pub Steps : Type 0
Steps = ℕ → List Step

-- the steps of statements in order
abbrev pub all_steps : List Steps → List Step
all_steps [] = []
all_steps (s ∷ ss) = let rest : List Step = all_steps ss in s (length rest) ++ rest

-- the steps of what a statement holds
abbrev pub inner_steps : RStmt-F Steps → List Step
inner_steps (ForSelect x once cs t conds sorts body) = all_steps body
inner_steps (ForRows x y body) = all_steps body
inner_steps (Branch e ys ns) = all_steps ys ++ all_steps ns
inner_steps (Assign x e) = []
inner_steps (Select cs xs t conds sorts offset) = []
inner_steps (Total agg x t conds) = []
inner_steps (Insert t es) = []
inner_steps (Update t items conds) = []
inner_steps (Delete t conds) = []
inner_steps (Print es) = []
inner_steps (Rollback reason) = []

-- how far the first statement of ELSE is from its IF, by the sizes of lists
abbrev pub skip_by : {X : Type 0} → (List X → ℕ) → RStmt-F X → ℕ
skip_by many (Branch e ys ns) = 1 + many ys
skip_by many s = 1

abbrev pub statement_steps : ℕ → RStmt-F Steps → Steps
statement_steps params s behind =
    let inner : List Step = inner_steps s in
    own_step params s (1 + length inner) (skip_by (λ ss. length (all_steps ss)) s) behind ∷ inner

abbrev pub steps_of : ℕ → RStmt → Steps
steps_of params = fold-RStmt Steps (statement_steps params)

-- the steps of statements in order
abbrev pub body_steps : ℕ → List RStmt → List Step
body_steps params ss = all_steps (map (steps_of params) ss)

abbrev pub steps_in : ProcInfo → List Step
steps_in proc = body_steps (length proc.params) proc.body

-- The text of a procedure

-- it has these statements to the end of their list, of which the first has this number: their steps lie between others
pub record HasText (proc : ProcInfo) (n : ℕ) (ss : List RStmt) : Type 0 where
  pub front : List Step
  pub back : List Step
  pub steps : steps_in proc ≡ front ++ (body_steps (length proc.params) ss ++ back)
  pub number : length front + 1 ≡ n

-- the step is that of the statement, wherever the statement stands
pub record TellsOf (proc : ProcInfo) (s : RStmt) (step : Step) : Type 0 where
  pub statement : step.statement ≡ roll-RStmt (own_part (out-RStmt s))
  pub reads : step.reads ≡ read_variables (length proc.params) (expressions (out-RStmt s))
  pub size : step.size ≡ size s
  pub skip : step.skip ≡ skip_by size_of (out-RStmt s)

-- the step of this statement of the text, which has these after it in its list
pub record IsStepOf (proc : ProcInfo) (s : RStmt) (ss : List RStmt) (step : Step) : Type 0 where
  pub tells : TellsOf proc s step
  pub left : step.left ≡ size_of (s ∷ ss)

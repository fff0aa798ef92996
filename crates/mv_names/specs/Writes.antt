-- The faults of a READ ONLY procedure: each INSERT, UPDATE and DELETE is one, at its table's name. This project's own rule.
use Rattle.std.specs.Prelude.{List, [], ◌∷◌, ◌++◌, map, if◌then◌else◌}
use Rattle.mv_ast.specs.declared.tree.ProcDef.{ProcDef}
use Rattle.mv_ast.specs.declared.tree.Stmt.{Stmt}
use Rattle.mv_ast.specs.declared.tree.Stmt.TheOpen.{Stmt-F, Assign, Select, Total, ForSelect, ForRows, Branch, Insert, Update, Delete, Print, Rollback}
use Rattle.mv_ast.specs.declared.tree.Stmt.TheFolds.{fold-Stmt}
use Rattle.mv_ast.specs.Limits.{together}
use Rattle.mv_names.specs.declared.fault.TokenFault.{TokenFault}
use Rattle.mv_names.specs.First.{writing}

-- a fault for each change of a table, given those in the statements that it contains
abbrev pub writes_step : Stmt-F (List TokenFault) → List TokenFault
writes_step (Assign token to right) = []
writes_step (Select token columns to table conds sorts offset) = []
writes_step (Total token agg to table conds) = []
writes_step (ForSelect token turn distinct columns table conds sorts body) = together body
writes_step (ForRows token turn rows body) = together body
writes_step (Branch token test ys ns) = together ys ++ together ns
writes_step (Insert token table values) = writing table.token ∷ []
writes_step (Update token table items conds) = writing table.token ∷ []
writes_step (Delete token table conds) = writing table.token ∷ []
writes_step (Print token values) = []
writes_step (Rollback token reason) = []

abbrev pub writes_of : Stmt → List TokenFault
writes_of = fold-Stmt (List TokenFault) writes_step

-- those of a statement list
abbrev pub all_writes : List Stmt → List TokenFault
all_writes ss = together (map writes_of ss)

-- only a READ ONLY procedure has them
abbrev pub writes : ProcDef → List TokenFault
writes p = if p.read_only then all_writes p.body else []

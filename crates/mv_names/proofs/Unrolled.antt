-- The faults of a statement, from its parts.
use Rattle.std.proofs.Common.{◌≡◌, List, ap, sym, ◌∙◌}
use Rattle.mv_ast.specs.declared.tree.TableDef.{TableDef}
use Rattle.mv_ast.specs.declared.tree.Stmt.{Stmt}
use Rattle.mv_ast.specs.declared.tree.Stmt.TheOpen.{Stmt-F}
use Rattle.mv_ast.specs.declared.tree.Stmt.TheViews.{roll-Stmt}
use Rattle.mv_ast.specs.declared.tree.Stmt.TheFolds.{fold-roll-Stmt, map-Stmt}
use Rattle.mv_names.specs.Statements.{Faults, stmt_step, statement_faults}

pub faults_is : (tables : List TableDef) (s : Stmt) (d : Stmt-F Stmt) (rolled : Stmt) → s ≡ rolled → roll-Stmt d ≡ rolled
    → statement_faults tables s ≡ stmt_step tables (map-Stmt Stmt Faults (statement_faults tables) d)
faults_is tables s d rolled is rolls = ap (statement_faults tables) (is ∙ sym rolls) ∙ fold-roll-Stmt Faults (stmt_step tables) d

-- What is built of a statement, from its parts.
use Rattle.std.proofs.Common.{◌≡◌, ℕ, ◌+◌, List, Result, Ok, Err, IfOk, ap, sym, ◌∙◌, arith}
use Rattle.mv_ast.specs.declared.tree.TableDef.{TableDef}
use Rattle.mv_ast.specs.declared.tree.Stmt.{Stmt}
use Rattle.mv_ast.specs.declared.tree.Stmt.TheOpen.{Stmt-F}
use Rattle.mv_ast.specs.declared.tree.Stmt.TheViews.{roll-Stmt}
use Rattle.mv_ast.specs.declared.tree.Stmt.TheFolds.{fold-roll-Stmt, map-Stmt}
use Rattle.mv_resolve.specs.Building.{Built, stmt_step, built}

pub built_is : (tables : List TableDef) (s : Stmt) (d : Stmt-F Stmt) (rolled : Stmt) → s ≡ rolled → roll-Stmt d ≡ rolled → built tables s ≡ stmt_step tables (map-Stmt Stmt Built (built tables) d)
built_is tables s d rolled is rolls = ap (built tables) (is ∙ sym rolls) ∙ fold-roll-Stmt Built (stmt_step tables) d

pub if_ok : {A E P : Type 0} (r : Result A E) → P → IfOk r (λ x. P)
if_ok (Ok a) p = p
if_ok (Err e) p = tt

-- a statement without loops leaves the next number
pub none_more : (n : ℕ) → n ≡ n + 0
none_more n = omega arith

-- What is built of statements that change no table changes none.
use Rattle.std.proofs.Common.{◌≡◌, ℕ, ◌+◌, Bool, true, false, List, [], ◌∷◌, ◌++◌, map, refl, sym, ap, subst, ◌∙◌}
use Rattle.std.specs.Prelude.{◌||◌}
use Rattle.mv_ast.specs.declared.tree.TableDef.{TableDef}
use Rattle.mv_ast.specs.declared.tree.Stmt.{Stmt}
use Rattle.mv_ast.specs.declared.tree.Stmt.TheOpen as tree
use Rattle.mv_ast.specs.declared.tree.Stmt.TheViews.{roll-Stmt}
use Rattle.mv_ast.specs.declared.tree.Stmt.TheFolds.{fold-roll-Stmt, map-Stmt, ind-Stmt}
use Rattle.mv_ast.specs.Limits.{together}
use Rattle.mv_names.specs.declared.fault.TokenFault.{TokenFault}
use Rattle.mv_names.specs.Writes.{writes_step, writes_of, all_writes}
use Rattle.mv_resolve.specs.declared.slot.NamedSlot.{NamedSlot}
use Rattle.mv_catalog.specs.declared.resolved.RStmt.{RStmt}
use Rattle.mv_catalog.specs.declared.resolved.RStmt.TheOpen as open'
use Rattle.mv_catalog.specs.declared.resolved.RStmt.TheViews.{roll-RStmt}
use Rattle.mv_catalog.specs.declared.resolved.RStmt.TheVariants.{rolls-Assign, rolls-Select, rolls-Total, rolls-ForSelect, rolls-ForRows, rolls-Branch, rolls-Print, rolls-Rollback}
use Rattle.mv_catalog.specs.declared.resolved.RStmt.TheFolds.{fold-roll-RStmt, map-RStmt}
use Rattle.mv_resolve.specs.Building as build
use Rattle.mv_resolve.specs.Building.{Built, built, build_all}
use Rattle.mv_catalog.specs.Statements.{changes_step, may_change, any_change}
use Rattle.mv_resolve.proofs.Lists.{nothing_left, nothing_right}

change_is : (d : open'.RStmt-F RStmt) (s : RStmt) → roll-RStmt d ≡ s → may_change s ≡ changes_step (map-RStmt RStmt Bool may_change d)
change_is d s e = subst (λ r. may_change r ≡ changes_step (map-RStmt RStmt Bool may_change d)) e (fold-roll-RStmt Bool changes_step d)

neither : (a b : Bool) → a ≡ false → b ≡ false → (a || b) ≡ false
neither true b h k = cc
neither false b h k = k

-- what is built changes no table if there are no such faults
abbrev Still : Built → List TokenFault → Type 0
Still b fs = fs ≡ [] → (slots : List NamedSlot) (n : ℕ) → may_change (b.build slots n) ≡ false

module _ (tables : List TableDef) where
  abbrev Known : Type 0
  Known = (s : Stmt) × Still (built tables s) (writes_of s)

  known_still : (ys : List Known) (slots : List NamedSlot) (n : ℕ) → let ss = map (λ p. p.0) ys in together (map writes_of ss) ≡ [] → any_change (build_all (map (built tables) ss) slots n) ≡ false
  known_still [] slots n h = refl
  known_still (p ∷ ps) slots n h =
      let ss = map (λ q. q.0) ps in
      neither (may_change ((built tables p.0).build slots n)) (any_change (build_all (map (built tables) ss) slots (n + (built tables p.0).loops)))
      (p.1 (nothing_left (writes_of p.0) (together (map writes_of ss)) h) slots n)
      (known_still ps slots (n + (built tables p.0).loops) (nothing_right (writes_of p.0) (together (map writes_of ss)) h))

  step_still : (y : tree.Stmt-F Known) → let d = map-Stmt Known Stmt (λ p. p.0) y in
      Still (build.stmt_step tables (map-Stmt Stmt Built (built tables) d)) (writes_step (map-Stmt Stmt (List TokenFault) writes_of d))
  step_still (tree.Assign token to right) h slots n = change_is (open'.Assign _ _) _ (rolls-Assign _ _)
  step_still (tree.Select token columns to table conds sorts offset) h slots n = change_is (open'.Select _ _ _ _ _ _) _ (rolls-Select _ _ _ _ _ _)
  step_still (tree.Total token agg to table conds) h slots n = change_is (open'.Total _ _ _ _) _ (rolls-Total _ _ _ _)
  step_still (tree.ForSelect token turn distinct columns table conds sorts body) h slots n =
      change_is (open'.ForSelect _ _ _ _ _ _ _) _ (rolls-ForSelect _ _ _ _ _ _ _)
      ∙ known_still body (slots ++ build.slot n turn.text (build.names_of columns) ∷ []) (n + 1) h
  step_still (tree.ForRows token turn over body) h slots n =
      change_is (open'.ForRows _ _ _) _ (rolls-ForRows _ _ _)
      ∙ known_still body (slots ++ build.slot n turn.text (build.fields_in (build.slot_named slots over.text)) ∷ []) (n + 1) h
  step_still (tree.Branch token test ys ns) h slots n =
      let as' = together (map writes_of (map (λ p. p.0) ys)) in
      let bs = together (map writes_of (map (λ p. p.0) ns)) in
      change_is (open'.Branch _ _ _) _ (rolls-Branch _ _ _)
      ∙ neither _ _ (known_still ys slots n (nothing_left as' bs h)) (known_still ns slots (n + build.loops_in (map (built tables) (map (λ p. p.0) ys))) (nothing_right as' bs h))
  step_still (tree.Insert token table values) h slots n = cc
  step_still (tree.Update token table items conds) h slots n = cc
  step_still (tree.Delete token table conds) h slots n = cc
  step_still (tree.Print token values) h slots n = change_is (open'.Print _) _ (rolls-Print _)
  step_still (tree.Rollback token reason) h slots n = change_is (open'.Rollback _) _ (rolls-Rollback _)

  rolled_still : (x : tree.Stmt-F Stmt) (y : tree.Stmt-F Known) → map-Stmt Known Stmt (λ p. p.0) y ≡ x → Still (built tables (roll-Stmt x)) (writes_of (roll-Stmt x))
  rolled_still x y is =
      let d = map-Stmt Known Stmt (λ p. p.0) y in
      subst (λ z. Still (built tables (roll-Stmt z)) (writes_of (roll-Stmt z))) is
      (λ h slots n. ap (λ b. may_change (b.build slots n)) (fold-roll-Stmt Built (build.stmt_step tables) d) ∙ step_still y (sym (fold-roll-Stmt (List TokenFault) writes_step d) ∙ h) slots n)

  stmt_still : (s : Stmt) → Still (built tables s) (writes_of s)
  stmt_still = ind-Stmt (λ s. Still (built tables s) (writes_of s)) rolled_still

  pub all_still : (ss : List Stmt) (slots : List NamedSlot) (n : ℕ) → all_writes ss ≡ [] → any_change (build_all (map (built tables) ss) slots n) ≡ false
  all_still [] slots n h = refl
  all_still (s ∷ ss) slots n h =
      neither (may_change ((built tables s).build slots n)) (any_change (build_all (map (built tables) ss) slots (n + (built tables s).loops)))
      (stmt_still s (nothing_left (writes_of s) (all_writes ss) h) slots n) (all_still ss slots (n + (built tables s).loops) (nothing_right (writes_of s) (all_writes ss) h))
